use Rattle.std.proofs.Common.{◌≡◌, ◌∙◌, sym, ap, subst, ◌≤◌, ◌-◌, ◌*◌, ◌<◌, ℕ, false, List, ◌∷◌, ◌++◌, length, arith}
use Rattle.spk_packets.specs.Message.{Subscribe}
use Rattle.spk_plant_broker.specs.Data.{Entry, Says, Took}
use Rattle.spk_plant_broker.specs.Log.{IsLog, room_of}
use Rattle.spk_plant_host.specs.Told.{told_in}
use Rattle.spk_plan.specs.declared.plan.Plan.{Plan}
use Rattle.spk_plan_rules.specs.Plan.{CanRun, IsMade, host_in}
use Rattle.spk_plant.specs.Report.{RunsAs}
use Rattle.spk_plant.specs.declared.report.Report.{Report}
use Rattle.spk_plant_relay.specs.Shown.{AllMaySay, HasPlaces}
use Rattle.spk_plant_relay.proofs.Facts.{Facts}
use Rattle.spk_plant_laws.specs.Places.{inputs_at, is_topic_at, setup_at}
use Rattle.spk_plant_laws.proofs.Since.{log-back, places-back, says-back}
use Rattle.spk_plant_laws.proofs.Standing.{closed-before}
use Rattle.spk_plant_lossless.proofs.Connected.{connected}
use Rattle.spk_plant_lossless.proofs.Subscribed.{Grantings, took-subscribes}
use Rattle.spk_plant_lossless.proofs.laws.connections.Goals as goal

small : (width : ℕ) → 256 - 2 * width ≤ 65535
small width = omega arith

facts : goal.After-plant → Facts
facts c = record {
  lawful = c.any_list.ensures.lawful;
  done = c.routing.ensures.done;
  sends = c.plain_publish.ensures.sends;
  closes = c.plain_publish.ensures.closes;
  joined = c.staying.ensures.joined;
  listening = c.staying.ensures.listening;
  heard = c.filters.ensures.heard;
  no_filters = c.filters.ensures.first;
  filters = c.filters.ensures.kept;
  alike = c.filters.ensures.alike;
  fresh = c.knowing.ensures.fresh;
  opened = c.knowing.ensures.opened;
  given = c.knowing.ensures.given;
  stands = c.knowing.ensures.stands;
  closed = c.knowing.ensures.closed;
  ended = c.knowing.ensures.ended;
  gone = c.knowing.ensures.gone;
  first = c.joining.ensures.first;
  no_drops = c.drops.ensures.first;
  few = c.drops.ensures.few;
  limit = c.drops.ensures.limit;
  dropped = c.drops.ensures.kept;
  other = c.drops.ensures.other;
}

-- the host isn't closed at a moment
open-at : (p : Plan) (r : Report) (ran : RunsAs p r) → r.is_cut ≡ false → (later before : List Entry) → ran.log ≡ later ++ before →
    (room_of (256 - 2 * p.width) (length p.nodes.items) before).closed (length p.nodes.items) ≡ false
open-at p r ran uncut later before is =
    closed-before (256 - 2 * p.width) (length p.nodes.items) (length p.nodes.items) later before
    (ap (λ l. (room_of (256 - 2 * p.width) (length p.nodes.items) l).closed (length p.nodes.items)) (sym is) ∙ (sym ran.logged.is_cut ∙ uncut))

-- what the laws on logs ask of the log up to a moment
record Along (p : Plan) (k : ℕ) (l : List Entry) : Type 0 where
  pub log : IsLog (256 - 2 * p.width) (length p.nodes.items) l
  pub says : AllMaySay (is_topic_at p k) k (length p.nodes.items) l
  pub places : HasPlaces (256 - 2 * p.width) (length p.nodes.items) l

along : goal.After-plant → (p : Plan) (r : Report) (k : ℕ) → CanRun p → IsMade p → (ran : RunsAs p r) → k < length p.nodes.items → Along p k ran.log
along c p r k can made ran below =
    let plant = c.plant.ensures.is_plant p r can made ran in
    let says = c.shown.ensures.orderly p.width (length p.nodes.items) k (setup_at p) (inputs_at r) (host_in p) (told_in r.given.items) ran.log below plant in
    record {
      log = plant.is_log;
      says = says;
      places = c.few.ensures.places (256 - 2 * p.width) (length p.nodes.items) k (is_topic_at p k) ran.log (small p.width) plant.is_log says plant.senders;
    }

back : (p : Plan) (k : ℕ) (later before : List Entry) → Along p k (later ++ before) → Along p k before
back p k later before a = record {
  log = log-back (256 - 2 * p.width) (length p.nodes.items) later before a.log;
  says = says-back (is_topic_at p k) k (length p.nodes.items) later before a.says;
  places = places-back (256 - 2 * p.width) (length p.nodes.items) later before a.places;
}

grantings : goal.After-plant → Grantings
grantings c = record { granted = c.subscribed.ensures.granted; matched = c.subscribed.ensures.matched }

pub returns-clause-subscribed : goal.returns-clause-subscribed
returns-clause-subscribed c = λ p r k can made ran below uncut later before m id entries is t.
    let a = back p k later (Took m (Says (Subscribe id entries)) ∷ before) (subst (Along p k) is (along c p r k can made ran below)) in
    took-subscribes (facts c) (grantings c) (256 - 2 * p.width) (length p.nodes.items) (is_topic_at p k) k (small p.width) before m t.conn id entries t.codes t.filter t.topic a.log a.says a.places
    (open-at p r ran uncut later (Took m (Says (Subscribe id entries)) ∷ before) is) t.sender t.has t.answered t.granted t.on t.matches

pub returns-clause-stands : goal.returns-clause-stands
returns-clause-stands c = λ p r k can made ran below still later before is.
    let a = subst (Along p k) is (along c p r k can made ran below) in
    connected (facts c) c.unjoined.ensures (256 - 2 * p.width) (length p.nodes.items) k (is_topic_at p k) (small p.width) later before a.log a.says a.places
    (ap (λ l. (room_of (256 - 2 * p.width) (length p.nodes.items) l).closed k) (sym is) ∙ still)
