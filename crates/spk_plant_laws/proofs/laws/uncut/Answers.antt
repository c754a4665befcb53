use Rattle.std.proofs.Common.{◌≡◌, ◌∙◌, sym, ap, subst, ◌≤◌, ◌-◌, ◌*◌, ◌<◌, ℕ, false, List, ◌∷◌, ◌++◌, eqb, true, length, arith, append_assoc}
use Rattle.spk_plant_broker.specs.Data.{Entry, Input, Took}
use Rattle.spk_plant_broker.specs.Log.{IsLog, room_of, taken_of}
use Rattle.spk_ingress.specs.Lanes.{share_of}
use Rattle.spk_ingress.specs.declared.rule.Message.{Message}
use Rattle.spk_plant_host.specs.Told.{told_in}
use Rattle.spk_plan.specs.declared.plan.Plan.{Plan}
use Rattle.spk_plan_rules.specs.Plan.{CanRun, IsMade, host_in}
use Rattle.spk_plant.specs.Report.{RunsAs}
use Rattle.spk_plant.specs.declared.report.Report.{Report}
use Rattle.spk_plant_relay.specs.Shown.{AllMaySay, HasPlaces}
use Rattle.spk_plant_relay.specs.Speech.{IsPlant}
use Rattle.spk_plant_relay.proofs.Facts.{Facts}
use Rattle.spk_plant_laws.specs.Places.{inputs_at, is_topic_at, setup_at}
use Rattle.spk_plant_laws.proofs.Since.{Going, all-due, begun, log-back, places-back, says-back, stays}
use Rattle.spk_plant_laws.proofs.Standing.{closed-before, ringing, rings-on, stands}
use Rattle.spk_plant_laws.proofs.laws.uncut.Goals as goal

small : (width : ℕ) → 256 - 2 * width ≤ 65535
small width = omega arith

facts : goal.After-plant → Facts
facts c = record {
  lawful = c.any_list.ensures.lawful;
  done = c.routing.ensures.done;
  sends = c.plain_publish.ensures.sends;
  closes = c.plain_publish.ensures.closes;
  joined = c.staying.ensures.joined;
  listening = c.staying.ensures.listening;
  heard = c.filters.ensures.heard;
  no_filters = c.filters.ensures.first;
  filters = c.filters.ensures.kept;
  alike = c.filters.ensures.alike;
  fresh = c.knowing.ensures.fresh;
  opened = c.knowing.ensures.opened;
  given = c.knowing.ensures.given;
  stands = c.knowing.ensures.stands;
  closed = c.knowing.ensures.closed;
  ended = c.knowing.ensures.ended;
  gone = c.knowing.ensures.gone;
  first = c.joining.ensures.first;
  no_drops = c.drops.ensures.first;
  few = c.drops.ensures.few;
  limit = c.drops.ensures.limit;
  dropped = c.drops.ensures.kept;
  other = c.drops.ensures.other;
}

-- the host isn't closed at a moment
open-at : (p : Plan) (r : Report) (ran : RunsAs p r) → r.is_cut ≡ false → (later before : List Entry) → ran.log ≡ later ++ before →
    (room_of (256 - 2 * p.width) (length p.nodes.items) before).closed (length p.nodes.items) ≡ false
open-at p r ran uncut later before is =
    closed-before (256 - 2 * p.width) (length p.nodes.items) (length p.nodes.items) later before
    (ap (λ l. (room_of (256 - 2 * p.width) (length p.nodes.items) l).closed (length p.nodes.items)) (sym is) ∙ (sym ran.logged.is_cut ∙ uncut))

-- what the laws on logs ask of the log up to a moment
record Along (p : Plan) (k : ℕ) (l : List Entry) : Type 0 where
  pub log : IsLog (256 - 2 * p.width) (length p.nodes.items) l
  pub says : AllMaySay (is_topic_at p k) k (length p.nodes.items) l
  pub places : HasPlaces (256 - 2 * p.width) (length p.nodes.items) l

along : goal.After-plant → (p : Plan) (r : Report) (k : ℕ) → CanRun p → IsMade p → (ran : RunsAs p r) → k < length p.nodes.items → Along p k ran.log
along c p r k can made ran below =
    let plant = c.plant.ensures.is_plant p r can made ran in
    let says = c.shown.ensures.orderly p.width (length p.nodes.items) k (setup_at p) (inputs_at r) (host_in p) (told_in r.given.items) ran.log below plant in
    record {
      log = plant.is_log;
      says = says;
      places = c.few.ensures.places (256 - 2 * p.width) (length p.nodes.items) k (is_topic_at p k) ran.log (small p.width) plant.is_log says plant.senders;
    }

back : (p : Plan) (k : ℕ) (later before : List Entry) → Along p k (later ++ before) → Along p k before
back p k later before a = record {
  log = log-back (256 - 2 * p.width) (length p.nodes.items) later before a.log;
  says = says-back (is_topic_at p k) k (length p.nodes.items) later before a.says;
  places = places-back (256 - 2 * p.width) (length p.nodes.items) later before a.places;
}

going : goal.After-plant → (p : Plan) (r : Report) (k : ℕ) → CanRun p → IsMade p → (ran : RunsAs p r) → k < length p.nodes.items → Going (256 - 2 * p.width) (length p.nodes.items) k ran.log
going c p r k can made ran below = λ later l m i is own.
    let node = (c.plant.ensures.is_plant p r can made ran).nodes k below in
    rings-on (256 - 2 * p.width) (length p.nodes.items) k (setup_at p k) (inputs_at r k) later l m i below (ap (λ x. share_of k (taken_of x)) (sym is) ∙ node.put) own

pub returns-clause-standing : goal.returns-clause-standing
returns-clause-standing c = λ p r ran uncut later before is ended.
    stands (256 - 2 * p.width) (length p.nodes.items) (length p.nodes.items) before (open-at p r ran uncut later before is) ended

pub returns-clause-subscribed : goal.returns-clause-subscribed
returns-clause-subscribed c = λ p r k can made ran below uncut later middle before is s.
    let a = back p k later (middle ++ before) (subst (Along p k) is (along c p r k can made ran below)) in
    stays (facts c) (256 - 2 * p.width) (length p.nodes.items) k (is_topic_at p k) (small p.width) middle before a.log a.says a.places
    (open-at p r ran uncut later (middle ++ before) is) s

pub returns-clause-begun : goal.returns-clause-begun
returns-clause-begun c = λ p r k can made ran below uncut later before is going there some.
    let a = back p k later before (subst (Along p k) is (along c p r k can made ran below)) in
    begun (facts c) (256 - 2 * p.width) (length p.nodes.items) k (is_topic_at p k) (small p.width) before a.log a.says a.places
    (open-at p r ran uncut later before is) (ringing (256 - 2 * p.width) (length p.nodes.items) before going) there some

pub returns-clause-due : goal.returns-clause-due
returns-clause-due c = λ p r k can made ran below uncut later before is s.
    let a = subst (Along p k) is (along c p r k can made ran below) in
    ap (λ l. Rattle.spk_plant_laws.specs.Places.due_at p l k) is
    ∙ all-due (facts c) (256 - 2 * p.width) (length p.nodes.items) k (is_topic_at p k) (small p.width) later before a.log a.says a.places
    (open-at p r ran uncut Rattle.std.proofs.Common.[] (later ++ before) is)
    (subst (Going (256 - 2 * p.width) (length p.nodes.items) k) is (going c p r k can made ran below)) s

pub returns-clause-shown : goal.returns-clause-shown
returns-clause-shown c = λ p r k can made ran below uncut none later before is s.
    sym (c.shown.ensures.complete p.width (length p.nodes.items) k (setup_at p) (inputs_at r) (host_in p) (told_in r.given.items) ran.log below
    (c.plant.ensures.is_plant p r can made ran) (sym ran.logged.refused ∙ none) ran.logged.offered)
    ∙ returns-clause-due c p r k can made ran below uncut later before is s
