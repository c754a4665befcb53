use Rattle.std.proofs.Common.{◌≤◌, ◌-◌, ◌*◌, ℕ, [], arith, sym, subst, ◌∙◌, map, length}
use Rattle.spk_edge_rules.specs.Run.{published, run_of}
use Rattle.spk_plant_broker.specs.Log.{taken_of}
use Rattle.spk_plant_host.specs.Told.{asked, heard_in, told_in}
use Rattle.spk_host.specs.Inputs.{node_calls}
use Rattle.spk_heard.specs.Read.{HandsOutFronts}
use Rattle.spk_ingress.specs.Lanes.{share_of}
use Rattle.spk_plant_relay.specs.Shown.{shown}
use Rattle.spk_tie.specs.Tie.{host_setting}
use Rattle.spk_plant_relay.proofs.Facts.{Facts}
use Rattle.spk_plant_relay.proofs.Heard.{all-told}
use Rattle.spk_plant_relay.proofs.Nodes.{EdgeFacts, on_of}
use Rattle.spk_plant_relay.proofs.Plant.{share-tells}
use Rattle.spk_plant_relay.proofs.Running.{heard-is}
use Rattle.spk_plant_relay.proofs.Tells.{PacketFacts}
use Rattle.spk_plant_relay.proofs.Topics.{TopicFacts}
use Rattle.spk_plant_relay.proofs.laws.running.Goals as goal

small : (width : ℕ) → 256 - 2 * width ≤ 65535
small width = omega arith

broker : goal.After-shown → Facts
broker c = record {
  lawful = c.any_list-2.ensures.lawful;
  done = c.routing.ensures.done;
  sends = c.plain_publish.ensures.sends;
  closes = c.plain_publish.ensures.closes;
  joined = c.staying.ensures.joined;
  listening = c.staying.ensures.listening;
  heard = c.filters.ensures.heard;
  no_filters = c.filters.ensures.first;
  filters = c.filters.ensures.kept;
  alike = c.filters.ensures.alike;
  fresh = c.knowing.ensures.fresh;
  opened = c.knowing.ensures.opened;
  given = c.knowing.ensures.given;
  stands = c.knowing.ensures.stands;
  closed = c.knowing.ensures.closed;
  ended = c.knowing.ensures.ended;
  gone = c.knowing.ensures.gone;
  first = c.joining.ensures.first;
  no_drops = c.drops.ensures.first;
  few = c.drops.ensures.few;
  limit = c.drops.ensures.limit;
  dropped = c.drops.ensures.kept;
  other = c.drops.ensures.other;
}

packets : goal.After-shown → PacketFacts
packets c = record { prefix = c.prefix_free.ensures; spells = c.spelling_spells.ensures }

topics : goal.After-shown → TopicFacts
topics c = record { reading = c.reading.ensures; again = c.levels_are_parts.ensures.again }

rules : goal.After-shown → EdgeFacts
rules c = record { kinds = c.published.ensures.kinds; grows = c.published.ensures.grows; names = c.published.ensures.names }

pub returns-clause-heard : goal.returns-clause-heard
returns-clause-heard c = λ edges k setup inputs config given log low some most plant sessions told.
    let welcome = c.shown.ensures.welcome config.width edges setup inputs config given log plant told in
    let s = setup k in
    let says = c.shown.ensures.orderly config.width edges k setup inputs config (told_in given) log low plant in
    let node = plant.nodes k low in
    heard-is s (run_of s (inputs k)) config.wait config.width (shown (on_of s) k edges log) (node_calls (asked (told_in given)) s.config.group s.config.node) some most node.runs_on
    (c.any_list.ensures.record s (inputs k)) sessions
    (c.shown.ensures.few config.width edges k setup inputs config (told_in given) log low plant)
    (all-told (broker c) (packets c) (256 - 2 * config.width) edges k (small config.width) s (inputs k) node.names node.unreserved node.whole
    (λ p m bytes there whole. c.messages.ensures s [] (inputs k) p m bytes node.names node.unreserved there whole)
    log (map heard_in given) (length (published (run_of s (inputs k)))) plant.is_log says
    (c.few.ensures.places (256 - 2 * config.width) edges k (on_of s) log (small config.width) plant.is_log says plant.senders)
    (share-tells (packets c) (topics c) (rules c) s (inputs k) (share_of k (taken_of log)) node) (c.shown.ensures.others config.width edges k setup inputs config (told_in given) log low plant) told welcome)

pub returns-clause-consumed : goal.returns-clause-consumed
returns-clause-consumed c = λ edges k setup inputs config given log low some most plant sessions told consumed.
    let welcome = c.shown.ensures.welcome config.width edges setup inputs config given log plant told in
    let s = setup k in
    let h = returns-clause-heard c edges k setup inputs config given log low some most plant sessions told in
    subst (HandsOutFronts s (published (run_of s (inputs k))))
    (sym (c.any_items.ensures.kept config given s.config.group s.config.node consumed ∙ c.any_items.ensures.consumed config (told_in given) s.config.group s.config.node welcome))
    (c.consumption.ensures.births s (published (run_of s (inputs k))) config.wait config.width h.inputs (node_calls (asked (told_in given)) s.config.group s.config.node)
    (c.relayed.ensures.lawful (host_setting s (published (run_of s (inputs k))) config.wait config.width) h.inputs h.relayed) h.read)
