use Rattle.std.proofs.Common.{map}
use Rattle.spk_plant_host.specs.Told.{heard_in, told_in}
use Rattle.std.proofs.Common.{◌≤◌, ◌-◌, ◌*◌, ℕ, arith, subst}
use Rattle.spk_plant_relay.specs.Shown.{IsFew, shown}
use Rattle.spk_plant_relay.proofs.Nodes.{EdgeFacts, on_of}
use Rattle.spk_plant_relay.proofs.Off.{TopicLaw}
use Rattle.spk_plant_relay.proofs.Plant.{plant-counts, plant-says}
use Rattle.spk_plant_relay.proofs.Silence.{plant-others, plant-welcome}
use Rattle.spk_plant_relay.proofs.Speakers.{plant-deaths}
use Rattle.spk_plant_relay.proofs.Tells.{PacketFacts}
use Rattle.spk_plant_relay.proofs.Topics.{TopicFacts}
use Rattle.spk_plant_relay.proofs.laws.shown.Goals as goal

small : (width : ℕ) → 256 - 2 * width ≤ 65535
small width = omega arith

packets : goal.After-few → PacketFacts
packets c = record { prefix = c.prefix_free.ensures; spells = c.spelling_spells.ensures }

topics : goal.After-few → TopicFacts
topics c = record { reading = c.reading.ensures; again = c.levels_are_parts.ensures.again }

rules : goal.After-few → EdgeFacts
rules c = record { kinds = c.published.ensures.kinds; grows = c.published.ensures.grows; names = c.published.ensures.names }

law : goal.After-few → TopicLaw
law c = record { first = c.topics.ensures.first; kept = c.topics.ensures.kept; others = c.topics.ensures.others; plain = c.topics.ensures.plain }

pub returns-clause-orderly : goal.returns-clause-orderly
returns-clause-orderly c = λ width edges k setup inputs config told log low plant. plant-says (packets c) (topics c) (rules c) width edges k setup inputs config told log low plant

pub returns-clause-counted : goal.returns-clause-counted
returns-clause-counted c = λ width edges k setup inputs config told log low plant. plant-counts (packets c) (topics c) (rules c) width edges k setup inputs config told log low plant

pub returns-clause-others : goal.returns-clause-others
returns-clause-others c = λ width edges k setup inputs config told log low plant. plant-others (packets c) (topics c) (rules c) (law c) width edges k setup inputs config told log low plant

pub returns-clause-deaths : goal.returns-clause-deaths
returns-clause-deaths c = λ width edges k setup inputs config told log low plant.
    plant-deaths (record { origins = c.origins.ensures }) (packets c) (topics c) (rules c) width edges k setup inputs config told log low plant

pub returns-clause-few : goal.returns-clause-few
returns-clause-few c = λ width edges k setup inputs config told log low plant.
    subst (λ n. IsFew (256 - 2 * width) n (shown (on_of (setup k)) k edges log)) (returns-clause-counted c width edges k setup inputs config told log low plant)
    (c.few.ensures.few (256 - 2 * width) edges k (on_of (setup k)) log (small width) plant.is_log (returns-clause-orderly c width edges k setup inputs config told log low plant) plant.senders)

pub returns-clause-complete : goal.returns-clause-complete
returns-clause-complete c = λ width edges k setup inputs config told log low plant none offered.
    c.few.ensures.complete (256 - 2 * width) edges k (on_of (setup k)) log (small width) plant.is_log (returns-clause-orderly c width edges k setup inputs config told log low plant) plant.senders none offered

pub returns-clause-welcome : goal.returns-clause-welcome
returns-clause-welcome c = λ width edges setup inputs config given log plant told.
    plant-welcome (packets c) (topics c) (rules c) width edges setup inputs config (told_in given) log (map heard_in given) plant told
