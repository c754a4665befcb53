use Rattle.std.proofs.Common.{◌-◌, ◌*◌, length, map}
use Rattle.spk_edge_rules.specs.Run.{opened, run_of}
use Rattle.spk_plant_host.specs.Told.{heard_in, told_in}
use Rattle.spk_plan_rules.specs.Plan.{host_in}
use Rattle.spk_plant_relay.proofs.Nodes.{EdgeFacts}
use Rattle.spk_plant_relay.proofs.Tells.{PacketFacts}
use Rattle.spk_plant_relay.proofs.Topics.{TopicFacts}
use Rattle.spk_plant_laws.specs.Places.{inputs_at, published_at, setup_at}
use Rattle.spk_plant_laws.proofs.Plants.{few_sessions}
use Rattle.spk_plant_laws.proofs.Sessions.{plant-own-deaths, told-opened}
use Rattle.spk_plant_laws.proofs.laws.own_deaths.Goals as goal

packets : goal.After-plant → PacketFacts
packets c = record { prefix = c.prefix_free.ensures; spells = c.spelling_spells.ensures }

topics : goal.After-plant → TopicFacts
topics c = record { reading = c.reading.ensures; again = c.levels_are_parts.ensures.again }

rules : goal.After-plant → EdgeFacts
rules c = record { kinds = c.published.ensures.kinds; grows = c.published.ensures.grows; names = c.published.ensures.names }

pub returns-clause-bytes : goal.returns-clause-bytes
returns-clause-bytes c = λ p r k can made ran below.
    plant-own-deaths (record { origins = c.origins.ensures }) (packets c) (topics c) (rules c) c.deaths.ensures.read c.published.ensures.opened_at p.width (length p.nodes.items) k (setup_at p)
    (inputs_at r) (host_in p) (told_in r.given.items) ran.log below (c.plant.ensures.is_plant p r can made ran)

pub returns-clause-sessions : goal.returns-clause-sessions
returns-clause-sessions c = λ p r k can made ran below positions h.
    let s = setup_at p k in
    told-opened s (published_at p r k) (opened (run_of s (inputs_at r k))) k (length p.nodes.items) ran.log (map heard_in r.given.items) h.inputs
    (few_sessions p r k (c.plant.ensures.opened p r k can ran below)) h.relayed.deaths h.read (returns-clause-bytes c p r k can made ran below) ran.host.told
