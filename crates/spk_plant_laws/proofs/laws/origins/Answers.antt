use Rattle.std.proofs.Common.{◌-◌, ◌*◌, length}
use Rattle.spk_plant_host.specs.Told.{told_in}
use Rattle.spk_plan_rules.specs.Plan.{host_in}
use Rattle.spk_plant_laws.specs.Places.{inputs_at, setup_at}
use Rattle.spk_plant_laws.proofs.laws.origins.Goals as goal

pub returns-clause-said : goal.returns-clause-said
returns-clause-said c = λ p r can made ran. c.origins.ensures (256 - 2 * p.width) (length p.nodes.items) ran.log (c.plant.ensures.is_plant p r can made ran).is_log

pub returns-clause-deaths : goal.returns-clause-deaths
returns-clause-deaths c = λ p r k can made ran low.
    c.shown.ensures.deaths p.width (length p.nodes.items) k (setup_at p) (inputs_at r) (host_in p) (told_in r.given.items) ran.log low (c.plant.ensures.is_plant p r can made ran)
