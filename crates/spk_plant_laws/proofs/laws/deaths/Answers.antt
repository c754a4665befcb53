use Rattle.spk_edge_rules.specs.Run.{opened, run_of}
use Rattle.spk_host.specs.Inputs.{node_calls}
use Rattle.spk_plant_host.specs.Told.{asked, told_in}
use Rattle.spk_plant_laws.specs.Places.{inputs_at, published_at, setup_at}
use Rattle.spk_plant_laws.proofs.Deaths.{deaths-of}
use Rattle.spk_plant_laws.proofs.Plants.{few_sessions}
use Rattle.spk_plant_laws.proofs.laws.deaths.Goals as goal

pub returns : goal.returns
returns c = λ p r k can ran below positions h.
    let s = setup_at p k in
    deaths-of s (published_at p r k) (opened (run_of s (inputs_at r k))) h.inputs (node_calls (asked (told_in r.given.items)) s.config.group s.config.node)
    (few_sessions p r k (c.plant.ensures.opened p r k can ran below)) h.relayed.deaths h.read
