use Rattle.std.proofs.Common.{◌≡◌, [], ◌∷◌}
use Rattle.spk_edge.specs.View.{act_view}
use Rattle.spk_plant_edge.proofs.Leading.{asked-then, asks-one}
use Rattle.spk_plant_edge.proofs.desk.Desk.once.Goals as goal

pub returns-clause-asked : goal.returns-clause-asked
returns-clause-asked g c = λ o log at.
    let read = c.in_ok-read.ensures.read o log at in
    let asked = c.in_ok-refused.ensures.asked o read.0 read.1 in
    (asked.0, asked.1, asked-then [] (act_view c.args.act ∷ []) log read.0 asked.0 read.2 (asks-one read.0 asked.0 (act_view c.args.act) asked.2.0))
