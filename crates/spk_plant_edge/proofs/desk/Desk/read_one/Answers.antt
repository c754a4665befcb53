use Rattle.std.proofs.Common.{◌≡◌, refl}
use Rattle.spk_plant_edge.specs.Log.{inputs_of}
use Rattle.spk_plant_edge.specs.declared.desk.Desk.{Desk}
use Rattle.spk_plant_edge.proofs.Leading.{at-reads}
use Rattle.spk_plant_edge.proofs.Standing.{stands-same}
use Rattle.spk_plant_edge.proofs.desk.Desk.read_one.Goals as goal

pub returns-clause-read : goal.returns-clause-read
returns-clause-read g c = λ o log at.
    let taken : Desk = record c.args.self.now { inlet = c.next.new.self } in
    let heard = c.in_ok-hear.ensures.heard o log (stands-same o (inputs_of log) c.args.self.now taken refl refl refl refl refl at.stands) in
    at-reads o log c.args.self.now c.hear.new.self c.next.new.self c.in-Some.item heard.0 at c.in-Some.ensures.end c.in-Some.ensures.some c.in_ok-hear.ensures.inlet heard.1 heard.2 heard.3
