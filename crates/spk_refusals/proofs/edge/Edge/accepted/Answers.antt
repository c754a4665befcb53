use Rattle.std.proofs.Common.{arith, sym}
use Rattle.spk_refusals.proofs.edge.Edge.accepted.Goals as goal

pub returns-clause-done : goal.returns-clause-done
returns-clause-done c = rw (sym c.self.view_is) (first_of (assumption c.accepted.ensures.done, grind arith))

pub returns-clause-refused : goal.returns-clause-refused
returns-clause-refused c = rw (sym c.self.view_is) (first_of (assumption c.accepted.ensures.refused, grind arith))

pub returns-clause-err : goal.returns-clause-err
returns-clause-err c = rw (sym c.self.view_is) (first_of (assumption c.accepted.ensures.err, grind arith))
