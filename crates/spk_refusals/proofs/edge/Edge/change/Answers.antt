use Rattle.std.proofs.Common.{arith, sym}
use Rattle.spk_refusals.proofs.edge.Edge.change.Goals as goal

pub returns-clause-done : goal.returns-clause-done
returns-clause-done c = rw (sym c.self.view_is) (first_of (assumption c.change.ensures.done, grind arith))

pub returns-clause-refused : goal.returns-clause-refused
returns-clause-refused c = rw (sym c.self.view_is) (first_of (assumption c.change.ensures.refused, grind arith))

pub returns-clause-memory : goal.returns-clause-memory
returns-clause-memory c = rw (sym c.self.view_is) (first_of (assumption c.change.ensures.memory, grind arith))

pub returns-clause-err : goal.returns-clause-err
returns-clause-err c = rw (sym c.self.view_is) (first_of (assumption c.change.ensures.err, grind arith))
