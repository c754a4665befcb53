use Rattle.std.proofs.Common.{arith, sym}
use Rattle.spk_refusals.proofs.view.Watch.consume.Goals as goal

pub returns-clause-asks : goal.returns-clause-asks
returns-clause-asks c = rw (sym c.self.view_is) (first_of (assumption c.consume.ensures.asks, grind arith))

pub returns-clause-watch : goal.returns-clause-watch
returns-clause-watch c = rw (sym c.self.view_is) (first_of (assumption c.consume.ensures.watch, grind arith))

pub returns-clause-room : goal.returns-clause-room
returns-clause-room c = rw (sym c.self.view_is) (first_of (assumption c.consume.ensures.room, grind arith))

pub returns-clause-full : goal.returns-clause-full
returns-clause-full c = rw (sym c.self.view_is) (first_of (assumption c.consume.ensures.full, grind arith))

pub returns-clause-returned : goal.returns-clause-returned
returns-clause-returned c = first_of (assumption c.consume.ensures.returned, grind arith)

pub returns-clause-unchanged : goal.returns-clause-unchanged
returns-clause-unchanged c = rw (sym c.self.view_is) (first_of (assumption c.consume.ensures.unchanged, grind arith))
