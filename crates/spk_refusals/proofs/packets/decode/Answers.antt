use Rattle.std.proofs.Common.{arith}
use Rattle.spk_refusals.proofs.packets.decode.Goals as goal

pub returns-clause-found : goal.returns-clause-found
returns-clause-found c = first_of (assumption c.decode.ensures.found, grind arith)

pub returns-clause-only : goal.returns-clause-only
returns-clause-only c = first_of (assumption c.decode.ensures.only, grind arith)

pub returns-clause-refused : goal.returns-clause-refused
returns-clause-refused c = first_of (assumption c.decode.ensures.refused, grind arith)

pub returns-clause-not_refused : goal.returns-clause-not_refused
returns-clause-not_refused c = first_of (assumption c.decode.ensures.not_refused, grind arith)

pub returns-clause-memory : goal.returns-clause-memory
returns-clause-memory c = first_of (assumption c.decode.ensures.memory, grind arith)
