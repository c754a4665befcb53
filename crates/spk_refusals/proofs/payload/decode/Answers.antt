use Rattle.std.proofs.Common.{arith}
use Rattle.spk_refusals.proofs.payload.decode.Goals as goal

pub returns-clause-reads : goal.returns-clause-reads
returns-clause-reads c = first_of (assumption c.decode.ensures.reads, grind arith)

pub returns-clause-found : goal.returns-clause-found
returns-clause-found c = first_of (assumption c.decode.ensures.found, grind arith)

pub returns-clause-only : goal.returns-clause-only
returns-clause-only c = first_of (assumption c.decode.ensures.only, grind arith)

pub returns-clause-fault : goal.returns-clause-fault
returns-clause-fault c = first_of (assumption c.decode.ensures.fault, grind arith)

pub returns-clause-only_fault : goal.returns-clause-only_fault
returns-clause-only_fault c = first_of (assumption c.decode.ensures.only_fault, grind arith)

pub returns-clause-memory : goal.returns-clause-memory
returns-clause-memory c = first_of (assumption c.decode.ensures.memory, grind arith)
