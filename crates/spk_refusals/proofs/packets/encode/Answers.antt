use Rattle.std.proofs.Common.{arith}
use Rattle.spk_refusals.proofs.packets.encode.Goals as goal

pub returns-clause-spells : goal.returns-clause-spells
returns-clause-spells c = first_of (assumption c.encode.ensures.spells, grind arith)

pub returns-clause-spelled : goal.returns-clause-spelled
returns-clause-spelled c = first_of (assumption c.encode.ensures.spelled, grind arith)

pub returns-clause-refused : goal.returns-clause-refused
returns-clause-refused c = first_of (assumption c.encode.ensures.refused, grind arith)

pub returns-clause-not_refused : goal.returns-clause-not_refused
returns-clause-not_refused c = first_of (assumption c.encode.ensures.not_refused, grind arith)
