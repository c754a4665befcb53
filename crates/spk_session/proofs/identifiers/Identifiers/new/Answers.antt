use Rattle.std.proofs.Common.{arith}
use Rattle.spk_session.proofs.IdLemmas.{ids-nil}
use Rattle.spk_session.proofs.identifiers.Identifiers.new.Goals as goal

pub invariant_of-result : goal.invariant_of-result
invariant_of-result c = record { count_fits = omega arith; ids = ids-nil }

pub returns-clause-whole : goal.returns-clause-whole
returns-clause-whole c = ids-nil
