use Rattle.std.proofs.Common.{refl}
use Rattle.spk_sequence.proofs.WindowLemmas.{whole_from}
use Rattle.spk_sequence.proofs.sequence.Sequence.width.Goals as goal

pub returns-clause-whole : goal.returns-clause-whole
returns-clause-whole c = rw (← c.self.view_is) (whole_from _ c.self.inside.slots refl c.self.invariant)
