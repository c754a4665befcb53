use Rattle.std.proofs.Common.{refl}
use Rattle.spk_history.specs.File.{head}
use Rattle.spk_history.proofs.parts.Parts.new.Goals as goal

pub returns-clause-stands : goal.returns-clause-stands
unfolding head
returns-clause-stands c = record { are = c.in_ok-from_slice.ensures.items; fit = tt; long = refl }
