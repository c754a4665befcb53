use Rattle.spk_frames.proofs.Whole.{one_reading}
use Rattle.spk_frames.proofs.laws.one_reading.Goals as goal

pub returns : goal.returns
returns c = λ most bytes rest other contents more narrow. one_reading most narrow bytes rest other contents more
