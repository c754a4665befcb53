use Rattle.spk_frames.proofs.Whole.{synced}
use Rattle.spk_frames.proofs.laws.synced.Goals as goal

pub returns : goal.returns
returns c = λ most contents read behind rest narrow. synced most narrow contents read behind rest
