use Rattle.spk_packets.proofs.Canonical.{spelling_spells}
use Rattle.spk_packets.proofs.laws.spelling_spells.Goals as goal

pub returns : goal.returns
returns c = λ p fits none. spelling_spells p none fits.0 fits.1
