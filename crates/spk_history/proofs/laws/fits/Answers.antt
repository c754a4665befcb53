use Rattle.spk_history.proofs.Sizes.{payload_fits}
use Rattle.spk_history.proofs.laws.fits.Goals as goal

pub returns : goal.returns
returns c = payload_fits
