use Rattle.std.proofs.Common.{sym}
use Rattle.spk_login.proofs.Sizes.{fitting}
use Rattle.spk_login.proofs.login.fits.Goals as goal

pub returns : goal.returns
returns c = sym (fitting c.args.body.now c.args.user.now _ c.added-more.result c.requires.long c.added-more.ensures.size)
