use Rattle.spk_payload.specs.View.{payload_view}
use Rattle.spk_historian.proofs.Unread.{payload_kept}
use Rattle.spk_historian.proofs.spelled.spelled.Goals as goal

pub returns-in-Ok-clause-fits : goal.returns-in-Ok-clause-fits
returns-in-Ok-clause-fits c = payload_kept (payload_view c.args.payload.now) c.in-Ok.ensures.fits
