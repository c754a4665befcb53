use Rattle.std.proofs.Common.{◌∙◌, ap}
use Rattle.spk_payload.specs.Spelling.{spelling}
use Rattle.spk_payload.specs.View.{payload_view}
use Rattle.spk_historian.proofs.Unread.{spelled_same}
use Rattle.spk_historian.proofs.spelled.spelled_without.Goals as goal

pub returns-in-Ok-clause-spelled : goal.returns-in-Ok-clause-spelled
returns-in-Ok-clause-spelled c = c.in-Ok.ensures.spelled ∙ ap spelling c.in_ok-kept.ensures ∙ spelled_same (payload_view c.args.payload.now)
