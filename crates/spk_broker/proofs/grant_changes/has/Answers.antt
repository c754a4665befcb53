use Rattle.std.proofs.Common.{◌∙◌}
use Rattle.spk_broker.proofs.Filtering.{has-grant}
use Rattle.spk_broker.proofs.grant_changes.has.Goals as goal

pub returns : goal.returns
returns c = c.has_one.ensures ∙ has-grant c.args.name.now c.args.grants.now
