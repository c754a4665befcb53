use Rattle.std.proofs.Common.{◌∙◌, ap, sym}
use Rattle.spk_clients.proofs.Moments.{any_to_shut, none_to_shut}
use Rattle.spk_clients.proofs.ending.to_shut_in.Goals as goal

pub returns-clause-none : goal.returns-clause-none
returns-clause-none c = none_to_shut c.args.table.now.entries (sym c.loop-entry.invariant ∙ ap any_to_shut c.in-None.ensures.steps.0)
