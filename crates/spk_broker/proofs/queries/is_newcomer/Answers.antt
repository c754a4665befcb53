use Rattle.std.proofs.Common.{◌∙◌, sym, ap}
use Rattle.std.specs.List.{list_any}
use Rattle.spk_broker_rules.specs.Step.{is_newcomer}
use Rattle.spk_broker.proofs.Alive.{any-alive, newcomers-alive}
use Rattle.spk_broker.proofs.queries.is_newcomer.Goals as goal
use Rattle.spk_broker.specs.Asking.{newcomer_here}

pub returns : goal.returns
returns c = c.has_newcomer.ensures ∙ sym (any-alive newcomer_here (is_newcomer c.args.conn) c.args.newcomers.now) ∙ ap (list_any (is_newcomer c.args.conn)) (sym (newcomers-alive c.args.newcomers.now))
