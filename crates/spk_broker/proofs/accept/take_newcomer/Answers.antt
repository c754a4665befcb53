use Rattle.std.proofs.Common.{◌∙◌, ap, map}
use Rattle.spk_broker.specs.Asking.{newcomers_now}
use Rattle.spk_broker.specs.View.{newcomer_was}
use Rattle.spk_broker.proofs.Entered.{now-without, was-without}
use Rattle.spk_broker.proofs.accept.take_newcomer.Goals as goal

pub returns-clause-now : goal.returns-clause-now
returns-clause-now c = ap newcomers_now c.drop_newcomer.ensures ∙ now-without c.args.conn c.args.newcomers.now.items

pub returns-clause-was : goal.returns-clause-was
returns-clause-was c = ap (map newcomer_was) c.drop_newcomer.ensures ∙ was-without c.args.conn c.args.newcomers.now.items
