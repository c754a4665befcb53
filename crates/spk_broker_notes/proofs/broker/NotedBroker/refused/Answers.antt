use Rattle.std.proofs.Common.{length, ap, ◌∙◌}
use Rattle.std.specs.Option.{option_map}
use Rattle.spk_broker_rules.specs.Plan.{Refused}
use Rattle.spk_broker_rules.specs.Step.{step}
use Rattle.spk_broker_notes.specs.Logs.{log_view, settled}
use Rattle.spk_broker_notes.specs.Noted.{Noted, after, bytes_of}
use Rattle.spk_broker_notes.proofs.Noting.{drop-settles}
use Rattle.spk_broker_notes.proofs.broker.NotedBroker.refused.Goals as goal

pub returns-in-Ok-clause-done : goal.returns-in-Ok-clause-done
returns-in-Ok-clause-done c =
    let b = c.self.inside.broker in
    let o = option_map log_view c.self.inside.log in
    let e = Refused c.args.conn c.args.sort c.args.now in
    c.settle.ensures
    ∙ ap (λ n. settled c.is_drop.result n c.tell_refused.new.self) c.len-before.ensures
    ∙ ap (settled c.is_drop.result (length (bytes_of o)))
    (c.in-Ok.ensures.done ∙ ap {B = Noted} (λ n. record { broker = (step b e).broker; notes = n }) c.in_ok-add.ensures.done)
    ∙ drop-settles b c.args.conn c.args.sort c.args.now o c.in-Ok.out.closes.items c.is_drop.result c.in-Ok.ensures.closes c.is_drop.ensures
    ∙ ap (after e) c.self.view_is
