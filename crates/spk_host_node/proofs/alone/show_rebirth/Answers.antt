use Rattle.std.proofs.Common.{◌≡◌, ◌∙◌, sym, ap, subst, true, IfOk, List, map}
use Rattle.spk_payload.specs.View.{metric_view}
use Rattle.spk_payload.specs.declared.metric.Metric.{Metric}
use Rattle.spk_reading.specs.View.{numbered_view, subject_view}
use Rattle.spk_reading.specs.declared.said.Subject.{Subject}
use Rattle.spk_host_rules.specs.Data.{Consumed, DeviceBirth, Message, NodeBirth}
use Rattle.spk_host_rules.specs.Step as rules
use Rattle.spk_host_node.specs.Step.{message_in, message_of}
use Rattle.spk_host_node.proofs.alone.show_rebirth.Goals as goal

pub returns-in-NodeBirth-clause-watch : goal.returns-in-NodeBirth-clause-watch
returns-in-NodeBirth-clause-watch c = λ wait now.
    let same : NodeBirth (map metric_view c.deref.result.now) ≡ message_of (numbered_view c.args.message.now) =
    ap (λ (l : List Metric). NodeBirth (map metric_view l)) c.deref.ensures.value
    ∙ ap (λ (s : Subject). message_in (subject_view s) (map metric_view c.args.message.now.payload.metrics.items)) (sym c.in-NodeBirth.is) in
    subst (λ (m : Message). IfOk c.consume_node_rebirth.result (λ is. is ≡ true → c.consume_node_rebirth.new.self.watch ≡ rules.step wait c.args.watch.now.watch (Consumed m now)))
    same (c.consume_node_rebirth.ensures.watch wait now)

pub returns-in-DeviceBirth-clause-watch : goal.returns-in-DeviceBirth-clause-watch
returns-in-DeviceBirth-clause-watch c = λ wait now.
    let same : DeviceBirth c.as_str.result.now (map metric_view c.deref-in-DeviceBirth.result.now) ≡ message_of (numbered_view c.args.message.now) =
    ap (λ (l : List Metric). DeviceBirth c.as_str.result.now (map metric_view l)) c.deref-in-DeviceBirth.ensures.value
    ∙ ap (λ n. DeviceBirth n (map metric_view c.args.message.now.payload.metrics.items)) c.as_str.ensures.value
    ∙ ap (λ (s : Subject). message_in (subject_view s) (map metric_view c.args.message.now.payload.metrics.items)) (sym c.in-DeviceBirth.is) in
    subst (λ (m : Message). IfOk c.consume_device_rebirth.result (λ is. is ≡ true → c.consume_device_rebirth.new.self.watch ≡ rules.step wait c.args.watch.now.watch (Consumed m now)))
    same (c.consume_device_rebirth.ensures.watch wait now)
