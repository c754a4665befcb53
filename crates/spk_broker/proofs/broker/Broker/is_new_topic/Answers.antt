use Rattle.std.proofs.Common.{◌∙◌, ap, not, sym}
use Rattle.spk_broker_rules.specs.Data as plain
use Rattle.spk_broker.proofs.Restores.{topic-new, topic-there}
use Rattle.spk_broker.proofs.Retaining.{looked-up}
use Rattle.spk_broker.proofs.broker.Broker.is_new_topic.Goals as goal

pub returns-then-not-contains_key : goal.returns-then-not-contains_key
returns-then-not-contains_key c =
    topic-new c.args.self.now c.args.topic.now c.self.inside.state.retained.entries c.len.result (ap (λ (b : plain.Broker). b.retained) c.self.view_is) c.len.ensures.len
    (sym (looked-up c.args.topic.now c.self.inside.state.retained.entries) ∙ sym c.contains_key.ensures ∙ c.if-not-contains_key.true)

pub returns-else-not-contains_key : goal.returns-else-not-contains_key
returns-else-not-contains_key c =
    ap not c.if-not-contains_key.false
    ∙ topic-there c.args.self.now c.args.topic.now c.self.inside.state.retained.entries (ap (λ (b : plain.Broker). b.retained) c.self.view_is)
    (sym (looked-up c.args.topic.now c.self.inside.state.retained.entries) ∙ sym c.contains_key.ensures ∙ c.if-not-contains_key.false)
