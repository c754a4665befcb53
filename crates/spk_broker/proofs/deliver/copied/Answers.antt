use Rattle.std.proofs.Common.{ap, ◌∙◌}
use Rattle.spk_broker_rules.specs.Data as plain
use Rattle.spk_broker.proofs.Sendables.{numbered-is}
use Rattle.spk_broker.proofs.deliver.copied.Goals as goal

pub invariant_of-result : goal.invariant_of-result
invariant_of-result c = record { numbered = numbered-is _ c.args.id (ap (λ (p : plain.AppMessage). p.qos) c.in_ok-copied.ensures ∙ c.requires.one) c.requires.id }
