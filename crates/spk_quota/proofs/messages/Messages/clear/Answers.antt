use Rattle.std.proofs.Common.{not}
use Rattle.spk_quota.specs.Data.{MessageData}
use Rattle.spk_quota.specs.Step.{is_retained_on}
use Rattle.spk_quota.proofs.Bounds.{fewer}
use Rattle.spk_quota.proofs.messages.Messages.clear.Goals as goal

pub invariant_of-self : goal.invariant_of-self
invariant_of-self c = fewer (λ (m : MessageData). not (is_retained_on c.args.topic.now m)) c.self.inside.list.items c.clear_in.new.list.items c.clear_in.ensures c.self.invariant
