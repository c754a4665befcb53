use Rattle.std.proofs.Common.{not}
use Rattle.spk_quota.specs.Data.{MessageData}
use Rattle.spk_quota.specs.Step.{is_will_of}
use Rattle.spk_quota.proofs.Bounds.{fewer}
use Rattle.spk_quota.proofs.messages.Messages.discard.Goals as goal

pub invariant_of-self : goal.invariant_of-self
invariant_of-self c = fewer (λ (m : MessageData). not (is_will_of c.args.conn m)) c.self.inside.list.items c.discard_in.new.list.items c.discard_in.ensures c.self.invariant
