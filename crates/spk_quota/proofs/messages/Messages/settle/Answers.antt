use Rattle.spk_quota.proofs.Bounds.{settled-bounded}
use Rattle.spk_quota.proofs.messages.Messages.settle.Goals as goal

pub invariant_of-self : goal.invariant_of-self
invariant_of-self c = settled-bounded c.args.conn c.self.inside.list.items c.settle_in.new.list.items c.settle_in.ensures c.self.invariant
