use Rattle.spk_edge.proofs.Lasts.{last-more}
use Rattle.spk_edge.proofs.plan.last_stamp.Goals as goal

pub loop-message-preserved : goal.loop-message-preserved
loop-message-preserved c = last-more c.args.before c.args.messages.now c.loop-message.message-index c.message-item.result c.loop-message-test.true c.message-item.is
