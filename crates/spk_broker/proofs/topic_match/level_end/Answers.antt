use Rattle.std.proofs.Common.{◌∙◌}
use Rattle.spk_broker.proofs.Fronts.{passing, unequal}
use Rattle.spk_broker.proofs.topic_match.level_end.Goals as goal

pub loop-at-preserved : goal.loop-at-preserved
loop-at-preserved c = λ filter.
    c.loop-at.invariant filter ∙ passing filter c.args.topic.now c.loop-at.at c.loop-at-test.true (unequal _ _ c.if-topic-at-eq47.false)
