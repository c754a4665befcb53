use Rattle.std.proofs.Common.{◌<◌, ◌∙◌, sym, refl, length, arith}
use Rattle.spk_broker.specs.Settling.{newcomer_left}
use Rattle.spk_broker.specs.View.{newcomer_now}
use Rattle.spk_broker.proofs.Walks.{walk-step, walk-end}
use Rattle.spk_broker.proofs.newcomer.settle_each.Goals as goal

pub loop-newcomer-preserved : goal.loop-newcomer-preserved
loop-newcomer-preserved c =
    let below : c.loop-newcomer.newcomer-index < length c.loop-newcomer.newcomers = omega arith in
    record {
      now = walk-step newcomer_now newcomer_now c.loop-newcomer.newcomers c.loop-newcomer.newcomer-index _ _ c.settle.new.self below refl c.settle.ensures.now ∙ c.loop-newcomer.invariant.now;
      left = walk-step newcomer_left newcomer_now c.loop-newcomer.newcomers c.loop-newcomer.newcomer-index _ _ c.settle.new.self below refl c.settle.ensures.left ∙ c.loop-newcomer.invariant.left;
    }

pub returns-clause-now : goal.returns-clause-now
returns-clause-now c =
    sym (walk-end newcomer_now newcomer_now c.loop-newcomer.newcomers c.loop-newcomer.newcomer-index (omega arith)) ∙ c.loop-newcomer.invariant.now

pub returns-clause-left : goal.returns-clause-left
returns-clause-left c =
    sym (walk-end newcomer_left newcomer_now c.loop-newcomer.newcomers c.loop-newcomer.newcomer-index (omega arith)) ∙ c.loop-newcomer.invariant.left
