use Rattle.std.proofs.Common.{arith}
use Rattle.spk_session.proofs.CircleLemmas.{marks_more, marks_same, count-set}
use Rattle.spk_session.proofs.circle.mark.Goals as goal
use Rattle.spk_session.proofs.circle.mark.Goals.{then-steps-taken, else-steps-taken}

pub loop-id-preserved : goal.loop-id-preserved
loop-id-preserved c = elim c.if-steps-taken.branch [
  | then-steps-taken w ↦ rw w.taken-is record {
    marked = rw c.from-steps.ensures (marks_more c.loop-id.taken c.args.used.now c.loop-id.id-index c.args.last c.steps_to.result (omega arith) c.steps_to.ensures.there c.steps_to.ensures.bounded (omega arith) c.loop-id.invariant.marked);
    few = omega (arith, count-set c.loop-id.taken c.from-steps.result (omega arith), c.loop-id.invariant.few);
  }
  | else-steps-taken w ↦ rw w.taken-is record {
    marked = marks_same c.loop-id.taken c.args.used.now c.loop-id.id-index c.args.last c.steps_to.result (omega arith) c.steps_to.ensures.there c.steps_to.ensures.bounded (omega arith) (omega arith) c.loop-id.invariant.marked;
    few = omega arith;
  }
]
