use Rattle.std.proofs.Common.{arith}
use Rattle.spk_session.proofs.CircleLemmas.{IsFirstFree, first_within, first_free, free_value, free_next}
use Rattle.spk_session.proofs.circle.next_id.Goals as goal

pub overflow_cast-steps : goal.overflow_cast-steps
overflow_cast-steps c = omega (arith, first_within c.mark.new.taken (omega arith))

first : (c : goal.After-id_after) → IsFirstFree c.args.used.now c.args.last c.first_unmarked-steps.result
first c = first_free c.mark.new.taken _ _ _ (omega arith) c.first_unmarked-steps.ensures c.mark.ensures.few (omega arith) c.mark.ensures.marked

pub returns-clause-value : goal.returns-clause-value
returns-clause-value c = free_value _ _ _ _ (first c) c.id_after.ensures

pub returns-clause-next : goal.returns-clause-next
returns-clause-next c = free_next _ _ _ _ (first c) c.id_after.ensures
