use Rattle.std.proofs.Common.{sym, arith, false}
use Rattle.std.proofs.lemmas.List.Sums.{prefix_len_is}
use Rattle.spk_session.proofs.circle.first_unmarked.Goals as goal

pub returns-then-not-is_taken : goal.returns-then-not-is_taken
returns-then-not-is_taken c = sym (prefix_len_is (λ b. b) c.args.taken.now c.loop-place.place false (omega arith) c.loop-place.invariant (λ h. c.if-not-is_taken.true))

pub returns : goal.returns
returns c = sym (prefix_len_is (λ b. b) c.args.taken.now _ false (omega arith) (λ k h. c.loop-place.invariant k (omega arith)) (λ h. absurd (omega arith)))
