use Rattle.std.proofs.Common.{ℕ, ◌≡◌, ◌≤◌, ◌+◌, refl, subst, get_or, arith}
use Rattle.std.proofs.lemmas.Bool.{cases_lt}
use mathlib.Core.Logic.{⊎_elim}
use Rattle.spk_broker.specs.Both.{Both}
use Rattle.spk_broker.specs.Called.{IsKeyed}
use Rattle.spk_broker.specs.Filing.{IsTurned}
use Rattle.spk_broker.specs.Granting.{standing_grants}
use Rattle.spk_broker.specs.Sizes.{size_of_grants}
use Rattle.spk_broker.proofs.Follows.{half-step}
use Rattle.spk_broker.proofs.Touched.{same-read}
use Rattle.spk_broker.proofs.index_update.turned.Goals as goal

pub loop-session-preserved : goal.loop-session-preserved
loop-session-preserved c =
    let bs = c.args.sessions.now in
    let i = c.loop-session.session-index in
    let d = c.session-item.result in
    let here = subst IsKeyed c.session-item.is c.keyed.ensures in
    let all : (j : ℕ) (e : Both) → j ≤ i → IsKeyed (get_or bs j e) = λ j e le.
    ⊎_elim
    (λ lt. c.loop-session.invariant.keyed j e lt)
    (λ ge. let one : i ≡ j = omega (arith, le, ge) in subst (λ k. IsKeyed (get_or bs k e)) one (subst IsKeyed (same-read bs i d e c.loop-session-test.true) here))
    (cases_lt j i) in
    record {
      keyed = λ j e lt. all j e (omega (arith, lt));
      held = λ o h.
          half-step c.loop-session.tree c.turn.new.tree c.loop-session.size c.turn.new.size bs i d o c.loop-session-test.true all
          (subst (λ b. IsTurned c.loop-session.tree c.turn.new.tree b) c.session-item.is (c.if-not-turn.ensures.turned refl))
          (subst (λ (b : Both). c.loop-session.size ≤ 100000 → size_of_grants b.was.grants ≤ c.loop-session.size → c.turn.new.size + size_of_grants b.was.grants ≡ c.loop-session.size + size_of_grants (standing_grants b.now)) c.session-item.is (c.if-not-turn.ensures.size refl))
          (c.if-not-turn.ensures.small refl) (c.loop-session.invariant.held o h);
    }
