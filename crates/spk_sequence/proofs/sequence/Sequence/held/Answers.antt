use mir.Val.{bool_byte}
use Rattle.std.proofs.Common.{◌≡◌, ℕ, suc, ◌+◌, ◌<◌, ◌≤◌, Bool, true, false, List, length, refl, sym, ◌∙◌, ap, arith, Option, is_some, cond}
use Rattle.std.proofs.Math.ListN.{drop}
use Rattle.std.proofs.lemmas.List.{drop_all}
use Rattle.spk_sequence.specs.Data.{IsWhole, held_at}
use Rattle.spk_sequence.specs.Numbers.{held_count}
use Rattle.spk_sequence.proofs.Counts.{count_step, none_counted}
use Rattle.spk_sequence.proofs.sequence.Sequence.held.Goals as goal

pub returns-then-not-is_any_held-clause-count : goal.returns-then-not-is_any_held-clause-count
returns-then-not-is_any_held-clause-count c =
    sym (none_counted c.args.self.now.held (sym c.is_any_held.ensures.value ∙ c.if-not-is_any_held.true))

pub loop-distance-preserved : goal.loop-distance-preserved
loop-distance-preserved c =
    let w : IsWhole c.args.self.now = c.width-width.ensures.whole in
    let i : ℕ = c.loop-distance.distance in
    let held : List (Option (Option ℕ)) = c.args.self.now.held in
    let wide : c.width-width.result ≡ c.args.self.now.width = c.width-width.ensures.value in
    let sized : length held ≡ c.args.self.now.width = w.all_places in
    let test : i < c.width-width.result = c.loop-distance-test.true in
    let step : held_count (drop i held) ≡ cond (is_some (held_at held i)) 1 0 + held_count (drop (suc i) held) = count_step held i (omega arith) in
    let byte : c.from-count.result ≡ cond (is_some (held_at held i)) 1 0 = c.from-count.ensures ∙ as_byte c.is_held_at.result ∙ ap (λ b. cond b 1 0) c.is_held_at.ensures in
    let one : c.from-count.result ≤ 1 = at_most (is_some (held_at held i)) c.from-count.result byte in
    let counted : c.loop-distance.count + held_count (drop i held) ≡ held_count held = c.loop-distance.invariant.counted in
    let few : c.loop-distance.count ≤ i = c.loop-distance.invariant.few in
    let next : suc i ≡ i + 1 = omega arith in
    record {
      counted = ap (λ k. c.loop-distance.count + c.from-count.result + held_count (drop k held)) (sym next) ∙ (omega arith);
      few = omega arith;
    }
  where
    as_byte : (b : Bool) → bool_byte b ≡ cond b 1 0
    as_byte true = refl
    as_byte false = refl

    at_most : (b : Bool) (n : ℕ) → n ≡ cond b 1 0 → n ≤ 1
    at_most true n e = omega arith
    at_most false n e = omega arith

pub returns-clause-count : goal.returns-clause-count
unfolding held_count
returns-clause-count c =
    let w : IsWhole c.args.self.now = c.width-width.ensures.whole in
    let held : List (Option (Option ℕ)) = c.args.self.now.held in
    let wide : c.width-width.result ≡ c.args.self.now.width = c.width-width.ensures.value in
    let sized : length held ≡ c.args.self.now.width = w.all_places in
    let test : c.width-width.result ≤ c.loop-distance.distance = c.loop-distance-test.false in
    let counted : c.loop-distance.count + held_count (drop c.loop-distance.distance held) ≡ held_count held = c.loop-distance.invariant.counted in
    let none : held_count (drop c.loop-distance.distance held) ≡ 0 = ap held_count (drop_all c.loop-distance.distance held (omega arith)) in
    omega arith
