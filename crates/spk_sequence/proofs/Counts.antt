-- How many places hold a message.
use Rattle.std.proofs.Common.{◌≡◌, ℕ, suc, ◌+◌, ◌<◌, Bool, true, false, cond, List, [], ◌∷◌, length, refl, ◌∙◌, ap, arith, Option, Some, None, is_some}
use Rattle.std.specs.List.{list_any}
use Rattle.std.proofs.lemmas.Bool.{true≢false}
use Rattle.std.proofs.Math.ListN.{drop}
use Rattle.std.proofs.Math.Seq.{drop-cons}
use Rattle.spk_sequence.specs.Data.{held_at}
use Rattle.spk_sequence.specs.Numbers.{held_count}

-- the places from i on: the first of them, and the rest
pub count_step : (held : List (Option (Option ℕ))) (i : ℕ) → i < length held → held_count (drop i held) ≡ cond (is_some (held_at held i)) 1 0 + held_count (drop (suc i) held)
unfolding held_count
count_step held i below = ap held_count (drop-cons held i None below) ∙ go (is_some (held_at held i)) (held_count (drop (suc i) held))
  where
    go : (b : Bool) (n : ℕ) → cond b (suc n) n ≡ cond b 1 0 + n
    go true n = omega arith
    go false n = omega arith

-- where none is held, none is counted
pub none_counted : (held : List (Option (Option ℕ))) → list_any is_some held ≡ false → held_count held ≡ 0
unfolding held_count
none_counted [] e = refl
none_counted (None ∷ held) e = none_counted held e
none_counted (Some own ∷ held) e = absurd (true≢false e)
