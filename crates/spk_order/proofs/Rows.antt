-- What the definitions answer in runs that are worked out by hand: numbers as payloads, a wait of 2000, a width of 64.
use Rattle.std.specs.Prelude.{◌≡◌, ℕ, [], ◌∷◌, Some, None, refl}
use Rattle.spk_sequence.specs.declared.message.Kind.TheVariants.{Birth, Other}
use Rattle.spk_sequence.specs.declared.answer.Step.TheVariants as step
use Rattle.spk_sequence.specs.Step.{hand, next_of, tick, death}
use Rattle.spk_order.specs.Ordered.{Ordered, kept_at}
use Rattle.spk_order.specs.Step.{left_by, consumed_with, handed, stands_so, fresh_order}

-- a birth with the number 252, then 255 and 254 ahead of 253
abbrev born : Ordered ℕ
born = handed (fresh_order 2000 64) 252 (Birth 100 4) 7 0

abbrev ahead_by_two : Ordered ℕ
ahead_by_two = handed born 255 (Other (Some 100)) 55 0

abbrev ahead_by_both : Ordered ℕ
ahead_by_both = handed ahead_by_two 254 (Other (Some 100)) 54 0

-- the birth itself comes out
pub birth_alone : consumed_with (fresh_order {T = ℕ} 2000 64).kept 252 7 (step.Consumed 1) ≡ Some 7 ∷ []
birth_alone = refl

-- payloads ahead are kept under their numbers
pub kept_ahead : (kept_at ahead_by_both.kept 254 ≡ Some 54) × (kept_at ahead_by_both.kept 255 ≡ Some 55) × (kept_at ahead_by_both.kept 253 ≡ None)
unfolding left_by
kept_ahead = (refl, refl, refl)

-- the message before them brings them out in the order of their numbers, and they are kept no longer
pub filled_hole : ((hand ahead_by_both.standing 253 (Other (Some 100)) 0).0 ≡ step.Consumed 3) × (consumed_with ahead_by_both.kept 253 53 (step.Consumed 3) ≡ Some 53 ∷ Some 54 ∷ Some 55 ∷ []) × (kept_at (handed ahead_by_both 253 (Other (Some 100)) 53 0).kept 254 ≡ None) × (next_of (handed ahead_by_both 253 (Other (Some 100)) 53 0).standing ≡ Some 0)
unfolding left_by
filled_hole = (refl, refl, refl, refl)

-- after a gap, at a moment or at a death nothing is kept
pub dropped : (kept_at (handed ahead_by_both 100 (Other (Some 100)) 1 0).kept 254 ≡ None) × (kept_at (stands_so (tick ahead_by_both.standing 2000) ahead_by_both.kept).kept 254 ≡ None) × (kept_at (stands_so (death ahead_by_both.standing 4) ahead_by_both.kept).kept 255 ≡ None)
unfolding left_by
dropped = (refl, refl, refl)

-- a repeated message does not take the place of the one that is kept
pub repeated : kept_at (handed ahead_by_both 254 (Other (Some 100)) 9 0).kept 254 ≡ Some 54
unfolding left_by
repeated = refl
