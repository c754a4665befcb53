-- What the definitions say in rows that are worked out by hand. The changes are numbers here, and two belong
-- together if both are below 10, or neither is.
use Rattle.std.proofs.Common.{◌≡◌, ℕ, ◌-◌, ◌^◌, Bool, true, false, not, nat_lt, cond, List, [], ◌∷◌, map, Some, None, Option, refl, arith}
use Rattle.spk_store.specs.Data.{Kept}
use Rattle.spk_store.specs.Step.{after_push, after_drop, overwritten, run_of}
use Rattle.spk_store.specs.Calls.{Call, Push, DropFront, store_of}
use Rattle.spk_store.specs.Kept.{place_of, kept_of, left_of, lost_of, sent_of}
use Rattle.spk_store.specs.Law.{IsAsCalled, as_called}

abbrev nothing : Option ℕ
nothing = None

-- a store of one: the second push hands the first change back
pub first_goes : (overwritten {X = ℕ} (store_of 1 []) 5 ≡ nothing) × (overwritten {X = ℕ} (store_of 1 (Push 5 ∷ [])) 6 ≡ Some 5)
first_goes = (refl, refl)

-- five pushes onto a store of three, the newest first
abbrev five : List (Call ℕ)
five = Push 7 ∷ Push 6 ∷ Push 5 ∷ Push 4 ∷ Push 3 ∷ []

pub three_stay : ((store_of 3 five).items ≡ 5 ∷ 6 ∷ 7 ∷ []) × (kept_of 3 five ≡ 5 ∷ 6 ∷ 7 ∷ []) × (place_of 3 five ≡ 2) × ((store_of 3 five).lost ≡ 2) × (lost_of 3 five ≡ 2)
three_stay = (refl, refl, refl, refl, refl)

-- two are dropped as lost, one as sent, and one more comes
abbrev dropped : List (Call ℕ)
dropped = Push 8 ∷ DropFront 1 false ∷ DropFront 2 true ∷ five

pub one_left : ((store_of 3 dropped).items ≡ 8 ∷ []) × (kept_of 3 dropped ≡ 8 ∷ []) × (place_of 3 dropped ≡ 5) × ((store_of 3 dropped).lost ≡ 4) × (lost_of 3 dropped ≡ 4)
one_left = (refl, refl, refl, refl, refl)

-- one of the four that left in between is sent, the others are lost
pub one_sent : (sent_of 3 dropped ≡ 7 ∷ []) × (map (λ (e : ℕ × Bool). e.1) (left_of 3 dropped) ≡ true ∷ true ∷ true ∷ true ∷ false ∷ [])
one_sent = (refl, refl)

-- the law at changes that are plain data
pub law_of_numbers : IsAsCalled 3 dropped
law_of_numbers = as_called 3 dropped (omega arith, (omega arith, tt))

-- the count stays at the greatest number of 64 bits
abbrev worn : Kept ℕ
worn = record { items = 1 ∷ []; capacity = 1; lost = 2 ^ 64 - 1 }

pub stays_at_greatest : ((after_push worn 2).lost ≡ 2 ^ 64 - 1) × ((after_drop worn 1 true).lost ≡ 2 ^ 64 - 1)
stays_at_greatest = (refl, refl)

abbrev together : ℕ → ℕ → Bool
together a b = cond (nat_lt a 10) (nat_lt b 10) (not (nat_lt b 10))

pub runs : (run_of together [] ≡ 0) × (run_of together (1 ∷ 2 ∷ 30 ∷ 4 ∷ []) ≡ 2) × (run_of together (30 ∷ 4 ∷ []) ≡ 1)
runs = (refl, refl, refl)
