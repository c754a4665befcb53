-- How far a run of one owner's changes goes.
use Rattle.std.proofs.Common.{◌≡◌, ℕ, zero, suc, ◌+◌, ◌≤◌, ◌<◌, min, Bool, true, false, List, [], ◌∷◌, slice_get, Option, Some, unwrap_or, cond, sym, ap, subst, arith}
use Rattle.std.proofs.Math.Nat.{min-le_left}
use Rattle.std.specs.List.{prefix_len}
use Rattle.spk_device.specs.declared.owner.Owner.{Owner}
use Rattle.spk_store.specs.declared.change.Change.{Change}
use Rattle.spk_store.specs.Owners.{is_of, is_at, have_one_owner}
use Rattle.spk_store.specs.Step.{run_of}

abbrev option : Change → Option Change
option x = Some x

longer : (b : Bool) (k n : ℕ) → suc n ≤ cond b (1 + k) 0 → (n ≤ k → n + 1 ≤ k) → suc n + 1 ≤ cond b (1 + k) 0
longer true k n l f = omega (arith, f (omega arith))
longer false k n l f = absurd (omega (arith, l))

as_long : (b : Bool) (k n : ℕ) → suc n ≤ cond b (1 + k) 0 → (n ≤ k → k ≡ n) → cond b (1 + k) 0 ≡ suc n
as_long true k n l f = omega (arith, f (omega arith))
as_long false k n l f = absurd (omega (arith, l))

-- one change more is of the owner
pub run_goes : (owner : Owner) (xs : List Change) (n : ℕ) → n ≤ prefix_len (is_of owner) xs → is_at owner (slice_get xs n) ≡ true → n + 1 ≤ prefix_len (is_of owner) xs
run_goes owner [] n l holds = absurd cc
run_goes owner (x ∷ xs) zero l holds = subst (λ b. 1 ≤ cond b (1 + prefix_len (is_of owner) xs) 0) (sym holds) (omega arith)
run_goes owner (x ∷ xs) (suc n) l holds = longer (is_of owner x) (prefix_len (is_of owner) xs) n l (λ m. run_goes owner xs n m holds)

-- the next change isn't of the owner
pub run_stops : (owner : Owner) (xs : List Change) (n : ℕ) → n ≤ prefix_len (is_of owner) xs → is_at owner (slice_get xs n) ≡ false → prefix_len (is_of owner) xs ≡ n
run_stops owner [] n l fails = omega arith
run_stops owner (x ∷ xs) zero l fails = ap (λ b. cond b (1 + prefix_len (is_of owner) xs) 0) fails
run_stops owner (x ∷ xs) (suc n) l fails = as_long (is_of owner x) (prefix_len (is_of owner) xs) n l (λ m. run_stops owner xs n m fails)

-- stopped before the most
pub stopped_at : (max len most run n : ℕ) → most ≡ min max len → n < most → run ≡ n → n ≡ min max run
stopped_at max len most run n is below stop = omega (arith, min-le_left max len, is)

-- went on up to the most
pub went_on : (max len most run : ℕ) → most ≡ min max len → run ≤ len → most ≤ run → most ≡ min max run
went_on max len most run is within reached = omega (arith, min-le_left max len, is)

some_is : (x y : Change) → option y ≡ option x → y ≡ x
some_is x y e = ap (λ o. unwrap_or o x) e

-- the front run is that of the first one's owner
pub run_is : (x : Change) (xs : List Change) → slice_get xs 0 ≡ option x → prefix_len (is_of x.owner) xs ≡ run_of have_one_owner xs
run_is x [] e = absurd cc
run_is x (y ∷ ys) e = ap (λ (z : Change). prefix_len (is_of z.owner) (y ∷ ys)) (sym (some_is x y e))
