-- Runs of positions.
use Rattle.std.proofs.Common.{◌≡◌, ℕ, zero, suc, ◌+◌, ◌<◌, ◌≤◌, ◌||◌, true, false, cond, eqb, ◌∷◌, ◌++◌, refl, sym, ◌∙◌, ap, arith, Option, Some, inl, inr}
use Rattle.std.specs.List.{range_with_len, list_any, filter_map}
use Rattle.std.proofs.lemmas.Bool.{true≢false, or_cases, eqb-true}
use Rattle.spk_sequence.specs.NodeRecord.{NodeRecord, opens}
use Rattle.spk_sequence.specs.HostRecord.{after_last}
use Rattle.spk_sequence.specs.Following.{contains, last_opening}

-- one past the last one of a run
pub after_last-range : (n p k : ℕ) → after_last n (range_with_len p (suc k)) ≡ p + suc k
after_last-range n p zero = omega arith
after_last-range n p (suc k) = after_last-range (p + 1) (p + 1) k ∙ omega arith

-- no NBIRTH in a run
pub none_opens : (published : NodeRecord) (p k : ℕ) → ((q : ℕ) → p ≤ q → q < p + k → opens published q ≡ false) → list_any (opens published) (range_with_len p k) ≡ false
none_opens published p zero h = refl
none_opens published p (suc k) h = ap (λ x. x || list_any (opens published) (range_with_len (p + 1) k)) (h p (omega arith) (omega arith)) ∙ none_opens published (p + 1) k (λ q low high. h q (omega arith) (omega arith))

pub last_opening-none : (published : NodeRecord) (o : Option ℕ) (p k : ℕ) → ((q : ℕ) → p ≤ q → q < p + k → opens published q ≡ false) → last_opening published o (range_with_len p k) ≡ o
last_opening-none published o p zero h = refl
last_opening-none published o p (suc k) h =
    ap (λ x. last_opening published (cond x (Some p) o) (range_with_len (p + 1) k)) (h p (omega arith) (omega arith))
    ∙ last_opening-none published o (p + 1) k (λ q low high. h q (omega arith) (omega arith))

-- what is found under the numbers of a run is the run
pub filter_map-run : (f : ℕ → Option ℕ) (p a k : ℕ) → ((i : ℕ) → a ≤ i → i < a + k → f i ≡ Some (p + i)) → filter_map f (range_with_len a k) ≡ range_with_len (p + a) k
filter_map-run f p a zero h = refl
filter_map-run f p a (suc k) h =
    let here : f a ≡ Some (p + a) = h a (omega arith) (omega arith) in
    let rest : filter_map f (range_with_len (a + 1) k) ≡ range_with_len (p + (a + 1)) k = filter_map-run f p (a + 1) k (λ i low high. h i (omega arith) (omega arith)) in
    let at : p + (a + 1) ≡ p + a + 1 = omega arith in
    rw (here, rest, at) refl

-- a member of a run
pub in_run : (q p k : ℕ) → contains q (range_with_len p k) ≡ true → (p ≤ q) × (q < p + k)
in_run q p zero e = absurd (true≢false (sym e))
in_run q p (suc k) e = elim (or_cases (eqb p q) (contains q (range_with_len (p + 1) k)) e) [
  | inl here ↦ (let i : p ≡ q = eqb-true p q here in (omega arith, omega arith))
  | inr later ↦ (let r : (p + 1 ≤ q) × (q < p + 1 + k) = in_run q (p + 1) k later in (omega arith, omega arith))
]

-- two runs, one after the other
pub range-append : (p k j : ℕ) → range_with_len p (k + j) ≡ range_with_len p k ++ range_with_len (p + k) j
range-append p zero j = (let e : 0 + j ≡ j = omega arith in let z : p + 0 ≡ p = omega arith in rw (e, z) refl)
range-append p (suc k) j =
    let e : suc k + j ≡ suc (k + j) = omega arith in
    let z : p + 1 + k ≡ p + suc k = omega arith in
    rw e (ap (λ x. p ∷ x) (range-append (p + 1) k j ∙ ap (λ x. range_with_len (p + 1) k ++ range_with_len x j) z))
