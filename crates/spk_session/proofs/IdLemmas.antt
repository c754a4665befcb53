-- Lists of ids in use: they stay ids where one is added, where one is removed, and in front.
use Rattle.std.proofs.Common.{◌≡◌, ℕ, ◌<◌, ◌≤◌, Bool, true, false, not, ◌||◌, cond, eqb, ltb, List, [], ◌∷◌, ◌++◌, length, take, refl, sym, ◌∙◌, ap, arith, inl, inr, length-append, zero, suc}
use Rattle.std.specs.List.{list_any, filter, AllByRecursion, IsDistinct}
use Rattle.std.specs.Cmp.{IsEquivalence}
use Rattle.std.proofs.lemmas.Bool.{cases_eq, cases_Bool, eq-eqb, ne_eqb, true≢false, or_parts, lt-ltb, le-ltb}
use Rattle.std.proofs.lemmas.List.{length-take, length-take-le}
use Rattle.std.proofs.lemmas.List.Elements.{All-nil, All-take, All-push, All-filter}
use Rattle.std.proofs.lemmas.List.Sums.{length-filter, count_by-le-length}
use Rattle.std.proofs.lemmas.Map.Keys.{IsDistinct-push}
use Rattle.spk_session.specs.PacketIds.{is_in, IsId, AreIds, IsNextFree}
use Rattle.spk_session.specs.Step.{without}

pub eqb-flip : (a b : ℕ) → eqb a b ≡ eqb b a
eqb-flip a b = elim (cases_eq a b) [
  | inl same ↦ eq-eqb a b same ∙ sym (eq-eqb b a (sym same))
  | inr other ↦ ne_eqb a b other ∙ sym (ne_eqb b a (λ same. other (sym same)))
]

eqb-is : (a b : ℕ) → eqb a b ≡ true → a ≡ b
eqb-is a b e = elim (cases_eq a b) [ inl same ↦ same | inr other ↦ absurd (true≢false (sym e ∙ ne_eqb a b other)) ]

pub numbers : IsEquivalence eqb
numbers = record { refl = λ x. eq-eqb x x refl; symm = eqb-flip; congr = λ x y z e. ap (λ w. eqb w z) (eqb-is x y e) }

-- the test of a list, either way round
pub any-flip : (xs : List ℕ) (id : ℕ) → list_any (eqb id) xs ≡ is_in xs id
any-flip [] id = refl
any-flip (x ∷ xs) id = ap (λ b. b || list_any (eqb id) xs) (eqb-flip id x) ∙ ap (λ b. eqb x id || b) (any-flip xs id)

apart-take : (x n : ℕ) (xs : List ℕ) → AllByRecursion (λ y. eqb x y ≡ false) xs → AllByRecursion (λ y. eqb x y ≡ false) (take n xs)
apart-take x zero xs h = tt
apart-take x (suc n) [] h = tt
apart-take x (suc n) (y ∷ xs) h = (h.0, apart-take x n xs h.1)

distinct-take : (n : ℕ) (xs : List ℕ) → IsDistinct eqb xs → IsDistinct eqb (take n xs)
unfolding IsDistinct
distinct-take zero xs h = tt
distinct-take (suc n) [] h = tt
distinct-take (suc n) (x ∷ xs) h = (apart-take x n xs h.0, distinct-take n xs h.1)

apart-filter : (x : ℕ) (p : ℕ → Bool) (xs : List ℕ) → AllByRecursion (λ y. eqb x y ≡ false) xs → AllByRecursion (λ y. eqb x y ≡ false) (filter p xs)
apart-filter x p [] h = tt
apart-filter x p (y ∷ xs) h =
    elim (p y) as (λ b. AllByRecursion (λ z. eqb x z ≡ false) (cond b (y ∷ filter p xs) (filter p xs))) [ true ↦ (h.0, apart-filter x p xs h.1) | false ↦ apart-filter x p xs h.1 ]

distinct-filter : (p : ℕ → Bool) (xs : List ℕ) → IsDistinct eqb xs → IsDistinct eqb (filter p xs)
unfolding IsDistinct
distinct-filter p [] h = tt
distinct-filter p (x ∷ xs) h =
    elim (p x) as (λ b. IsDistinct eqb (cond b (x ∷ filter p xs) (filter p xs))) [ true ↦ (apart-filter x p xs h.0, distinct-filter p xs h.1) | false ↦ distinct-filter p xs h.1 ]

distinct-nil : IsDistinct eqb []
unfolding IsDistinct
distinct-nil = tt

pub ids-nil : AreIds []
ids-nil = record { few = omega arith; in_range = All-nil IsId; distinct = distinct-nil }

pub ids-take : (n : ℕ) (xs : List ℕ) → AreIds xs → AreIds (take n xs)
ids-take n xs h = record {
  few = omega (arith, length-take n xs, h.few);
  in_range = All-take IsId n xs h.in_range;
  distinct = distinct-take n xs h.distinct;
}

-- an id that isn't in use, behind the others
pub ids-push : (xs : List ℕ) (id : ℕ) → AreIds xs → length xs < 1024 → IsId id → is_in xs id ≡ false → AreIds (xs ++ id ∷ [])
ids-push xs id h room range free = record {
  few = omega (arith, length-append xs (id ∷ []));
  in_range = All-push IsId xs id h.in_range range;
  distinct = IsDistinct-push numbers xs id h.distinct (any-flip xs id ∙ free);
}

pub ids-next : (xs : List ℕ) (last id : ℕ) → AreIds xs → length xs < 1024 → IsNextFree xs last id → AreIds (xs ++ id ∷ [])
ids-next xs last id h room next = ids-push xs id h room (next.low, next.high) next.free

pub ids-filter : (p : ℕ → Bool) (xs : List ℕ) → AreIds xs → AreIds (filter p xs)
ids-filter p xs h = record {
  few = omega (arith, length-filter p xs, count_by-le-length p xs, h.few);
  in_range = All-filter p IsId xs h.in_range;
  distinct = distinct-filter p xs h.distinct;
}

pub ids-without : (id : ℕ) (xs : List ℕ) → AreIds xs → AreIds (without id xs)
ids-without id xs h = ids-filter (λ other. not (eqb other id)) xs h

-- fewer stay exactly where the id was in use
pub fewer-without : (id : ℕ) (xs : List ℕ) → length (without id xs) ≤ length xs
fewer-without id xs = omega (arith, length-filter (λ other. not (eqb other id)) xs, count_by-le-length (λ other. not (eqb other id)) xs)

-- an id that isn't in use leaves the others as they are
pub without-absent : (id : ℕ) (xs : List ℕ) → is_in xs id ≡ false → without id xs ≡ xs
without-absent id [] h = refl
without-absent id (x ∷ xs) h =
    let parts : (eqb x id ≡ false) × (is_in xs id ≡ false) = or_parts (eqb x id) (is_in xs id) h in
    let first : eqb x id ≡ false = parts.0 in
    rw first (ap (λ ys. x ∷ ys) (without-absent id xs parts.1))

-- one that is in use makes them fewer
pub fewer-present : (id : ℕ) (xs : List ℕ) → is_in xs id ≡ true → length (without id xs) < length xs
fewer-present id [] h = absurd (true≢false (sym h))
fewer-present id (x ∷ xs) h = elim (cases_Bool (eqb x id)) [
  | inl same ↦ rw same (let f : length (without id xs) ≤ length xs = fewer-without id xs in omega arith)
  | inr other ↦ rw other (let f : length (without id xs) < length xs = fewer-present id xs (ap (λ b. b || is_in xs id) (sym other) ∙ h) in omega arith)
]

pub fewer-is_in : (id : ℕ) (xs : List ℕ) → ltb (length (without id xs)) (length xs) ≡ is_in xs id
fewer-is_in id xs = elim (cases_Bool (is_in xs id)) [
  | inl some ↦ lt-ltb _ _ (fewer-present id xs some) ∙ sym some
  | inr none ↦ ap (λ ys. ltb (length ys) (length xs)) (without-absent id xs none) ∙ le-ltb (length xs) (length xs) (omega arith) ∙ sym none
]

-- the ids that stay in front of a table after one is removed, by their number
pub removed : (id count kept : ℕ) (old new : List ℕ) → count ≤ length old → kept ≤ length new → take kept new ≡ without id (take count old) → ltb kept count ≡ is_in (take count old) id
removed id count kept old new fits few front =
    let a : length (take kept new) ≡ kept = length-take-le kept new few in
    let b : length (take count old) ≡ count = length-take-le count old fits in
    ap (λ n. ltb n count) (sym a ∙ ap length front) ∙ ap (λ n. ltb (length (without id (take count old))) n) (sym b) ∙ fewer-is_in id (take count old)
