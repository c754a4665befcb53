-- Places in lists: one element that changes, one that is found, texts that are compared.
use Rattle.std.proofs.Common.{◌≡◌, ◌⊎◌, ◌∙◌, sym, ap, refl, inl, inr, ℕ, zero, suc, Bool, true, false, cond, List, [], ◌∷◌, ◌++◌, map, length, set, take, drop, get_or, Option, Some, None, Bor, nat_lt, arith, true≢false}
use Rattle.std.specs.List.{find, list_any}
use Rattle.std.specs.Prelude.{◌+◌, ◌<◌, ◌≤◌, ◌||◌, slice_get, is_some, IfSome}
use Rattle.std.specs.Str.{bytes_eq}
use Rattle.std.proofs.lemmas.Slice.Eq.{bytes_eq-Decides}
use Rattle.std.proofs.lemmas.List.{append-nil, at_drop_more, drop_all, take_all}
use Rattle.std.proofs.lemmas.Option.{slice_get_read, slice_get_within}
use Rattle.std.proofs.lemmas.Bool.Decides.{nat_tests}
use Rattle.std.specs.Option.{option_copied}
use Rattle.spk_view.specs.Indexed.{IsPlaceOf}

pub none≢some : {X : Type 0} {x : X} → None ≡ Some x → ⊥
none≢some h = cc

pub same-some : {X : Type 0} {x y : X} → Some x ≡ Some y → x ≡ y
same-some h = cc

-- ---- texts

pub same-text : (a b : List ℕ) → bytes_eq a b ≡ true → a ≡ b
same-text a b h = (bytes_eq-Decides a b).0 h

pub text-itself : (a b : List ℕ) → a ≡ b → bytes_eq a b ≡ true
text-itself a b h = (bytes_eq-Decides a b).1 h

pub not-true : (b : Bool) → (b ≡ true → ⊥) → b ≡ false
not-true true h = absurd (h refl)
not-true false h = refl

pub true-not : (b : Bool) → b ≡ false → b ≡ true → ⊥
true-not true h k = absurd (true≢false h)
true-not false h k = absurd (true≢false (sym k))

pub text-turned : (a b : List ℕ) → bytes_eq a b ≡ bytes_eq b a
text-turned a b = by (bytes_eq a b) refl (bytes_eq b a) refl
  where
    by : (x : Bool) → bytes_eq a b ≡ x → (y : Bool) → bytes_eq b a ≡ y → x ≡ y
    by true h true k = refl
    by false h false k = refl
    by true h false k = absurd (true-not _ k (text-itself b a (sym (same-text a b h))))
    by false h true k = absurd (true-not _ h (text-itself a b (sym (same-text b a k))))

-- ---- one element changes

pub map-still : {X : Type 0} (f : X → X) (xs : List X) → ((k : ℕ) (y : X) → slice_get xs k ≡ Some y → f y ≡ y) → map f xs ≡ xs
map-still f [] h = refl
map-still f (y ∷ xs) h = ap (λ z. z ∷ map f xs) (h 0 y refl) ∙ ap (λ l. y ∷ l) (map-still f xs (λ k z g. h (suc k) z g))

pub map-at : {X : Type 0} (f : X → X) (xs : List X) (p : ℕ) (x : X) → slice_get xs p ≡ Some x
    → ((k : ℕ) (y : X) → slice_get xs k ≡ Some y → (k ≡ p → ⊥) → f y ≡ y) → map f xs ≡ set xs p (f x)
map-at f [] p x h others = absurd (none≢some h)
map-at f (y ∷ xs) zero x h others =
    ap (λ z. f z ∷ map f xs) (same-some h) ∙ ap (λ l. f x ∷ l) (map-still f xs (λ k z g. others (suc k) z g (λ e. absurd (omega arith))))
map-at f (y ∷ xs) (suc p) x h others =
    ap (λ z. z ∷ map f xs) (others 0 y refl (λ e. absurd (omega arith)))
    ∙ ap (λ l. y ∷ l) (map-at f xs p x h (λ k z g off. others (suc k) z g (λ e. off (omega arith))))

pub set-sees : {X : Type 0} (xs : List X) (n : ℕ) (y : X) (m : ℕ) (x : X) → slice_get (set xs n y) m ≡ Some x
    → ((m ≡ n) × (x ≡ y)) ⊎ ((m ≡ n → ⊥) × (slice_get xs m ≡ Some x))
set-sees [] n y m x h = cc
set-sees (z ∷ xs) zero y zero x h = inl (refl, cc)
set-sees (z ∷ xs) zero y (suc m) x h = inr ((λ e. absurd (omega arith)), h)
set-sees (z ∷ xs) (suc n) y zero x h = inr ((λ e. absurd (omega arith)), h)
set-sees (z ∷ xs) (suc n) y (suc m) x h = later (set-sees xs n y m x h)
  where
    later : ((m ≡ n) × (x ≡ y)) ⊎ ((m ≡ n → ⊥) × (slice_get xs m ≡ Some x))
        → ((suc m ≡ suc n) × (x ≡ y)) ⊎ ((suc m ≡ suc n → ⊥) × (slice_get xs m ≡ Some x))
    later (inl (e, is)) = inl (ap suc e, is)
    later (inr (off, k)) = inr ((λ e. off (omega arith)), k)

-- what stands there after a write, and elsewhere
pub set-there : {X : Type 0} (xs : List X) (n : ℕ) (y x : X) → slice_get xs n ≡ Some x → slice_get (set xs n y) n ≡ Some y
set-there [] n y x h = absurd (none≢some h)
set-there (z ∷ xs) zero y x h = refl
set-there (z ∷ xs) (suc n) y x h = set-there xs n y x h

pub set-other : {X : Type 0} (xs : List X) (n : ℕ) (y : X) (m : ℕ) → (m ≡ n → ⊥) → slice_get (set xs n y) m ≡ slice_get xs m
set-other [] n y m off = refl
set-other (z ∷ xs) zero y zero off = absurd (off refl)
set-other (z ∷ xs) zero y (suc m) off = refl
set-other (z ∷ xs) (suc n) y zero off = refl
set-other (z ∷ xs) (suc n) y (suc m) off = set-other xs n y m (λ e. off (omega arith))

pub append-sees : {X : Type 0} (xs : List X) (y : X) (m : ℕ) (x : X) → slice_get (xs ++ y ∷ []) m ≡ Some x
    → ((m ≡ length xs) × (x ≡ y)) ⊎ (slice_get xs m ≡ Some x)
append-sees [] y zero x h = inl (refl, cc)
append-sees [] y (suc m) x h = cc
append-sees (z ∷ xs) y zero x h = inr h
append-sees (z ∷ xs) y (suc m) x h = later (append-sees xs y m x h)
  where
    later : ((m ≡ length xs) × (x ≡ y)) ⊎ (slice_get xs m ≡ Some x) → ((suc m ≡ suc (length xs)) × (x ≡ y)) ⊎ (slice_get xs m ≡ Some x)
    later (inl (e, is)) = inl (ap suc e, is)
    later (inr k) = inr k

pub append-old : {X : Type 0} (xs : List X) (y : X) (m : ℕ) (x : X) → slice_get xs m ≡ Some x → slice_get (xs ++ y ∷ []) m ≡ Some x
append-old [] y m x h = absurd (none≢some h)
append-old (z ∷ xs) y zero x h = h
append-old (z ∷ xs) y (suc m) x h = append-old xs y m x h

pub append-new : {X : Type 0} (xs : List X) (y : X) → slice_get (xs ++ y ∷ []) (length xs) ≡ Some y
append-new [] y = refl
append-new (z ∷ xs) y = append-new xs y

pub map-sees : {X : Type 0} (f : X → X) (xs : List X) (k : ℕ) (y : X) → slice_get (map f xs) k ≡ Some y
    → (x : X) × (slice_get xs k ≡ Some x) × (y ≡ f x)
map-sees f [] k y h = absurd (none≢some h)
map-sees f (x ∷ xs) zero y h = (x, refl, sym (same-some h))
map-sees f (x ∷ xs) (suc k) y h = map-sees f xs k y h

-- ---- one element is found

pub find-none : {X : Type 0} (p : X → Bool) (xs : List X) → ((k : ℕ) (x : X) → slice_get xs k ≡ Some x → p x ≡ false) → find p xs ≡ None
find-none p [] h = refl
find-none p (x ∷ xs) h = ap (λ b. cond b (Some x) (find p xs)) (h 0 x refl) ∙ find-none p xs (λ k y g. h (suc k) y g)

pub find-at : {X : Type 0} (p : X → Bool) (xs : List X) (k : ℕ) (x : X) → slice_get xs k ≡ Some x → p x ≡ true
    → ((j : ℕ) (y : X) → slice_get xs j ≡ Some y → p y ≡ true → j ≡ k) → find p xs ≡ Some x
find-at p [] k x h is only = absurd (none≢some h)
find-at p (y ∷ xs) zero x h is only =
    let same : y ≡ x = same-some h in
    ap (λ b. cond b (Some y) (find p xs)) (ap p same ∙ is) ∙ ap Some same
find-at p (y ∷ xs) (suc k) x h is only =
    ap (λ b. cond b (Some y) (find p xs)) (not-true (p y) (λ e. absurd (far (only 0 y refl e))))
    ∙ find-at p xs k x h is (λ j z g e. back (only (suc j) z g e))
  where
    far : 0 ≡ suc k → ⊥
    far e = absurd (omega arith)

    back : {j : ℕ} → suc j ≡ suc k → j ≡ k
    back e = omega arith

pub any-none : {X : Type 0} (p : X → Bool) (xs : List X) → ((k : ℕ) (x : X) → slice_get xs k ≡ Some x → p x ≡ false) → list_any p xs ≡ false
any-none p [] h = refl
any-none p (x ∷ xs) h = ap (λ b. b || list_any p xs) (h 0 x refl) ∙ any-none p xs (λ k y g. h (suc k) y g)

pub any-at : {X : Type 0} (p : X → Bool) (xs : List X) (k : ℕ) (x : X) → slice_get xs k ≡ Some x → p x ≡ true → list_any p xs ≡ true
any-at p [] k x h is = absurd (none≢some h)
any-at p (y ∷ xs) zero x h is = ap (λ b. b || list_any p xs) (ap p (same-some h) ∙ is)
any-at p (y ∷ xs) (suc k) x h is = by (p y) (any-at p xs k x h is)
  where
    by : (b : Bool) → list_any p xs ≡ true → (b || list_any p xs) ≡ true
    by true rest = refl
    by false rest = rest

-- whether there is one
pub any-place : {X : Type 0} (p : X → Bool) (xs : List X) (o : Option ℕ) → IsPlaceOf p xs o → list_any p xs ≡ is_some o
any-place p xs None h = any-none p xs h
any-place p xs (Some k) h = any-at p xs k h.0 h.1 h.2

-- ---- one element after the other

-- the first n are mapped
abbrev pub mapped : {X : Type 0} → (X → X) → ℕ → List X → List X
mapped f zero xs = xs
mapped f (suc n) [] = []
mapped f (suc n) (x ∷ xs) = f x ∷ mapped f n xs

mapped-get : {X : Type 0} (f : X → X) (xs : List X) (i : ℕ) (x : X) → slice_get (mapped f i xs) i ≡ Some x → set (mapped f i xs) i (f x) ≡ mapped f (suc i) xs
mapped-get f [] zero x h = refl
mapped-get f [] (suc i) x h = refl
mapped-get f (y ∷ xs) zero x h = ap (λ z. f z ∷ xs) (sym (same-some h))
mapped-get f (y ∷ xs) (suc i) x h = ap (λ l. f y ∷ l) (mapped-get f xs i x h)

-- one more
pub mapped-more : {X : Type 0} (f : X → X) (xs now : List X) (i : ℕ) (x : X) → now ≡ mapped f i xs → i < length now → x ≡ get_or now i x
    → set now i (f x) ≡ mapped f (i + 1) xs
mapped-more f xs now i x is low at =
    let there : slice_get (mapped f i xs) i ≡ Some x = ap (λ l. slice_get l i) (sym is) ∙ slice_get_read now (length now) i x refl low at in
    let same : suc i ≡ i + 1 = omega arith in
    ap (λ l. set l i (f x)) is ∙ mapped-get f xs i x there ∙ ap (λ k. mapped f k xs) same

-- all
pub mapped-all : {X : Type 0} (f : X → X) (xs : List X) (i : ℕ) → length xs ≤ i → mapped f i xs ≡ map f xs
mapped-all f [] zero low = refl
mapped-all f [] (suc i) low = refl
mapped-all f (x ∷ xs) zero low = absurd (no-room low)
  where
    no-room : suc (length xs) ≤ 0 → ⊥
    no-room h = absurd (omega arith)
mapped-all f (x ∷ xs) (suc i) low = ap (λ l. f x ∷ l) (mapped-all f xs i (omega arith))

-- a slice that was lent whole
pub lent-whole : {X : Type 0} (n : ℕ) (new old : List X) → n ≡ length old → length new ≡ length old → take n (new ++ drop (length new) old) ≡ new
lent-whole n new old is same =
    ap (λ l. take n (new ++ l)) (drop_all (length new) old (omega arith)) ∙ ap (take n) (append-nil new) ∙ take_all n new (omega arith)

-- ---- any, from a place on

pub any-more : {X Y : Type 0} (v : X → Y) (p : Y → Bool) (xs : List X) (i : ℕ) (x : X) (b : Bool) → i < length xs → x ≡ get_or xs i x → b ≡ p (v x)
    → list_any p (map v (drop i xs)) ≡ (b || list_any p (map v (drop (i + 1) xs)))
any-more {X} v p xs i x b low at is =
    at_drop_more (λ l. list_any p (map v l)) xs i x low
    ∙ ap (λ (y : X). p (v y) || list_any p (map v (drop (i + 1) xs))) (sym at)
    ∙ ap (λ c. c || list_any p (map v (drop (i + 1) xs))) (sym is)

-- ---- what was lent of a list

pub got : {X : Type 0} (o : Option (Bor X)) (xs : List X) (k : ℕ) (x : X) → slice_get xs k ≡ Some x → is_some o ≡ nat_lt k (length xs)
    → IfSome o (λ y. y.now ≡ get_or xs k y.now) → option_copied o ≡ Some x
got None xs k x at has is =
    let low = slice_get_within xs k x at in
    absurd (never k (length xs) low has)
  where
    never : (k n : ℕ) → k < n → false ≡ nat_lt k n → ⊥
    never k n low h = grind (arith, nat_tests)
got (Some y) xs k x at has is =
    sym (slice_get_read xs (length xs) k y.now refl (slice_get_within xs k x at) is) ∙ at
