-- Lists that are filtered, mapped and summed up.
use Rattle.std.proofs.Common.{◌≡◌, ◌∙◌, ◌+◌, ◌<◌, ◌≤◌, ℕ, zero, suc, Bool, true, false, not, cond, List, [], ◌∷◌, ◌++◌, Some, None, map, length, take, drop, get_or, slice_get, refl, sym, ap, inl, inr, ◌⊎◌, arith, subst, ltb}
use Rattle.std.specs.Prelude.{◌||◌, ◌&&◌, count_by}
use Rattle.std.specs.List.{filter, find, list_any, position, position_or_len, remove, sum_by}
use Rattle.std.proofs.lemmas.Bool.{ltb-true, ltb-false}
use Rattle.std.proofs.lemmas.List.Filters.{sum_by-filter_both}
use Rattle.std.proofs.lemmas.List.Folds.{find_at}
use Rattle.std.proofs.lemmas.List.Sums.{sum_by-cons, passes_at_first, sum_by-le-sum_by}
use Rattle.std.proofs.lemmas.Option.{get_or_from_slice_get, slice_get_past, slice_get_cases, slice_get_within}

-- where one passes, one passes a wider test
pub any-wider : {X : Type 0} (p q : X → Bool) (xs : List X) → ((x : X) → p x ≡ true → q x ≡ true) → list_any p xs ≡ true → list_any q xs ≡ true
any-wider p q [] wider h = cc
any-wider {X} p q (x ∷ xs) wider h = by (p x) refl (q x) refl h (any-wider p q xs wider)
  where
    by : (b : Bool) → p x ≡ b → (c : Bool) → q x ≡ c → (b || list_any p xs) ≡ true → (list_any p xs ≡ true → list_any q xs ≡ true) → (c || list_any q xs) ≡ true
    by b is true also any rest = refl
    by true is false also any rest = cc (wider x is)
    by false is false also any rest = rest any

-- the last one passes
pub any-last : {X : Type 0} (p : X → Bool) (xs : List X) (x : X) → p x ≡ true → list_any p (xs ++ x ∷ []) ≡ true
any-last p [] x h = ap (λ b. b || false) h
any-last {X} p (y ∷ xs) x h = by (p y) (any-last p xs x h)
  where
    by : (b : Bool) → list_any p (xs ++ x ∷ []) ≡ true → (b || list_any p (xs ++ x ∷ [])) ≡ true
    by true rest = refl
    by false rest = rest

-- one that passes weighs
pub any-weighs : {X : Type 0} (p : X → Bool) (g : X → ℕ) (xs : List X) → ((x : X) → p x ≡ true → 1 ≤ g x) → list_any p xs ≡ true → 1 ≤ sum_by g xs
any-weighs p g [] weighs h = cc
any-weighs {X} p g (x ∷ xs) weighs h = by (p x) refl h (any-weighs p g xs weighs)
  where
    by : (b : Bool) → p x ≡ b → (b || list_any p xs) ≡ true → (list_any p xs ≡ true → 1 ≤ sum_by g xs) → 1 ≤ sum_by g (x ∷ xs)
    by true is any rest = omega (arith, weighs x is, sum_by-cons g x xs)
    by false is any rest = omega (arith, rest any, sum_by-cons g x xs)

-- some of what is mapped
pub any-map : {X Y : Type 0} (p : Y → Bool) (f : X → Y) (xs : List X) → list_any p (map f xs) ≡ list_any (λ x. p (f x)) xs
any-map p f [] = refl
any-map p f (x ∷ xs) = ap (λ b. p (f x) || b) (any-map p f xs)

-- what is filtered comes to no more
pub filter-less : {X : Type 0} (p : X → Bool) (g : X → ℕ) (xs : List X) → sum_by g (filter p xs) ≤ sum_by g xs
filter-less p g xs = omega (arith, sum_by-filter_both p (λ x. not (p x)) (λ x. refl) g xs)

-- what is filtered, summed up as it is
pub filter-sum : {X : Type 0} (p : X → Bool) (g : X → ℕ) (xs : List X) → sum_by g (filter p xs) ≡ sum_by (λ x. cond (p x) (g x) 0) xs
filter-sum p g [] = refl
filter-sum {X} p g (x ∷ xs) = by (p x) (filter-sum p g xs) ∙ sym (sum_by-cons (λ y. cond (p y) (g y) 0) x xs)
  where
    by : (b : Bool) → sum_by g (filter p xs) ≡ sum_by (λ y. cond (p y) (g y) 0) xs
        → sum_by g (cond b (x ∷ filter p xs) (filter p xs)) ≡ cond b (g x) 0 + sum_by (λ y. cond (p y) (g y) 0) xs
    by true rest = sum_by-cons g x (filter p xs) ∙ ap (λ n. g x + n) rest
    by false rest = omega (arith, rest)

-- three parts of a sum come to no more than the whole
pub three-parts : {X : Type 0} (a b c g : X → ℕ) → ((x : X) → a x + b x + c x ≤ g x) → (xs : List X) → sum_by a xs + sum_by b xs + sum_by c xs ≤ sum_by g xs
three-parts a b c g each [] = omega arith
three-parts a b c g each (x ∷ xs) =
    omega (arith, three-parts a b c g each xs, each x, sum_by-cons a x xs, sum_by-cons b x xs, sum_by-cons c x xs, sum_by-cons g x xs)

-- what is found comes to no more than all that pass
pub found-part : {X : Type 0} (p : X → Bool) (g : X → ℕ) (xs : List X) (x : X) → find p xs ≡ Some x → g x ≤ sum_by (λ y. cond (p y) (g y) 0) xs
found-part p g [] x h = cc
found-part {X} p g (y ∷ xs) x h = by (p y) refl h (found-part p g xs x)
  where
    by : (b : Bool) → p y ≡ b → cond b (Some y) (find p xs) ≡ Some x → (find p xs ≡ Some x → g x ≤ sum_by (λ z. cond (p z) (g z) 0) xs)
        → g x ≤ sum_by (λ z. cond (p z) (g z) 0) (y ∷ xs)
    by true is found rest =
        let same : y ≡ x = cc in
        omega (arith, ap g same, ap (λ b. cond b (g y) 0) is, sum_by-cons (λ z. cond (p z) (g z) 0) y xs)
    by false is found rest = omega (arith, rest found, sum_by-cons (λ z. cond (p z) (g z) 0) y xs)

-- what is found passes
pub found-passes : {X : Type 0} (p : X → Bool) (xs : List X) (x : X) → find p xs ≡ Some x → p x ≡ true
found-passes p [] x h = cc
found-passes {X} p (y ∷ xs) x h = by (p y) refl h (found-passes p xs x)
  where
    by : (b : Bool) → p y ≡ b → cond b (Some y) (find p xs) ≡ Some x → (find p xs ≡ Some x → p x ≡ true) → p x ≡ true
    by true is found rest =
        let same : y ≡ x = cc in
        ap p (sym same) ∙ is
    by false is found rest = rest found

-- what comes to the same of each, comes to the same of all
pub sum-mapped : {X : Type 0} (f : X → X) (g h : X → ℕ) (xs : List X) → ((x : X) → g (f x) ≡ h x) → sum_by g (map f xs) ≡ sum_by h xs
sum-mapped f g h [] same = refl
sum-mapped f g h (x ∷ xs) same = omega (arith, sum_by-cons g (f x) (map f xs), sum_by-cons h x xs, same x, sum-mapped f g h xs same)

pub sum-map : {X : Type 0} (f : X → X) (g : X → ℕ) (xs : List X) → ((x : X) → g (f x) ≡ g x) → sum_by g (map f xs) ≡ sum_by g xs
sum-map f g xs same = sum-mapped f g g xs same

-- what comes to no more of each, comes to no more of all
pub map-less : {X : Type 0} (f : X → X) (g : X → ℕ) (xs : List X) → ((x : X) → g (f x) ≤ g x) → sum_by g (map f xs) ≤ sum_by g xs
map-less f g [] less = omega arith
map-less f g (x ∷ xs) less = omega (arith, sum_by-cons g (f x) (map f xs), sum_by-cons g x xs, less x, map-less f g xs less)

-- what stands at a place that fails may as well be taken out
without-at : {X : Type 0} (p : X → Bool) (xs : List X) (i : ℕ) (d : X) → i < length xs → p (get_or xs i d) ≡ false → filter p (remove xs i) ≡ filter p xs
without-at p [] i d within fails = absurd (omega (arith, within))
without-at p (y ∷ xs) zero d within fails = sym (ap (λ b. cond b (y ∷ filter p xs) (filter p xs)) fails)
without-at p (y ∷ xs) (suc i) d within fails = ap (λ zs. cond (p y) (y ∷ zs) zs) (without-at p xs i d (omega (arith, within)) fails)

pub filter-without : {X : Type 0} (p : X → Bool) (xs : List X) (i : ℕ) (x : X) → slice_get xs i ≡ Some x → p x ≡ false → filter p (remove xs i) ≡ filter p xs
filter-without p xs i x at fails = without-at p xs i x (slice_get_within xs i x at) (ap p (get_or_from_slice_get xs i x x at) ∙ fails)

-- each of a list was changed
pub mapped-all : {X : Type 0} (f : X → X) (xs : List X) (i : ℕ) → length xs ≤ i → map f (take i xs) ++ drop i xs ≡ map f xs
mapped-all f [] zero le = refl
mapped-all f [] (suc i) le = refl
mapped-all f (x ∷ xs) zero le = absurd (omega (arith, le))
mapped-all f (x ∷ xs) (suc i) le = ap (λ ys. f x ∷ ys) (mapped-all f xs i (omega (arith, le)))

-- the first that passes, at its place

place-within : {X : Type 0} (p : X → Bool) (xs : List X) (k : ℕ) → position p xs ≡ Some k → (position_or_len p xs ≡ k) × (k < length xs)
place-within p xs k h = by (ltb (position_or_len p xs) (length xs)) refl h
  where
    by : (b : Bool) → ltb (position_or_len p xs) (length xs) ≡ b → cond b (Some (position_or_len p xs)) None ≡ Some k → (position_or_len p xs ≡ k) × (k < length xs)
    by true low is =
        let at : position_or_len p xs ≡ k = cc in
        (at, subst (λ n. n < length xs) at (ltb-true (position_or_len p xs) (length xs) low))
    by false low is = cc

-- an element stands there, which passes, and is found
pub placed : {X : Type 0} (p : X → Bool) (xs : List X) (k : ℕ) → position p xs ≡ Some k → (x : X) × (slice_get xs k ≡ Some x) × (p x ≡ true) × (find p xs ≡ Some x)
placed {X} p xs k h = by (place-within p xs k h) (slice_get_cases xs k).1
  where
    by : (position_or_len p xs ≡ k) × (k < length xs) → ((x : X) × (k < length xs) × (slice_get xs k ≡ Some x) × (get_or xs k x ≡ x)) ⊎ ((length xs ≤ k) × (slice_get xs k ≡ None))
        → (x : X) × (slice_get xs k ≡ Some x) × (p x ≡ true) × (find p xs ≡ Some x)
    by within (inl there) =
        let x = there.0 in
        let passes : p (get_or xs (position_or_len p xs) x) ≡ true = passes_at_first p xs x (subst (λ n. n < length xs) (sym within.0) within.1) in
        (x, there.2, ap p (sym (ap (λ n. get_or xs n x) within.0 ∙ there.3)) ∙ passes, find_at p xs ∙ ap (slice_get xs) within.0 ∙ there.2)
    by within (inr past) = absurd (omega (arith, within.1, past.0))

-- nothing that passes is found
pub unplaced : {X : Type 0} (p : X → Bool) (xs : List X) → position p xs ≡ None → find p xs ≡ None
unplaced p xs h = by (ltb (position_or_len p xs) (length xs)) refl h
  where
    by : (b : Bool) → ltb (position_or_len p xs) (length xs) ≡ b → cond b (Some (position_or_len p xs)) None ≡ None → find p xs ≡ None
    by true low is = cc
    by false low is = find_at p xs ∙ slice_get_past xs (position_or_len p xs) (ltb-false _ _ low)

-- what comes to the same of each, comes to the same of all
pub sum-same : {X : Type 0} (f g : X → ℕ) (xs : List X) → ((x : X) → f x ≡ g x) → sum_by f xs ≡ sum_by g xs
sum-same f g xs same = omega (arith, sum_by-le-sum_by f g xs (λ x. omega (arith, same x)), sum_by-le-sum_by g f xs (λ x. omega (arith, same x)))

-- what goes weighed nothing
pub filter-keeps : {X : Type 0} (p : X → Bool) (g : X → ℕ) (xs : List X) → ((x : X) → p x ≡ false → g x ≡ 0) → sum_by g (filter p xs) ≡ sum_by g xs
filter-keeps {X} p g xs light = filter-sum p g xs ∙ sum-same (λ x. cond (p x) (g x) 0) g xs (λ x. each x (p x) refl)
  where
    each : (x : X) (b : Bool) → p x ≡ b → cond b (g x) 0 ≡ g x
    each x true is = refl
    each x false is = sym (light x is)

-- of those that go none has a weight
pub any-keeps : {X : Type 0} (q r : X → Bool) (g : X → ℕ) (xs : List X) → ((x : X) → r x ≡ false → g x ≡ 0) → list_any (λ x. q x && r x) xs ≡ false
    → sum_by g (filter (λ x. not (q x)) xs) ≡ sum_by g xs
any-keeps q r g [] light none = refl
any-keeps {X} q r g (x ∷ xs) light none = by (q x) (r x) refl none (any-keeps q r g xs light)
  where
    by : (b c : Bool) → r x ≡ c → ((b && c) || list_any (λ y. q y && r y) xs) ≡ false
        → (list_any (λ y. q y && r y) xs ≡ false → sum_by g (filter (λ y. not (q y)) xs) ≡ sum_by g xs)
        → sum_by g (cond (not b) (x ∷ filter (λ y. not (q y)) xs) (filter (λ y. not (q y)) xs)) ≡ sum_by g (x ∷ xs)
    by true true is none rest = cc
    by true false is none rest = omega (arith, rest none, light x is, sum_by-cons g x xs)
    by false c is none rest = omega (arith, rest none, sum_by-cons g x xs, sum_by-cons g x (filter (λ y. not (q y)) xs))

-- none of those that are found
pub any-found : {X : Type 0} (q r : X → Bool) (xs : List X) (x : X) → list_any (λ y. q y && r y) xs ≡ false → find q xs ≡ Some x → r x ≡ false
any-found q r [] x none h = cc
any-found {X} q r (y ∷ xs) x none h = by (q y) (r y) refl none h (any-found q r xs x)
  where
    by : (b c : Bool) → r y ≡ c → ((b && c) || list_any (λ z. q z && r z) xs) ≡ false → cond b (Some y) (find q xs) ≡ Some x
        → (list_any (λ z. q z && r z) xs ≡ false → find q xs ≡ Some x → r x ≡ false) → r x ≡ false
    by true true is none found rest = cc
    by true false is none found rest =
        let same : y ≡ x = cc in
        ap r (sym same) ∙ is
    by false c is none found rest = rest none found

-- nothing is left of what goes
pub none-left : {X : Type 0} (p : X → Bool) (xs : List X) → count_by p (filter (λ x. not (p x)) xs) ≡ 0
none-left p [] = refl
none-left {X} p (x ∷ xs) = by (p x) refl (none-left p xs)
  where
    by : (b : Bool) → p x ≡ b → count_by p (filter (λ y. not (p y)) xs) ≡ 0 → count_by p (cond (not b) (x ∷ filter (λ y. not (p y)) xs) (filter (λ y. not (p y)) xs)) ≡ 0
    by true is rest = rest
    by false is rest =
        let count : Bool → ℕ = λ b. cond b 1 0 in
        omega (arith, rest, ap count is, sum_by-cons (λ y. count (p y)) x (filter (λ y. not (p y)) xs))

-- filtered by two tests, one after the other
pub filter-twice : {X : Type 0} (p q : X → Bool) (xs : List X) → filter (λ x. p x && q x) xs ≡ filter q (filter p xs)
filter-twice p q [] = refl
filter-twice {X} p q (x ∷ xs) = by (p x) (filter-twice p q xs)
  where
    by : (b : Bool) → filter (λ y. p y && q y) xs ≡ filter q (filter p xs)
        → cond (b && q x) (x ∷ filter (λ y. p y && q y) xs) (filter (λ y. p y && q y) xs) ≡ filter q (cond b (x ∷ filter p xs) (filter p xs))
    by true rest = ap (λ ys. cond (q x) (x ∷ ys) ys) rest
    by false rest = rest
