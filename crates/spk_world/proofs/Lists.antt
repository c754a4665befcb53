-- Lists: their last elements, what stands at a place, and what all of them are.
use Rattle.std.proofs.Common.{◌≡◌, ◌∙◌, sym, ap, refl, ℕ, zero, suc, ◌+◌, ◌-◌, ◌<◌, ◌≤◌, Bool, true, false, ◌&&◌, cond, List, [], ◌∷◌, ◌++◌, length, map, set, take, get_or, Option, Some, None, arith}
use Rattle.std.specs.Prelude.{slice_get, Result, Ok, Err, IfOk, IfErr, OnErr}
use Rattle.std.specs.List.{last_or, list_all}
use Rattle.std.specs.Option.{unwrap_or}
use Rattle.spk_world_run.specs.Step.{or_zero}

-- ---- the last element

pub last-append : {A : Type 0} (o : Option A) (xs : List A) (x : A) → last_or o (xs ++ x ∷ []) ≡ Some x
last-append o [] x = refl
last-append o (y ∷ xs) x = last-append (Some y) xs x

pub last-get : {A : Type 0} (o : Option A) (x : A) (xs : List A) → slice_get (x ∷ xs) (length xs) ≡ last_or o (x ∷ xs)
last-get o x [] = refl
last-get o x (y ∷ xs) = last-get (Some x) y xs

pub last-place : {A : Type 0} (xs : List A) → slice_get xs (length xs - 1) ≡ last_or None xs
last-place [] = refl
last-place (x ∷ xs) = let e : length (x ∷ xs) - 1 ≡ length xs = omega arith in ap (slice_get (x ∷ xs)) e ∙ last-get None x xs

pub unwrap-zero : (o : Option ℕ) → unwrap_or o 0 ≡ or_zero o
unwrap-zero None = refl
unwrap-zero (Some n) = refl

-- ---- the first elements of a list, mapped

pub map-set : {X Y : Type 0} (f : X → Y) (xs : List X) (i : ℕ) (x : X) → map f (set xs i x) ≡ set (map f xs) i (f x)
map-set f [] zero x = refl
map-set f [] (suc i) x = refl
map-set f (y ∷ xs) zero x = refl
map-set f (y ∷ xs) (suc i) x = ap (λ l. f y ∷ l) (map-set f xs i x)

abbrev pub mapped : {X : Type 0} → (X → X) → ℕ → List X → List X
mapped f zero xs = xs
mapped f (suc n) [] = []
mapped f (suc n) (x ∷ xs) = f x ∷ mapped f n xs

mapped-at : {X : Type 0} (y : X) (xs : List X) (i : ℕ) → set (mapped (λ x. y) i xs) i y ≡ mapped (λ x. y) (suc i) xs
mapped-at y [] zero = refl
mapped-at y [] (suc i) = refl
mapped-at y (x ∷ xs) zero = refl
mapped-at y (x ∷ xs) (suc i) = ap (λ l. y ∷ l) (mapped-at y xs i)

-- one more is a constant
pub mapped-more : {X : Type 0} (y : X) (xs now : List X) (i : ℕ) → now ≡ mapped (λ x. y) i xs → i < length now → set now i y ≡ mapped (λ x. y) (i + 1) xs
mapped-more y xs now i is low =
    let same : suc i ≡ i + 1 = omega arith in
    ap (λ l. set l i y) is ∙ mapped-at y xs i ∙ ap (λ k. mapped (λ x. y) k xs) same

-- all
pub mapped-all : {X : Type 0} (f : X → X) (xs : List X) (i : ℕ) → length xs ≤ i → mapped f i xs ≡ map f xs
mapped-all f [] zero low = refl
mapped-all f [] (suc i) low = refl
mapped-all f (x ∷ xs) zero low = absurd (no-room low)
  where
    no-room : suc (length xs) ≤ 0 → ⊥
    no-room h = absurd (omega arith)
mapped-all f (x ∷ xs) (suc i) low = ap (λ l. f x ∷ l) (mapped-all f xs i (omega arith))

-- ---- what stands at a place

pub same-some : {X : Type 0} {x y : X} → Some x ≡ Some y → x ≡ y
same-some h = cc

pub get-map : {X Y : Type 0} (f : X → Y) (xs : List X) (i : ℕ) (x : X) → slice_get xs i ≡ Some x → slice_get (map f xs) i ≡ Some (f x)
get-map f [] i x h = cc
get-map f (y ∷ xs) zero x h = ap (λ z. Some (f z)) (same-some h)
get-map f (y ∷ xs) (suc i) x h = get-map f xs i x h

pub set-same : {X : Type 0} (xs : List X) (i : ℕ) (x : X) → slice_get xs i ≡ Some x → set xs i x ≡ xs
set-same [] i x h = cc
set-same (y ∷ xs) zero x h = ap (λ z. z ∷ xs) (sym (same-some h))
set-same (y ∷ xs) (suc i) x h = ap (λ l. y ∷ l) (set-same xs i x h)

pub take-at : {X Y : Type 0} (f : X → Y) (xs : List X) (i : ℕ) (x : X) → slice_get xs i ≡ Some x → map f (take (suc i) xs) ≡ map f (take i xs) ++ f x ∷ []
take-at f [] i x h = cc
take-at f (y ∷ xs) zero x h = ap (λ z. f z ∷ []) (same-some h)
take-at f (y ∷ xs) (suc i) x h = ap (λ l. f y ∷ l) (take-at f xs i x h)

-- ---- what all are

and-parts : (a b : Bool) → a && b ≡ true → (a ≡ true) × (b ≡ true)
and-parts true b h = (refl, h)
and-parts false b h = cc

pub all-set : {X : Type 0} (p : X → Bool) (xs : List X) (i : ℕ) (x : X) → list_all p xs ≡ true → p x ≡ true → list_all p (set xs i x) ≡ true
all-set p [] zero x all passes = all
all-set p [] (suc i) x all passes = all
all-set p (y ∷ xs) zero x all passes = ap (λ b. b && list_all p xs) passes ∙ (and-parts (p y) (list_all p xs) all).1
all-set p (y ∷ xs) (suc i) x all passes =
    let parts = and-parts (p y) (list_all p xs) all in
    ap (λ b. b && list_all p (set xs i x)) parts.0 ∙ all-set p xs i x parts.1 passes

pub all-get : {X : Type 0} (p : X → Bool) (xs : List X) (i : ℕ) (x : X) → list_all p xs ≡ true → slice_get xs i ≡ Some x → p x ≡ true
all-get p [] i x all there = cc
all-get p (y ∷ xs) zero x all there = ap p (sym (same-some there)) ∙ (and-parts (p y) (list_all p xs) all).0
all-get p (y ∷ xs) (suc i) x all there = all-get p xs i x (and-parts (p y) (list_all p xs) all).1 there

-- ---- results

pub if-ok : {T E : Type 0} {P Q : T → Type 0} (r : Result T E) → IfOk r P → ((x : T) → P x → Q x) → IfOk r Q
if-ok (Ok x) h f = f x h
if-ok (Err e) h f = h

pub if-err : {T E : Type 0} {P Q : E → Type 0} (r : Result T E) → IfErr r P → ((e : E) → P e → Q e) → IfErr r Q
if-err (Ok x) h f = h
if-err (Err e) h f = f e h

pub on-err-both : {T E : Type 0} {P Q R : Type 0} (r : Result T E) → OnErr r P → OnErr r Q → (P → Q → R) → OnErr r R
on-err-both (Ok x) h k f = h
on-err-both (Err e) h k f = f h k
