-- Lists: looking up, changing and testing what a list was made of.
use Rattle.std.proofs.Common.{◌≡◌, ℕ, Bool, true, false, ◌||◌, cond, eqb, List, [], ◌∷◌, ◌++◌, map, refl, sym, ◌∙◌, ap, inl, inr, append_assoc, Some, None, eq-eqb, ne_eqb, true≢false}
use Rattle.std.specs.List.{filter, find, list_any, flat_map, AllByRecursion}
use Rattle.std.specs.Option.{option_map}
use Rattle.std.proofs.lemmas.Bool.{cases_eq}

-- ---- tests

pub cond-ap : {X Y : Type 0} (f : X → Y) (b : Bool) (x y : X) → f (cond b x y) ≡ cond b (f x) (f y)
cond-ap f true x y = refl
cond-ap f false x y = refl

pub eqb-flip : (a b : ℕ) → eqb a b ≡ eqb b a
eqb-flip a b = elim (cases_eq a b) [
  | inl same ↦ eq-eqb a b same ∙ sym (eq-eqb b a (sym same))
  | inr other ↦ ne_eqb a b other ∙ sym (ne_eqb b a (λ same. other (sym same)))
]

pub eqb-is : (a b : ℕ) → eqb a b ≡ true → a ≡ b
eqb-is a b e = elim (cases_eq a b) [ inl same ↦ same | inr other ↦ absurd (true≢false (sym e ∙ ne_eqb a b other)) ]

pub eqb-self : (a : ℕ) → eqb a a ≡ true
eqb-self a = eq-eqb a a refl

-- ---- maps

pub map-same : {X Y : Type 0} (f g : X → Y) → ((x : X) → f x ≡ g x) → (xs : List X) → map f xs ≡ map g xs
map-same f g h [] = refl
map-same f g h (x ∷ xs) = ap (λ y. y ∷ map f xs) (h x) ∙ ap (λ ys. g x ∷ ys) (map-same f g h xs)

-- where the two agree on what is there
pub map-same_in : {X Y : Type 0} (f g : X → Y) (xs : List X) → AllByRecursion (λ x. f x ≡ g x) xs → map f xs ≡ map g xs
map-same_in f g [] h = refl
map-same_in f g (x ∷ xs) h = ap (λ y. y ∷ map f xs) h.0 ∙ ap (λ ys. g x ∷ ys) (map-same_in f g xs h.1)

pub map-map : {X Y Z : Type 0} (f : X → Y) (g : Y → Z) (k : X → Z) → ((x : X) → g (f x) ≡ k x) → (xs : List X) → map g (map f xs) ≡ map k xs
map-map f g k h [] = refl
map-map f g k h (x ∷ xs) = ap (λ z. z ∷ map g (map f xs)) (h x) ∙ ap (λ zs. k x ∷ zs) (map-map f g k h xs)

pub find-map : {X Y : Type 0} (f : X → Y) (p : Y → Bool) (q : X → Bool) → ((x : X) → p (f x) ≡ q x) → (xs : List X) → find p (map f xs) ≡ option_map f (find q xs)
find-map f p q h [] = refl
find-map f p q h (x ∷ xs) =
    ap (λ b. cond b (Some (f x)) (find p (map f xs))) (h x) ∙ ap (cond (q x) (Some (f x))) (find-map f p q h xs)
    ∙ sym (cond-ap (option_map f) (q x) (Some x) (find q xs))

pub any-map : {X Y : Type 0} (f : X → Y) (p : Y → Bool) (q : X → Bool) → ((x : X) → p (f x) ≡ q x) → (xs : List X) → list_any p (map f xs) ≡ list_any q xs
any-map f p q h [] = refl
any-map f p q h (x ∷ xs) = ap (λ b. b || list_any p (map f xs)) (h x) ∙ ap (λ b. q x || b) (any-map f p q h xs)

pub filter-map : {X Y : Type 0} (f : X → Y) (p : Y → Bool) (q : X → Bool) → ((x : X) → p (f x) ≡ q x) → (xs : List X) → filter p (map f xs) ≡ map f (filter q xs)
filter-map f p q h [] = refl
filter-map f p q h (x ∷ xs) =
    ap (λ b. cond b (f x ∷ filter p (map f xs)) (filter p (map f xs))) (h x)
    ∙ ap (λ ys. cond (q x) (f x ∷ ys) ys) (filter-map f p q h xs)
    ∙ sym (cond-ap (map f) (q x) (x ∷ filter q xs) (filter q xs))

pub flat_map-map : {X Y Z : Type 0} (f : X → Y) (g : Y → List Z) (k : X → List Z) → ((x : X) → g (f x) ≡ k x) → (xs : List X) → flat_map g (map f xs) ≡ flat_map k xs
flat_map-map f g k h [] = refl
flat_map-map f g k h (x ∷ xs) = ap (λ zs. zs ++ flat_map g (map f xs)) (h x) ∙ ap (λ zs. k x ++ zs) (flat_map-map f g k h xs)

pub flat_map-same : {X Z : Type 0} (g k : X → List Z) → ((x : X) → g x ≡ k x) → (xs : List X) → flat_map g xs ≡ flat_map k xs
flat_map-same g k h [] = refl
flat_map-same g k h (x ∷ xs) = ap (λ zs. zs ++ flat_map g xs) (h x) ∙ ap (λ zs. k x ++ zs) (flat_map-same g k h xs)

pub flat_map-append : {X Z : Type 0} (g : X → List Z) (xs ys : List X) → flat_map g (xs ++ ys) ≡ flat_map g xs ++ flat_map g ys
flat_map-append g [] ys = refl
flat_map-append g (x ∷ xs) ys = ap (λ zs. g x ++ zs) (flat_map-append g xs ys) ∙ sym (append_assoc (g x) (flat_map g xs) (flat_map g ys))

-- ---- what was found

-- what is found passes the test
pub found-passes : {X : Type 0} (p : X → Bool) (xs : List X) (x : X) → find p xs ≡ Some x → p x ≡ true
found-passes {X} p [] x e = absurd (none≢some e)
  where
    none≢some : {Y : Type 0} {y : Y} → None ≡ Some y → ⊥
    none≢some h = cc
found-passes {X} p (y ∷ ys) x e = by (p y) refl e (found-passes p ys x)
  where
    by : (b : Bool) → p y ≡ b → cond b (Some y) (find p ys) ≡ Some x → (find p ys ≡ Some x → p x ≡ true) → p x ≡ true
    by true is h rest = let same : y ≡ x = cc in ap p (sym same) ∙ is
    by false is h rest = rest h

-- ---- premises of each element

pub all-also : {X : Type 0} (P Q : X → Type 0) → ((x : X) → P x → Q x) → (xs : List X) → AllByRecursion P xs → AllByRecursion Q xs
all-also P Q f [] h = tt
all-also P Q f (x ∷ xs) h = (f x h.0, all-also P Q f xs h.1)

pub all-append : {X : Type 0} (P : X → Type 0) (xs ys : List X) → AllByRecursion P xs → AllByRecursion P ys → AllByRecursion P (xs ++ ys)
all-append P [] ys a b = b
all-append P (x ∷ xs) ys a b = (a.0, all-append P xs ys a.1 b)

pub all-filter : {X : Type 0} (P : X → Type 0) (p : X → Bool) (xs : List X) → AllByRecursion P xs → AllByRecursion P (filter p xs)
all-filter P p [] h = tt
all-filter {X} P p (x ∷ xs) h = by (p x) (all-filter P p xs h.1)
  where
    by : (b : Bool) → AllByRecursion P (filter p xs) → AllByRecursion P (cond b (x ∷ filter p xs) (filter p xs))
    by true rest = (h.0, rest)
    by false rest = rest

pub all-map : {X Y : Type 0} (P : Y → Type 0) (f : X → Y) (xs : List X) → AllByRecursion P (map f xs) → AllByRecursion (λ x. P (f x)) xs
all-map P f [] h = tt
all-map P f (x ∷ xs) h = (h.0, all-map P f xs h.1)

pub all-mapped : {X Y : Type 0} (P : Y → Type 0) (f : X → Y) (xs : List X) → AllByRecursion (λ x. P (f x)) xs → AllByRecursion P (map f xs)
all-mapped P f [] h = tt
all-mapped P f (x ∷ xs) h = (h.0, all-mapped P f xs h.1)

pub all-flat : {X Y : Type 0} (P : X → Type 0) (Q : Y → Type 0) (f : X → List Y) → ((x : X) → P x → AllByRecursion Q (f x)) → (xs : List X) → AllByRecursion P xs → AllByRecursion Q (flat_map f xs)
all-flat P Q f g [] h = tt
all-flat P Q f g (x ∷ xs) h = all-append Q (f x) (flat_map f xs) (g x h.0) (all-flat P Q f g xs h.1)
