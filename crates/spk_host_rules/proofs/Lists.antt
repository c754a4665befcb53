-- Lists: mapping and finding, in the shapes that the other lemmas need.
use Rattle.std.proofs.Common.{◌≡◌, ℕ, Bool, true, false, cond, List, [], ◌∷◌, map, refl, sym, ◌∙◌, ap, Some, None}
use Rattle.std.specs.List.{find}
use Rattle.std.specs.Option.{option_map}
use Rattle.std.specs.Str.{bytes_eq}
use Rattle.std.proofs.lemmas.Slice.Eq.{bytes_eq-Decides}

pub cond-ap : {X Y : Type 0} (f : X → Y) (b : Bool) (x y : X) → f (cond b x y) ≡ cond b (f x) (f y)
cond-ap f true x y = refl
cond-ap f false x y = refl

pub map-map : {X Y Z : Type 0} (f : X → Y) (g : Y → Z) (k : X → Z) → ((x : X) → g (f x) ≡ k x) → (xs : List X) → map g (map f xs) ≡ map k xs
map-map f g k h [] = refl
map-map f g k h (x ∷ xs) = ap (λ z. z ∷ map g (map f xs)) (h x) ∙ ap (λ zs. k x ∷ zs) (map-map f g k h xs)

pub map-id : {X : Type 0} (f : X → X) → ((x : X) → f x ≡ x) → (xs : List X) → map f xs ≡ xs
map-id f h [] = refl
map-id f h (x ∷ xs) = ap (λ z. z ∷ map f xs) (h x) ∙ ap (λ zs. x ∷ zs) (map-id f h xs)

-- what is found among elements that were changed, by a test that the change leaves alone
pub find-map : {X Y : Type 0} (f : X → Y) (p : Y → Bool) (q : X → Bool) → ((x : X) → p (f x) ≡ q x) → (xs : List X) → find p (map f xs) ≡ option_map f (find q xs)
find-map f p q h [] = refl
find-map f p q h (x ∷ xs) =
    ap (λ b. cond b (Some (f x)) (find p (map f xs))) (h x) ∙ ap (cond (q x) (Some (f x))) (find-map f p q h xs)
    ∙ sym (cond-ap (option_map f) (q x) (Some x) (find q xs))

pub none≢some : {Y : Type 0} {y : Y} → None ≡ Some y → ⊥
none≢some h = cc

-- what is found passes the test
pub found-passes : {X : Type 0} (p : X → Bool) (xs : List X) (x : X) → find p xs ≡ Some x → p x ≡ true
found-passes {X} p [] x e = absurd (none≢some e)
found-passes {X} p (y ∷ ys) x e = by (p y) refl e (found-passes p ys x)
  where
    by : (b : Bool) → p y ≡ b → cond b (Some y) (find p ys) ≡ Some x → (find p ys ≡ Some x → p x ≡ true) → p x ≡ true
    by true is h rest = let same : y ≡ x = cc in ap p (sym same) ∙ is
    by false is h rest = rest h

-- ---- texts

pub same-text : (a b : List ℕ) → bytes_eq a b ≡ true → a ≡ b
same-text a b h = (bytes_eq-Decides a b).0 h

pub text-itself : (a : List ℕ) → bytes_eq a a ≡ true
text-itself a = (bytes_eq-Decides a a).1 refl
