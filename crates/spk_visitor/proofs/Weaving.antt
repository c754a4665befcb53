-- The codes of a SUBACK.
use Rattle.std.proofs.Common.{◌≡◌, ap, refl, ℕ, List, [], ◌∷◌, Bool, true, false, map}
use Rattle.std.specs.Prelude.{if◌then◌else◌}
use Rattle.std.specs.List.{filter}
use Rattle.spk_visitor.specs.Replies.{woven}

woven_here : {X : Type 0} (b : Bool) (f : X → Bool) (g : X → ℕ) (e : X) (es : List X) → f e ≡ b
    → woven (map f es) (map g (filter f es)) ≡ map (λ x. if f x then g x else 128) es
    → woven (map f (e ∷ es)) (map g (filter f (e ∷ es))) ≡ map (λ x. if f x then g x else 128) (e ∷ es)
woven_here true f g e es is ih = rw is (ap (λ xs. g e ∷ xs) ih)
woven_here false f g e es is ih = rw is (ap (λ xs. 128 ∷ xs) ih)

-- each entry has its own
pub woven-is : {X : Type 0} (f : X → Bool) (g : X → ℕ) (es : List X) → woven (map f es) (map g (filter f es)) ≡ map (λ x. if f x then g x else 128) es
woven-is f g [] = refl
woven-is f g (e ∷ es) = woven_here (f e) f g e es refl (woven-is f g es)
