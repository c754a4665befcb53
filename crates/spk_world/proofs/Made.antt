-- Nodes and hosts, made one after another.
use Rattle.std.proofs.Common.{◌≡◌, ◌∙◌, sym, ap, refl, ℕ, ◌+◌, Bool, true, false, cond, List, [], ◌∷◌, ◌++◌, length, map, append_assoc}
use Rattle.std.specs.Prelude.{not, ◌&&◌, ◌||◌}
use Rattle.std.specs.List.{list_all, list_any}
use Rattle.spk_edge_rules.specs.Config.{Config}
use Rattle.spk_world_run.specs.Data.{NodePart}
use Rattle.spk_world.specs.Fresh.{are_apart, are_namesakes}

-- what is there and the rest is all, also with one more
pub joins-more : {X Y : Type 0} (f : X → Y) (x : X) (y : Y) (old new : List Y) (rest xs : List X) → new ≡ old ++ y ∷ [] → y ≡ f x → old ++ map f (x ∷ rest) ≡ map f xs → new ++ map f rest ≡ map f xs
joins-more f x y old new rest xs is one all =
    ap (λ l. l ++ map f rest) is ∙ append_assoc old (y ∷ []) (map f rest) ∙ ap (λ z. old ++ z ∷ map f rest) one ∙ all

-- what is good needn't be looked at again
pub good-more : {X : Type 0} (p : X → Bool) (x : X) (rest xs : List X) → p x ≡ true → list_all p xs ≡ list_all p (x ∷ rest) → list_all p xs ≡ list_all p rest
good-more p x rest xs good all = all ∙ ap (λ b. b && list_all p rest) good

abbrev pub is_namesake : Config → NodePart → Bool
is_namesake c n = are_namesakes n.node.config c

and-true : (a b : Bool) → a && b ≡ true → (a ≡ true) × (b ≡ true)
and-true true b h = (refl, h)
and-true false b h = cc

and-both : (a b : Bool) → a ≡ true → b ≡ true → a && b ≡ true
and-both a b p q = ap (λ x. x && b) p ∙ q

and-false : (a b : Bool) → b ≡ false → a && b ≡ false
and-false true b h = h
and-false false b h = refl

not-true : (b : Bool) → not b ≡ true → b ≡ false
not-true false h = refl
not-true true h = cc

or-false : (a b : Bool) → a || b ≡ false → (a ≡ false) × (b ≡ false)
or-false false b h = (refl, h)
or-false true b h = cc

or-right : (a b : Bool) → b ≡ true → a || b ≡ true
or-right true b h = refl
or-right false b h = h

any-at : (b c d : Bool) → (c ≡ false → d ≡ false) → b || c ≡ false → b || d ≡ false
any-at false c d f h = f h
any-at true c d f h = h

any-snoc : {X : Type 0} (p : X → Bool) (xs : List X) (x : X) → list_any p xs ≡ false → p x ≡ false → list_any p (xs ++ x ∷ []) ≡ false
any-snoc p [] x none fails = ap (λ b. b || false) fails
any-snoc p (y ∷ xs) x none fails = any-at (p y) (list_any p xs) (list_any p (xs ++ x ∷ [])) (λ h. any-snoc p xs x h fails) none

any-has : {X : Type 0} (p : X → Bool) (xs : List X) (x : X) (more : List X) → p x ≡ true → list_any p (xs ++ x ∷ more) ≡ true
any-has p [] x more passes = ap (λ b. b || list_any p more) passes
any-has p (y ∷ xs) x more passes = or-right (p y) (list_any p (xs ++ x ∷ more)) (any-has p xs x more passes)

-- one more that has no namesake
pub apart-more : (ns : List NodePart) (n : NodePart) → are_apart ns ≡ true → list_any (is_namesake n.node.config) ns ≡ false → are_apart (ns ++ n ∷ []) ≡ true
apart-more [] n apart none = refl
apart-more (m ∷ ns) n apart none =
    let parts = and-true (not (list_any (λ (k : NodePart). are_namesakes m.node.config k.node.config) ns)) (are_apart ns) apart in
    let nones = or-false (is_namesake n.node.config m) (list_any (is_namesake n.node.config) ns) none in
    and-both (not (list_any (λ (k : NodePart). are_namesakes m.node.config k.node.config) (ns ++ n ∷ []))) (are_apart (ns ++ n ∷ []))
    (ap not (any-snoc (λ (k : NodePart). are_namesakes m.node.config k.node.config) ns n (not-true (list_any (λ (k : NodePart). are_namesakes m.node.config k.node.config) ns) parts.0) nones.0))
    (apart-more ns n parts.1 nones.1)

apart-cases : (a b : Bool) (x y : Bool) → (a ≡ true → x ≡ true) → (b ≡ true → y ≡ false) → a || b ≡ true → not x && y ≡ false
apart-cases true b x y here there h = ap (λ z. not z && y) (here refl)
apart-cases false b x y here there h = and-false (not x) y (there h)

-- one more that has one, whatever comes behind it
pub apart-not : (ns : List NodePart) (n : NodePart) (more : List NodePart) → list_any (is_namesake n.node.config) ns ≡ true → are_apart (ns ++ n ∷ more) ≡ false
apart-not [] n more some = cc
apart-not (m ∷ ns) n more some =
    apart-cases (is_namesake n.node.config m) (list_any (is_namesake n.node.config) ns)
    (list_any (λ (k : NodePart). are_namesakes m.node.config k.node.config) (ns ++ n ∷ more)) (are_apart (ns ++ n ∷ more))
    (any-has (λ (k : NodePart). are_namesakes m.node.config k.node.config) ns n more) (apart-not ns n more) some
