-- Lists that are joined, and words that are said.
use Rattle.std.proofs.Common.{◌≡◌, ◌∙◌, sym, ap, ℕ, List, [], ◌∷◌, ◌++◌, map, append_assoc}
use Rattle.std.proofs.lemmas.List.{append-nil, map-append}
use Rattle.spk_host_app.specs.Step.{join}

pub join_more : (xs : List (List ℕ)) (x : List ℕ) → join (xs ++ x ∷ []) ≡ join xs ++ x
join_more [] x = append-nil x
join_more (y ∷ ys) x = ap (λ l. y ++ l) (join_more ys x) ∙ sym (append_assoc y (join ys) x)

pub join_map : {X : Type 0} (f : X → List ℕ) (xs : List X) (x : X) → join (map f (xs ++ x ∷ [])) ≡ join (map f xs) ++ f x
join_map f xs x = ap join (map-append f xs (x ∷ [])) ∙ join_more (map f xs) (f x)
