-- Where the levels of a filter part from those of an edge.
use Rattle.std.specs.Prelude.{◌≡◌, ◌++◌, ℕ, List, ◌∷◌, Option, Some, None, cond}
use Rattle.std.specs.Str.{bytes_eq}

-- the path of the node below an edge goes on by the key where the rest of a filter doesn't: so much of it is left there
pub record PartsAt (above : List (List ℕ)) (level : List ℕ) (below rest : List (List ℕ)) (key : List ℕ) (left : List (List ℕ)) : Type 0 where
  pub common : List (List ℕ)
  pub more : List (List ℕ)
  pub below_is : below ≡ above ++ level ∷ (common ++ key ∷ more)
  pub rest_is : rest ≡ common ++ left
  pub apart : (tail : List (List ℕ)) → left ≡ key ∷ tail → ⊥

-- a path goes on from that above an edge by its first level, and that below goes on from it by the key
pub record IsInside (above : List (List ℕ)) (level : List ℕ) (below : List (List ℕ)) (key : List ℕ) (between : List (List ℕ)) : Type 0 where
  pub common : List (List ℕ)
  pub more : List (List ℕ)
  pub between_is : between ≡ above ++ level ∷ common
  pub below_is : below ≡ between ++ key ∷ more

-- one level alone leads on
abbrev pub only_to : List ℕ → ℕ → List ℕ → Option ℕ
only_to key n level = cond (bytes_eq key level) (Some n) None
