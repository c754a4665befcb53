-- Which topic names a filter matches (MQTT 3.1.1, sections 4.7.1 and 4.7.2), as a relation on their levels.
-- `+` is the byte 43, `#` is 35, `$` is 36.
use Rattle.std.specs.Prelude.{◌≡◌, ◌⊎◌, ℕ, List, [], ◌∷◌}
use Rattle.spk_topics.specs.Levels.{levels}

pub data Fits : List (List ℕ) → List (List ℕ) → Type 0 where
  both_end : Fits [] []
  any_rest : (rest : List (List ℕ)) → Fits ((35 ∷ []) ∷ []) rest
  any_level : (level : List ℕ) (filter topic : List (List ℕ)) → Fits filter topic → Fits ((43 ∷ []) ∷ filter) (level ∷ topic)
  same_level : (level : List ℕ) (filter topic : List (List ℕ)) → Fits filter topic → Fits (level ∷ filter) (level ∷ topic)

-- the first level is a wildcard
abbrev pub StartsWithWildcard : List (List ℕ) → Type 0
StartsWithWildcard [] = ⊥
StartsWithWildcard (level ∷ rest) = (level ≡ 43 ∷ []) ⊎ (level ≡ 35 ∷ [])

abbrev pub BeginsWithDollar : List ℕ → Type 0
BeginsWithDollar [] = ⊥
BeginsWithDollar (b ∷ bs) = b ≡ 36

-- no filter that starts with a wildcard matches a topic name that begins with `$` (4.7.2-1)
abbrev pub IsBarred : List ℕ → List ℕ → Type 0
IsBarred filter topic = StartsWithWildcard (levels filter) × BeginsWithDollar topic

pub record Matches (filter topic : List ℕ) : Type 0 where
  pub allowed : ¬ IsBarred filter topic
  pub fits : Fits (levels filter) (levels topic)
