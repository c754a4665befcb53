-- The levels of a topic name or a topic filter (MQTT 3.1.1, section 4.7.1.1): the texts between its slashes,
-- as bytes. There is one more of them than slashes, and each may be empty.
use Rattle.std.specs.Prelude.{◌≡◌, ℕ, List, [], ◌∷◌, ◌++◌, ◌==◌, Bool, true, false, if◌then◌else◌, Option, Some, None, length, ◌+◌}

abbrev pub is_empty : {X : Type 0} → List X → Bool
is_empty [] = true
is_empty (x ∷ xs) = false

-- one more byte at the front of the first level
abbrev pub widened : ℕ → List (List ℕ) → List (List ℕ)
widened b [] = (b ∷ []) ∷ []
widened b (level ∷ rest) = (b ∷ level) ∷ rest

abbrev pub levels : List ℕ → List (List ℕ)
levels [] = [] ∷ []
levels (b ∷ bs) = if b == 47 then [] ∷ levels bs else widened b (levels bs)

-- the levels of what is left of a text, where None is nothing, not even an empty level
abbrev pub levels_left : Option (List ℕ) → List (List ℕ)
levels_left None = []
levels_left (Some text) = levels text

-- more than the bytes of what is left, if anything is
abbrev pub left_size : Option (List ℕ) → ℕ
left_size None = 0
left_size (Some text) = length text + 1

-- levels with slashes between them
abbrev pub joined : List (List ℕ) → List ℕ
joined [] = []
joined (level ∷ []) = level
joined (level ∷ next ∷ rest) = level ++ 47 ∷ joined (next ∷ rest)

-- two lists of levels without the levels with which both begin
pub record IsParted (one other one_left other_left : List (List ℕ)) : Type 0 where
  pub common : List (List ℕ)
  pub one_is : one ≡ common ++ one_left
  pub other_is : other ≡ common ++ other_left
  pub apart : (level : List ℕ) (a b : List (List ℕ)) → one_left ≡ level ∷ a → other_left ≡ level ∷ b → ⊥
