-- What a file of lines says (own rules). A line ends with the byte 10. The line `said` is a mark: nothing above it waits any more. What stands behind the
-- last end is torn, and says nothing.
use Rattle.std.specs.Prelude.{◌≡◌, ℕ, ◌==◌, Bool, false, List, [], ◌∷◌, ◌++◌, codes, fold, if◌then◌else◌}
use Rattle.std.specs.List.{flat_map, list_any}
use Rattle.std.specs.Str.{bytes_eq}

-- whether the end of a line stands in it
abbrev pub has_end : List ℕ → Bool
has_end bytes = list_any (λ byte. byte == 10) bytes

-- lines without an end in them
abbrev pub ArePlain : List (List ℕ) → Type 0
ArePlain [] = Unit {0}
ArePlain (line ∷ lines) = (has_end line ≡ false) × ArePlain lines

-- the text of lines, each with its end
abbrev pub text_of : List (List ℕ) → List ℕ
text_of lines = flat_map (λ line. line ++ 10 ∷ []) lines

-- Bytes are lines with their ends, and then a torn rest without one.
pub record Says (bytes : List ℕ) (lines : List (List ℕ)) (rest : List ℕ) : Type 0 where
  pub are : bytes ≡ text_of lines ++ rest
  pub plain : ArePlain lines
  pub torn : has_end rest ≡ false

abbrev pub mark : List ℕ
mark = codes "said"

abbrev pub is_mark : List ℕ → Bool
is_mark line = bytes_eq line mark

-- one line more: behind a mark nothing waits
abbrev pub one_more : List (List ℕ) → List ℕ → List (List ℕ)
one_more before line = if is_mark line then [] else before ++ line ∷ []

-- The lines that wait: those behind the last mark.
abbrev pub waiting : List (List ℕ) → List (List ℕ)
waiting lines = fold one_more [] lines

-- the one list is a front of the other
abbrev pub IsFront : {X : Type 0} → List X → List X → Type 0
IsFront {X} front list = (rest : List X) × (list ≡ front ++ rest)
