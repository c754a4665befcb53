-- Names with numbers, in the order in which they were entered.
use Rattle.std.specs.Prelude.{ℕ, List, [], ◌∷◌, ◌++◌, Option, Some, None, is_some, if◌then◌else◌}
use Rattle.std.specs.Str.{bytes_eq}

-- the number of the first entry of a name
abbrev pub number_in : List (List ℕ × ℕ) → List ℕ → Option ℕ
number_in [] name = None
number_in (e ∷ es) name = if bytes_eq name e.0 then Some e.1 else number_in es name

-- a new name stands last, and one that is there stays as it is
abbrev pub entered : List (List ℕ × ℕ) → List ℕ → ℕ → List (List ℕ × ℕ)
entered names name number = if is_some (number_in names name) then names else names ++ (name, number) ∷ []
