-- A table by texts, in the order in which its entries came: a present key keeps its place, a new one goes last.
use Rattle.std.specs.Prelude.{ℕ, Bool, not, List, [], ◌∷◌, ◌++◌, map, if◌then◌else◌}
use Rattle.std.specs.List.{filter, list_any}
use Rattle.std.specs.Str.{bytes_eq}

-- a list of texts with what each has
abbrev pub Table : Type 0 → Type 0
Table V = List (List ℕ × V)

-- the text has an entry
abbrev pub has : {V : Type 0} → List ℕ → Table V → Bool
has key table = list_any (λ e. bytes_eq e.0 key) table

-- the same entry with another value, where it has this key
abbrev pub replaced : {V : Type 0} → List ℕ → V → List ℕ × V → List ℕ × V
replaced key value e = if bytes_eq e.0 key then (e.0, value) else e

-- the entry of a text gets this value; a text without an entry gets one, at the end
abbrev pub put : {V : Type 0} → List ℕ → V → Table V → Table V
put key value table = if has key table then map (replaced key value) table else table ++ (key, value) ∷ []

-- the table without the entry of a text
abbrev pub remove : {V : Type 0} → List ℕ → Table V → Table V
remove key table = filter (λ e. not (bytes_eq e.0 key)) table
