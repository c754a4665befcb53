-- The table of a birth by queries on its metrics, newest first.
use Rattle.std.specs.Prelude.{ℕ, ◌&&◌, List, [], ◌∷◌, ◌++◌, map, Option, Some, None, is_some, if◌then◌else◌}
use Rattle.std.specs.List.{find, list_any}
use Rattle.std.specs.Str.{bytes_eq}
use Rattle.spk_payload.specs.Meaning.{MetricData}
use Rattle.spk_host_rules.specs.Data.{Nothing, Row}
use Rattle.spk_host_rules.specs.Table.{is_alias, is_name, row_of}

-- with one more name, unless it is there
abbrev pub and_name : Option (List ℕ) → List (List ℕ) → List (List ℕ)
and_name None names = names
and_name (Some name) names = if list_any (λ n. bytes_eq name n) names then names else names ++ name ∷ []

-- the names, each once, in the order in which they first came
abbrev pub names_of : List MetricData → List (List ℕ)
names_of [] = []
names_of (m ∷ before) = and_name m.name (names_of before)

-- the metrics after the last one of a name
abbrev pub newer_than : List ℕ → List MetricData → List MetricData
newer_than name [] = []
newer_than name (m ∷ before) = if is_name m.name name then [] else m ∷ newer_than name before

-- an alias, unless one of these metrics takes it for its own name
abbrev pub left_by : List MetricData → Option ℕ → Option ℕ
left_by newer None = None
left_by newer (Some alias) = if list_any (λ m. is_some m.name && is_alias m.alias alias) newer then None else Some alias

-- the row of a name, from its last metric and those after it
abbrev pub row_from : List ℕ → Option MetricData → List MetricData → Row
row_from name None newer = record { name = name; alias = None; datatype = None; shown = Nothing }
row_from name (Some m) newer = record (row_of name m) { alias = left_by newer m.alias }

-- a name has what its last metric says, but for the alias, if a later name took it
abbrev pub row_at : List MetricData → List ℕ → Row
row_at ms name = row_from name (find (λ m. is_name m.name name) ms) (newer_than name ms)

-- the rows of a birth, one for each name
abbrev pub table_by : List MetricData → List Row
table_by ms = map (row_at ms) (names_of ms)
