-- Which filters another one covers: it matches each topic name that they match (MQTT 3.1.1, section 4.7). `+` is 43 and `#` is 35.
use Rattle.std.specs.Prelude.{ℕ, List, [], ◌∷◌, Bool, not, ◌||◌, ◌&&◌}
use Rattle.std.specs.Str.{bytes_eq}
use Rattle.spk_topics.specs.Levels.{levels, is_empty}
use Rattle.spk_topics.specs.Fitting.{is_barred}

-- `#` as the last level
abbrev pub is_rest : List ℕ → List (List ℕ) → Bool
is_rest level behind = bytes_eq level (35 ∷ []) && is_empty behind

-- `+` covers each level and `+` itself, any other level itself alone
abbrev pub covers_level : List ℕ → List ℕ → Bool
covers_level level name = bytes_eq level (43 ∷ []) || bytes_eq level name

-- level by level, where a last `#` covers whatever is left, and is covered by nothing else
abbrev pub covers_levels : List (List ℕ) → List (List ℕ) → Bool
covers_levels [] filter = is_empty filter
covers_levels (level ∷ wide) [] = is_rest level wide
covers_levels (level ∷ wide) (name ∷ filter) =
    is_rest level wide || (not (is_rest name filter) && (covers_level level name && covers_levels wide filter))

-- whether the first filter covers the second; one that starts with a wildcard covers none that begins with `$` (4.7.2)
abbrev pub covers : List ℕ → List ℕ → Bool
covers wide filter = not (is_barred wide filter) && covers_levels (levels wide) (levels filter)
