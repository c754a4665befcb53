-- The match relation as a test on levels (`laws::matching`).
use Rattle.std.specs.Prelude.{ℕ, List, [], ◌∷◌, Bool, false, not, ◌||◌, ◌&&◌, ◌==◌}
use Rattle.std.specs.Str.{bytes_eq}
use Rattle.spk_topics.specs.Levels.{levels, is_empty}

abbrev pub fits : List (List ℕ) → List (List ℕ) → Bool
fits [] topic = is_empty topic
fits (level ∷ filter) [] = bytes_eq level (35 ∷ []) && is_empty filter
fits (level ∷ filter) (name ∷ topic) = (bytes_eq level (35 ∷ []) && is_empty filter) || ((bytes_eq level (43 ∷ []) || bytes_eq level name) && fits filter topic)

abbrev pub starts_with_wildcard : List (List ℕ) → Bool
starts_with_wildcard [] = false
starts_with_wildcard (level ∷ rest) = bytes_eq level (43 ∷ []) || bytes_eq level (35 ∷ [])

abbrev pub begins_with_dollar : List ℕ → Bool
begins_with_dollar [] = false
begins_with_dollar (b ∷ bs) = b == 36

abbrev pub is_barred : List ℕ → List ℕ → Bool
is_barred filter topic = starts_with_wildcard (levels filter) && begins_with_dollar topic

-- whether the filter matches the topic name
abbrev pub is_match : List ℕ → List ℕ → Bool
is_match filter topic = not (is_barred filter topic) && fits (levels filter) (levels topic)
