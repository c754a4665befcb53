-- A filter beside a topic, byte by byte, up to the filter's first wildcard.
use Rattle.std.specs.Prelude.{ℕ, zero, suc, ◌==◌, Bool, true, false, not, ◌&&◌, ◌||◌, List, [], ◌∷◌, get_or}
use Rattle.std.specs.Str.{bytes_eq}
use Rattle.spk_topics.specs.Fitting.{fits}
use Rattle.spk_topics.specs.Levels.{levels}

-- `+` or `#`
abbrev pub is_wild : ℕ → Bool
is_wild b = b == 43 || b == 35

-- the same byte, and no wildcard
abbrev pub is_alike : ℕ → ℕ → Bool
is_alike a b = a == b && not (is_wild a)

-- whether both begin with such a byte
abbrev pub begin_alike : List ℕ → List ℕ → Bool
begin_alike [] topic = false
begin_alike (a ∷ filter) [] = false
begin_alike (a ∷ filter) (b ∷ topic) = is_alike a b

-- whether a level begins behind so many bytes, where it is known whether one begins at the first
abbrev pub is_start : Bool → ℕ → List ℕ → Bool
is_start start zero text = start
is_start start (suc n) text = get_or text n 0 == 47

-- whether a level begins that is `+`
abbrev pub begins_any : List ℕ → Bool
begins_any [] = false
begins_any (a ∷ []) = a == 43
begins_any (a ∷ b ∷ filter) = a == 43 && b == 47

-- whether levels fit where the first ones are within a level whose front is the same: these are the same text
abbrev pub fits_within : List (List ℕ) → List (List ℕ) → Bool
fits_within [] topic = false
fits_within (level ∷ filter) [] = false
fits_within (level ∷ filter) (name ∷ topic) = bytes_eq level name && fits filter topic

-- whether levels fit, at the start of a level or within one
abbrev pub fits_at : Bool → List (List ℕ) → List (List ℕ) → Bool
fits_at true filter topic = fits filter topic
fits_at false filter topic = fits_within filter topic

-- whether what is left of a filter fits what is left of a topic
abbrev pub fits_from : Bool → List ℕ → List ℕ → Bool
fits_from start filter topic = fits_at start (levels filter) (levels topic)
