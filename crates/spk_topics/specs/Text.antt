-- Which texts are topic filters and which are topic names (MQTT 3.1.1, sections 4.7.1 and 4.7.3), and the first
-- refusal of any other text. A text is its bytes in UTF-8: `+` is 43 and `#` is 35.
use Rattle.std.specs.Prelude.{ℕ, List, [], ◌∷◌, length, Bool, true, not, ◌||◌, ◌&&◌, ◌==◌, nat_lt, if◌then◌else◌, Option, Some, None}
use Rattle.std.specs.List.{list_any}
use Rattle.std.specs.Str.{bytes_eq}
use Rattle.spk_topics.specs.Levels.{levels, is_empty}
use Rattle.spk_topics.specs.declared.fault.TopicFault.{TopicFault}
use Rattle.spk_topics.specs.declared.fault.TopicFault.TheVariants.{Empty, Wildcard, Nul, TooLong}

abbrev pub holds : ℕ → List ℕ → Bool
holds byte text = list_any (λ b. b == byte) text

-- no wildcard stands in the text
abbrev pub is_plain : List ℕ → Bool
is_plain text = not (holds 43 text) && not (holds 35 text)

-- a wildcard fills a whole level, and `#` the last one alone
abbrev pub is_placed : List ℕ → Bool → Bool
is_placed level is_last = is_plain level || bytes_eq level (43 ∷ []) || (bytes_eq level (35 ∷ []) && is_last)

abbrev pub in_place : List (List ℕ) → Bool
in_place [] = true
in_place (level ∷ rest) = is_placed level (is_empty rest) && in_place rest

-- the refusals in their order, where `placed` says that wildcards stand where they may
abbrev pub refusal : List ℕ → Bool → Option TopicFault
refusal text placed =
    if is_empty text then Some Empty
    else if not placed then Some Wildcard
    else if holds 0 text then Some Nul
    else if nat_lt 65535 (length text) then Some TooLong
    else None

abbrev pub filter_refusal : List ℕ → Option TopicFault
filter_refusal text = refusal text (in_place (levels text))

abbrev pub topic_refusal : List ℕ → Option TopicFault
topic_refusal text = refusal text (is_plain text)
