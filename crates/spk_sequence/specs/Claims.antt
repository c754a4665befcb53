-- What the law on positions says of a host session.
use Rattle.std.specs.Prelude.{◌≡◌, ℕ, ◌+◌, ◌-◌, ◌%◌, ◌<◌, ◌≤◌, ◌⊎◌, true, false, not, ◌&&◌, ◌||◌, if◌then◌else◌, List, [], ◌∷◌, ◌++◌, length, Option, Some}
use Rattle.std.specs.List.{range_with_len}
use Rattle.spk_sequence.specs.Step.{is_live}
use Rattle.spk_sequence.specs.NodeRecord.{Setting, NodeRecord, IsNodeRecord, opens, birth_at, session_at, written_number}
use Rattle.spk_sequence.specs.HostRecord.{Input, MessageComes, Done, HostRecord, standing_of, record_of, done_at, next_after, consumed_of, held_under}
use Rattle.spk_sequence.specs.Following.{taken, takes, following, contains, is_session_dead, dead_sessions, is_empty}
use Rattle.spk_sequence.specs.Window.{AllMayCome, AllNearDeaths, NumbersFit}
use Rattle.spk_sequence.specs.Positions.{right_at, is_taken_before, is_of_dead}

-- What the law asks: a node record, a width of 1 to 96, and inputs each of which may come after the ones before it.
pub record IsLawful (s : Setting) (inputs : List Input) : Type 0 where
  pub node : IsNodeRecord s.published
  pub some_places : 0 < s.width
  pub few_places : s.width ≤ 96
  pub may_come : AllMayCome s inputs
  pub numbered : NumbersFit s.numbering s inputs

-- an event on numbers is the event on positions
abbrev pub SameStep : Setting → List Input → Input → Type 0
SameStep s inputs input = done_at s (record_of s inputs) (standing_of s inputs) input ≡ right_at s (record_of s inputs) input

-- The phase is Live exactly while the host follows, and then `next` is the number of the position after the last one
-- consumed, counted on from that of the birth taken.
pub record IsLiveByPositions (s : Setting) (inputs : List Input) : Type 0 where
  pub live : is_live (standing_of s inputs).phase ≡ (following s (record_of s inputs)).on
  pub next : (b : ℕ) → (following s (record_of s inputs)).on ≡ true → taken s (record_of s inputs) ≡ Some b →
      (standing_of s inputs).next ≡ (written_number s b + (next_after (record_of s inputs) - b)) % 256

-- a birth's position, and how many of its messages
pub record Part : Type 0 where
  pub start : ℕ
  pub count : ℕ

-- the positions of the parts in the order of time; the newest part stands first
abbrev pub positions_of : List Part → List ℕ
positions_of [] = []
positions_of (part ∷ parts) = positions_of parts ++ range_with_len part.start part.count

-- the messages are the first ones of one birth
pub record IsFront (published : NodeRecord) (part : Part) : Type 0 where
  pub opening : opens published part.start ≡ true
  pub some : 0 < part.count
  pub within : part.start + part.count ≤ length published
  pub one_birth : (p : ℕ) → part.start ≤ p → p < part.start + part.count → birth_at published p ≡ birth_at published part.start

-- a birth above that of the newest of these parts, which stands first
abbrev pub IsAbove : NodeRecord → ℕ → List Part → Type 0
IsAbove published p [] = Unit {0}
IsAbove published p (part ∷ parts) = birth_at published part.start < birth_at published p

-- the first messages of some births, the newest birth first; the births strictly increase in time
abbrev pub AreFronts : NodeRecord → List Part → Type 0
AreFronts published [] = Unit {0}
AreFronts published (part ∷ parts) = IsFront published part × IsAbove published part.start parts × AreFronts published parts

-- Birth by birth in increasing order, the positions are a prefix of the messages of that birth.
abbrev pub BirthPrefixes : NodeRecord → List ℕ → Type 0
BirthPrefixes published consumed = (parts : List Part) × AreFronts published parts × (consumed ≡ positions_of parts)

-- the consumed list ends with the messages of the birth taken, from its NBIRTH to the last one consumed
abbrev pub EndsWithTaken : Setting → HostRecord → Type 0
EndsWithTaken s h =
    (b : ℕ) → taken s h ≡ Some b → (earlier : List ℕ) × (consumed_of h ≡ earlier ++ range_with_len b (next_after h - b))

-- an event while the host does not follow consumes nothing, or the NBIRTH alone of a birth after the one taken last
abbrev pub AfterGap : Setting → HostRecord → Done → Type 0
AfterGap s h e = (following s h).on ≡ false → (e.consumed ≡ []) ⊎ ((p : ℕ) × (e.consumed ≡ p ∷ []) × (opens s.published p ≡ true) × (is_taken_before (taken s h) p ≡ false))

-- an event consumes nothing of a session whose matching death came
abbrev pub AfterDeath : Setting → HostRecord → Done → Type 0
AfterDeath s h e = (p : ℕ) → contains p e.consumed ≡ true → contains (session_at s.published p) (dead_sessions s h) ≡ false

-- what is handed was published
abbrev pub IsPublished : Setting → Input → Type 0
IsPublished s (MessageComes p now) = p < length s.published
IsPublished s _ = Unit {0}

abbrev pub AllPublished : Setting → List Input → Type 0
AllPublished s [] = Unit {0}
AllPublished s (input ∷ inputs) = IsPublished s input × AllPublished s inputs

-- A handed NBIRTH is taken unless that birth or a later one was taken before, or the matching death of its session came
-- and no birth was taken since.
abbrev pub TakesBirth : Setting → HostRecord → ℕ → Done → Type 0
TakesBirth s h p e = opens s.published p ≡ true → takes s e ≡ not (is_taken_before (taken s h) p || is_of_dead s h p)

-- The host does not follow, or the position after the last one consumed was not handed since it began to.
abbrev pub HasCause : Setting → HostRecord → Type 0
HasCause s h = (following s h).on ≡ true → contains (next_after h) (following s h).handed ≡ false

-- the birth taken after an event: the NBIRTH handed if something was consumed then, and else the one before
abbrev pub taken_by : Setting → HostRecord → Input → List ℕ → Option ℕ
taken_by s h (MessageComes p now) consumed = if opens s.published p && not (is_empty consumed) then Some p else taken s h
taken_by s h _ consumed = taken s h

-- a published position whose message is an NBIRTH
pub record IsOpening (published : NodeRecord) (p : ℕ) : Type 0 where
  pub within : p < length published
  pub opening : opens published p ≡ true

-- the setting with more published afterwards
abbrev pub with_more : Setting → NodeRecord → Setting
with_more s more = record s { published = s.published ++ more }

-- What was done, each query on it, and what is held under each number is the same with more published afterwards; the
-- inputs still may come, their numbers fit, and deaths that were near are.
pub record IsSameWithMore (s : Setting) (more : NodeRecord) (inputs : List Input) : Type 0 where
  pub same_record : record_of (with_more s more) inputs ≡ record_of s inputs
  pub same_standing : standing_of (with_more s more) inputs ≡ standing_of s inputs
  pub same_taken : taken (with_more s more) (record_of (with_more s more) inputs) ≡ taken s (record_of s inputs)
  pub same_following : following (with_more s more) (record_of (with_more s more) inputs) ≡ following s (record_of s inputs)
  pub same_dead : is_session_dead (with_more s more) (record_of (with_more s more) inputs) ≡ is_session_dead s (record_of s inputs)
  pub same_sessions : dead_sessions (with_more s more) (record_of (with_more s more) inputs) ≡ dead_sessions s (record_of s inputs)
  pub same_held : (number : ℕ) → held_under (with_more s more) (record_of (with_more s more) inputs) number ≡ held_under s (record_of s inputs) number
  pub may_come : AllMayCome (with_more s more) inputs
  pub numbered : NumbersFit s.numbering (with_more s more) inputs
  pub near_deaths : AllNearDeaths s inputs → AllNearDeaths (with_more s more) inputs
