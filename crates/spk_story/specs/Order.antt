-- What the laws ask of a list of events, newest first, and say of holes.
use Rattle.std.specs.Prelude.{ℕ, ◌≤◌, ◌≡◌, Bool, true, false, ◌&&◌, ◌||◌, not, List, [], ◌∷◌, Option, Some, is_some, IfSome}
use Rattle.spk_story.specs.declared.hole.Hole.{Hole}
use Rattle.spk_story.specs.Events.{Event, Born, Dropped, Gap, Died, Ended, moment}

-- no moment is before that of an older event
abbrev pub latest : List Event → ℕ
latest [] = 0
latest (e ∷ es) = moment e

abbrev pub NeverFalls : List Event → Type 0
NeverFalls [] = Unit {0}
NeverFalls (e ∷ es) = (latest es ≤ moment e) × NeverFalls es

-- the newest of these holes is over, no later than this
abbrev pub AreOverBy : ℕ → List Hole → Type 0
AreOverBy from [] = Unit {0}
AreOverBy from (h ∷ hs) = (until : ℕ) × (h.until ≡ Some until) × (until ≤ from)

-- holes, newest first: none is over before it begins, and each begins when the one before it is over, or later
abbrev pub AreApart : List Hole → Type 0
AreApart [] = Unit {0}
AreApart (h ∷ hs) = IfSome h.until (λ until. h.from ≤ until) × AreOverBy h.from hs × AreApart hs

-- a hole that is over tells when, and what ended it
abbrev pub tells_its_end : Hole → Bool
tells_its_end h = is_some h.until && is_some h.end

-- an event behind which the node isn't followed
abbrev pub stops : Event → Bool
stops (Gap now) = true
stops (Died now) = true
stops (Ended now) = true
stops _ = false

-- messages that were held are dropped by what comes next, a birth or a gap, or by the death before
abbrev pub is_drop : Event → Bool
is_drop (Dropped loss now) = true
is_drop _ = false

abbrev pub drops : Option Event → Bool
drops (Some (Born now)) = true
drops (Some (Gap now)) = true
drops _ = false

abbrev pub begins_with_death : List Event → Bool
begins_with_death (Died now ∷ es) = true
begins_with_death _ = false

-- each loss of these events stands beside what it comes of, where this event came behind them, if one did
abbrev pub has_causes : Option Event → List Event → Bool
has_causes next [] = true
has_causes next (e ∷ es) = (not (is_drop e) || (drops next || begins_with_death es)) && has_causes (Some e) es
