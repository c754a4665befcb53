-- What a board is told of its nodes, and the stories that this comes to (own rules).
use Rattle.std.specs.Prelude.{◌≡◌, ℕ, zero, suc, ◌-◌, ◌==◌, ◌&&◌, nat_lt, max, List, [], ◌∷◌, ◌++◌, length, map, if◌then◌else◌}
use Rattle.spk_story.specs.Data.{Story}
use Rattle.spk_story.specs.Events.{Event}
use Rattle.spk_story.specs.Told.{told}

pub data Deed : Type 0 where
  -- there are so many nodes: of those at the last places nothing was told before
  Heard : (count now : ℕ) → Deed
  -- this happened to the node at a place
  Told : (place : ℕ) (event : Event) → Deed

-- A node: the moment at which it was first heard, and what was told of it since, newest first.
pub record Tale : Type 0 where
  pub first : ℕ
  pub events : List Event

abbrev pub story_of : Tale → Story
story_of t = told t.first t.events

-- this happened to the node at a place; to none where no node is there
abbrev pub told_at : ℕ → Event → List Tale → List Tale
told_at n e [] = []
told_at zero e (t ∷ ts) = record t { events = e ∷ t.events } ∷ ts
told_at (suc n) e (t ∷ ts) = t ∷ told_at n e ts

-- so many nodes more are heard at a moment
abbrev pub fresh : ℕ → ℕ → List Tale
fresh zero now = []
fresh (suc n) now = record { first = now; events = [] } ∷ fresh n now

abbrev pub after : Deed → List Tale → List Tale
after (Heard count now) ts = ts ++ fresh (count - length ts) now
after (Told place event) ts = told_at place event ts

-- the nodes behind these deeds, newest first
abbrev pub tales : List Deed → List Tale
tales [] = []
tales (d ∷ ds) = after d (tales ds)

-- These are the stories of the nodes behind these deeds.
abbrev pub AreOf : List Deed → List Story → Type 0
AreOf ds stories = stories ≡ map story_of (tales ds)

-- What a deed makes of stories, whatever was done before.
abbrev pub Does : Deed → List Story → List Story → Type 0
Does d old new = (ds : List Deed) → AreOf ds old → AreOf (d ∷ ds) new

-- ---- the same as questions to the deeds, newest first

-- how many nodes there are: the most that there ever were
abbrev pub count_of : List Deed → ℕ
count_of [] = 0
count_of (Heard count now ∷ ds) = max count (count_of ds)
count_of (Told place event ∷ ds) = count_of ds

-- when the node at a place was first heard
abbrev pub first_at : ℕ → List Deed → ℕ
first_at n [] = 0
first_at n (Heard count now ∷ ds) = if nat_lt n (count_of ds) then first_at n ds else now
first_at n (Told place event ∷ ds) = first_at n ds

-- what happened to it since, newest first
abbrev pub events_at : ℕ → List Deed → List Event
events_at n [] = []
events_at n (Heard count now ∷ ds) = events_at n ds
events_at n (Told place event ∷ ds) = if nat_lt n (count_of ds) && place == n then event ∷ events_at n ds else events_at n ds
