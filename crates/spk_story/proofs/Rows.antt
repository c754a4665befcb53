-- Stories that are worked out by hand: a node that was first heard at 100. Events stand oldest first here.
use Rattle.std.proofs.Common.{◌≡◌, refl, ℕ, true, List, [], ◌∷◌, reverse, Option, Some, None}
use Rattle.spk_story.specs.declared.hole.End.{End}
use Rattle.spk_story.specs.declared.hole.End.TheVariants.{Birth, Death, Session}
use Rattle.spk_story.specs.declared.hole.Hole.{Hole}
use Rattle.spk_story.specs.declared.stand.Stand.{Stand}
use Rattle.spk_story.specs.declared.stand.Stand.TheVariants.{Unborn, Current, Lost, OutOfReach}
use Rattle.spk_story.specs.Data.{Story}
use Rattle.spk_story.specs.Events.{Event, Born, Used, Dropped, Gap, Died, Ignored, Ended, Asked}
use Rattle.spk_story.specs.Order.{has_causes}
use Rattle.spk_story.specs.Told.{told}

abbrev story : List Event → Story
story events = told 100 (reverse events)

-- so many came and weren't used, and so many didn't come
abbrev drop : ℕ → ℕ → ℕ → Event
drop unused missing now = Dropped (record { unused = unused; missing = missing }) now

abbrev hole : ℕ → Option ℕ → ℕ → ℕ → Option End → Hole
hole from until missing unused end = record { from = from; until = until; missing = missing; unused = unused; end = end }

-- how it stands and since when, the hole that is open, and those that are over
abbrev shown : List Event → Stand × ℕ × Option Hole × List Hole
shown events = let s = story events in (s.stand, s.since, s.hole, s.kept)

-- nothing was told, and what is told of a node that isn't born
pub unborn : (shown [] ≡ (Unborn, 100, None, [])) × (shown (Asked 150 ∷ Ignored 160 ∷ Ended 170 ∷ []) ≡ (Unborn, 100, None, []))
unborn = (refl, refl)

-- born at 200 and again at 300: current since 200
pub current : shown (Born 200 ∷ Used 250 ∷ Born 300 ∷ []) ≡ (Current, 200, None, [])
current = refl

-- a gap with three that came and weren't used, and two that didn't come; it is asked for a rebirth, which comes
abbrev to_gap : List Event
to_gap = Born 200 ∷ Used 300 ∷ drop 3 2 400 ∷ Gap 400 ∷ Asked 400 ∷ []

abbrev past_gap : List Event
past_gap = Born 200 ∷ Used 300 ∷ drop 3 2 400 ∷ Gap 400 ∷ Asked 400 ∷ Born 500 ∷ Used 600 ∷ []

pub at_a_gap : (shown to_gap ≡ (Lost, 400, Some (hole 300 None 2 3 None), [])) × (shown past_gap ≡ (Current, 500, None, hole 300 (Some 500) 2 3 (Some Birth) ∷ []))
at_a_gap = (refl, refl)

pub counted : (story past_gap).counts ≡ record { births = 2; used = 4; gaps = 1; deaths = 0; ignored = 0; requests = 1; missing = 2; unused = 3; holes = 1 }
counted = refl

-- a gap at which nothing was held: the hole says no more than that readings are missing
pub without_a_loss : shown (Born 200 ∷ Gap 400 ∷ []) ≡ (Lost, 400, Some (hole 200 None 0 0 None), [])
without_a_loss = refl

-- a birth drops one that was held: it was current all the time
pub at_a_birth : shown (Born 200 ∷ Used 250 ∷ drop 1 1 300 ∷ Born 300 ∷ []) ≡ (Current, 200, None, hole 250 (Some 300) 1 1 (Some Birth) ∷ [])
at_a_birth = refl

-- a death behind a gap, and one that itself drops what was held
pub at_a_death : (shown (Born 200 ∷ Gap 300 ∷ Died 400 ∷ Ignored 450 ∷ Ended 460 ∷ []) ≡ (OutOfReach, 460, Some (hole 200 None 0 0 (Some Death)), []))
    × (shown (Born 200 ∷ Died 300 ∷ drop 2 1 300 ∷ Born 400 ∷ []) ≡ (Current, 400, None, hole 200 (Some 400) 1 2 (Some Death) ∷ []))
at_a_death = (refl, refl)

-- the host's own session is over: no reading is known to be lost, and the death that comes in the next one changes nothing
pub at_an_end : shown (Born 200 ∷ Ended 300 ∷ Ignored 400 ∷ []) ≡ (OutOfReach, 300, None, [])
at_an_end = refl

-- two holes, the newer one first
pub two_holes : shown (Born 200 ∷ Gap 300 ∷ Born 400 ∷ Gap 500 ∷ Ended 600 ∷ Born 700 ∷ [])
    ≡ (Current, 700, None, hole 400 (Some 700) 0 0 (Some Session) ∷ hole 200 (Some 400) 0 0 (Some Birth) ∷ [])
two_holes = refl

-- each of these losses stands beside what it comes of
pub with_causes : (has_causes None (reverse past_gap) ≡ true) × (has_causes None (reverse (Born 200 ∷ Died 300 ∷ drop 2 1 300 ∷ [])) ≡ true)
with_causes = (refl, refl)
