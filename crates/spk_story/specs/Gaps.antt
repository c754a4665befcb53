-- The holes in the readings of a node: questions to the list of events, newest first (own rules). Readings are lost by a gap, and where messages that
-- were held are dropped; from the first loss since a birth on there is one hole, until the next birth.
use Rattle.std.specs.Prelude.{ℕ, Bool, List, [], ◌∷◌, Option, Some, None, if◌then◌else◌}
use Rattle.std.specs.List.{cons_option, list_any, sum_by}
use Rattle.std.specs.Option.{option_map, option_or, unwrap_or}
use Rattle.spk_story.specs.declared.hole.End.{End}
use Rattle.spk_story.specs.declared.hole.End.TheVariants.{Birth, Death, Session}
use Rattle.spk_story.specs.declared.hole.Hole.{Hole}
use Rattle.spk_story.specs.Data.{end_of, with_end}
use Rattle.spk_story.specs.Events.{Event, Born, Died, Ended, is_birth, is_loss, missing_by, moment, since_birth, unused_by}
use Rattle.spk_story.specs.Standing.{stand, used_at}

-- readings were lost since the last birth
abbrev pub is_open : List Event → Bool
is_open es = list_any is_loss (since_birth es)

-- where a hole is open: the moment of the last message that was consumed before it, or without one that of the loss that began it
abbrev pub opened : List Event → ℕ
opened [] = 0
opened (e ∷ es) = if is_open es then opened es else unwrap_or (used_at es) (moment e)

-- what an event ends a hole by
abbrev pub end_by : Event → Option End
end_by (Born now) = Some Birth
end_by (Died now) = Some Death
end_by (Ended now) = Some Session
end_by _ = None

-- where a hole is open: the first of these since it began, or what was over when it did
abbrev pub first_end : List Event → Option End
first_end [] = None
first_end (e ∷ es) = if is_open es then option_or (first_end es) (end_by e) else end_of (stand es)

-- the hole that is open
abbrev pub open_hole : List Event → Hole
open_hole es = record {
  from = opened es;
  until = None;
  missing = sum_by missing_by (since_birth es);
  unused = sum_by unused_by (since_birth es);
  end = first_end es;
}

abbrev pub open_now : List Event → Option Hole
open_now es = if is_open es then Some (open_hole es) else None

-- a birth is consumed, and so it is over
abbrev pub ended_at : ℕ → Hole → Hole
ended_at now h = record (with_end Birth h) { until = Some now }

-- the hole that an event ends: a birth ends the one that is open
abbrev pub ended_by : Event → List Event → Option Hole
ended_by e es = if is_birth e then option_map (ended_at (moment e)) (open_now es) else None

-- those that are over, newest first
abbrev pub over : List Event → List Hole
over [] = []
over (e ∷ es) = cons_option (ended_by e es) (over es)

-- all, newest first
abbrev pub holes : List Event → List Hole
holes es = cons_option (open_now es) (over es)
