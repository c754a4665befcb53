-- What a call of `Sequence` answers, and the data after it, from the data before it and the arguments.
use Rattle.std.specs.Prelude.{ℕ, ◌+◌, ◌-◌, ◌%◌, Bool, true, false, ◌&&◌, not, nat_lt, nat_le, ◌==◌, List, map, set, Option, Some, None, is_some, replicate, if◌then◌else◌}
use Rattle.std.specs.List.{range_with_len, prefix_len, list_any}
use Rattle.spk_sequence.specs.declared.phase.Phase.{Phase}
use Rattle.spk_sequence.specs.declared.phase.Phase.TheVariants as phase
use Rattle.spk_sequence.specs.declared.message.Kind.{Kind}
use Rattle.spk_sequence.specs.declared.message.Kind.TheVariants.{Birth, Other}
use Rattle.spk_sequence.specs.declared.answer.Step.{Step}
use Rattle.spk_sequence.specs.declared.answer.Step.TheVariants as step
use Rattle.spk_sequence.specs.declared.answer.Match.{Match}
use Rattle.spk_sequence.specs.declared.answer.Match.TheVariants as match
use Rattle.spk_sequence.specs.Data.{Standing, held_at}

abbrev pub is_live : Phase → Bool
is_live phase.Live = true
is_live _ = false

abbrev pub is_dead : Phase → Bool
is_dead phase.Dead = true
is_dead _ = false

-- a birth was taken
abbrev pub is_known : Phase → Bool
is_known phase.Unknown = false
is_known _ = true

-- a message is held
abbrev pub is_any_held : List (Option (Option ℕ)) → Bool
is_any_held held = list_any is_some held

-- how far a number is ahead of another, on the circle of 256
abbrev pub ahead : ℕ → ℕ → ℕ
ahead number next = (number + 256 - next) % 256

-- a stamp that is there and below another
abbrev pub is_below : Option ℕ → ℕ → Bool
is_below None stamp = false
is_below (Some own) stamp = nat_lt own stamp

-- the places from k on, filled up with empty ones
abbrev pub places_from : List (Option (Option ℕ)) → ℕ → ℕ → List (Option (Option ℕ))
places_from held width k = map (λ i. held_at held (k + i)) (range_with_len 0 width)

-- a held message that a birth of this stamp keeps: its own stamp is there and not below
abbrev pub is_kept : Option (Option ℕ) → ℕ → Bool
is_kept (Some (Some own)) stamp = nat_le stamp own
is_kept _ stamp = false

-- the places counted from the number after the one that comes next
abbrev pub places_after : Standing → List (Option (Option ℕ))
places_after s = places_from s.held s.width 1

-- The places counted from the number after a birth's: a message stays if its number is 1 to width - 1 past the
-- birth's, and the birth keeps it.
abbrev pub kept_places : Standing → ℕ → ℕ → List (Option (Option ℕ))
kept_places s number stamp =
    map (λ i. let entry = held_at s.held (ahead (number + 1 + i) s.next) in
    if nat_lt (i + 1) s.width && is_kept entry stamp then entry else None) (range_with_len 0 s.width)

-- how many held messages follow without a hole, from the first place on
abbrev pub run_of : List (Option (Option ℕ)) → ℕ
run_of held = prefix_len is_some held

-- A message and those that follow it without a hole are consumed; the places are counted from the number after its own.
abbrev pub after_consumed : Standing → ℕ → List (Option (Option ℕ)) → ℕ → Standing
after_consumed s number held now =
    record s { phase = phase.Live; next = (number + 1 + run_of held) % 256; since = now; held = places_from held s.width (run_of held) }

-- no place holds a message
abbrev pub empty_places : ℕ → List (Option (Option ℕ))
empty_places width = replicate width None

-- the node is no longer followed, and what was held is dropped
abbrev pub after_stop : Standing → Phase → Standing
after_stop s to = record s { phase = to; held = empty_places s.width }

-- a birth is taken
abbrev pub after_birth : Standing → ℕ → ℕ → ℕ → ℕ → Standing
after_birth s number stamp bd now = after_consumed (record s { stamp = stamp; bd = bd }) number (kept_places s number stamp) now

-- a message is held, and the wait begins if none was
abbrev pub after_held : Standing → ℕ → Option ℕ → ℕ → Standing
after_held s place stamp now =
    record s { since = if is_any_held s.held then s.since else now; held = set s.held place (Some stamp) }

-- an NBIRTH: its number, stamp and bdSeq, and the moment
abbrev pub hand_birth : Standing → ℕ → ℕ → ℕ → ℕ → Step × Standing
hand_birth s number stamp bd now =
    if is_known s.phase && nat_le stamp s.stamp then (step.OldBirth, s)
    else if is_dead s.phase && (bd == s.bd) then (step.DeadSession, s)
    else (step.Consumed (1 + run_of (kept_places s number stamp)), after_birth s number stamp bd now)

-- another message that is some places ahead of the one that comes next
abbrev pub hand_ahead : Standing → ℕ → Option ℕ → ℕ → Step × Standing
hand_ahead s place stamp now =
    if nat_lt place s.width then (if is_some (held_at s.held place) then (step.Old, s) else (step.Held, after_held s place stamp now))
    else if nat_lt place (256 - s.width) then (step.Gap, after_stop s phase.Gap)
    else (step.Old, s)

-- any other message: its number and stamp, and the moment
abbrev pub hand_other : Standing → ℕ → Option ℕ → ℕ → Step × Standing
hand_other s number stamp now =
    let place = ahead number s.next in
    let rest = places_after s in
    if not (is_live s.phase) then (step.NotLive, s)
    else if is_below stamp s.stamp then (step.Old, s)
    else if place == 0 then (step.Consumed (1 + run_of rest), after_consumed s number rest now)
    else hand_ahead s place stamp now

abbrev pub hand : Standing → ℕ → Kind → ℕ → Step × Standing
hand s number (Birth stamp bd) now = hand_birth s number stamp bd now
hand s number (Other stamp) now = hand_other s number stamp now

-- A held message has waited long enough. A moment before the wait began counts as no time passed.
abbrev pub is_over : Standing → ℕ → Bool
is_over s now = is_any_held s.held && nat_le s.wait (now - s.since)

abbrev pub tick : Standing → ℕ → Standing
tick s now = if is_over s now then after_stop s phase.Gap else s

-- the NDEATH of the session of the birth taken last
abbrev pub is_match : Standing → ℕ → Bool
is_match s bd = is_known s.phase && (bd == s.bd)

abbrev pub match_of : Standing → ℕ → Match
match_of s bd = if is_match s bd then match.Matched else match.Ignored

abbrev pub death : Standing → ℕ → Standing
death s bd = if is_match s bd then after_stop s phase.Dead else s

-- what a host session begins with
abbrev pub fresh_standing : ℕ → ℕ → Standing
fresh_standing wait width =
    record { wait = wait; width = width; phase = phase.Unknown; stamp = 0; bd = 0; next = 0; since = 0; held = empty_places width }

-- the number that comes next, while the node is followed
abbrev pub next_of : Standing → Option ℕ
next_of s = if is_live s.phase then Some s.next else None
