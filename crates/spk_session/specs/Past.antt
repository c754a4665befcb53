-- What was done to a session, and what follows from it: questions to the list of all events, without any table or count.
use Rattle.std.specs.Prelude.{ℕ, ◌+◌, Bool, true, false, ◌&&◌, not, List, [], ◌∷◌, ◌++◌, Option, Some, None, unwrap_or, if◌then◌else◌}
use Rattle.std.specs.Prelude.{nat_eq}
use Rattle.std.specs.List.{list_any}
use Rattle.spk_session.specs.declared.answer.Sort.{Sort}
use Rattle.spk_session.specs.declared.answer.Sort.TheVariants as sort
use Rattle.spk_session.specs.PacketIds.{is_in}

-- An event that was done. Lists of events stand oldest first; a `sent` that was refused is no event.
pub data Event : Type 0 where
  -- an id was given
  Gave : ℕ → Event
  -- an acknowledgement of an id came
  Acked : ℕ → Event
  -- a send of this sort was refused
  Refused : Sort → Event
  Reopened : Event
  -- these ids were taken back, and the one given last is named
  TookBack : List ℕ → ℕ → Event

-- an event that ends the use of an id
abbrev pub ends : ℕ → Event → Bool
ends id (Acked other) = nat_eq id other
ends id (TookBack ids last) = is_in ids id
ends id _ = false

-- the id that an event gave, unless its use ended since
abbrev pub stays : Event → List Event → List ℕ
stays (Gave id) since = if list_any (ends id) since then [] else id ∷ []
stays _ since = []

-- the ids given and neither acknowledged nor taken back since, in the order of giving
abbrev pub in_use : List Event → List ℕ
in_use [] = []
in_use (event ∷ since) = stays event since ++ in_use since

-- what an event says of the id given last
abbrev pub says_last : Event → Option ℕ
says_last (Gave id) = Some id
says_last (TookBack ids last) = Some last
says_last _ = None

-- what the last event says that says anything
abbrev pub or_else : Option ℕ → Option ℕ → Option ℕ
or_else (Some id) other = Some id
or_else None other = other

abbrev pub last_said : List Event → Option ℕ
last_said [] = None
last_said (event ∷ since) = or_else (last_said since) (says_last event)

-- the id given last, 0 where none was
abbrev pub last_given : List Event → ℕ
last_given events = unwrap_or (last_said events) 0

abbrev pub is_drop : Event → Bool
is_drop (Refused sort.QosZero) = true
is_drop _ = false

abbrev pub is_reopening : Event → Bool
is_reopening Reopened = true
is_reopening _ = false

-- how many drops there were since the session was made or reopened
abbrev pub drops_of : List Event → ℕ
drops_of [] = 0
drops_of (event ∷ since) = (if is_drop event && not (list_any is_reopening since) then 1 else 0) + drops_of since
