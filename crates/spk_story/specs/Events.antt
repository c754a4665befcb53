-- What a host was told of one node, newest first (own rules). Moments are in milliseconds of the host's clock.
use Rattle.std.specs.Prelude.{ℕ, Bool, true, false, List, [], ◌∷◌, Option, None, if◌then◌else◌}
use Rattle.std.specs.Option.{option_or}
use Rattle.spk_story.specs.declared.hole.Loss.{Loss}

pub data Event : Type 0 where
  -- an NBIRTH of it was consumed
  Born : (now : ℕ) → Event
  -- another message of it, or of a device of it, was consumed
  Used : (now : ℕ) → Event
  -- messages of it that were held are dropped
  Dropped : (loss : Loss) (now : ℕ) → Event
  -- messages were lost, and it isn't followed until its next birth
  Gap : (now : ℕ) → Event
  -- the NDEATH of the session that was followed came
  Died : (now : ℕ) → Event
  -- an NDEATH came that changes nothing
  Ignored : (now : ℕ) → Event
  -- the host's own session is over
  Ended : (now : ℕ) → Event
  -- a rebirth was asked for
  Asked : (now : ℕ) → Event

abbrev pub moment : Event → ℕ
moment (Born now) = now
moment (Used now) = now
moment (Dropped loss now) = now
moment (Gap now) = now
moment (Died now) = now
moment (Ignored now) = now
moment (Ended now) = now
moment (Asked now) = now

-- ---- which event it is

abbrev pub is_birth : Event → Bool
is_birth (Born now) = true
is_birth _ = false

-- a message was consumed, a birth or another
abbrev pub is_use : Event → Bool
is_use (Born now) = true
is_use (Used now) = true
is_use _ = false

abbrev pub is_gap : Event → Bool
is_gap (Gap now) = true
is_gap _ = false

abbrev pub is_death : Event → Bool
is_death (Died now) = true
is_death _ = false

abbrev pub is_ignored : Event → Bool
is_ignored (Ignored now) = true
is_ignored _ = false

abbrev pub is_end : Event → Bool
is_end (Ended now) = true
is_end _ = false

abbrev pub is_request : Event → Bool
is_request (Asked now) = true
is_request _ = false

-- readings are lost by it
abbrev pub is_loss : Event → Bool
is_loss (Gap now) = true
is_loss (Dropped loss now) = true
is_loss _ = false

-- how many messages it says not to have come, and how many that came not to be used
abbrev pub missing_by : Event → ℕ
missing_by (Dropped loss now) = loss.missing
missing_by _ = 0

abbrev pub unused_by : Event → ℕ
unused_by (Dropped loss now) = loss.unused
unused_by _ = 0

-- ---- the newest of them

-- what the newest event says that says something
abbrev pub newest : {X : Type 0} → (Event → Option X) → List Event → Option X
newest says [] = None
newest says (e ∷ es) = option_or (says e) (newest says es)

-- the events since the last birth
abbrev pub since_birth : List Event → List Event
since_birth [] = []
since_birth (e ∷ es) = if is_birth e then [] else e ∷ since_birth es
