-- The calls of a server (own rules): what each did, as a run of deeds, and lists of calls.
use Rattle.std.specs.Prelude.{◌≡◌, ◌⊎◌, ℕ, ◌+◌, ◌<◌, nat_lt, Bool, true, false, if◌then◌else◌, List, [], ◌∷◌, ◌++◌, Option, Some, None}
use Rattle.std.specs.List.{list_all}
use Rattle.spk_packets.specs.Fault.{first_of}
use Rattle.spk_packets.specs.Refusals.{refusals}
use Rattle.spk_packets.specs.declared.fault.PacketFault.TheVariants.{More}
use Rattle.spk_broker_notes.specs.Noted.{Noted, bytes_of}
use Rattle.spk_broker_rules.specs.Step.{is_full}
use Rattle.spk_clients.specs.declared.cause.Cause.{Cause}
use Rattle.spk_clients.specs.declared.client.Client.{Client}
use Rattle.spk_clients.specs.declared.client.Phase.TheVariants.{Done}
use Rattle.spk_clients.specs.Client.{is_over}
use Rattle.spk_clients.specs.Data.{NobodyIsDue, NobodyIsToShut}
use Rattle.spk_server.specs.Data.{Deed, Room, Want}
use Rattle.spk_server.specs.Data as deed
use Rattle.spk_server.specs.Step.{after, second}
use Rattle.spk_server.specs.Tallies.{fresh_tally}
use Rattle.spk_server.specs.Log.{HasClient, IsRested, LooksAt, Reaches, calls, follows, goes_on, is_all_kept, is_open, takes}

-- a call, with what the loop told the server or was told by it
pub data Call : Type 0 where
  Accepted : (conn : ℕ) (now : ℕ) → Call
  -- one was refused
  TurnedAway : (now : ℕ) → Call
  Read : (conn : ℕ) (piece : List ℕ) (now : ℕ) → Call
  Gone : (conn : ℕ) (now : ℕ) → Call
  GoOn : (now : ℕ) → Call
  Moment : (now : ℕ) → Call
  Wrote : (conn : ℕ) (count : ℕ) → Call
  Cut : (conn : ℕ) → Call
  NextToWrite : (conn : Option ℕ) → Call
  NextToShut : (shut : Option (ℕ × Cause)) → Call
  -- these bytes were kept
  Kept : (bytes : List ℕ) → Call
  Begun : Call

abbrev pub IsHeld : Option ℕ → Type 0
IsHeld None = ⊥
IsHeld (Some slow) = Unit {0}

-- Nothing more is to be taken of what a client sent: its end came, or no whole packet stands at the front, or it waits for another.
abbrev pub IsTakenUp : Option Client → Type 0
IsTakenUp None = Unit {0}
IsTakenUp (Some c) = (is_over c ≡ true) ⊎ ((first_of (refusals c.feed) ≡ Some More) ⊎ IsHeld c.waits_for)

-- its moment comes first
abbrev pub timed : ℕ → Room → Room
timed now r = after (deed.Timed now) r

-- bytes were read of a client: they are put behind what it sent, and its packets are taken
pub record TookUp (conn : ℕ) (piece : List ℕ) (r s : Room) : Type 0 where
  pub here : is_open r conn ≡ true
  pub taken : Reaches (takes conn) (after (deed.Fed conn piece) r) s
  pub up : IsTakenUp (s.clients conn)

-- its end had come: they are passed over
pub record PassedOver (conn : ℕ) (r s : Room) : Type 0 where
  pub over : is_open r conn ≡ false
  pub same : s ≡ r

-- there was no memory for them, or more would wait than may: it is ended
pub record RanOut (conn : ℕ) (r s : Room) : Type 0 where
  pub here : is_open r conn ≡ true
  pub ended : Reaches follows (after (deed.Left conn Want) r) s

-- a client sends no more: it is ended, if that is new
pub record WasEnded (conn : ℕ) (r s : Room) : Type 0 where
  pub here : is_open r conn ≡ true
  pub ended : Reaches follows (after (deed.Left conn deed.Gone) r) s

-- the broker was told of the time within the last second
abbrev pub IsTold : Room → Type 0
IsTold r = r.now < r.ticked + second

-- the same, as an answer
abbrev pub is_told : Room → Bool
is_told r = nat_lt r.now (r.ticked + second)

abbrev pub IsDone : Call → Room → Room → Type 0
IsDone (Accepted conn now) r s =
    (is_full r.noted.broker ≡ false) × (conn ≡ r.noted.broker.given + 1) × (s ≡ after (deed.Joined conn) (timed now r))
IsDone (TurnedAway now) r s = s ≡ timed now r
IsDone (Read conn piece now) r s =
    TookUp conn piece (timed now r) s ⊎ (PassedOver conn (timed now r) s ⊎ RanOut conn (timed now r) s)
IsDone (Gone conn now) r s = WasEnded conn (timed now r) s ⊎ PassedOver conn (timed now r) s
IsDone (GoOn now) r s = LooksAt r.held (timed now r) s
IsDone (Moment now) r s = Reaches calls (timed now r) s × NobodyIsDue s.now s.clients
IsDone (Wrote conn count) r s = s ≡ (if is_all_kept r then after (deed.Wrote conn count) r else r)
IsDone (Cut conn) r s = s ≡ after (deed.Blocked conn) r
IsDone (NextToWrite None) r s = s ≡ r
IsDone (NextToWrite (Some conn)) r s = s ≡ after (deed.Named conn) r
IsDone (NextToShut None) r s = (s ≡ r) × NobodyIsToShut r.clients
IsDone (NextToShut (Some shut)) r s = HasClient (λ c. (c.phase ≡ Done) × (c.cause ≡ shut.1)) shut.0 r × (s ≡ after (deed.Forgot shut.0) r)
IsDone (Kept bytes) r s = (bytes ≡ bytes_of r.noted.notes) × (s ≡ after (deed.Kept bytes) r)
IsDone Begun r s = s ≡ after deed.Begun r

-- a server without clients, over a broker: its time goes on from that one's clock
abbrev pub room_with : Noted → Room
room_with x = record {
  noted = x;
  clients = λ k. None;
  now = x.broker.clock;
  ticked = x.broker.clock;
  held = [];
  in_hand = None;
  pending = [];
  closing = [];
  slow = None;
  tally = fresh_tally;
}

-- Each of these calls was done, one after the other, and the broker is told of each refused send behind each.
abbrev pub AreDone : Room → List Call → Room → Type 0
AreDone r [] s = r ≡ s
AreDone r (c ∷ cs) s = (m : Room) × IsDone c r m × IsRested m × AreDone m cs s

-- these are shut, by one call after the other, until nobody is to be shut
abbrev pub shut_calls : List (ℕ × Cause) → List Call
shut_calls [] = NextToShut None ∷ []
shut_calls (x ∷ xs) = NextToShut (Some x) ∷ shut_calls xs

-- ---- the deeds of a call

-- bytes that were read, as a deed
abbrev pub IsIntake : ℕ → List ℕ → Deed → Type 0
IsIntake conn piece d = (d ≡ deed.Fed conn piece) ⊎ ((d ≡ deed.Skipped conn piece) ⊎ (d ≡ deed.Left conn Want))

-- which deeds are those of a call
abbrev pub IsLogOf : Call → List Deed → Type 0
IsLogOf (Accepted conn now) log = log ≡ deed.Timed now ∷ deed.Joined conn ∷ []
IsLogOf (TurnedAway now) log = log ≡ deed.Timed now ∷ []
IsLogOf (Read conn piece now) log =
    (d : Deed) × (ds : List Deed) × (log ≡ deed.Timed now ∷ d ∷ ds) × IsIntake conn piece d × (list_all (takes conn) ds ≡ true)
IsLogOf (Gone conn now) log = (ds : List Deed) × (log ≡ deed.Timed now ∷ ds) × ((ds ≡ []) ⊎ ((es : List Deed)
    × (ds ≡ deed.Left conn deed.Gone ∷ es) × (list_all follows es ≡ true)))
IsLogOf (GoOn now) log = (ds : List Deed) × (log ≡ deed.Timed now ∷ ds) × (list_all goes_on ds ≡ true)
IsLogOf (Moment now) log = (ds : List Deed) × (log ≡ deed.Timed now ∷ ds) × (list_all calls ds ≡ true)
IsLogOf (Wrote conn count) log = (log ≡ deed.Wrote conn count ∷ []) ⊎ (log ≡ [])
IsLogOf (Cut conn) log = log ≡ deed.Blocked conn ∷ []
IsLogOf (NextToWrite None) log = log ≡ []
IsLogOf (NextToWrite (Some conn)) log = log ≡ deed.Named conn ∷ []
IsLogOf (NextToShut None) log = log ≡ []
IsLogOf (NextToShut (Some shut)) log = log ≡ deed.Forgot shut.0 ∷ []
IsLogOf (Kept bytes) log = log ≡ deed.Kept bytes ∷ []
IsLogOf Begun log = log ≡ deed.Begun ∷ []

-- the deeds of these calls, one call behind the other
abbrev pub LogOf : List Call → List Deed → Type 0
LogOf [] log = log ≡ []
LogOf (c ∷ cs) log = (own : List Deed) × (rest : List Deed) × (log ≡ own ++ rest) × IsLogOf c own × LogOf cs rest
