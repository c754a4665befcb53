-- What each call of an edge node's program did, as deeds, and what it is refused for. Moments are in milliseconds.
use Rattle.std.specs.Prelude.{◌≡◌, ◌≢◌, ◌⊎◌, ℕ, ◌==◌, nat_le, nat_lt, Bool, true, false, ◌&&◌, not, List, [], ◌∷◌, length, Option, Some, None, is_none, Err, if◌then◌else◌, min}
use Rattle.std.specs.List.{AllByRecursion}
use Rattle.spk_connection.specs.Step as connection
use Rattle.spk_connection.specs.Step.{after_read, after_wrote, is_open}
use Rattle.spk_connection.specs.declared.fault.ConnectionFault.{ConnectionFault}
use Rattle.spk_edge.specs.Patch.{IsRefusal, plain_input}
use Rattle.spk_edge.specs.declared.message.Out.{Out}
use Rattle.spk_edge.specs.Several.{IsRefused, place_at}
use Rattle.spk_edge_rules.specs.Inputs.{Changes, Drain, Input, Open, Stop}
use Rattle.spk_edge_rules.specs.Rules as rules
use Rattle.spk_edge_rules.specs.Several.{single}
use Rattle.spk_edge_rules.specs.Step.{answer_at}
use Rattle.spk_edge_rules.specs.declared.fault.EdgeFault.{EdgeFault}
use Rattle.spk_edge_rules.specs.declared.phase.Phase.{Phase}
use Rattle.spk_edge_rules.specs.declared.phase.Phase.TheVariants.{Idle, Connecting, Waiting, Born}
use Rattle.spk_link.specs.Step as link
use Rattle.spk_link.specs.declared.stand.Due.{Due}
use Rattle.spk_link.specs.declared.stand.Due.TheVariants as due
use Rattle.spk_login.specs.Bytes.{refusal}
use Rattle.spk_login.specs.declared.fault.LoginFault.{LoginFault}
use Rattle.spk_packets.specs.Fault.{first_of, IsNamed}
use Rattle.spk_packets.specs.Message.{Message}
use Rattle.spk_packets.specs.Refusals.{refusals}
use Rattle.spk_packets.specs.declared.fault.PacketFault.{PacketFault}
use Rattle.spk_packets.specs.declared.fault.PacketFault.TheVariants.{More}
use Rattle.spk_payload.specs.Typing.{Typed}
use Rattle.spk_record.specs.declared.record.Record.{Record}
use Rattle.spk_edge_app.specs.Data.{App, Answered, Asked, Coming, Deed, Dropped, GaveUp, Heard, LoginData, Opened, Refused, Told}
use Rattle.spk_edge_app.specs.Data as deed
use Rattle.spk_edge_app.specs.Fault as faults
use Rattle.spk_edge_app.specs.Step.{IsRun, IsStep, bytes_in, wanted_by, with_connection}
use Rattle.spk_edge_app.specs.declared.fault.ChangesRefused.{ChangesRefused}
use Rattle.spk_edge_app.specs.declared.fault.EdgeAppFault.{EdgeAppFault}
use Rattle.spk_edge_app.specs.declared.fault.EdgeAppFault.TheVariants as fault

-- ---- when something is due

abbrev pub due_of : Option ℕ → Bool → App → ℕ → Due
due_of (Some at) silent a now = if nat_le at now then due.End else due.Nothing
due_of None true a now = due.Nothing
due_of None false a now = link.due_at a.connection.link now

-- no connection is opened any more
abbrev pub is_silent : App → Bool
is_silent a = a.stopped && not (is_open a.connection)

-- What is due of the connection, but for a try where the node has stopped; and of one that is to be closed its end alone, at the latest moment for it.
abbrev pub due_at : App → ℕ → Due
due_at a now = due_of a.closing (is_silent a) a now

-- ---- what is lent, written and kept

-- what waits to be written, where no record is wanted before it
abbrev pub lent : Option Record → List ℕ → List ℕ
lent None waiting = waiting
lent (Some wanted) waiting = []

abbrev pub wrote_where : Option Record → ℕ → ℕ → App → App
wrote_where None count now a = with_connection (after_wrote a.connection (min count (length a.connection.unwritten)) now) a
wrote_where (Some wanted) count now a = a

abbrev pub is_same : Record → Record → Bool
is_same r s = (r.bd == s.bd) && (r.stamp == s.stamp)

abbrev pub saved_where : Option Record → Record → App → App
saved_where None r a = a
saved_where (Some wanted) r a = if is_same wanted r then record a { kept = r; wanted = wanted_by r None a.node } else a

-- ---- opened

pub record IsOpened (a : App) (now : ℕ) (b : App) : Type 0 where
  pub out : Out
  pub bytes : List ℕ
  pub sent : Bool
  pub step : IsStep a (Opened now out bytes sent) b

-- the user name and the password can't be put into CONNECT
pub record IsBadLogin (login : Option LoginData) (connect : List ℕ) (e : EdgeAppFault) : Type 0 where
  pub says : LoginData
  pub is_login : login ≡ Some says
  pub reason : LoginFault
  pub refused : refusal connect says.user says.password ≡ Some reason
  pub is : e ≡ fault.Login reason

-- so the node opened a session, and its CONNECT was dropped
pub record IsUnlogged (a : App) (now : ℕ) (b : App) (e : EdgeAppFault) : Type 0 where
  pub out : Out
  pub step : IsStep a (Opened now out (bytes_in out) false) b
  pub bad : IsBadLogin a.login (bytes_in out) e

abbrev pub IsUnopened : App → ℕ → App → EdgeAppFault → Type 0
IsUnopened a now b fault.NoMemory = b ≡ a
IsUnopened a now b fault.Open = (is_open a.connection ≡ true) × (b ≡ a)
IsUnopened a now b fault.Stopped = (a.stopped ≡ true) × (b ≡ a)
IsUnopened a now b (fault.Edge e) = (answer_at a.node.config a.node.standing (plain_input now Open) ≡ Err e) × (b ≡ a)
IsUnopened a now b (fault.Login e) = IsUnlogged a now b (fault.Login e)
IsUnopened a now b _ = ⊥

-- ---- what the program tells the node

-- the node was told this, and what it answered was sent, or dropped
pub record IsTold (a : App) (i : Input) (b : App) : Type 0 where
  pub out : Out
  pub sent : Bool
  pub step : IsStep a (Told i out sent) b

-- the node refuses it with this
pub record IsUntold (a : App) (i : Input) (e : EdgeAppFault) : Type 0 where
  pub fault : EdgeFault
  pub refused : IsRefusal a.node i fault
  pub is : e ≡ faults.edge_fault fault

-- each of several changes was told by itself, one after the other
abbrev pub AreTold : App → ℕ → List (ℕ × Option Typed) → App → Type 0
AreTold a now [] b = b ≡ a
AreTold a now (x ∷ xs) b = (m : App) × IsTold a (single now x) m × AreTold m now xs b

-- several changes were told: a Born node as one input, any other one each by itself
pub record IsToldAll (a : App) (now : ℕ) (changes : List (ℕ × Option Typed)) (b : App) : Type 0 where
  pub born : rules.is_born a.node.standing.asked.phase ≡ true → IsTold a (plain_input now (Changes changes)) b
  pub each : rules.is_born a.node.standing.asked.phase ≡ false → AreTold a now changes b

-- the node refuses them with this, at this place
pub record IsUntoldAll (a : App) (now : ℕ) (changes : List (ℕ × Option Typed)) (e : ChangesRefused) : Type 0 where
  pub fault : EdgeFault
  pub refused : IsRefused a.node now changes fault
  pub is : e.fault ≡ faults.edge_fault fault
  pub place : e.place ≡ place_at a.node.standing.asked.book now changes

-- ---- read

-- a packet that was taken and for which there was memory, at this moment
abbrev pub IsKept : Coming → Type 0
IsKept (Answered out sent) = Unit {0}
IsKept (Refused f) = Unit {0}
IsKept Dropped = ⊥

abbrev pub IsHearing : ℕ → Deed → Type 0
IsHearing now (Heard packet at came) = (at ≡ now) × IsKept came
IsHearing now _ = ⊥

-- packets are taken, one after the other
pub record HearsAll (now : ℕ) (a b : App) : Type 0 where
  pub deeds : List Deed
  pub hearings : AllByRecursion (IsHearing now) deeds
  pub run : IsRun a deeds b

-- nothing more is to be taken: no whole packet stands at the front, or the connection is to be closed
abbrev pub IsTakenUp : App → Type 0
IsTakenUp b = (is_none b.closing ≡ false) ⊎ (first_of (refusals b.connection.unread) ≡ Some More)

-- why the connection is given up: the bytes at the front are no packet, or there is no memory for one
pub record IsBroken (a : App) (now : ℕ) (b : App) (e : EdgeAppFault) : Type 0 where
  pub fault : PacketFault
  pub named : IsNamed fault (first_of (refusals a.connection.unread))
  pub other : fault ≢ More
  pub is : e ≡ faults.packet_fault fault
  pub step : IsStep a (GaveUp now) b

pub record IsDropped (a : App) (now : ℕ) (b : App) (e : EdgeAppFault) : Type 0 where
  pub packet : Message
  pub is : e ≡ fault.NoMemory
  pub step : IsStep a (Heard packet now Dropped) b

abbrev pub EndsBy : App → ℕ → App → EdgeAppFault → Type 0
EndsBy a now b e = IsBroken a now b e ⊎ IsDropped a now b e

-- some packets were taken, and then it was given up
pub record HearsSome (a : App) (now : ℕ) (b : App) (e : EdgeAppFault) : Type 0 where
  pub between : App
  pub heard : HearsAll now a between
  pub ends : EndsBy between now b e

-- the bytes are put behind those that wait
abbrev pub fed : List ℕ → ℕ → App → App
fed piece now a = with_connection (after_read a.connection piece now) a

-- they were taken in, and the whole packets behind them
pub record IsReadAll (a : App) (piece : List ℕ) (now : ℕ) (b : App) : Type 0 where
  pub running : a.closing ≡ None
  pub is_there : is_open a.connection ≡ true
  pub heard : HearsAll now (fed piece now a) b
  pub up : IsTakenUp b

-- bytes of a connection that is to be closed are passed over
abbrev pub IsPassedOver : App → App → Type 0
IsPassedOver a b = (is_none a.closing ≡ false) × (b ≡ a)

abbrev pub WasRead : App → List ℕ → ℕ → App → Type 0
WasRead a piece now b = IsReadAll a piece now b ⊎ IsPassedOver a b

-- they weren't taken in
pub record IsShut (a : App) (piece : List ℕ) (now : ℕ) (b : App) (e : EdgeAppFault) : Type 0 where
  pub fault : ConnectionFault
  pub refused : connection.IsUnread a.connection piece fault
  pub is : e ≡ faults.connection_fault fault
  pub step : IsStep a (GaveUp now) b

-- they were, and the connection was given up at one of the packets
pub record IsReadSome (a : App) (piece : List ℕ) (now : ℕ) (b : App) (e : EdgeAppFault) : Type 0 where
  pub is_there : is_open a.connection ≡ true
  pub heard : HearsSome (fed piece now a) now b e

abbrev pub IsUnread : App → List ℕ → ℕ → App → EdgeAppFault → Type 0
IsUnread a piece now b e = (a.closing ≡ None) × (IsShut a piece now b e ⊎ IsReadSome a piece now b e)

-- ---- what a moment brings

abbrev pub is_ping : Due → Bool
is_ping due.Ping = true
is_ping _ = false

-- PINGREQ is sent exactly where it is due
abbrev pub IsPinged : App → ℕ → App → Type 0
IsPinged a now b = ((is_ping (due_at a now) ≡ true) × IsStep a (Asked now) b) ⊎ ((is_ping (due_at a now) ≡ false) × (b ≡ a))

abbrev pub is_born : Phase → Bool
is_born Born = true
is_born _ = false

-- how many bytes may wait to be written while kept changes are sent (own rule)
abbrev pub little : ℕ
little = 65536

-- changes are kept, and may be sent: a node that is born, little that waits, and a connection that goes on
abbrev pub may_drain : App → Bool
may_drain a = is_born a.node.standing.asked.phase && (nat_lt 0 (length a.node.standing.asked.store.items)
    && (nat_lt (length a.connection.unwritten) little && is_none a.closing))

abbrev pub IsDrained : App → ℕ → App → Type 0
IsDrained a now b = ((may_drain a ≡ true) × IsTold a (plain_input now Drain) b) ⊎ ((may_drain a ≡ false) × (b ≡ a))

pub record IsMoment (a : App) (now : ℕ) (b : App) : Type 0 where
  pub between : App
  pub pinged : IsPinged a now between
  pub drained : IsDrained between now b

-- there is no memory for PINGREQ; or it was sent where it was due, and the node refuses the drain
pub record IsUndrained (a : App) (now : ℕ) (b : App) (e : EdgeAppFault) : Type 0 where
  pub pinged : IsPinged a now b
  pub refused : IsUntold b (plain_input now Drain) e

abbrev pub IsHeldUp : App → ℕ → App → EdgeAppFault → Type 0
IsHeldUp a now b e = ((e ≡ fault.NoMemory) × (is_ping (due_at a now) ≡ true) × (b ≡ a)) ⊎ IsUndrained a now b e

-- ---- an orderly end

abbrev pub is_in_session : Phase → Bool
is_in_session Waiting = true
is_in_session Born = true
is_in_session Idle = false
is_in_session Connecting = false

-- a session is ended in order, and where there is none the connection is given up
abbrev pub IsEnded : App → ℕ → App → Type 0
IsEnded a now b = ((is_in_session a.node.standing.asked.phase ≡ true) × IsTold a (plain_input now Stop) b)
    ⊎ ((is_in_session a.node.standing.asked.phase ≡ false) × IsStep a (GaveUp now) b)

pub record IsStopped (a : App) (now : ℕ) (b : App) : Type 0 where
  pub between : App
  pub ended : IsEnded a now between
  pub stopped : IsStep between deed.Stopped b
