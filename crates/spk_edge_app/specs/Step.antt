-- What each deed of an edge node's program leaves, and what it must find. Moments are in milliseconds.
use Rattle.std.specs.Prelude.{◌≡◌, ◌≢◌, ◌⊎◌, ℕ, ◌+◌, ◌-◌, ◌^◌, ◌==◌, ◌/◌, ◌%◌, drop, min, nat_le, Bool, true, false, ◌&&◌, List, [], ◌∷◌, Option, Some, None, Err, if◌then◌else◌}
use Rattle.std.specs.List.{flat_map}
use Rattle.spk_connection.specs.Data.{Connection}
use Rattle.spk_connection.specs.Step.{IsTaken, after_asked, after_opened, after_over, after_read, after_sent, is_open}
use Rattle.spk_connection.specs.Step as connection
use Rattle.spk_connection.specs.Run as events
use Rattle.spk_edge.specs.Patch.{IsDone, after_cut, plain_input}
use Rattle.spk_edge.specs.Sealing.{bytes_of}
use Rattle.spk_edge.specs.View.{NodeData}
use Rattle.spk_edge.specs.declared.message.Out.{Out}
use Rattle.spk_edge.specs.declared.message.Write.{Write}
use Rattle.spk_edge_rules.specs.Arriving.{input_of}
use Rattle.spk_edge_rules.specs.Inputs as inputs
use Rattle.spk_edge_rules.specs.Inputs.{Input}
use Rattle.spk_edge_rules.specs.Step.{answer_at}
use Rattle.spk_login.specs.Bytes.{login_bytes}
use Rattle.spk_login.specs.Login.{LogsIn}
use Rattle.spk_packets.specs.Grammar.{Spells}
use Rattle.spk_packets.specs.Message.{Connect, WillData}
use Rattle.spk_record.specs.Covers.{reserved}
use Rattle.spk_record.specs.declared.record.Record.{Record}
use Rattle.spk_store.specs.Data.{Kept}
use Rattle.spk_store.specs.Step.{after_push, empty_store}
use Rattle.spk_edge_app.specs.Data.{App, Coming, Answered, Refused, Dropped, Deed, Opened, Read, Heard, Told, Asked, Wrote, Saved, GaveUp, Stopped, Handed, Over, LoginData}

-- ---- the record on the disk

-- nothing was used, or nothing past what is reserved
abbrev pub is_up_to : Option ℕ → ℕ → Bool
is_up_to None until = true
is_up_to (Some used) until = nat_le used until

-- the record covers all that the node did: the bdSeq that comes next is its own, and the last stamp isn't past its own
abbrev pub allows : Record → NodeData → Bool
allows r n = (r.bd == n.standing.asked.bd) && is_up_to n.standing.asked.stamp r.stamp

abbrev pub stamp_used : Option ℕ → ℕ
stamp_used None = 0
stamp_used (Some used) = used

-- the record that is reserved for what the node did
abbrev pub needed : NodeData → Record
needed n = record (reserved 0 (stamp_used n.standing.asked.stamp)) { bd = n.standing.asked.bd }

-- the record that is wanted, once the node did something more: the one that was wanted, where it covers that too
abbrev pub wanted_by : Record → Option Record → NodeData → Option Record
wanted_by kept None n = if allows kept n then None else Some (needed n)
wanted_by kept (Some wanted) n = if allows wanted n then Some wanted else Some (needed n)

-- ---- values for the machine: the oldest is dropped where 4,096 wait (own rule)

abbrev pub most_writes : ℕ
most_writes = 4096

abbrev pub after_pushes : {X : Type 0} → Kept X → List X → Kept X
after_pushes s [] = s
after_pushes s (x ∷ xs) = after_pushes (after_push s x) xs

-- ---- the end of a connection

-- how long a connection that is to be closed may take to write what waits (own rule)
abbrev pub grace : ℕ
grace = 5000

-- the moment at which it is closed at the latest; a moment has 64 bits, and stands at the greatest
abbrev pub until : ℕ → ℕ
until now = min (now + grace) (2 ^ 64 - 1)

abbrev pub closing_by : Option ℕ → Bool → ℕ → Option ℕ
closing_by (Some at) is_there now = Some at
closing_by None is_there now = if is_there then Some (until now) else None

-- the connection, if there is one, is to be closed
abbrev pub shutting : ℕ → App → App
shutting now a = record a { closing = closing_by a.closing (is_open a.connection) now }

-- the session is over, and the connection is to be closed
abbrev pub given_up : ℕ → App → App
given_up now a = shutting now (record a { node = after_cut a.node })

-- ---- what the node answers

-- its packets, end to end
abbrev pub bytes_in : Out → List ℕ
bytes_in out = flat_map bytes_of out.packets.items

-- a record is wanted that covers what the node did, and these values wait for the machine
abbrev pub noted : List Write → App → App
noted writes a = record a { wanted = wanted_by a.kept a.wanted a.node; writes = after_pushes a.writes writes }

-- the node was told something, and answered this
abbrev pub told : NodeData → Out → App → App
told n out a = noted out.writes.items (record a { node = n })

abbrev pub with_connection : Connection → App → App
with_connection c a = record a { connection = c }

abbrev pub sent_where : Bool → List ℕ → App → App
sent_where true bytes a = with_connection (after_sent a.connection bytes) a
sent_where false bytes a = a

-- where it was dropped the connection is given up, and it is to be closed where the node asks so
abbrev pub ending : Bool → Bool → ℕ → App → App
ending true true now a = shutting now a
ending true false now a = a
ending false close now a = given_up now a

-- its packets are sent as these bytes, or dropped
abbrev pub sending : Bool → List ℕ → Bool → ℕ → App → App
sending sent bytes close now a = ending sent close now (sent_where sent bytes a)

-- something is sent on a connection alone, and nothing is dropped where there is no packet
abbrev pub MaySend : Bool → Out → List ℕ → Connection → Type 0
MaySend true out bytes c = (bytes ≡ []) ⊎ (is_open c ≡ true)
MaySend false out bytes c = out.packets.items ≢ []

-- the node was told an input, and what it answered was sent as these bytes, or dropped
pub record Tells (a : App) (i : Input) (out : Out) (bytes : List ℕ) (sent : Bool) (b : App) : Type 0 where
  pub node : NodeData
  pub done : IsDone a.node i node out
  pub is : b ≡ sending sent bytes out.close i.now (told node out a)

-- ---- what comes of a packet

-- PUBACK (MQTT 3.1.1, section 3.4)
abbrev pub puback : ℕ → List ℕ
puback id = 64 ∷ 2 ∷ id / 256 ∷ id % 256 ∷ []

-- PUBACK of a message that the node refuses, where it is to be acknowledged (MQTT 3.1.1, section 4.3.2)
abbrev pub acknowledged : Option ℕ → App → App
acknowledged None a = a
acknowledged (Some id) a = with_connection (after_sent a.connection (puback id)) a

abbrev pub MayAcknowledge : Option ℕ → Connection → Type 0
MayAcknowledge None c = Unit {0}
MayAcknowledge (Some id) c = is_open c ≡ true

abbrev pub Comes : Input → Coming → App → App → Type 0
Comes i (Answered out sent) a b = MaySend sent out (bytes_in out) a.connection × Tells a i out (bytes_in out) sent b
Comes i (Refused fault) a b = (answer_at a.node.config a.node.standing i ≡ Err fault) × MayAcknowledge i.ack a.connection × (b ≡ acknowledged i.ack a)
Comes i Dropped a b = b ≡ given_up i.now a

-- ---- CONNECT

-- the bytes are those of CONNECT, or of the same CONNECT with the user name and the password
pub record SaysLogin (connect bytes : List ℕ) (l : LoginData) : Type 0 where
  pub bytes_with : bytes ≡ login_bytes connect l.user l.password
  pub same : (client : List ℕ) (clean : Bool) (keep : ℕ) (will : Option WillData) → Spells connect (Connect client clean keep will)
      → LogsIn bytes client clean keep will l.user l.password

abbrev pub IsConnecting : Option LoginData → List ℕ → List ℕ → Type 0
IsConnecting None connect bytes = bytes ≡ connect
IsConnecting (Some l) connect bytes = SaysLogin connect bytes l

-- CONNECT was dropped, or these are its bytes
abbrev pub IsConnectingIf : Bool → Option LoginData → List ℕ → List ℕ → Type 0
IsConnectingIf true l connect bytes = IsConnecting l connect bytes
IsConnectingIf false l connect bytes = bytes ≡ connect

-- the TCP connection stands
abbrev pub connected : ℕ → App → App
connected now a = record a { connection = after_opened a.connection now; closing = None }

-- ---- deeds

-- what the program itself tells the node: no packet, and no session
abbrev pub is_own : inputs.Act → Bool
is_own (inputs.Change alias value) = true
is_own (inputs.Changes changes) = true
is_own (inputs.Turn name up) = true
is_own inputs.Drain = true
is_own inputs.Stop = true
is_own _ = false

-- a packet was taken, and this came of it
pub record Hears (a : App) (i : Input) (came : Coming) (c : Connection) (b : App) : Type 0 where
  pub running : a.closing ≡ None
  pub came_of : Comes i came (with_connection c a) b

-- a deed that was done, and what it left
abbrev pub IsStep : App → Deed → App → Type 0
IsStep a (Opened now out bytes sent) b =
    (is_open a.connection ≡ false) × (a.stopped ≡ false) × IsConnectingIf sent a.login (bytes_in out) bytes
    × Tells (connected now a) (plain_input now inputs.Open) out bytes sent b
IsStep a (Read piece now) b = (is_open a.connection ≡ true) × (a.closing ≡ None) × (b ≡ with_connection (after_read a.connection piece now) a)
IsStep a (Heard packet now came) b =
    (c : Connection) × IsTaken a.connection packet c × Hears a (input_of a.node.config now packet) came c b
IsStep a (Told i out sent) b = (is_own i.act ≡ true) × MaySend sent out (bytes_in out) a.connection × Tells a i out (bytes_in out) sent b
IsStep a (Asked now) b = (is_open a.connection ≡ true) × (b ≡ with_connection (after_asked a.connection now) a)
IsStep a (Wrote first others now) b = (a.wanted ≡ None) × ((c : Connection)
    × events.IsStep a.connection (events.Wrote first others now) c × (b ≡ with_connection c a))
IsStep a (Saved saved) b = (a.wanted ≡ Some saved) × (b ≡ record a { kept = saved; wanted = wanted_by saved None a.node })
IsStep a (GaveUp now) b = b ≡ given_up now a
IsStep a Stopped b = b ≡ record a { stopped = true }
IsStep a Handed b = b ≡ record a { writes = record a.writes { items = drop 1 a.writes.items } }
IsStep a (Over now) b = b ≡ record a { node = after_cut a.node; connection = after_over a.connection now; closing = None }

-- these deeds, newest first, lead from the one to the other
abbrev pub IsRun : App → List Deed → App → Type 0
IsRun a [] b = b ≡ a
IsRun a (d ∷ ds) b = (m : App) × IsRun a ds m × IsStep m d b

-- a program that was made, for a node and the record on the disk
abbrev pub fresh_app : NodeData → Option LoginData → Record → ℕ → App
fresh_app n login kept spread = record {
  node = n;
  connection = connection.fresh_connection n.config.keep spread;
  login = login;
  kept = kept;
  wanted = wanted_by kept None n;
  writes = empty_store most_writes;
  closing = None;
  stopped = false;
}
