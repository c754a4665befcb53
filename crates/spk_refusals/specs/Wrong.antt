-- What wrong bodies make of answers and of the values behind them. Nothing but their own clauses cites it.
use Rattle.std.specs.Prelude.{◌≡◌, ◌⊎◌, ℕ, ◌+◌, ◌%◌, ◌==◌, Bool, true, false, ◌&&◌, nat_lt, nat_le, List, [], ◌∷◌, ◌++◌, length, map, take, drop, position, count_by, Option, Some, None, Result, Ok, Err, Vec, if◌then◌else◌}
use Rattle.std.specs.Option.{option_map_or}
use Rattle.std.specs.declared.alloc.Global.{Global}
use Rattle.spk_payload.specs.declared.fault.PayloadFault.{PayloadFault}
use Rattle.spk_payload.specs.declared.payload.Payload.{Payload}
use Rattle.spk_payload.specs.declared.values.Values.TheVariants as choice
use Rattle.spk_payload.specs.Meaning.{MetricData, PayloadData, MeansPayload}
use Rattle.spk_payload.specs.Spelling as payload
use Rattle.spk_packets.specs.declared.fault.PacketFault.{PacketFault}
use Rattle.spk_packets.specs.declared.fault.PacketFault.TheVariants.{NoMemory}
use Rattle.spk_packets.specs.Fault.{first_of}
use Rattle.spk_packets.specs.Grammar.{Spells}
use Rattle.spk_packets.specs.Message.{Message, Publish, Disconnect}
use Rattle.spk_packets.specs.Spelling as packet
use Rattle.spk_broker.specs.declared.fault.BrokerFault.{BrokerFault}
use Rattle.spk_broker.specs.declared.fault.BrokerFault.TheVariants.{NoSuchConn}
use Rattle.spk_broker.specs.declared.out.Out as broker_out
use Rattle.spk_broker.specs.declared.out.Outgoing.{Outgoing}
use Rattle.spk_broker.specs.Fault.{IsUnknown}
use Rattle.spk_broker.specs.Sent.{outgoing, sent_view}
use Rattle.spk_broker_rules.specs.Data.{Broker}
use Rattle.spk_broker_rules.specs.Plan.{Closed}
use Rattle.spk_broker_rules.specs.Step as broker_step
use Rattle.spk_broker_rules.specs.Step.{knows}
use Rattle.spk_device.specs.Book.{empty_book}
use Rattle.spk_sequence.specs.NodeRecord.{RunsOn}
use Rattle.spk_edge_rules.specs.declared.fault.EdgeFault.{EdgeFault}
use Rattle.spk_edge_rules.specs.Config.{Config}
use Rattle.spk_edge_rules.specs.Step as step
use Rattle.spk_edge.specs.declared.message.Out.{Out}
use Rattle.spk_edge.specs.Patch as patch
use Rattle.spk_edge.specs.View.{NodeData}
use Rattle.spk_world.specs.declared.event.Event.{Event}
use Rattle.spk_world.specs.declared.event.Event.TheVariants.{Hand, Death, Tick, Session}
use Rattle.spk_plan.specs.declared.fault.PlantFault.{PlantFault}
use Rattle.spk_plant.specs.declared.report.Report.{Report}
use Rattle.spk_refusals.specs.declared.turning.Turn.{Turn}
use Rattle.spk_refusals.specs.declared.turning.Turn.TheVariants.{DeviceNumber, Stamp}

-- refused with this, there alone
abbrev pub refused_where : {A E : Type 0} → Bool → E → Result A E → Result A E
refused_where true e answer = Err e
refused_where false e answer = answer

-- ---- packets

-- whether a remaining length stands in one byte
abbrev pub is_short : List ℕ → Bool
is_short [] = false
is_short (kind ∷ []) = false
is_short (kind ∷ size ∷ rest) = nat_lt size 128

-- a remaining length of one byte, in two
abbrev pub longer : List ℕ → List ℕ
longer [] = []
longer (kind ∷ []) = kind ∷ []
longer (kind ∷ size ∷ rest) = if nat_lt size 128 then kind ∷ (size + 128) ∷ 0 ∷ rest else kind ∷ size ∷ rest

-- What was written has its remaining length of one byte in two, and nothing else differs. A refusal stays; memory may be refused for the
-- byte more, where there is one.
abbrev pub IsLengthened : Result (Vec ℕ Global) PacketFault → Result (Vec ℕ Global) PacketFault → Type 0
IsLengthened (Ok real) (Ok v) = v.items ≡ longer real.items
IsLengthened (Ok real) (Err e) = (e ≡ NoMemory) × (is_short real.items ≡ true)
IsLengthened (Err e) answer = answer ≡ Err e

-- the remaining length takes two bytes, and would have stood in one
abbrev pub is_long : List ℕ → Bool
is_long [] = false
is_long (kind ∷ []) = false
is_long (kind ∷ low ∷ []) = false
is_long (kind ∷ low ∷ high ∷ rest) = nat_le 128 low && high == 0

-- ---- payloads

-- a field follows whose number a payload hasn't
abbrev pub begins_unknown : List ℕ → Bool
begins_unknown [] = false
begins_unknown (tag ∷ rest) = nat_le 48 tag

-- the sequence number that the first two bytes give, or else this
abbrev pub first_seq : List ℕ → Option ℕ → Option ℕ
first_seq [] seq = seq
first_seq (tag ∷ []) seq = seq
first_seq (tag ∷ number ∷ rest) seq = if tag == 24 && nat_lt number 128 then Some number else seq

abbrev pub with_first_seq : List ℕ → Result Payload PayloadFault → Result Payload PayloadFault
with_first_seq bytes (Ok p) = Ok (record p { seq = first_seq bytes p.seq })
with_first_seq bytes (Err f) = Err f

-- ---- views

abbrev pub current : MetricData → MetricData
current m = record m { historical = None }

-- ---- the broker

abbrev pub begins_with : ℕ → List ℕ → Bool
begins_with first [] = false
begins_with first (byte ∷ bytes) = byte == first

-- the bytes of a CONNACK begin with 32 (MQTT 3.1.1, 3.2.1)
abbrev pub is_connack : Outgoing → Bool
is_connack send = begins_with 32 send.bytes

-- what stands at a place stands before all others, which stay in their order
abbrev pub brought : {X : Type 0} → ℕ → List X → List X
brought place xs = take 1 (drop place xs) ++ (take place xs ++ drop (place + 1) xs)

-- the first of these that passes stands before all others
abbrev pub first_brought : {X : Type 0} → (X → Bool) → List X → List X
first_brought passes xs = option_map_or (λ place. brought place xs) (position passes xs) xs

-- the first CONNACK stands before all that is sent, and nothing else differs; a refusal stays
abbrev pub IsConnackFirst : Result broker_out.Out BrokerFault → Result broker_out.Out BrokerFault → Type 0
IsConnackFirst (Ok real) (Ok out) = (out.sends.items ≡ first_brought is_connack real.sends.items) × (out.closes ≡ real.closes)
IsConnackFirst (Ok real) (Err e) = ⊥
IsConnackFirst (Err e) answer = answer ≡ Err e

abbrev pub is_disconnect : Message → Bool
is_disconnect Disconnect = true
is_disconnect _ = false

-- nothing is answered but NoSuchConn, and nothing has changed
abbrev pub IsLeft : Broker → Broker → Result broker_out.Out BrokerFault → Type 0
IsLeft before after answer = (answer ≡ Err NoSuchConn) × (after ≡ before)

-- what is answered where a connection ended without the broker, and the broker after it
abbrev pub IsEnded : ℕ → ℕ → Broker → Broker → Result broker_out.Out BrokerFault → Type 0
IsEnded conn now before after (Ok out) =
    (map sent_view out.sends.items ≡ map outgoing (broker_step.step before (Closed conn now)).sends)
    × (out.closes.items ≡ (broker_step.step before (Closed conn now)).closes)
    × (after ≡ (broker_step.step before (Closed conn now)).broker)
    × (knows before conn ≡ true)
IsEnded conn now before after (Err e) = IsUnknown (knows before conn) e × (after ≡ before)

-- ---- packets whose payload says something else

-- whether a topic names a device: it has five levels
abbrev pub is_of_device : List ℕ → Bool
is_of_device topic = count_by (λ byte. byte == 47) topic == 4

-- whether the messages on a topic are turned
abbrev pub is_taken : Turn → List ℕ → Bool
is_taken DeviceNumber topic = is_of_device topic
is_taken (Stamp stamp) topic = true

abbrev pub stamped : ℕ → MetricData → MetricData
stamped stamp m = record m { timestamp = Some stamp }

-- what a payload says once it is turned: the sequence number is 0, or each stamp is this one
abbrev pub turned : Turn → PayloadData → PayloadData
turned DeviceNumber p = record p { seq = Some 0 }
turned (Stamp stamp) p = record p { timestamp = Some stamp; metrics = map (stamped stamp) p.metrics }

-- These bytes are the canonical spelling of the same PUBLISH with its payload turned. It is on a topic whose messages are turned, and both
-- can be written.
pub record IsTurned (turn : Turn) (before : Message) (after : List ℕ) : Type 0 where
  pub dup : Bool
  pub qos : ℕ
  pub retain : Bool
  pub topic : List ℕ
  pub id : Option ℕ
  pub text : List ℕ
  pub meant : PayloadData
  pub was : before ≡ Publish dup qos retain topic id text
  pub taken : is_taken turn topic ≡ true
  pub means : MeansPayload choice.Whole text meant
  pub fits : payload.PayloadFits (turned turn meant)
  pub writable : first_of (packet.unwritable (Publish dup qos retain topic id (payload.spelling (turned turn meant)))) ≡ None
  pub is : after ≡ packet.spelling (Publish dup qos retain topic id (payload.spelling (turned turn meant)))

-- A packet that spells such a PUBLISH is turned, unless memory is refused; any other is as it was.
abbrev pub IsTurnedPacket : Turn → List ℕ → List ℕ → Type 0
IsTurnedPacket turn before after = (after ≡ before) ⊎ ((p : Message) × Spells before p × IsTurned turn p after)

-- each of the elements is so beside the one at its place
abbrev pub AreEach : {X : Type 0} → (X → X → Type 0) → List X → List X → Type 0
AreEach R [] [] = Unit {0}
AreEach R [] (y ∷ ys) = ⊥
AreEach R (x ∷ xs) [] = ⊥
AreEach R (x ∷ xs) (y ∷ ys) = R x y × AreEach R xs ys

abbrev pub AreTurned : Turn → List (Vec ℕ Global) → List (Vec ℕ Global) → Type 0
AreTurned turn before after = AreEach (λ x y. IsTurnedPacket turn x.items y.items) before after

-- ---- the edge node

-- the packets are turned, and nothing else differs; a refusal stays
abbrev pub IsTurnedAnswer : Turn → Result Out EdgeFault → Result Out EdgeFault → Type 0
IsTurnedAnswer turn (Ok real) (Ok out) = AreTurned turn real.packets.items out.packets.items × (out.writes ≡ real.writes) × (out.close ≡ real.close)
IsTurnedAnswer turn (Ok real) (Err e) = ⊥
IsTurnedAnswer turn (Err e) answer = answer ≡ Err e

-- the last stamp, where the clock isn't past it
abbrev pub not_passed : Option ℕ → ℕ → Option ℕ
not_passed None now = None
not_passed (Some last) now = if nat_le now last then Some last else None

-- the packets have this stamp, if there is one; else the answer is as it was
abbrev pub IsStampRepeated : Option ℕ → Result Out EdgeFault → Result Out EdgeFault → Type 0
IsStampRepeated None before after = after ≡ before
IsStampRepeated (Some stamp) before after = IsTurnedAnswer (Stamp stamp) before after

-- a group g and a node n, without a primary host
abbrev pub other_config : Config
other_config = record { group = 103 ∷ []; node = 110 ∷ []; primary = None; keep = 0; numbering = RunsOn }

abbrev pub one_further : step.Record → step.Record
one_further r = record r { seq = (r.seq + 1) % 256 }

-- another node, without metrics, that goes on with this one's record, one number further
abbrev pub further_on : NodeData → NodeData
further_on n = patch.made other_config 1 (one_further (step.record_at n.config n.standing)) empty_book

-- where more changes are kept than this, another node goes on in its place, if there is one; else it is as it was
abbrev pub with_other : ℕ → Option NodeData → NodeData → NodeData
with_other kept None n = n
with_other kept (Some other) n = if nat_lt kept (length n.standing.asked.store.items) then other else n

-- ---- the world

-- an event that comes to a node
abbrev pub is_act : Event → Bool
is_act (Hand host node position now) = false
is_act (Death host node session now) = false
is_act (Tick host now) = false
is_act (Session host now) = false
is_act _ = true

-- a message is handed to a host
abbrev pub is_hand : Event → Bool
is_hand (Hand host node position now) = true
is_hand _ = false

-- ---- the plant

-- a report of the same nodes that says of nothing that it was taken, refused, given or cut
abbrev pub IsEmptied : Report → Report → Type 0
IsEmptied real r =
    (r.nodes ≡ real.nodes) × (r.taken.items ≡ []) × (r.refusals.items ≡ []) × (r.given.items ≡ []) × (r.accepted.items ≡ [])
    × (r.refused ≡ 0) × (r.is_cut ≡ false)

-- such a report is answered, and a refusal stays
abbrev pub IsReportEmptied : Result Report PlantFault → Result Report PlantFault → Type 0
IsReportEmptied (Ok real) (Ok r) = IsEmptied real r
IsReportEmptied (Ok real) (Err e) = ⊥
IsReportEmptied (Err e) answer = answer ≡ Err e
