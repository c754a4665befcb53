-- The bytes of a broker's events (own rules). Numbers have eight bytes, the lowest first. A content is a code and what stands behind it:
--
--   code  what                                        behind it, in bytes
--   1     a connection was opened                     moment 8
--   2     a packet came                               connection 8, moment 8, the packet in its canonical spelling
--   3     bytes came that are no packet               connection 8, moment 8, the fault 1
--   4     a connection ended without the broker       connection 8, moment 8
--   5     time passed                                 moment 8
--   6     a PUBLISH of QoS 0 couldn't be taken        connection 8, moment 8
--   7     another send couldn't be taken              connection 8, moment 8
--
-- Each stands in its frame, with its length and its sum.
use Rattle.std.specs.Prelude.{◌≡◌, ℕ, ◌<◌, ◌^◌, List, [], ◌∷◌, ◌++◌, Option, Some, None}
use Rattle.spk_frames.specs.Frame.{framed}
use Rattle.spk_frames.specs.Numbers.{eight}
use Rattle.spk_packets.specs.declared.fault.PacketFault.{PacketFault}
use Rattle.spk_packets.specs.Fault.{first_of, number_of}
use Rattle.spk_packets.specs.Grammar.{Spells}
use Rattle.spk_packets.specs.Spelling.{spelling, unwritable}
use Rattle.spk_packets.specs.View.{view}
use Rattle.spk_session.specs.declared.answer.Sort.{Sort}
use Rattle.spk_session.specs.declared.answer.Sort.TheVariants as sort
use Rattle.spk_broker_rules.specs.Plan as plan
use Rattle.spk_broker_events.specs.declared.event.Event.{Event}
use Rattle.spk_broker_events.specs.declared.event.Event.TheVariants as events

-- an event, as the rules have it
abbrev pub said : Event → plan.Event
said (events.Open moment) = plan.Open moment
said (events.Packet conn packet moment) = plan.Packet conn (view packet) moment
said (events.Fault conn why moment) = plan.Fault conn why moment
said (events.Closed conn moment) = plan.Closed conn moment
said (events.Tick moment) = plan.Tick moment
said (events.Refused conn which moment) = plan.Refused conn which moment

-- ---- a content

abbrev pub sort_code : Sort → ℕ
sort_code sort.QosZero = 6
sort_code sort.Other = 7

-- a code, the connection and the moment
unfoldable pub front : (code conn moment : ℕ) → List ℕ
front code conn moment = code ∷ (eight conn ++ eight moment)

unfoldable pub content : plan.Event → List ℕ
content (plan.Open moment) = 1 ∷ eight moment
content (plan.Packet conn p moment) = front 2 conn moment ++ spelling p
content (plan.Fault conn why moment) = front 3 conn moment ++ number_of why ∷ []
content (plan.Closed conn moment) = front 4 conn moment
content (plan.Tick moment) = 5 ∷ eight moment
content (plan.Refused conn which moment) = front (sort_code which) conn moment

abbrev pub record_of : plan.Event → List ℕ
record_of e = framed (content e)

-- why an event has no record: its packet has no spelling
abbrev pub refusal : plan.Event → Option PacketFault
refusal (plan.Packet conn p moment) = first_of (unwritable p)
refusal _ = None

-- the most bytes of a content: a packet has 1,048,576
abbrev pub most : ℕ
most = 1048593

-- ---- what a content says

-- its numbers have eight bytes
unfoldable pub HasWords : plan.Event → Type 0
HasWords (plan.Open moment) = moment < 2 ^ 64
HasWords (plan.Packet conn p moment) = (conn < 2 ^ 64) × (moment < 2 ^ 64)
HasWords (plan.Fault conn why moment) = (conn < 2 ^ 64) × (moment < 2 ^ 64)
HasWords (plan.Closed conn moment) = (conn < 2 ^ 64) × (moment < 2 ^ 64)
HasWords (plan.Tick moment) = moment < 2 ^ 64
HasWords (plan.Refused conn which moment) = (conn < 2 ^ 64) × (moment < 2 ^ 64)

-- it is the event's content, but that its packet may stand in any spelling
unfoldable pub Spelled : plan.Event → List ℕ → Type 0
Spelled (plan.Open moment) bytes = bytes ≡ content (plan.Open moment)
Spelled (plan.Packet conn p moment) bytes = (text : List ℕ) × Spells text p × (bytes ≡ front 2 conn moment ++ text)
Spelled (plan.Fault conn why moment) bytes = bytes ≡ content (plan.Fault conn why moment)
Spelled (plan.Closed conn moment) bytes = bytes ≡ content (plan.Closed conn moment)
Spelled (plan.Tick moment) bytes = bytes ≡ content (plan.Tick moment)
Spelled (plan.Refused conn which moment) bytes = bytes ≡ content (plan.Refused conn which moment)

pub record Says (bytes : List ℕ) (e : plan.Event) : Type 0 where
  pub words : HasWords e
  pub spelled : Spelled e bytes

-- no event has these bytes for its content
abbrev pub SaysNothing : List ℕ → Type 0
SaysNothing bytes = (e : plan.Event) → Says bytes e → ⊥

-- what is read of a content: the event that it says, or none where it says none
abbrev pub IsSaid : List ℕ → Option Event → Type 0
IsSaid bytes None = SaysNothing bytes
IsSaid bytes (Some e) = Says bytes (said e)
