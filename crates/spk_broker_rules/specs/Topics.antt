-- Which filters and topics stand in the data of a broker, which an event brings, and on which topics is sent.
use Rattle.std.specs.Prelude.{◌≡◌, ℕ, Bool, false, List}
use Rattle.std.specs.List.{AllByRecursion}
use Rattle.spk_packets.specs.Message.{Message, Subscribe}
use Rattle.spk_topics.specs.Fitting.{is_match}
use Rattle.spk_broker_rules.specs.Data.{InFlight, Session, Stored, Broker, Send}
use Rattle.spk_broker_rules.specs.Origins.{WillSays, Says, SaysAll}
use Rattle.spk_broker_rules.specs.Plan.{Event, Packet}

-- it is none of these topics
abbrev pub IsOff : (List ℕ → Bool) → List ℕ → Type 0
IsOff on topic = on topic ≡ false

-- the filter fits both topics or neither
abbrev pub FitsAlike : List ℕ → List ℕ → List ℕ → Type 0
FitsAlike one other filter = is_match filter one ≡ is_match filter other

-- every topic of a will, of an unacknowledged and of a retained message is such
pub record HasTopics (P : List ℕ → Type 0) (b : Broker) : Type 0 where
  pub wills : AllByRecursion (λ (s : Session). WillSays (λ topic payload. P topic) s.here) b.sessions
  pub in_flight : AllByRecursion (λ (s : Session). AllByRecursion (λ (c : InFlight). P c.app_message.topic) s.in_flight) b.sessions
  pub retained : AllByRecursion (λ (e : List ℕ × Stored). P e.0) b.retained

-- every filter granted is such
abbrev pub HasFilters : (List ℕ → Type 0) → Broker → Type 0
HasFilters P b = AllByRecursion (λ (s : Session). AllByRecursion (λ (g : List ℕ × ℕ). P g.0) s.grants) b.sessions

-- the topic of a PUBLISH, and that of a CONNECT's will
abbrev pub TopicIn : (List ℕ → Type 0) → Message → Type 0
TopicIn P = Says (λ topic payload. P topic)

-- the filters of a SUBSCRIBE
abbrev pub FiltersIn : (List ℕ → Type 0) → Message → Type 0
FiltersIn P (Subscribe id entries) = AllByRecursion (λ (e : List ℕ × ℕ). P e.0) entries
FiltersIn P _ = Unit {0}

-- what holds of the packet that an event brings, where it brings one
abbrev pub Brings : (Message → Type 0) → Event → Type 0
Brings Q (Packet conn p moment) = Q p
Brings Q _ = Unit {0}

-- each PUBLISH that is sent is on such a topic
abbrev pub SendsOn : (List ℕ → Type 0) → List Send → Type 0
SendsOn P = SaysAll (λ topic payload. P topic)
