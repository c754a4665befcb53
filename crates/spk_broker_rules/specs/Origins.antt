-- What was said to a broker: the messages of PUBLISH packets, and the wills of CONNECT packets.
use Rattle.std.specs.Prelude.{◌≡◌, ◌⊎◌, ℕ, List, [], ◌∷◌, Option, Some, None}
use Rattle.std.specs.List.{AllByRecursion}
use Rattle.spk_packets.specs.Message.{Message, WillData, Connect, Publish}
use Rattle.spk_broker_rules.specs.Data.{AppMessage, Connection, Send}
use Rattle.spk_broker_rules.specs.Plan.{Event, Packet}

-- the will has this topic and this message
abbrev pub WillIs : Option WillData → (topic payload : List ℕ) → Type 0
WillIs None topic payload = ⊥
WillIs (Some w) topic payload = (w.topic ≡ topic) × (w.message ≡ payload)

-- the packet is a PUBLISH of this payload on this topic, or a CONNECT with such a will
abbrev pub SaidBy : Message → (topic payload : List ℕ) → Type 0
SaidBy (Connect client clean alive will) topic payload = WillIs will topic payload
SaidBy (Publish dup qos retain t id p) topic payload = (t ≡ topic) × (p ≡ payload)
SaidBy _ topic payload = ⊥

-- an event says it where it brings a packet that does
abbrev pub SaidIn : Event → (topic payload : List ℕ) → Type 0
SaidIn (Packet conn p moment) topic payload = SaidBy p topic payload
SaidIn _ topic payload = ⊥

-- a packet among these events said it
abbrev pub WasSaid : List Event → (topic payload : List ℕ) → Type 0
WasSaid [] topic payload = ⊥
WasSaid (e ∷ es) topic payload = SaidIn e topic payload ⊎ WasSaid es topic payload

-- what holds of the message of a will, where there is one
abbrev pub AppMessageSays : (List ℕ → List ℕ → Type 0) → Option AppMessage → Type 0
AppMessageSays T None = Unit {0}
AppMessageSays T (Some m) = T m.topic m.payload

-- the same of the will of a connection, where there are both
abbrev pub WillSays : (List ℕ → List ℕ → Type 0) → Option Connection → Type 0
WillSays T None = Unit {0}
WillSays T (Some l) = AppMessageSays T l.will

-- the same of the will in a CONNECT, where there is one
abbrev pub WillOf : (List ℕ → List ℕ → Type 0) → Option WillData → Type 0
WillOf T None = Unit {0}
WillOf T (Some w) = T w.topic w.message

-- what holds of topic and payload of a PUBLISH, and of a CONNECT's will
abbrev pub Says : (List ℕ → List ℕ → Type 0) → Message → Type 0
Says T (Connect client clean alive will) = WillOf T will
Says T (Publish dup qos retain topic id payload) = T topic payload
Says T _ = Unit {0}

-- the same of each packet that is sent
abbrev pub SaysAll : (List ℕ → List ℕ → Type 0) → List Send → Type 0
SaysAll T sends = AllByRecursion (λ (s : Send). Says T s.packet) sends
