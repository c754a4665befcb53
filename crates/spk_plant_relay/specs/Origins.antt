-- Where what a plant's broker relays comes from. A log stands newest first.
use Rattle.std.specs.Prelude.{◌≡◌, ◌⊎◌, ℕ, List, [], ◌∷◌}
use Rattle.spk_packets.specs.Message.{Message as Packet}
use Rattle.spk_packets.specs.Spelling.{spelling}
use Rattle.spk_broker_rules.specs.Origins.{SaidBy, Says as Speaks}
use Rattle.spk_plant_broker.specs.Data.{Input, Says, Entry, Took, Accepted}

-- the frame is a PUBLISH of this payload on this topic, or a CONNECT with such a will
abbrev pub IsSaying : Input → (topic payload : List ℕ) → Type 0
IsSaying (Says p) topic payload = SaidBy p topic payload
IsSaying _ topic payload = ⊥

-- such a frame was taken
abbrev pub WasTaken : List Entry → (topic payload : List ℕ) → Type 0
WasTaken [] topic payload = ⊥
WasTaken (Took m i ∷ l) topic payload = IsSaying i topic payload ⊎ WasTaken l topic payload
WasTaken (_ ∷ l) topic payload = WasTaken l topic payload

-- The bytes are the spelling of a packet; and where that is a PUBLISH, a frame that was taken by then said its payload on its topic.
pub record IsSaidBefore (l : List Entry) (bytes : List ℕ) : Type 0 where
  pub packet : Packet
  pub spelled : bytes ≡ spelling packet
  pub said : Speaks (WasTaken l) packet

-- the same of all that rings got
abbrev pub AllSaidBefore : List Entry → Type 0
AllSaidBefore [] = Unit {0}
AllSaidBefore (Accepted j o ∷ l) = IsSaidBefore l o.bytes × AllSaidBefore l
AllSaidBefore (_ ∷ l) = AllSaidBefore l

-- a frame of this client that was taken said it
abbrev pub WasTakenOf : ℕ → List Entry → (topic payload : List ℕ) → Type 0
WasTakenOf k [] topic payload = ⊥
WasTakenOf k (Took m i ∷ l) topic payload = ((m.sender ≡ k) × IsSaying i topic payload) ⊎ WasTakenOf k l topic payload
WasTakenOf k (_ ∷ l) topic payload = WasTakenOf k l topic payload

-- The bytes are the spelling of a packet; and where that is a PUBLISH on this topic, a frame of the client at place k that was taken by
-- then said it: a PUBLISH, or a CONNECT with this will.
pub record IsOwnOn (topic : List ℕ) (k : ℕ) (l : List Entry) (bytes : List ℕ) : Type 0 where
  pub packet : Packet
  pub spelled : bytes ≡ spelling packet
  pub own : Speaks (λ t payload. t ≡ topic → WasTakenOf k l t payload) packet

-- the same of all that rings got
abbrev pub AreOwnOn : (topic : List ℕ) → ℕ → List Entry → Type 0
AreOwnOn topic k [] = Unit {0}
AreOwnOn topic k (Accepted j o ∷ l) = IsOwnOn topic k l o.bytes × AreOwnOn topic k l
AreOwnOn topic k (_ ∷ l) = AreOwnOn topic k l
