-- What the door lets through to a broker, and of whom a broker's messages are (own rules).
use Rattle.std.specs.Prelude.{◌⊎◌, ℕ, Bool, true, List, [], ◌∷◌}
use Rattle.spk_broker_rules.specs.Origins.{SaidBy}
use Rattle.spk_broker_rules.specs.Plan.{Event, Packet}
use Rattle.spk_access.specs.Rights.{RightsData}
use Rattle.spk_door.specs.Rules.{lets}

-- A packet that the door let through, where each connection may do this, by its number.
abbrev pub is_let : (ℕ → RightsData) → Bool → Event → Bool
is_let rights guard (Packet conn p moment) = lets (rights conn) guard p
is_let rights guard _ = true

-- the event is a PUBLISH of this payload on this topic, or a CONNECT with such a will, of a connection of which this holds
abbrev pub SaidInBy : (ℕ → Type 0) → Event → (topic payload : List ℕ) → Type 0
SaidInBy Of (Packet conn p moment) topic payload = SaidBy p topic payload × Of conn
SaidInBy Of _ topic payload = ⊥

-- an event among these is
abbrev pub WasSaidBy : (ℕ → Type 0) → List Event → (topic payload : List ℕ) → Type 0
WasSaidBy Of [] topic payload = ⊥
WasSaidBy Of (e ∷ es) topic payload = SaidInBy Of e topic payload ⊎ WasSaidBy Of es topic payload
