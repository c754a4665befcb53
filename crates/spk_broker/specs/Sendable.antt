-- Packets that can be written, and messages that can be written as a PUBLISH (MQTT 3.1.1, 3.3).
use Rattle.std.specs.Prelude.{◌≡◌, ◌==◌, ℕ, Bool, not, ◌&&◌, List, Option, Some, None, is_none, false, if◌then◌else◌}
use Rattle.std.specs.List.{list_all}
use Rattle.spk_packets.specs.Fault.{first_of}
use Rattle.spk_packets.specs.Message.{Message, Publish}
use Rattle.spk_packets.specs.Spelling.{unwritable}
use Rattle.spk_broker_rules.specs.Data as plain
use Rattle.spk_broker_rules.specs.Table.{Table}

-- nothing refuses its writing
abbrev pub IsWritable : Message → Type 0
IsWritable p = first_of (unwritable p) ≡ None

-- each identifier has two bytes, so that any one stands for all
abbrev pub id_at : ℕ → Option ℕ
id_at qos = if qos == 0 then None else Some 1

-- it can be written with its QoS
unfoldable pub is_sendable : List ℕ → List ℕ → ℕ → Bool
is_sendable topic payload qos = is_none (first_of (unwritable (Publish false qos false topic (id_at qos) payload)))

-- each retained message can be written
unfoldable pub are_sendable : Table plain.Stored → Bool
are_sendable table = list_all (λ e. is_sendable e.0 e.1.payload e.1.qos) table

-- a message in flight is of QoS 1 and has an identifier
abbrev pub is_numbered : ℕ → ℕ → Bool
is_numbered qos id = qos == 1 && not (id == 0)
