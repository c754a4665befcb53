-- How many bytes of PUBLISH packets a connection is sent (MQTT 3.1.1, 3.3).
use Rattle.std.specs.Prelude.{◌≡◌, ◌==◌, ℕ, Bool, false, List, length, if◌then◌else◌}
use Rattle.std.specs.List.{AllByRecursion, sum_by}
use Rattle.spk_packets.specs.Message.{Message, Publish}
use Rattle.spk_packets.specs.Spelling.{spelling}
use Rattle.spk_broker_rules.specs.Data.{Send}

-- those of a PUBLISH; any other packet has none
abbrev pub bytes_in : Message → ℕ
bytes_in (Publish dup qos retain topic id payload) = length (spelling (Publish dup qos retain topic id payload))
bytes_in _ = 0

abbrev pub bytes_for : ℕ → Send → ℕ
bytes_for conn s = if s.conn == conn then bytes_in s.packet else 0

abbrev pub published_to : ℕ → List Send → ℕ
published_to conn sends = sum_by (bytes_for conn) sends

-- nothing is sent to it
abbrev pub GetsNothing : ℕ → List Send → Type 0
GetsNothing conn sends = AllByRecursion (λ (s : Send). (s.conn == conn) ≡ false) sends
