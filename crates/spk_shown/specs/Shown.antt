-- What a host shows of a node, by what was done in the host's session: whether it follows the node, and whether the node lives. Lists of
-- what was done, of calls and of messages stand newest first.
use Rattle.std.specs.Prelude.{◌≡◌, ℕ, Bool, not, ◌&&◌, List, [], ◌∷◌, Option, Some, None, is_some}
use Rattle.spk_sequence.specs.declared.message.Kind.TheVariants.{Birth}
use Rattle.spk_sequence.specs.Following.{taken, is_session_dead}
use Rattle.spk_sequence.specs.HostRecord.{HostRecord}
use Rattle.spk_sequence.specs.NodeRecord.{Setting}
use Rattle.spk_reading.specs.Data.{NumberedData, NodeBirth}
use Rattle.spk_host_rules.specs.Data.{Message, View}
use Rattle.spk_host_rules.specs.Showing.{ShowsDevice, device_in}
use Rattle.spk_host_rules.specs.Values.{Part, device_at, last_part, node_data, values_at}
use Rattle.spk_host_node.specs.Inputs as node
use Rattle.spk_host_node.specs.Inputs.{Comes, Ends}

-- A birth was taken in this session of the host, and the death of its session didn't come since.
abbrev pub is_alive : Setting → HostRecord → Bool
is_alive s h = is_some (taken s h) && not (is_session_dead s h)

-- calls of the sessions of the host before: none, or the last of them is that session's end
abbrev pub AreOver : List node.Input → Type 0
AreOver [] = Unit {0}
AreOver (Ends ∷ older) = Unit {0}
AreOver (_ ∷ older) = ⊥

-- what is numbered as an NBIRTH is about the node's birth
abbrev pub IsMarked : NumberedData → Type 0
IsMarked read = (stamp bd : ℕ) → read.kind ≡ Birth stamp bd → read.subject ≡ NodeBirth

abbrev pub AreMarked : List node.Input → Type 0
AreMarked [] = Unit {0}
AreMarked (Comes read now ∷ before) = IsMarked read × AreMarked before
AreMarked (_ ∷ before) = AreMarked before

-- A view shows the values at the last of these messages, as of a node that is alive or not and followed or not: its own metrics and each
-- device's. A device that was named before the last birth alone is offline and stale.
pub record ShowsSo (alive followed : Bool) (messages : List Message) (v : View) : Type 0 where
  pub part : Part
  pub is_last : last_part messages ≡ Some part
  pub rows : v.rows ≡ values_at part.birth (node_data part.since)
  pub online : v.online ≡ alive
  pub stale : v.stale ≡ not followed
  pub devices : (device : List ℕ) → ShowsDevice alive followed (device_at device part.since) (device_in device v.devices)

-- there is a view from the first birth on
abbrev pub IsShownSo : Bool → Bool → List Message → Option View → Type 0
IsShownSo alive followed messages None = last_part messages ≡ None
IsShownSo alive followed messages (Some v) = ShowsSo alive followed messages v
