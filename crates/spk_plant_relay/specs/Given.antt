-- What a plant's host is told of one edge node, by positions.
use Rattle.std.specs.Prelude.{◌≡◌, ℕ, Bool, false, List, [], ◌∷◌, Option}
use Rattle.spk_sequence.specs.HostRecord.{Input}
use Rattle.spk_reading.specs.Data.{Message, NumberedData, Published}
use Rattle.spk_reading.specs.Meaning.{Says}
use Rattle.spk_host.specs.Inputs.{is_same}
use Rattle.spk_host_node.specs.Inputs as node
use Rattle.spk_edge_rules.specs.Config.{Setup}
use Rattle.spk_edge_rules.specs.Run as edge
use Rattle.spk_tie.specs.Tie.{host_setting}
use Rattle.spk_heard.specs.Read.{AreRead}
use Rattle.spk_plant_broker.specs.Data.{Entry, Accepted}
use Rattle.spk_plant_relay.specs.Relayed.{IsRelayed, positions_in}
use Rattle.spk_plant_relay.specs.Shown.{is_relaying}

-- whoever reads the bytes reads no numbered message of the node of these names
abbrev pub IsNoMessageOf : (group name : List ℕ) → List ℕ → Type 0
IsNoMessageOf group name bytes =
    (ack : Option ℕ) (m : NumberedData) → Says bytes (Published ack (Message m)) → is_same group name m.group m.node ≡ false

-- What the host's ring got beside the numbered messages of the node at place k is none of them.
abbrev pub AreOthers : (List ℕ → Bool) → (k host : ℕ) → (group name : List ℕ) → List Entry → Type 0
AreOthers on k host group name [] = Unit {0}
AreOthers on k host group name (Accepted j o ∷ l) =
    (j ≡ host → is_relaying on k l ≡ false → IsNoMessageOf group name o.bytes) × AreOthers on k host group name l
AreOthers on k host group name (_ ∷ l) = AreOthers on k host group name l

-- What was told of a node was read at these inputs, one by one, which are relayed: their positions are these.
pub record IsHeard (s : Setup) (published : List edge.Message) (wait width : ℕ) (positions : List ℕ) (told : List node.Input) : Type 0 where
  pub inputs : List Input
  pub read : AreRead s published inputs told
  pub relayed : IsRelayed (host_setting s published wait width) inputs
  pub shown : positions_in inputs ≡ positions
