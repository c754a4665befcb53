-- A metric that is written from where its parts stand, and births written so.
use Rattle.std.specs.Prelude.{ℕ, List, map, Option, Some, None, option_copied}
use Rattle.std.specs.Option.{option_map}
use Rattle.spk_protobuf.specs.Spelling.{bytes_field}
use Rattle.spk_payload.specs.Meaning.{MetricData, PayloadData}
use Rattle.spk_payload.specs.Spelling.{metric_spelling}
use Rattle.spk_payload.specs.View.{content_of}
use Rattle.spk_device.specs.Book.{DeviceData}
use Rattle.spk_edge_rules.specs.Births.{births_at, node_birth}
use Rattle.spk_edge.specs.Listed.{birth_if_up, device_message}
use Rattle.spk_edge.specs.Saying.{null_said}
use Rattle.spk_edge.specs.Sealing.{numbered, with_number}
use Rattle.spk_edge.specs.View.{MessageData, NodeData, unnumbered}
use Rattle.spk_edge.specs.declared.row.Row.{Row}

abbrev pub row_said : Row → MetricData
row_said r = record {
  name = option_copied r.name;
  alias = r.alias;
  timestamp = Some r.time;
  datatype = r.datatype;
  historical = null_said r.historical;
  transient = None;
  null = null_said r.null;
  value = option_map content_of r.value.now;
}

-- a metric as a field of its payload
abbrev pub spelled : MetricData → List ℕ
spelled m = bytes_field 2 (metric_spelling m)

-- a payload with these metrics, under a number
abbrev pub payload_with : ℕ → ℕ → List MetricData → PayloadData
payload_with stamp seq metrics = record { timestamp = Some stamp; metrics = metrics; seq = Some seq }

-- ---- births

-- the NBIRTH, and the DBIRTH of a device, under a number
abbrev pub node_born : NodeData → ℕ → ℕ → MessageData
node_born n stamp seq = with_number seq (unnumbered n.config (node_birth n.standing.asked.book n.standing.asked.will_bd stamp))

abbrev pub device_born : NodeData → ℕ → ℕ → ℕ × DeviceData → MessageData
device_born n stamp seq e = with_number seq (device_message n.config n.standing.asked.book stamp e)

-- the DBIRTH of the device at a place, if it is up, under the number that comes next
abbrev pub born_if_up : NodeData → ℕ → ℕ → ℕ → Option DeviceData → List MessageData
born_if_up n stamp seq number device = numbered n.config.numbering seq (birth_if_up n.config n.standing.asked.book stamp number device)

-- all births, under the numbers that come next
abbrev pub all_born : NodeData → ℕ → List MessageData
all_born n stamp =
    numbered n.config.numbering n.standing.seq (map (unnumbered n.config) (births_at n.standing.asked.book n.standing.asked.will_bd stamp))
