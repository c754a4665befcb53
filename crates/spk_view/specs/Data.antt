-- The plain data of a host's watch on one node, beside that of `spk_host_rules`.
use Rattle.std.specs.Prelude.{ℕ, List}
use Rattle.spk_payload.specs.Meaning.{MetricData}
use Rattle.spk_host_rules.specs.Data.{Row, View, Watch}

-- A message made ready to be shown: of a birth the table of its metrics, of data the metrics.
pub data Prepared : Type 0 where
  NodeTable : List Row → Prepared
  NodeChanges : List MetricData → Prepared
  DeviceTable : List ℕ → List Row → Prepared
  DeviceChanges : List ℕ → List MetricData → Prepared
  DeviceEnd : List ℕ → Prepared

-- a node's view, and for how many more devices there is room
pub record Node : Type 0 where
  pub view : View
  pub room : ℕ

-- what is kept of a node, and for how many more devices there is room
pub record Keeping : Type 0 where
  pub watch : Watch
  pub room : ℕ
