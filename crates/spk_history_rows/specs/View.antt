-- What contracts see of the crate's types.
use Rattle.std.specs.Prelude.{slice_get}
use Rattle.std.specs.Option.{option_and_then}
use Rattle.std.specs.String.{string_bytes}
use Rattle.spk_history.specs.Entry.{said}
use Rattle.spk_history_rows.specs.declared.node.NodeName.{NodeName}
use Rattle.spk_history_rows.specs.declared.row.Row.{Row}
use Rattle.spk_history_rows.specs.Data.{RowsData}
use Rattle.spk_history_rows.specs.Row.{NodeData, RowData}

abbrev pub node_view : NodeName → NodeData
node_view n = record { group = string_bytes n.group; name = string_bytes n.name }

-- a row, with the names of its node
abbrev pub row_view : RowsData → Row → RowData
row_view r row = record { place = row.place; owner = option_and_then (slice_get r.names) row.node; birth = row.birth; entry = said row.entry }
