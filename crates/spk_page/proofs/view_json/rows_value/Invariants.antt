use Rattle.std.proofs.Common.{◌≡◌, map}
use Rattle.std.specs.Prelude.{take}
use Rattle.serde_json.specs.View.{view}
use Rattle.spk_page.specs.Rows.{row_data}
use Rattle.spk_page.specs.View.{rows_since}
use Rattle.spk_page.proofs.view_json.rows_value.Given as goal

-- the values of the rows so far
abbrev pub invariant-loop-node : goal.invariant-loop-node
invariant-loop-node l = map view l.items.items ≡ map row_data (rows_since l.from (take l.node-index l.nodes))
