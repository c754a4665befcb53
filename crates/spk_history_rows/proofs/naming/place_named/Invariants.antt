use Rattle.std.proofs.Common.{ℕ, ◌<◌, map, Some}
use Rattle.std.specs.Prelude.{◌≢◌, slice_get}
use Rattle.spk_history_rows.specs.View.{node_view}
use Rattle.spk_history_rows.proofs.naming.place_named.Given as goal

abbrev pub invariant-loop-i : goal.invariant-loop-i
invariant-loop-i l = (k : ℕ) → k < l.i → slice_get (map node_view l.names) k ≢ Some (record { group = l.group; name = l.name })
