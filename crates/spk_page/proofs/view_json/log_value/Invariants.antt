use Rattle.std.proofs.Common.{◌≡◌, map}
use Rattle.std.specs.Prelude.{take}
use Rattle.serde_json.specs.View.{view}
use Rattle.spk_page.specs.View.{entries_since, entry_data}
use Rattle.spk_page.proofs.view_json.log_value.Given as goal

-- the values of the entries so far
abbrev pub invariant-loop-entry : goal.invariant-loop-entry
invariant-loop-entry l = map view l.items.items ≡ map entry_data (entries_since l.from (take l.entry-index l.entries))
