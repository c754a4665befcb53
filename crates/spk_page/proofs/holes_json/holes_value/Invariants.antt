use Rattle.std.proofs.Common.{◌≡◌, map}
use Rattle.std.specs.Prelude.{take}
use Rattle.serde_json.specs.View.{view}
use Rattle.spk_page.specs.Rows.{hole_data}
use Rattle.spk_page.proofs.holes_json.holes_value.Given as goal

-- the values of the holes so far
abbrev pub invariant-loop-hole : goal.invariant-loop-hole
invariant-loop-hole l = map view l.items.items ≡ map hole_data (take l.hole-index l.holes)
