use Rattle.std.proofs.Common.{◌≡◌, map}
use Rattle.std.specs.Prelude.{take}
use Rattle.serde_json.specs.Data.{string}
use Rattle.serde_json.specs.View.{view}
use Rattle.spk_page.proofs.rows_json.names_value.Given as goal

-- the values of the names so far
abbrev pub invariant-loop-name : goal.invariant-loop-name
invariant-loop-name l = map view l.items.items ≡ map (λ d. string d.now) (take l.name-index l.names)
