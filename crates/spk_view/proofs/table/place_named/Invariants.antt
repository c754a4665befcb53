use Rattle.std.proofs.Common.{◌≡◌, ◌+◌, ◌≤◌, ℕ, Some, false}
use Rattle.std.specs.Option.{option_map_or}
use Rattle.std.specs.Prelude.{slice_get}
use Rattle.std.specs.Str.{bytes_eq}
use Rattle.spk_host_rules.specs.Data.{Row}
use Rattle.spk_view.specs.Keyed.{IsLastOf}
use Rattle.spk_view.proofs.table.place_named.Given as goal

-- what was found is the last with the key among the first n, and none behind those has the name
abbrev pub invariant-loop-found : goal.invariant-loop-found
invariant-loop-found l =
    (n : ℕ) × IsLastOf l.names.keys n l.key l.found × ((k : ℕ) (r : Row) → n ≤ k → slice_get l.rows.items k ≡ Some r → bytes_eq l.name r.name ≡ false)

abbrev pub decreases-loop-found : goal.decreases-loop-found
decreases-loop-found l = option_map_or (λ place. place + 1) l.found 0
