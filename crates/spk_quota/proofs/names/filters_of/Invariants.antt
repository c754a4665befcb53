use Rattle.std.proofs.Common.{◌≡◌, ◌||◌, ℕ, List, drop}
use Rattle.std.specs.List.{list_any}
use Rattle.spk_quota.specs.Names.{has}
use Rattle.spk_quota.specs.Step.{is_it}
use Rattle.spk_quota.proofs.names.filters_of.Given as goal

-- those that are noted and those that are left are all
abbrev pub invariant-loop-filter : goal.invariant-loop-filter
invariant-loop-filter l = (name : List ℕ)
    → has l.names name || list_any (is_it l.user l.client name) (drop l.filter-index l.filters) ≡ list_any (is_it l.user l.client name) l.filters
