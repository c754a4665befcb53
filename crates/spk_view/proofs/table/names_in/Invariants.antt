use Rattle.std.proofs.Common.{◌≡◌, take}
use Rattle.std.specs.Prelude.{count_by, is_some}
use Rattle.spk_view.proofs.table.names_in.Given as goal

-- so many of the metrics so far
abbrev pub invariant-loop-metric : goal.invariant-loop-metric
invariant-loop-metric l = l.count ≡ count_by (λ m. is_some m.name) (take l.metric-index l.metrics)
