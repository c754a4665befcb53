use Rattle.std.proofs.Common.{◌≡◌, map, take}
use Rattle.spk_payload.specs.View.{metric_view}
use Rattle.spk_host_rules.specs.View.{shown_view}
use Rattle.spk_view.specs.Rebirth.{own_shown}
use Rattle.spk_view.proofs.rebirth.all_shown.Given as goal

-- what the metrics so far show
abbrev pub invariant-loop-metric : goal.invariant-loop-metric
invariant-loop-metric l = map shown_view l.all.items ≡ map own_shown (map metric_view (take l.metric-index l.metrics))
