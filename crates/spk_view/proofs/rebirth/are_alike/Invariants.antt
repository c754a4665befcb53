use Rattle.std.proofs.Common.{map, take}
use Rattle.spk_payload.specs.View.{metric_view}
use Rattle.spk_view.specs.Rebirth.{AreAlike}
use Rattle.spk_view.proofs.rebirth.are_alike.Given as goal

-- so many are alike
abbrev pub invariant-loop-place : goal.invariant-loop-place
invariant-loop-place l = AreAlike (take l.place l.rows) (map metric_view (take l.place l.metrics))
