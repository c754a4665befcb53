use Rattle.std.proofs.Common.{◌≡◌, ◌≤◌, map, drop, length}
use Rattle.spk_broker_rules.specs.Words.{best}
use Rattle.spk_broker.specs.Parts.{grant_view}
use Rattle.spk_broker.proofs.granted_qos.best.Given as goal

abbrev pub invariant-loop-left : goal.invariant-loop-left
invariant-loop-left l = (l.found ≡ best l.topic (map grant_view (drop l.left l.grants))) × (l.left ≤ length l.grants)

abbrev pub decreases-loop-left : goal.decreases-loop-left
decreases-loop-left l = l.left
