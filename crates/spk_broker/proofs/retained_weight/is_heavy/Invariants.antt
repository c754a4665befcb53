use Rattle.std.proofs.Common.{◌≡◌, map, take, Global}
use Rattle.std.specs.List.{flat_map}
use Rattle.spk_broker_rules.specs.Words.{offers_to}
use Rattle.spk_broker.specs.Parts.{grant_view, retained_view}
use Rattle.spk_broker.specs.Weighing.{heaped}
use Rattle.spk_broker.proofs.retained_weight.is_heavy.Given as goal

abbrev pub invariant-loop-grant : goal.invariant-loop-grant
invariant-loop-grant l = l.total ≡ heaped 0 (flat_map (offers_to (map (retained_view {A = Global}) l.retained.entries)) (map grant_view (take l.grant-index l.given)))
