use Rattle.std.proofs.Common.{◌≡◌, map, take, Global}
use Rattle.spk_broker_rules.specs.Words.{offers_to}
use Rattle.spk_broker.specs.Parts.{grant_view, retained_view}
use Rattle.spk_broker.specs.Weighing.{heaped}
use Rattle.spk_broker.proofs.retained_weight.with_each.Given as goal

abbrev pub invariant-loop-place : goal.invariant-loop-place
invariant-loop-place l = l.total ≡ heaped l.weight (offers_to (take l.place (map (retained_view {A = Global}) l.retained.entries)) (grant_view l.grant))
