use Rattle.std.proofs.Common.{◌≡◌, ◌≤◌, length, map, take}
use Rattle.std.specs.List.{fold}
use Rattle.spk_broker.specs.Filing.{walked}
use Rattle.spk_broker.specs.Parts.{grant_view}
use Rattle.spk_broker.proofs.index_update.drop_gone.Given as goal

abbrev pub invariant-loop-grant : goal.invariant-loop-grant
invariant-loop-grant l = record {
  walked : record { index = l.tree; size = l.size; met = l.met } ≡ fold (walked l.key (map grant_view l.wanted)) (record { index = l.initial.tree; size = l.initial.size; met = 0 }) (map grant_view (take l.grant-index l.had));
  low : l.met ≤ length l.wanted;
}
