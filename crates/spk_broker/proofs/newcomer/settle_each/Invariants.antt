use Rattle.std.proofs.Common.{◌≡◌}
use Rattle.std.specs.List.{flat_map}
use Rattle.spk_broker.specs.Settling.{newcomer_left}
use Rattle.spk_broker.specs.View.{newcomer_now}
use Rattle.spk_broker.proofs.Walks.{so_far}
use Rattle.spk_broker.proofs.newcomer.settle_each.Given as goal

abbrev pub invariant-loop-newcomer : goal.invariant-loop-newcomer
invariant-loop-newcomer l = record {
  now : so_far newcomer_now newcomer_now l.newcomers l.newcomer-index ≡ flat_map newcomer_now l.initial.newcomers;
  left : so_far newcomer_left newcomer_now l.newcomers l.newcomer-index ≡ flat_map newcomer_now l.initial.newcomers;
}
