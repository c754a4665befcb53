use Rattle.std.proofs.Common.{◌≡◌, [], ◌∷◌, map}
use Rattle.std.specs.List.{flat_map}
use Rattle.spk_broker.specs.View.{newcomer_now, newcomer_was}
use Rattle.spk_broker.specs.declared.newcomer.Newcomer.{Newcomer}
use Rattle.spk_broker.proofs.Walks.{so_far}
use Rattle.spk_broker.proofs.newcomer.undo.Given as goal

abbrev pub invariant-loop-newcomer : goal.invariant-loop-newcomer
invariant-loop-newcomer l = record {
  was : map newcomer_was l.newcomers ≡ map newcomer_was l.initial.newcomers;
  now : so_far newcomer_now (λ (g : Newcomer). newcomer_was g ∷ []) l.newcomers l.newcomer-index ≡ flat_map (λ (g : Newcomer). newcomer_was g ∷ []) l.initial.newcomers;
}
