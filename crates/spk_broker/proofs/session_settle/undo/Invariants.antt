use Rattle.std.proofs.Common.{◌≡◌, [], ◌∷◌, map}
use Rattle.std.specs.List.{flat_map}
use Rattle.spk_broker.specs.Both.{Both}
use Rattle.spk_broker.specs.View.{session_now, session_was}
use Rattle.spk_broker.proofs.Walks.{so_far}
use Rattle.spk_broker.proofs.session_settle.undo.Given as goal

abbrev pub invariant-loop-session : goal.invariant-loop-session
invariant-loop-session l = record {
  was : map session_was l.sessions ≡ map session_was l.initial.sessions;
  now : so_far session_now (λ (b : Both). b.was ∷ []) l.sessions l.session-index ≡ flat_map (λ (b : Both). b.was ∷ []) l.initial.sessions;
}
