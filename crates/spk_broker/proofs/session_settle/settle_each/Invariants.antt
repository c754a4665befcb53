use Rattle.std.proofs.Common.{◌≡◌, take}
use Rattle.std.specs.List.{flat_map, list_any}
use Rattle.spk_broker.specs.Settling.{has_ended, session_left}
use Rattle.spk_broker.specs.View.{session_now}
use Rattle.spk_broker.proofs.Walks.{so_far}
use Rattle.spk_broker.proofs.session_settle.settle_each.Given as goal

abbrev pub invariant-loop-session : goal.invariant-loop-session
invariant-loop-session l = record {
  now : so_far session_now session_now l.sessions l.session-index ≡ flat_map session_now l.initial.sessions;
  ended : l.ended ≡ list_any has_ended (take l.session-index l.sessions);
  left : so_far session_left session_now l.sessions l.session-index ≡ flat_map session_now l.initial.sessions;
}
