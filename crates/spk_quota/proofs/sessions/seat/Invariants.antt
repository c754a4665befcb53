use Rattle.std.proofs.Common.{◌≡◌, ◌++◌, map, take, drop}
use Rattle.spk_quota.specs.Step.{with_conn}
use Rattle.spk_quota.proofs.sessions.seat.Given as goal

abbrev pub invariant-loop-session : goal.invariant-loop-session
invariant-loop-session l = l.sessions ≡ map (with_conn l.user l.client l.conn) (take l.session-index l.initial.sessions) ++ drop l.session-index l.initial.sessions
