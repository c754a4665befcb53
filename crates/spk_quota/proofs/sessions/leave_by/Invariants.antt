use Rattle.std.proofs.Common.{◌≡◌, ◌++◌, map, take, drop}
use Rattle.spk_quota.specs.Step.{left_at}
use Rattle.spk_quota.proofs.sessions.leave_by.Given as goal

abbrev pub invariant-loop-session : goal.invariant-loop-session
invariant-loop-session l = l.sessions ≡ map (left_at l.user l.conn l.client l.now) (take l.session-index l.initial.sessions) ++ drop l.session-index l.initial.sessions
