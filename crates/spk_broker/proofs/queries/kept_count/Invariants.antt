use Rattle.std.proofs.Common.{◌≡◌, ◌≤◌, take, count_by}
use Rattle.spk_broker.specs.Asking.{passes}
use Rattle.spk_broker.proofs.queries.kept_count.Given as goal

abbrev pub invariant-loop-session : goal.invariant-loop-session
invariant-loop-session l = (l.count ≡ count_by (passes (λ s. s.kept)) (take l.session-index l.sessions)) × (l.count ≤ l.session-index)
