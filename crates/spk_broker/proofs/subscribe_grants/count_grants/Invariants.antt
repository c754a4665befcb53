use Rattle.std.proofs.Common.{◌≡◌, ◌≤◌, min, take}
use Rattle.spk_broker_rules.specs.Step.{all_grants}
use Rattle.spk_broker.specs.Asking.{sessions_now}
use Rattle.spk_broker.proofs.subscribe_grants.count_grants.Given as goal

abbrev pub invariant-loop-session : goal.invariant-loop-session
invariant-loop-session l = (l.count ≡ min (all_grants (sessions_now (take l.session-index l.sessions))) 10000) × (l.count ≤ 10000)
