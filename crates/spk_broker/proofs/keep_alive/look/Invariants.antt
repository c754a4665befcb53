use Rattle.std.proofs.Common.{◌≡◌, ◌≤◌, ◌+◌, take}
use Rattle.std.specs.List.{flat_map}
use Rattle.spk_broker_rules.specs.Step.{silent_at}
use Rattle.spk_broker.specs.Asking.{sessions_now}
use Rattle.spk_broker.specs.Calm.{AreCalm}
use Rattle.spk_broker.proofs.keep_alive.look.Given as goal

abbrev pub invariant-loop-session : goal.invariant-loop-session
invariant-loop-session l =
    (l.silent.items ≡ flat_map (silent_at l.clock) (sessions_now (take l.session-index l.sessions)))
    × AreCalm l.until (sessions_now (take l.session-index l.sessions)) × (l.until ≤ l.clock + 1500)
