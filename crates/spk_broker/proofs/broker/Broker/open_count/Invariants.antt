use Rattle.std.proofs.Common.{◌≡◌, ◌≤◌, take}
use Rattle.spk_broker.proofs.Opening.{connections_in}
use Rattle.spk_broker.proofs.broker.Broker.open_count.Given as goal

abbrev pub invariant-loop-session : goal.invariant-loop-session
invariant-loop-session l = (l.connections ≡ connections_in (take l.session-index l.self-inside.state.sessions.items)) × (l.connections ≤ l.session-index)
