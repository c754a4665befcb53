use Rattle.std.proofs.Common.{◌≡◌, ◌++◌, drop, map}
use Rattle.spk_broker_journal.specs.Ending.{newcomer_conn}
use Rattle.spk_broker_journal.proofs.ending.add_waiting.Given as goal

abbrev pub invariant-loop-at : goal.invariant-loop-at
invariant-loop-at l = l.conns.items ++ map newcomer_conn (drop l.at l.broker.newcomers) ≡ l.initial.conns.items ++ map newcomer_conn l.broker.newcomers
