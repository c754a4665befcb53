use Rattle.std.proofs.Common.{◌≡◌, ◌++◌, drop}
use Rattle.std.specs.List.{flat_map}
use Rattle.spk_broker_journal.specs.Ending.{conns_of}
use Rattle.spk_broker_journal.proofs.ending.add_sitting.Given as goal

abbrev pub invariant-loop-at : goal.invariant-loop-at
invariant-loop-at l = l.conns.items ++ flat_map conns_of (drop l.at l.broker.sessions) ≡ l.initial.conns.items ++ flat_map conns_of l.broker.sessions
