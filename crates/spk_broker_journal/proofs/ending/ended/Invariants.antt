use Rattle.std.proofs.Common.{◌≡◌, drop, map}
use Rattle.spk_broker_rules.specs.Plan.{Closed}
use Rattle.spk_broker_replay.specs.Replay.{run}
use Rattle.spk_broker_journal.proofs.ending.ended.Given as goal

abbrev pub invariant-loop-conn : goal.invariant-loop-conn
invariant-loop-conn l = run l.left (map (λ conn. Closed conn 0) (drop l.conn-index l.conn-items)) ≡ run l.initial.left (map (λ conn. Closed conn 0) l.conn-items)
