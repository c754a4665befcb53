use Rattle.std.proofs.Common.{◌≡◌, ◌+◌, ◌≤◌}
use Rattle.std.proofs.Math.ListN.{drop}
use Rattle.spk_sequence.specs.Numbers.{held_count}
use Rattle.spk_sequence.proofs.sequence.Sequence.held.Given as goal

-- what was counted, and what is left to count
abbrev pub invariant-loop-distance : goal.invariant-loop-distance
invariant-loop-distance l = record {
  counted : l.count + held_count (drop l.distance l.self.held) ≡ held_count l.self.held;
  few : l.count ≤ l.distance;
}
