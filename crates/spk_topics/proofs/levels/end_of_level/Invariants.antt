use Rattle.std.proofs.Common.{◌≡◌, ◌+◌, ◌-◌, ◌≤◌, drop, length, nat_eq}
use Rattle.std.specs.List.{position_or_len}
use Rattle.spk_topics.proofs.levels.end_of_level.Given as goal

-- no slash stands before
abbrev pub invariant-loop-end : goal.invariant-loop-end
invariant-loop-end l = record {
  within : l.end ≤ length l.text;
  before : position_or_len (λ b. nat_eq b 47) l.text ≡ l.end + position_or_len (λ b. nat_eq b 47) (drop l.end l.text);
}

abbrev pub decreases-loop-end : goal.decreases-loop-end
decreases-loop-end l = length l.text - l.end
