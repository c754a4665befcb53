use Rattle.std.proofs.Common.{◌≡◌, ◌≤◌, ◌++◌, ◌+◌, List, ℕ, length}
use Rattle.std.specs.Option.{option_map, option_map_or}
use Rattle.spk_topics.specs.Levels.{left_size, levels_left}
use Rattle.spk_topics.proofs.levels.part.Given as goal

-- both begin with the levels that are cut off
abbrev pub invariant-loop-one : goal.invariant-loop-one
invariant-loop-one l = record {
  common : List (List ℕ);
  one_is : levels_left (option_map (λ text. text.now) l.initial.one) ≡ common ++ levels_left (option_map (λ text. text.now) l.one);
  other_is : levels_left (option_map (λ text. text.now) l.initial.other) ≡ common ++ levels_left (option_map (λ text. text.now) l.other);
  no_longer : left_size (option_map (λ text. text.now) l.other) ≤ left_size (option_map (λ text. text.now) l.initial.other);
}

abbrev pub decreases-loop-one : goal.decreases-loop-one
decreases-loop-one l = option_map_or (λ text. length text.now + 1) l.one 0
