use Rattle.std.proofs.Common.{◌≡◌, ◌+◌, ℕ, length, Some}
use Rattle.std.specs.Option.{option_map, option_map_or}
use Rattle.std.specs.Ordering.{nat_cmp}
use Rattle.std.specs.BTreeMap.{get}
use Rattle.spk_topics.specs.Levels.{levels_left}
use Rattle.spk_topics.specs.Nodes.{rows_of, up_of}
use Rattle.spk_topics.specs.Reached.{Reached}
use Rattle.spk_topics.specs.Walk.{IsOnTheWay, front_of}
use Rattle.spk_topics.proofs.nodes.Nodes.find.Given as goal

-- each row that matches is found or ahead, and only such rows are found
abbrev pub invariant-loop-left : goal.invariant-loop-left
invariant-loop-left l = record {
  sound : (key qos : ℕ) → get nat_cmp l.found key ≡ Some qos → Reached (rows_of l.self) l.topic key qos;
  way : IsOnTheWay (rows_of l.self) l.topic (up_of l.self) (get nat_cmp l.found) (front_of l.front.items) (levels_left (option_map (λ rest. rest.now) l.left));
}

abbrev pub decreases-loop-left : goal.decreases-loop-left
decreases-loop-left l = option_map_or (λ rest. length rest.now + 1) l.left 0
