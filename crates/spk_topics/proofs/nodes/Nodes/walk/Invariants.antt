use Rattle.std.proofs.Common.{◌≡◌, ◌++◌}
use Rattle.std.specs.Option.{option_map}
use Rattle.spk_topics.specs.Levels.{left_size, levels, levels_left}
use Rattle.spk_topics.specs.Nodes.{rows_of, up_of}
use Rattle.spk_topics.specs.Paths.{IsOn, path}
use Rattle.spk_topics.proofs.nodes.Nodes.walk.Given as goal

-- the node's path, and what is left, are the filter's levels
abbrev pub invariant-loop-left : goal.invariant-loop-left
invariant-loop-left l = record {
  on : IsOn (up_of l.self) l.number;
  is : path (rows_of l.self) l.number ++ levels_left (option_map (λ rest. rest.now) l.left) ≡ levels l.filter;
}

abbrev pub decreases-loop-left : goal.decreases-loop-left
decreases-loop-left l = left_size (option_map (λ rest. rest.now) l.left)
