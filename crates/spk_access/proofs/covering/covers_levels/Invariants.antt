use Rattle.std.proofs.Common.{◌≡◌, ◌+◌, length}
use Rattle.std.specs.Option.{option_map, option_map_or}
use Rattle.spk_topics.specs.Levels.{levels, levels_left}
use Rattle.spk_access.specs.Covering.{covers_levels}
use Rattle.spk_access.proofs.covering.covers_levels.Given as goal

-- what is left of both decides
abbrev pub invariant-loop-wide_left : goal.invariant-loop-wide_left
invariant-loop-wide_left l = covers_levels (levels l.wide) (levels l.filter) ≡ covers_levels (levels_left (option_map (λ rest. rest.now) l.wide_left)) (levels_left (option_map (λ rest. rest.now) l.filter_left))

abbrev pub decreases-loop-wide_left : goal.decreases-loop-wide_left
decreases-loop-wide_left l = option_map_or (λ rest. length rest.now + 1) l.wide_left 0
