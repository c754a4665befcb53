use Rattle.std.proofs.Common.{◌≡◌, ◌+◌, length}
use Rattle.std.specs.Option.{option_map, option_map_or}
use Rattle.spk_topics.specs.Levels.{levels, levels_left}
use Rattle.spk_topics.specs.Text.{in_place}
use Rattle.spk_topics.proofs.filter.has_wildcards_in_place.Given as goal

-- the levels that are left decide
abbrev pub invariant-loop-left : goal.invariant-loop-left
invariant-loop-left l = in_place (levels l.text) ≡ in_place (levels_left (option_map (λ rest. rest.now) l.left))

abbrev pub decreases-loop-left : goal.decreases-loop-left
decreases-loop-left l = option_map_or (λ rest. length rest.now + 1) l.left 0
