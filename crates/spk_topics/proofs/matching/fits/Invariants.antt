use Rattle.std.proofs.Common.{◌≡◌, ◌+◌, length}
use Rattle.std.specs.Option.{option_map, option_map_or}
use Rattle.spk_topics.specs.Levels.{levels, levels_left}
use Rattle.spk_topics.specs.Fitting.{fits}
use Rattle.spk_topics.proofs.matching.fits.Given as goal

-- what is left of both decides
abbrev pub invariant-loop-filter_left : goal.invariant-loop-filter_left
invariant-loop-filter_left l = fits (levels l.filter) (levels l.topic) ≡ fits (levels_left (option_map (λ rest. rest.now) l.filter_left)) (levels_left (option_map (λ rest. rest.now) l.topic_left))

abbrev pub decreases-loop-filter_left : goal.decreases-loop-filter_left
decreases-loop-filter_left l = option_map_or (λ rest. length rest.now + 1) l.filter_left 0
