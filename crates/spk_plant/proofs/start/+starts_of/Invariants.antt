use Rattle.std.proofs.Common.{length}
use Rattle.spk_plant.proofs.start.+starts_of.Given as goal

abbrev pub decreases-starts_of : goal.decreases-starts_of
decreases-starts_of l = length l.nodes.items
