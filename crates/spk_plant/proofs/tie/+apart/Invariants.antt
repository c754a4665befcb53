use Rattle.std.proofs.Common.{length}
use Rattle.spk_plant.proofs.tie.+apart.Given as goal

abbrev pub decreases-apart : goal.decreases-apart
decreases-apart l = length l.ends.items
