use Rattle.spk_edge_lives.proofs.Lives.{are_lives}
use Rattle.spk_edge_lives.proofs.laws.lives.Goals as goal

pub returns : goal.returns
returns c = are_lives c.careful.ensures.careful
