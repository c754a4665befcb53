use Rattle.spk_world_run.proofs.Begins.{fresh-run}
use Rattle.spk_world_run.proofs.laws.begins.Goals as goal

pub returns : goal.returns
returns c = fresh-run c.along.ensures.none_whole
