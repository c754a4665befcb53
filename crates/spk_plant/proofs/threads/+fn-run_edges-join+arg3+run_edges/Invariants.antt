use Rattle.std.proofs.Common.{length}
use Rattle.spk_plant.proofs.threads.+fn-run_edges-join+arg3+run_edges.Given as goal

abbrev pub decreases-join+arg3 : goal.decreases-join+arg3
decreases-join+arg3 g l = length l.starts.items

abbrev pub decreases-run_edges : goal.decreases-run_edges
decreases-run_edges g l = length l.starts.items
