use Rattle.std.proofs.Common.{arith}
use Rattle.spk_refusals.proofs.view.node_data.Goals as goal

pub returns : goal.returns
returns c = first_of (assumption c.node_data.ensures, grind arith)
