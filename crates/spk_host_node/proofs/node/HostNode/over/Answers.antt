use Rattle.spk_host_node.proofs.Parts.{same_node}
use Rattle.spk_host_node.proofs.node.HostNode.over.Goals as goal

pub returns : goal.returns
returns c = rw (← c.self.view_is) (same_node c.reset.ensures.data (c.over.ensures.watch c.self.inside.order.standing.wait))
