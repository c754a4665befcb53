use Rattle.std.proofs.Common.{◌∙◌, ap}
use Rattle.spk_sequence.specs.Step as sequence
use Rattle.spk_host_node.specs.Data.{NodeData}
use Rattle.spk_host_node.proofs.Parts.{node_of, still_node}
use Rattle.spk_host_node.proofs.node.HostNode.due.Goals as goal

pub returns-clause-still : goal.returns-clause-still
returns-clause-still c = λ now still.
    let mine = ap (λ (n : NodeData). sequence.is_over n.order.standing now) c.self.view_is ∙ still in
    rw (← c.self.view_is) (still_node (node_of c.self.inside.order c.self.inside.watch.watch) now mine (c.due.ensures.still now mine))
