use Rattle.std.proofs.Common.{◌∙◌, sym}
use Rattle.spk_host_node.proofs.Parts.{node_of, same_death}
use Rattle.spk_host_node.proofs.node.HostNode.death.Goals as goal

pub returns-in-Matched-clause-data : goal.returns-in-Matched-clause-data
returns-in-Matched-clause-data c =
    rw (← c.self.view_is)
    (same_death (node_of c.self.inside.order c.self.inside.watch.watch) c.args.bd c.death-answer.new.self c.over.new.self.watch
    (sym c.death-answer.ensures.answer ∙ c.in-Matched.is) c.death-answer.ensures.data
    (c.over.ensures.watch c.self.inside.order.standing.wait))
