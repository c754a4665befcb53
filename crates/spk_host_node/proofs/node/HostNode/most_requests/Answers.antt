use Rattle.std.proofs.Common.{◌∙◌, ap}
use Rattle.spk_reading.specs.View.{numbered_view}
use Rattle.spk_host_node.specs.Room.{most_heard}
use Rattle.spk_host_node.proofs.Heard.{few_asked}
use Rattle.spk_host_node.proofs.node.HostNode.most_requests.Goals as goal

pub returns-clause-enough : goal.returns-clause-enough
returns-clause-enough c =
    few_asked c.args.self.now (numbered_view c.args.message.now) c.args.now c.most_heard.result
    (c.most_heard.ensures.most ∙ ap most_heard c.step_of.ensures)
