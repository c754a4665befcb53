use Rattle.std.proofs.Common.{◌∙◌, ap, Some}
use Rattle.spk_sequence.specs.Step.{match_of}
use Rattle.spk_order.specs.Ordered.{Ordered}
use Rattle.spk_reading.specs.Data.{NumberedData}
use Rattle.spk_host_session.specs.Data.{Config}
use Rattle.spk_host_node.specs.Data.{NodeData, fresh_node}
use Rattle.spk_host.specs.Inputs.{host_after, node_calls}
use Rattle.spk_host.specs.Nodes.{node_or}
use Rattle.spk_host.proofs.Along.{config_stays, kept}
use Rattle.spk_host.proofs.Deaths.{followed, ignored, matched}
use Rattle.spk_host.proofs.laws.deaths.Goals as goal

pub returns-clause-matched : goal.returns-clause-matched
returns-clause-matched c = matched

pub returns-clause-ignored : goal.returns-clause-ignored
returns-clause-ignored c = ignored

pub returns-clause-followed : goal.returns-clause-followed
returns-clause-followed c = followed

pub returns-clause-order : goal.returns-clause-order
returns-clause-order c = λ config calls ack group name bd now.
    let nodes = (host_after config calls).nodes in
    ap (λ (k : Config). Some (match_of (node_or (fresh_node k.wait k.width) nodes group name).order.standing bd)) (config_stays config calls)
    ∙ ap (λ (n : NodeData). Some (match_of n.order.standing bd)) (kept config calls group name)
    ∙ ap (λ (o : Ordered NumberedData). Some (match_of o.standing bd)) (c.any_list.ensures.order config.wait config.width (node_calls calls group name))
