use Rattle.std.proofs.Common.{ap, subst, sym, ◌∙◌}
use Rattle.spk_host_node.specs.Data.{NodeData}
use Rattle.spk_host_node.specs.Inputs.{events_of}
use Rattle.spk_host_rules.specs.Showing.{IsShown}
use Rattle.spk_host.specs.Inputs.{node_calls}
use Rattle.spk_host_session.specs.Data.{Config}
use Rattle.spk_host_node.specs.Data.{fresh_node}
use Rattle.spk_host_node.specs.Step.{requests_of}
use Rattle.spk_host.specs.Inputs.{host_after}
use Rattle.spk_host.specs.Nodes.{node_or}
use Rattle.spk_host.specs.Step.{topics_to}
use Rattle.spk_host.proofs.Asked.{listed, ticked_asks}
use Rattle.spk_host.proofs.Along.{config_stays, kept, step}
use Rattle.spk_host.proofs.laws.any_list.Goals as goal

pub returns-clause-kept : goal.returns-clause-kept
returns-clause-kept c = kept

pub returns-clause-step : goal.returns-clause-step
returns-clause-step c = step

pub returns-clause-order : goal.returns-clause-order
returns-clause-order c = λ config calls group name.
    ap (λ (n : NodeData). n.order) (kept config calls group name)
    ∙ c.any_list.ensures.order config.wait config.width (node_calls calls group name)

pub returns-clause-shows : goal.returns-clause-shows
returns-clause-shows c = λ config calls group name.
    let inputs = node_calls calls group name in
    subst (λ (n : NodeData). IsShown (events_of config.wait config.width inputs) n.watch.view) (sym (kept config calls group name))
    (c.any_list.ensures.shows config.wait config.width inputs)

pub returns-clause-config : goal.returns-clause-config
returns-clause-config c = config_stays

pub returns-clause-listed : goal.returns-clause-listed
returns-clause-listed c = listed

pub returns-clause-requests : goal.returns-clause-requests
returns-clause-requests c = λ config calls ack m now.
    let nodes = (host_after config calls).nodes in
    ap (λ (k : Config). topics_to m.group m.node (requests_of (node_or (fresh_node k.wait k.width) nodes m.group m.node) m now)) (config_stays config calls)
    ∙ ap (λ n. topics_to m.group m.node (requests_of n m now)) (kept config calls m.group m.node)
    ∙ ap (topics_to m.group m.node) (c.any_list.ensures.requests config.wait config.width (node_calls calls m.group m.node) m now)

pub returns-clause-ticks : goal.returns-clause-ticks
returns-clause-ticks c = λ config calls now.
    ticked_asks config calls now (λ inputs. c.any_list.ensures.ticks config.wait config.width inputs now) (kept config calls)
