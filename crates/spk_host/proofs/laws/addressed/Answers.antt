use Rattle.std.proofs.Common.{sym, ap, ◌++◌}
use Rattle.spk_host_node.specs.Step.{requests_of}
use Rattle.spk_host.specs.Nodes.{node_or}
use Rattle.spk_host.specs.Step.{acks, fresh, spelled}
use Rattle.spk_host.proofs.Asked.{requests_are, requests_at_are, same_topics}
use Rattle.spk_host.proofs.laws.addressed.Goals as goal

pub returns-clause-message : goal.returns-clause-message
returns-clause-message c = λ h ack m now.
    let count = requests_of (node_or (fresh h) h.nodes m.group m.node) m now in
    (same_topics m.group m.node count, ap (λ l. spelled (acks ack ++ l)) (sym (requests_are m.group m.node now count)))

pub returns-clause-tick : goal.returns-clause-tick
returns-clause-tick c = λ nodes now. ap spelled (sym (requests_at_are now nodes))
