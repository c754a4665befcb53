use Rattle.std.proofs.Common.{IfOk, IfErr, rules}
use Rattle.spk_plant_edge.specs.Done.{EdgeFailed}
use Rattle.spk_plant.specs.Choice.{IsOfEdges}
use Rattle.spk_plant.specs.Done.{AreDone, IsEdgeDone}
use Rattle.spk_plant.proofs.Chosen.{edges_done, edges_fault}
use Rattle.spk_plant.proofs.threads.+fn-run_edges-join+arg3+run_edges.Goals as goal

pub returns-clause-done : goal.returns-clause-done
returns-clause-done g t c =
    let last : IfOk c.join-last.result.0 (λ e. IsEdgeDone c.args.ingress.now c.in-Some.start e) = search rules in
    let others : IfOk c.join-last.result.1 (λ es. AreDone c.args.ingress.now c.next_of.new.starts.items es.items) = search rules in
    edges_done c.args.ingress.now c.next_of.new.starts.items c.args.starts.items c.in-Some.start c.join-last.result.1 c.join-last.result.0 c.edges_of.result
    c.in-Some.ensures.items others last c.edges_of.ensures.joined

pub returns-clause-fault : goal.returns-clause-fault
returns-clause-fault g t c =
    let last : IfErr c.join-last.result.0 (EdgeFailed c.in-Some.start) = search rules in
    let others : IfOk c.join-last.result.1 (λ es. AreDone c.args.ingress.now c.next_of.new.starts.items es.items) = search rules in
    let failed : IfErr c.join-last.result.1 (IsOfEdges c.args.ingress.now c.next_of.new.starts.items) = search rules in
    edges_fault c.args.ingress.now c.next_of.new.starts.items c.args.starts.items c.in-Some.start c.join-last.result.1 c.join-last.result.0 c.edges_of.result
    c.in-Some.ensures.items others failed last c.edges_of.ensures.fault
