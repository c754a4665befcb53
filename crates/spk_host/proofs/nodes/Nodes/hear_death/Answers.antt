use Rattle.std.proofs.Common.{◌∙◌, sym, ap, set, get_or, List, Some, None}
use Rattle.spk_sequence.specs.Step as sequence
use Rattle.spk_host_node.specs.Data.{NodeData, fresh_node}
use Rattle.spk_host_node.specs.Step as one_node
use Rattle.spk_host.specs.Data.{Entry}
use Rattle.spk_host.specs.Index.{names_of}
use Rattle.spk_host.proofs.Found.{absent, at, node_there, read_there}
use Rattle.spk_host.proofs.Idle.{order-set}
use Rattle.spk_host.proofs.Indexed.{first-place}
use Rattle.spk_host.proofs.nodes.Nodes.hear_death.Goals as goal

pub invariant_of-self : goal.invariant_of-self
invariant_of-self c =
    order-set c.self.inside.entries.items c.self.inside.index c.in-Some.place c.death-answer.new.self c.index_mut-entry.result.now
    c.self.inside.due c.due_of.result c.min-self-inside.result c.self.invariant c.index_mut-entry.ensures.value (ap names_of c.death-answer.ensures.data) c.due_of.ensures c.min-self-inside.ensures

pub returns-in-Some-clause-answer : goal.returns-in-Some-clause-answer
returns-in-Some-clause-answer c = λ wait width.
    let l = c.args.self.now in
    let found = at c.args.group.now c.args.node.now l c.in-Some.place
    (first-place c.args.group.now c.args.node.now c.args.self.now c.place_of.result c.place_of.ensures ∙ c.in-Some.is) in
    c.death-answer.ensures.answer
    ∙ ap (λ (e : Entry). sequence.match_of e.kept.order.standing c.args.bd)
    (read_there l c.in-Some.place c.index_mut-entry.result.now found.0 found.1.there
    (c.index_mut-entry.ensures.value ∙ ap (λ (xs : List Entry). get_or xs c.in-Some.place c.index_mut-entry.result.now) c.self.view_is))
    ∙ ap (λ (n : NodeData). sequence.match_of n.order.standing c.args.bd)
    (sym (node_there (fresh_node wait width) c.args.group.now c.args.node.now l (Some found.0) found.1.found))

pub returns-in-Some-clause-nodes : goal.returns-in-Some-clause-nodes
returns-in-Some-clause-nodes c =
    let l = c.args.self.now in
    let found = at c.args.group.now c.args.node.now l c.in-Some.place
    (first-place c.args.group.now c.args.node.now c.args.self.now c.place_of.result c.place_of.ensures ∙ c.in-Some.is) in
    ap (λ (xs : List Entry). set xs c.in-Some.place c.death-answer.new.self) c.self.view_is
    ∙ ap (set l c.in-Some.place) (c.death-answer.ensures.data ∙ ap (λ (e : Entry). record e { kept = one_node.death e.kept c.args.bd })
    (read_there l c.in-Some.place c.index_mut-entry.result.now found.0 found.1.there
    (c.index_mut-entry.ensures.value ∙ ap (λ (xs : List Entry). get_or xs c.in-Some.place c.index_mut-entry.result.now) c.self.view_is)))
    ∙ sym (found.1.change (λ n. one_node.death n c.args.bd))

pub returns-in-None-clause-answer : goal.returns-in-None-clause-answer
returns-in-None-clause-answer c = λ wait width.
    let none = absent c.args.group.now c.args.node.now c.args.self.now 0
    (first-place c.args.group.now c.args.node.now c.args.self.now c.place_of.result c.place_of.ensures ∙ c.in-None.is) in
    ap (λ (n : NodeData). sequence.match_of n.order.standing c.args.bd)
    (sym (node_there (fresh_node wait width) c.args.group.now c.args.node.now c.args.self.now None none.not_found))

pub returns-in-None-clause-nodes : goal.returns-in-None-clause-nodes
returns-in-None-clause-nodes c =
    let none = absent c.args.group.now c.args.node.now c.args.self.now 0
    (first-place c.args.group.now c.args.node.now c.args.self.now c.place_of.result c.place_of.ensures ∙ c.in-None.is) in
    sym (none.change (λ n. one_node.death n c.args.bd))
