use Rattle.std.proofs.Common.{◌∙◌, sym, ap, refl, set, get_or, List, Some, None, ◌++◌, ◌∷◌, []}
use Rattle.spk_reading.specs.View.{numbered_view}
use Rattle.spk_host_node.specs.Data.{fresh_node}
use Rattle.spk_host_node.specs.Step as one_node
use Rattle.spk_host.specs.Data.{Entry}
use Rattle.spk_host.specs.Step.{message_out}
use Rattle.spk_host.proofs.Found.{absent, at, if_ok, node_there, on_ok, place_is, read_there}
use Rattle.spk_host.proofs.Idle.{at-once, order-set}
use Rattle.spk_host.proofs.Indexed.{absent-in, indexed-first}
use Rattle.spk_host.proofs.Parts.{entry_of}
use Rattle.spk_host.proofs.nodes.Nodes.hear.Goals as goal

pub returns-in-Some-clause-out : goal.returns-in-Some-clause-out
returns-in-Some-clause-out c =
    let l = c.args.self.now in
    let found = at (numbered_view c.args.message).group (numbered_view c.args.message).node l c.in-Some.place
    (place_is c.place_of.result _ _ _ _ _ _ c.place_of.ensures c.as_str.ensures.value c.as_str-2.ensures.value refl ∙ c.in-Some.is) in
    let read = read_there l c.in-Some.place c.index_mut-entry.result.now found.0 found.1.there
    (c.index_mut-entry.ensures.value ∙ ap (λ (xs : List Entry). get_or xs c.in-Some.place c.index_mut-entry.result.now) c.self.view_is) in
    if_ok c.hear_message-out.result c.hear_message-out.ensures.out
    (λ o is. is ∙ ap (λ (e : Entry). message_out e.kept c.args.ack (numbered_view c.args.message) c.args.now) read
    ∙ ap (λ k. message_out k c.args.ack (numbered_view c.args.message) c.args.now)
    (sym (node_there (fresh_node c.args.wait c.args.width) _ _ l (Some found.0) found.1.found)))

pub returns-in-Some-clause-nodes : goal.returns-in-Some-clause-nodes
returns-in-Some-clause-nodes c =
    let l = c.args.self.now in
    let found = at (numbered_view c.args.message).group (numbered_view c.args.message).node l c.in-Some.place
    (place_is c.place_of.result _ _ _ _ _ _ c.place_of.ensures c.as_str.ensures.value c.as_str-2.ensures.value refl ∙ c.in-Some.is) in
    let read = read_there l c.in-Some.place c.index_mut-entry.result.now found.0 found.1.there
    (c.index_mut-entry.ensures.value ∙ ap (λ (xs : List Entry). get_or xs c.in-Some.place c.index_mut-entry.result.now) c.self.view_is) in
    on_ok c.hear_message-out.result c.hear_message-out.ensures.entry
    (λ is. ap (λ (xs : List Entry). set xs c.in-Some.place c.hear_message-out.new.entry) c.self.view_is
    ∙ ap (set l c.in-Some.place)
    (is ∙ ap (λ (e : Entry). record e { kept = one_node.hand e.kept (numbered_view c.args.message) c.args.now }) read
    ∙ ap (λ k. entry_of found.0.group found.0.node (one_node.hand k (numbered_view c.args.message) c.args.now))
    (sym (node_there (fresh_node c.args.wait c.args.width) _ _ l (Some found.0) found.1.found)))
    ∙ sym (found.1.put _))

pub returns-in-None-clause-out : goal.returns-in-None-clause-out
returns-in-None-clause-out c =
    let none = absent (numbered_view c.args.message).group (numbered_view c.args.message).node c.args.self.now 0
    (place_is c.place_of.result _ _ _ _ _ _ c.place_of.ensures c.as_str.ensures.value c.as_str-2.ensures.value refl ∙ c.in-None.is) in
    if_ok c.hear_first.result c.hear_first.ensures.out
    (λ o is. is ∙ ap (λ k. message_out k c.args.ack (numbered_view c.args.message) c.args.now)
    (sym (node_there (fresh_node c.args.wait c.args.width) _ _ c.args.self.now None none.not_found)))

pub returns-in-None-clause-nodes : goal.returns-in-None-clause-nodes
returns-in-None-clause-nodes c =
    let none = absent (numbered_view c.args.message).group (numbered_view c.args.message).node c.args.self.now 0
    (place_is c.place_of.result _ _ _ _ _ _ c.place_of.ensures c.as_str.ensures.value c.as_str-2.ensures.value refl ∙ c.in-None.is) in
    on_ok c.hear_first.result c.hear_first.ensures.nodes
    (λ is. is ∙ ap (λ (xs : List Entry). xs ++ entry_of (numbered_view c.args.message).group (numbered_view c.args.message).node
    (one_node.hand (fresh_node c.args.wait c.args.width) (numbered_view c.args.message) c.args.now) ∷ []) c.self.view_is
    ∙ ap (λ k. c.args.self.now ++ entry_of (numbered_view c.args.message).group (numbered_view c.args.message).node
    (one_node.hand k (numbered_view c.args.message) c.args.now) ∷ [])
    (sym (node_there (fresh_node c.args.wait c.args.width) _ _ c.args.self.now None none.not_found))
    ∙ sym (none.put _))

pub invariant_of-self : goal.invariant_of-self
invariant_of-self c =
    order-set c.self.inside.entries.items c.self.inside.index c.in-Some.place c.hear_message-out.new.entry c.index_mut-entry.result.now
    c.self.inside.due c.due_of.result c.min-self-inside.result c.self.invariant c.index_mut-entry.ensures.value c.hear_message-out.ensures.names c.due_of.ensures c.min-self-inside.ensures

pub hear_first-requires : goal.hear_first-requires
hear_first-requires c =
    absent-in (numbered_view c.args.message).group (numbered_view c.args.message).node c.self.inside.entries.items c.self.inside.index c.self.invariant.indexed
    (place_is c.place_of.result _ _ _ _ _ _ c.place_of.ensures c.as_str.ensures.value c.as_str-2.ensures.value (sym c.self.view_is) ∙ c.in-None.is)

pub invariant_of-self-in-None : goal.invariant_of-self-in-None
invariant_of-self-in-None c =
    at-once (indexed-first c.hear_first.result c.self.inside.entries.items c.hear_first.new.entries.items c.self.inside.index c.hear_first.new.index
    (entry_of (numbered_view c.args.message).group (numbered_view c.args.message).node
    (one_node.hand (fresh_node c.args.wait c.args.width) (numbered_view c.args.message) c.args.now)) c.self.invariant.indexed
    (absent-in (numbered_view c.args.message).group (numbered_view c.args.message).node c.self.inside.entries.items c.self.inside.index c.self.invariant.indexed
    (place_is c.place_of.result _ _ _ _ _ _ c.place_of.ensures c.as_str.ensures.value c.as_str-2.ensures.value (sym c.self.view_is) ∙ c.in-None.is))
    c.hear_first.ensures.nodes c.hear_first.ensures.entered c.hear_first.ensures.unchanged c.hear_first.ensures.not_entered)
