use Rattle.std.proofs.Common.{◌≡◌, ◌<◌, List, ℕ, Option, Some, None, arith, ap, length, refl, sym, ◌∙◌}
use Rattle.std.specs.Prelude.{IfNone, IfSome}
use Rattle.std.specs.Option.{option_map}
use Rattle.std.proofs.lemmas.Option.{slice_get_read}
use Rattle.spk_topics.specs.declared.node.Edge.{Edge}
use Rattle.spk_topics.specs.Nodes.{edge_of}
use Rattle.spk_topics.proofs.NodeLemmas.{same_rows}
use Rattle.spk_topics.proofs.EdgeLemmas.{node_children_stay, node_nexts_stay, node_up_set, up_at}
use Rattle.spk_topics.proofs.nodes.Nodes.turn_edge.Goals as goal

pub returns-clause-rows : goal.returns-clause-rows
returns-clause-rows c = same_rows c.args.self.now.list.items c.args.number c.index_mut-node.result.now _ c.index_mut-node.ensures.value refl

pub returns-clause-child : goal.returns-clause-child
returns-clause-child c =
    node_children_stay c.args.self.now.list.items c.args.number c.index_mut-node.result.now _ (omega (arith, c.args.self.now.list.ok.0)) c.index_mut-node.ensures.value refl

pub returns-clause-up : goal.returns-clause-up
returns-clause-up c = node_up_set c.args.self.now.list.items c.args.number _ (omega (arith, c.args.self.now.list.ok.0))

pub returns-clause-next : goal.returns-clause-next
returns-clause-next c =
    node_nexts_stay c.args.self.now.list.items c.args.number c.index_mut-node.result.now _ (omega (arith, c.args.self.now.list.ok.0)) c.index_mut-node.ensures.value refl

some : (o p : Option Edge) (u : Option (ℕ × List ℕ)) → o ≡ p → u ≡ option_map edge_of p → IfSome o (λ old. u ≡ Some (edge_of old))
some None p u e h = tt
some (Some old) p u e h = h ∙ ap (option_map edge_of) (sym e)

none : (o p : Option Edge) (u : Option (ℕ × List ℕ)) → o ≡ p → u ≡ option_map edge_of p → IfNone o (u ≡ None)
none None p u e h = h ∙ ap (option_map edge_of) (sym e)
none (Some old) p u e h = tt

pub returns-clause-some : goal.returns-clause-some
returns-clause-some c =
    let items = c.args.self.now.list.items in
    let node = c.index_mut-node.result.now in
    let within : c.args.number < length items = omega (arith, c.args.self.now.list.ok.0) in
    some c.take-old.result node.up _ c.take-old.ensures.value (up_at items c.args.number node (slice_get_read items (length items) c.args.number node refl within c.index_mut-node.ensures.value))

pub returns-clause-none : goal.returns-clause-none
returns-clause-none c =
    let items = c.args.self.now.list.items in
    let node = c.index_mut-node.result.now in
    let within : c.args.number < length items = omega (arith, c.args.self.now.list.ok.0) in
    none c.take-old.result node.up _ c.take-old.ensures.value (up_at items c.args.number node (slice_get_read items (length items) c.args.number node refl within c.index_mut-node.ensures.value))
