use Rattle.std.proofs.Common.{◌≡◌, ◌<◌, arith, refl, ap, ◌∙◌, length, cond, nat_eq, set, Option, Some, []}
use Rattle.std.specs.Prelude.{slice_get}
use Rattle.std.specs.Option.{option_map}
use Rattle.std.proofs.lemmas.Option.{slice_get_read}
use Rattle.spk_topics.specs.declared.node.Edge.{Edge}
use Rattle.spk_topics.specs.Nodes.{edge_of, row_of, rows_of, up_of, next_unused_of}
use Rattle.spk_topics.proofs.NodeLemmas.{same_links, same_rows, rows_set}
use Rattle.spk_topics.proofs.EdgeLemmas.{node_children_drop, node_next_set, node_up_set, row_at, up_at}
use Rattle.spk_topics.proofs.nodes.Nodes.free.Goals as goal

pub returns-in_err-edge-clause-none : goal.returns-in_err-edge-clause-none
returns-in_err-edge-clause-none c =
    let items = c.args.self.now.list.items in
    let node = c.index_mut.result.now in
    let within : c.args.number < length items = omega (arith, c.requires.within, c.args.self.now.list.ok.0) in
    rw c.from_residual.ensures (up_at items c.args.number node (slice_get_read items (length items) c.args.number node refl within c.index_mut.ensures.value) ∙ ap (option_map edge_of) c.in_err-edge.ensures.none)

pub returns-in_err-edge-clause-same : goal.returns-in_err-edge-clause-same
returns-in_err-edge-clause-same c = rw c.from_residual.ensures (same_rows c.args.self.now.list.items c.args.number c.index_mut.result.now c.free.new.self c.index_mut.ensures.value c.in_err-edge.ensures.same)

pub returns-in_err-edge-clause-same_links : goal.returns-in_err-edge-clause-same_links
returns-in_err-edge-clause-same_links c = rw c.from_residual.ensures (same_links c.args.self.now.list.items c.args.number c.index_mut.result.now c.free.new.self c.index_mut.ensures.value c.in_err-edge.ensures.same_link)

pub returns-clause-edge : goal.returns-clause-edge
returns-clause-edge c =
    let items = c.args.self.now.list.items in
    let node = c.index_mut.result.now in
    let within : c.args.number < length items = omega (arith, c.requires.within, c.args.self.now.list.ok.0) in
    up_at items c.args.number node (slice_get_read items (length items) c.args.number node refl within c.index_mut.ensures.value) ∙ c.in_ok-edge.ensures.edge

pub returns-clause-rows : goal.returns-clause-rows
returns-clause-rows c =
    let items = c.args.self.now.list.items in
    let node = c.index_mut.result.now in
    let within : c.args.number < length items = omega (arith, c.requires.within, c.args.self.now.list.ok.0) in
    let at : slice_get items c.args.number ≡ Some node = slice_get_read items (length items) c.args.number node refl within c.index_mut.ensures.value in
    rows_set items c.args.number c.free.new.self
    ∙ ap (set (rows_of c.args.self.now) c.args.number) (c.in_ok-edge.ensures.row ∙ ap (λ es. ([], es)) (c.requires.vacant (row_of node) (row_at items c.args.number node at)))

pub returns-clause-child : goal.returns-clause-child
returns-clause-child c =
    let within : c.args.number < length c.args.self.now.list.items = omega (arith, c.requires.within, c.args.self.now.list.ok.0) in
    node_children_drop c.args.self.now.list.items c.args.number c.free.new.self within c.in_ok-edge.ensures.children

pub returns-clause-up : goal.returns-clause-up
returns-clause-up c =
    let within : c.args.number < length c.args.self.now.list.items = omega (arith, c.requires.within, c.args.self.now.list.ok.0) in
    λ x. node_up_set c.args.self.now.list.items c.args.number c.free.new.self within x
    ∙ ap (λ (o : Option Edge). cond (nat_eq x c.args.number) (option_map edge_of o) (up_of c.args.self.now x)) c.in_ok-edge.ensures.up

pub returns-clause-next : goal.returns-clause-next
returns-clause-next c =
    let within : c.args.number < length c.args.self.now.list.items = omega (arith, c.requires.within, c.args.self.now.list.ok.0) in
    λ x. node_next_set c.args.self.now.list.items c.args.number c.free.new.self within x
    ∙ ap (λ o. cond (nat_eq x c.args.number) o (next_unused_of c.args.self.now x)) c.in_ok-edge.ensures.next
