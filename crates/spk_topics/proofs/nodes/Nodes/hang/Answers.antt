use Rattle.std.proofs.Common.{◌≡◌, ◌<◌, List, ℕ, [], Some, arith, ap, cond, length, nat_eq, refl, set, sym, ◌∙◌}
use Rattle.std.specs.Prelude.{slice_get}
use Rattle.std.specs.String.{string_bytes}
use Rattle.std.proofs.lemmas.Option.{slice_get_read}
use Rattle.spk_topics.specs.Nodes.{next_unused_of, row_of, rows_of}
use Rattle.spk_topics.specs.Rows.{Row}
use Rattle.spk_topics.proofs.NodeLemmas.{rows_set}
use Rattle.spk_topics.proofs.EdgeLemmas.{next_at, node_children_stay, node_next_set, node_up_set, row_at}
use Rattle.spk_topics.proofs.nodes.Nodes.hang.Goals as goal

same_row : (r s : Row) → Some r ≡ Some s → r ≡ s
same_row r s h = cc

pub returns-clause-rows : goal.returns-clause-rows
returns-clause-rows c =
    let items = c.args.self.now.list.items in
    let node = c.index_mut-node.result.now in
    let within : c.args.number < length items = omega (arith, c.requires.within, c.args.self.now.list.ok.0) in
    let at : slice_get items c.args.number ≡ Some node = slice_get_read items (length items) c.args.number node refl within c.index_mut-node.ensures.value in
    let same : row_of node ≡ ([], []) = same_row (row_of node) ([], []) (sym (row_at items c.args.number node at) ∙ c.requires.empty) in
    rows_set items c.args.number _
    ∙ ap (λ (es : List (ℕ × ℕ)). set (rows_of c.args.self.now) c.args.number (string_bytes c.args.path, es)) (ap (λ (r : Row). r.1) same)

pub returns-clause-child : goal.returns-clause-child
returns-clause-child c =
    node_children_stay c.args.self.now.list.items c.args.number c.index_mut-node.result.now _ (omega (arith, c.requires.within, c.args.self.now.list.ok.0)) c.index_mut-node.ensures.value refl

pub returns-clause-up : goal.returns-clause-up
returns-clause-up c = node_up_set c.args.self.now.list.items c.args.number _ (omega (arith, c.requires.within, c.args.self.now.list.ok.0))

pub returns-clause-next : goal.returns-clause-next
returns-clause-next c =
    λ x. node_next_set c.args.self.now.list.items c.args.number _ (omega (arith, c.requires.within, c.args.self.now.list.ok.0)) x
    ∙ ap (λ o. cond (nat_eq x c.args.number) o (next_unused_of c.args.self.now x)) c.take-next.ensures.after

pub returns-clause-first : goal.returns-clause-first
returns-clause-first c =
    let items = c.args.self.now.list.items in
    let node = c.index_mut-node.result.now in
    let within : c.args.number < length items = omega (arith, c.requires.within, c.args.self.now.list.ok.0) in
    c.take-next.ensures.value ∙ sym (next_at items c.args.number node (slice_get_read items (length items) c.args.number node refl within c.index_mut-node.ensures.value))
