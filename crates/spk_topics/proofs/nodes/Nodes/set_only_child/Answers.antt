use Rattle.std.specs.Str.{bytes_eq}
use Rattle.std.specs.String.{string_bytes}
use Rattle.std.proofs.lemmas.Option.{slice_get_read}
use Rattle.std.proofs.Common.{arith, refl, ap, sym, ◌∙◌, cond, length, Some}
use Rattle.spk_topics.proofs.NodeLemmas.{same_rows}
use Rattle.spk_topics.proofs.EdgeLemmas.{child_at, node_ups_stay, node_nexts_stay, node_child_set}
use Rattle.spk_topics.proofs.nodes.Nodes.set_only_child.Goals as goal

pub returns-clause-rows : goal.returns-clause-rows
returns-clause-rows c = same_rows c.args.self.now.list.items c.args.number c.index_mut.result.now _ c.index_mut.ensures.value refl

pub returns-clause-up : goal.returns-clause-up
returns-clause-up c = node_ups_stay c.args.self.now.list.items c.args.number c.index_mut.result.now _ (omega (arith, c.args.self.now.list.ok.0)) c.index_mut.ensures.value refl

pub returns-clause-next : goal.returns-clause-next
returns-clause-next c = node_nexts_stay c.args.self.now.list.items c.args.number c.index_mut.result.now _ (omega (arith, c.args.self.now.list.ok.0)) c.index_mut.ensures.value refl

pub returns-clause-child : goal.returns-clause-child
returns-clause-child c = node_child_set c.args.self.now.list.items c.args.number c.index_mut.result.now _ (string_bytes c.args.level) (Some c.args.child) (omega (arith, c.args.self.now.list.ok.0)) c.index_mut.ensures.value
    (λ l. ap (cond (bytes_eq (string_bytes c.args.level) l) (Some c.args.child))
    (sym (sym (child_at c.args.self.now.list.items c.args.number c.index_mut.result.now l (slice_get_read c.args.self.now.list.items (length c.args.self.now.list.items) c.args.number c.index_mut.result.now refl (omega (arith, c.args.self.now.list.ok.0)) c.index_mut.ensures.value)) ∙ c.requires.none l)))
