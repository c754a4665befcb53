use Rattle.std.proofs.Common.{arith, refl, Some}
use Rattle.spk_topics.proofs.NodeLemmas.{same_rows}
use Rattle.spk_topics.proofs.EdgeLemmas.{node_ups_stay, node_nexts_stay, node_child_set}
use Rattle.spk_topics.proofs.nodes.Nodes.turn_child.Goals as goal

pub returns-clause-rows : goal.returns-clause-rows
returns-clause-rows c = same_rows c.args.self.now.list.items c.args.number c.index_mut.result.now _ c.index_mut.ensures.value refl

pub returns-clause-up : goal.returns-clause-up
returns-clause-up c = node_ups_stay c.args.self.now.list.items c.args.number c.index_mut.result.now _ (omega (arith, c.args.self.now.list.ok.0)) c.index_mut.ensures.value refl

pub returns-clause-next : goal.returns-clause-next
returns-clause-next c = node_nexts_stay c.args.self.now.list.items c.args.number c.index_mut.result.now _ (omega (arith, c.args.self.now.list.ok.0)) c.index_mut.ensures.value refl

pub returns-clause-child : goal.returns-clause-child
returns-clause-child c = node_child_set c.args.self.now.list.items c.args.number c.index_mut.result.now _ c.args.level.now (Some c.args.child) (omega (arith, c.args.self.now.list.ok.0)) c.index_mut.ensures.value c.turn.ensures
