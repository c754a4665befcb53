use Rattle.std.proofs.Common.{arith, refl, Some, ap}
use Rattle.spk_topics.proofs.NodeLemmas.{same_rows, same_links}
use Rattle.spk_topics.proofs.EdgeLemmas.{node_ups_stay, node_nexts_stay, node_child_set}
use Rattle.std.specs.Option.{option_map}
use Rattle.spk_topics.specs.Nodes.{edge_of}
use Rattle.spk_topics.proofs.nodes.Nodes.add_child.Goals as goal

pub returns-in-Ok-clause-rows : goal.returns-in-Ok-clause-rows
returns-in-Ok-clause-rows c = same_rows c.args.self.now.list.items c.args.number c.index_mut.result.now _ c.index_mut.ensures.value refl

pub returns-in-Ok-clause-up : goal.returns-in-Ok-clause-up
returns-in-Ok-clause-up c = node_ups_stay c.args.self.now.list.items c.args.number c.index_mut.result.now _ (omega (arith, c.args.self.now.list.ok.0)) c.index_mut.ensures.value refl

pub returns-in-Ok-clause-next : goal.returns-in-Ok-clause-next
returns-in-Ok-clause-next c = node_nexts_stay c.args.self.now.list.items c.args.number c.index_mut.result.now _ (omega (arith, c.args.self.now.list.ok.0)) c.index_mut.ensures.value refl

pub returns-in-Ok-clause-child : goal.returns-in-Ok-clause-child
returns-in-Ok-clause-child c = node_child_set c.args.self.now.list.items c.args.number c.index_mut.result.now _ c.args.level.now (Some c.args.child) (omega (arith, c.args.self.now.list.ok.0)) c.index_mut.ensures.value c.in-Ok.ensures.ok

pub returns-in-Err-clause-rows : goal.returns-in-Err-clause-rows
returns-in-Err-clause-rows c = same_rows c.args.self.now.list.items c.args.number c.index_mut.result.now _ c.index_mut.ensures.value refl

pub returns-in-Err-clause-up : goal.returns-in-Err-clause-up
returns-in-Err-clause-up c = node_ups_stay c.args.self.now.list.items c.args.number c.index_mut.result.now _ (omega (arith, c.args.self.now.list.ok.0)) c.index_mut.ensures.value refl

pub returns-in-Err-clause-next : goal.returns-in-Err-clause-next
returns-in-Err-clause-next c = node_nexts_stay c.args.self.now.list.items c.args.number c.index_mut.result.now _ (omega (arith, c.args.self.now.list.ok.0)) c.index_mut.ensures.value refl

pub returns-in-Err-clause-err : goal.returns-in-Err-clause-err
returns-in-Err-clause-err c = same_links c.args.self.now.list.items c.args.number c.index_mut.result.now _ c.index_mut.ensures.value (ap (λ ways. (ways, option_map edge_of c.index_mut.result.now.up, c.index_mut.result.now.next_unused)) c.in-Err.ensures.err)
