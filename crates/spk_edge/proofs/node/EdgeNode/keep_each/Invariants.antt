use Rattle.std.proofs.Common.{◌≡◌, map}
use Rattle.std.specs.Vec.Iter.{into_iter_items}
use Rattle.spk_edge.specs.Changing.{with_store}
use Rattle.spk_edge.specs.Several.{push_each}
use Rattle.spk_edge.specs.View.{change_view}
use Rattle.spk_edge.proofs.node.EdgeNode.keep_each.Given as goal

-- those that are left are to be kept too
abbrev pub invariant-loop-change : goal.invariant-loop-change
invariant-loop-change l =
    with_store l.self (push_each l.self.standing.asked.store (map change_view (into_iter_items l.change-iterator)))
    ≡ with_store l.fn.self (push_each l.fn.self.standing.asked.store (map change_view l.fn.kept.items))
