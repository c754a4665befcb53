use Rattle.std.proofs.Common.{◌≡◌}
use Rattle.std.specs.Vec.Iter.{into_iter_items}
use Rattle.spk_edge.specs.Changing.{with_book}
use Rattle.spk_edge.specs.Several.{pairs, set_each}
use Rattle.spk_edge.proofs.node.EdgeNode.put_values.Given as goal

-- those that are left are to be set too
abbrev pub invariant-loop-alias : goal.invariant-loop-alias
invariant-loop-alias l =
    with_book l.self (set_each l.self.standing.asked.book (pairs (into_iter_items l.alias-iterator)))
    ≡ with_book l.fn.self (set_each l.fn.self.standing.asked.book (pairs l.fn.changes.items))
