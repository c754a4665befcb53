use Rattle.std.proofs.Common.{◌≡◌}
use Rattle.std.specs.Vec.Iter.{into_iter_items}
use Rattle.spk_edge_app.specs.Step.{after_pushes}
use Rattle.spk_edge_app.proofs.writes.Writes.push_all.Given as goal

-- those that are left are to wait too
abbrev pub invariant-loop-write : goal.invariant-loop-write
invariant-loop-write l = after_pushes l.self (into_iter_items l.write-iterator) ≡ after_pushes l.fn.self l.fn.writes.items
