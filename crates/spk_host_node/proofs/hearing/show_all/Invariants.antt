use Rattle.std.proofs.Common.{◌≡◌, ◌+◌, ◌++◌, ◌≤◌, map, length}
use Rattle.std.specs.Prelude.{vec_len, vec_capacity}
use Rattle.spk_reading.specs.View.{numbered_view}
use Rattle.spk_host_node.specs.Step as spec
use Rattle.spk_host_node.proofs.hearing.show_all.Given as goal

-- The rest does what all do, and there is room for it.
abbrev pub invariant-loop-kept : goal.invariant-loop-kept
invariant-loop-kept l = record {
  watched : spec.watched l.wait l.watch.watch (map (spec.consumed_at l.now) l.kept-iterator.rest.items) ≡
      spec.watched l.wait l.fn.watch.watch (map (spec.consumed_at l.now) l.fn.taken.items);
  asked : l.requests + spec.requests l.wait l.watch.watch (map (spec.consumed_at l.now) l.kept-iterator.rest.items) ≡
      spec.requests l.wait l.fn.watch.watch (map (spec.consumed_at l.now) l.fn.taken.items);
  few : l.requests + length l.kept-iterator.rest.items ≤ length l.fn.taken.items;
  taken_all : map numbered_view l.consumed.items ++ l.kept-iterator.rest.items ≡
      map numbered_view l.fn.consumed.items ++ l.fn.taken.items;
  room : length l.kept-iterator.rest.items ≤ l.watch.room;
  capacity : vec_len l.consumed + length l.kept-iterator.rest.items ≤ vec_capacity l.consumed;
}
