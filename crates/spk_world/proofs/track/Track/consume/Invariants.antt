use Rattle.std.proofs.Common.{◌≡◌, ◌+◌, ◌++◌, ◌≤◌, map, length}
use Rattle.std.specs.Prelude.{vec_len, vec_capacity}
use Rattle.spk_reading.specs.View.{numbered_view}
use Rattle.spk_world_run.specs.Step.{placed}
use Rattle.spk_world.specs.View.{consumed_view}
use Rattle.spk_world.proofs.track.Track.consume.Given as goal

-- what is there and the rest is all, and there is room for the rest
abbrev pub invariant-loop-message : goal.invariant-loop-message
invariant-loop-message l = record {
  consumed : map consumed_view l.self.consumed.items ++ placed l.position (map numbered_view l.message-iterator.rest.items) ≡
      map consumed_view l.fn.self.consumed.items ++ placed l.fn.position (map numbered_view l.fn.taken.items);
  place : l.position + length l.message-iterator.rest.items ≡ l.fn.position + length l.fn.taken.items;
  reach : l.self.reach ≡ l.fn.self.reach;
  session : l.self.session ≡ l.fn.self.session;
  births : l.self.births ≡ l.fn.self.births;
  room : vec_len l.self.consumed + length l.message-iterator.rest.items ≤ vec_capacity l.self.consumed;
}
