use Rattle.std.proofs.Common.{◌≡◌, ◌+◌, ◌++◌, map, length, None}
use Rattle.std.specs.List.{count_by, last_or}
use Rattle.spk_edge.specs.View.{message_view}
use Rattle.spk_world_run.specs.Step.{or_zero, posts_from, starts_from}
use Rattle.spk_world.specs.Parts.{HasRoom}
use Rattle.spk_world.specs.View.{published_view}
use Rattle.spk_world.proofs.log.Log.add.Given as goal

-- what is there and the rest is all, and there is room for the rest
abbrev pub invariant-loop-message : goal.invariant-loop-message
invariant-loop-message l = record {
  published : map published_view l.self.published.items ++ posts_from l.session l.self.births (map message_view l.message-iterator.rest.items) ≡
      map published_view l.fn.self.published.items ++ posts_from l.session l.fn.self.births (map message_view l.fn.messages.items);
  starts : l.self.starts.items ++ starts_from (length l.self.published.items) (or_zero (last_or None l.self.starts.items)) (map message_view l.message-iterator.rest.items) ≡
      l.fn.self.starts.items ++ starts_from (length l.fn.self.published.items) (or_zero (last_or None l.fn.self.starts.items)) (map message_view l.fn.messages.items);
  births : l.self.births + count_by (λ m. m.opens) (map message_view l.message-iterator.rest.items) ≡
      l.fn.self.births + count_by (λ m. m.opens) (map message_view l.fn.messages.items);
  opened : l.self.opened ≡ l.fn.self.opened;
  room : HasRoom l.self (length l.message-iterator.rest.items);
}
