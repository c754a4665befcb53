use Rattle.std.proofs.Common.{◌≡◌, ◌∙◌, sym, ap, map, length, ◌+◌, ◌++◌, List, None, arith}
use Rattle.std.specs.List.{count_by, last_or}
use Rattle.spk_edge.specs.View.{message_view}
use Rattle.spk_edge.specs.declared.message.Published.{Published}
use Rattle.spk_world_run.specs.Step.{or_zero, posts_from, starts_from}
use Rattle.spk_world.specs.View.{published_view}
use Rattle.spk_world.proofs.Logs.{count-step, posts-step, starts-step}
use Rattle.spk_world.proofs.log.Log.add.Goals as goal

pub loop-message-preserved : goal.loop-message-preserved
loop-message-preserved c =
    let old = c.loop-message.self in
    let new = c.add_one.new.self in
    let rest = c.next.new.self.rest.items in
    let split = c.in-Some.ensures.steps.0 in
    let long = ap length split in
    let old_len = old.published.ok.0 in
    let new_len = new.published.ok.0 in
    let one : length new.published.items ≡ length old.published.items + 1 = omega (arith, old_len, new_len, c.add_one.ensures.published_len) in
    record {
      published = posts-step c.args.session old.births new.births (message_view c.in-Some.message) (map message_view rest)
          (map published_view old.published.items) (map published_view new.published.items) c.add_one.ensures.published c.add_one.ensures.births
          ∙ ap (λ (l : List Published). map published_view old.published.items ++ posts_from c.args.session old.births (map message_view l)) (sym split)
          ∙ c.loop-message.invariant.published;
      starts = starts-step (length old.published.items) (length new.published.items) (message_view c.in-Some.message) (map message_view rest)
          old.starts.items new.starts.items c.add_one.ensures.starts one
          ∙ ap (λ (l : List Published). old.starts.items ++ starts_from (length old.published.items) (or_zero (last_or None old.starts.items)) (map message_view l)) (sym split)
          ∙ c.loop-message.invariant.starts;
      births = count-step old.births new.births (message_view c.in-Some.message) (map message_view rest) c.add_one.ensures.births
          ∙ ap (λ (l : List Published). old.births + count_by (λ m. m.opens) (map message_view l)) (sym split)
          ∙ c.loop-message.invariant.births;
      opened = c.add_one.ensures.opened ∙ c.loop-message.invariant.opened;
      room = record {
        published = omega (arith, long, c.loop-message.invariant.room.published, c.add_one.ensures.published_len, c.add_one.ensures.published_room);
        starts = omega (arith, long, c.loop-message.invariant.room.starts, c.add_one.ensures.starts_len, c.add_one.ensures.starts_room);
        opened = c.add_one.ensures.room.opened;
      };
    }
