use Rattle.std.proofs.Common.{◌∙◌, ◌+◌, ◌-◌, ◌++◌, [], ◌∷◌, ap, length, min}
use Rattle.std.specs.List.{range_with_len}
use Rattle.spk_plant_given.specs.declared.handed.Handed.TheVariants as handed
use Rattle.spk_plant_given.proofs.Steps.{follows-message}
use Rattle.spk_plant_given.proofs.book.Book.take_message.Goals as goal

pub returns : goal.returns
returns c = record {
  follows = follows-message c.args.sender.group.now c.args.sender.name.now c.args.sender.place c.args.taken.now c.args.accepted.now c.args.given.now c.args.place c.args.self.now
      (record { given = c.push.new.self; consumed = c.add_run.new.positions; count = c.in_ok-count.count }) c.args.item.now c.requires.there c.requires.message c.requires.follows
      c.in_ok-count.ensures.counted (c.in_ok-count.ensures.frames ∙ ap (λ n. min n (length c.args.taken.now)) c.frames_at-frames.ensures)
      (c.in_ok-push.ensures.items ∙ ap (λ i. c.args.self.now.given.items ++ handed.Message i (c.args.place + 1) ∷ []) c.saturating_sub-position.ensures)
      (c.in_ok-add_run.ensures
      ∙ (ap (λ i. c.args.self.now.consumed.items ++ range_with_len i c.consumed_at.result) c.saturating_sub-position.ensures
      ∙ ap (λ n. c.args.self.now.consumed.items ++ range_with_len (c.in_ok-count.count.numbered - 1) n) c.consumed_at.ensures));
}
