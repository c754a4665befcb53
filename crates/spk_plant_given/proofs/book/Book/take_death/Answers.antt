use Rattle.std.proofs.Common.{◌∙◌, ◌+◌, ◌++◌, [], ◌∷◌, ap, refl}
use Rattle.spk_plant_given.specs.declared.handed.Handed.TheVariants as handed
use Rattle.spk_plant_given.proofs.Steps.{follows-death}
use Rattle.spk_plant_given.proofs.book.Book.take_death.Goals as goal

pub returns : goal.returns
returns c = record {
  follows = follows-death c.args.sender.group.now c.args.sender.name.now c.args.sender.place c.args.taken.now c.args.accepted.now c.args.given.now c.args.place c.args.bd c.args.self.now
      (record { given = c.push.new.self; consumed = c.args.self.now.consumed; count = c.args.self.now.count }) c.args.item.now c.requires.there c.requires.death c.requires.follows
      (c.in_ok-push.ensures.items ∙ ap (λ i. c.args.self.now.given.items ++ handed.Death i (c.args.place + 1) ∷ []) c.from.ensures) refl refl;
}
