use Rattle.std.proofs.Common.{◌∙◌, sym}
use Rattle.spk_plant_given.proofs.Steps.{follows-other}
use Rattle.spk_plant_given.proofs.book.Book.take_in.Goals as goal

pub returns-in-Nothing : goal.returns-in-Nothing
returns-in-Nothing c = record {
  follows = follows-other c.args.sender.group.now c.args.sender.name.now c.args.sender.place c.args.taken.now c.args.accepted.now c.args.given.now c.args.place c.args.self.now c.args.item.now
      c.requires.there (sym c.part_of.ensures ∙ c.in-Nothing.is) c.requires.follows;
}
