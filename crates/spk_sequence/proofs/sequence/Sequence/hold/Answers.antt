use Rattle.std.proofs.Common.{◌+◌, ◌%◌, sym, refl, subst, Some}
use Rattle.spk_sequence.specs.contracts.sequence.Sequence.{the_view}
use Rattle.spk_sequence.specs.Slots.{IsWithin}
use Rattle.spk_sequence.proofs.WindowLemmas.{whole_from, held_is, within_set}
use Rattle.spk_sequence.proofs.sequence.Sequence.hold.Goals as goal

pub returns-clause-data : goal.returns-clause-data
returns-clause-data c = rw (← c.self.view_is)
    (held_is (the_view c.self.inside) c.self.inside.slots c.put.new.self c.args.place ((c.self.inside.next + c.args.place) % 256 % 128) c.wait_start-since.result c.args.now c.args.stamp
    refl c.self.invariant (rw (← c.self.view_is) at c.requires.within) refl (rw (← c.self.view_is) at c.wait_start-since.ensures) c.put.ensures)

pub returns-clause-whole : goal.returns-clause-whole
returns-clause-whole c = whole_from _ c.put.new.self refl
    (subst (λ s. IsWithin s c.self.inside.next c.self.inside.width) (sym c.put.ensures)
    (within_set c.self.inside.slots c.self.inside.next c.self.inside.width c.args.place ((c.self.inside.next + c.args.place) % 256 % 128) (Some c.args.stamp) c.self.invariant c.requires.ahead (rw (← c.self.view_is) at c.requires.within) refl))
