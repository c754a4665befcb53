use Rattle.std.proofs.Common.{rules, refl, subst}
use Rattle.spk_sequence.specs.contracts.sequence.Sequence.{the_view}
use Rattle.spk_sequence.specs.Slots.{IsKeptBy}
use Rattle.spk_sequence.proofs.KeepLemmas.{places_of-kept}
use Rattle.spk_sequence.proofs.sequence.Sequence.restart.Goals as goal

pub returns-clause-kept : goal.returns-clause-kept
returns-clause-kept c = rw (← c.self.view_is)
    (places_of-kept (the_view c.self.inside) c.self.inside.slots c.keep.new.self c.args.number c.args.stamp c.self.invariant.few_places c.self.invariant.one_byte (search rules) refl c.self.invariant.past
    (subst (λ w. IsKeptBy c.self.inside.slots c.keep.new.self c.self.inside.next w c.args.number c.args.stamp) c.get-width.ensures.value c.keep.ensures))
