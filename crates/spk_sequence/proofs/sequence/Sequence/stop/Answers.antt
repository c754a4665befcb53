use Rattle.std.proofs.Common.{sym, ◌∙◌, ap, refl, subst}
use Rattle.spk_sequence.specs.contracts.sequence.Sequence.{the_view}
use Rattle.spk_sequence.specs.Slots.{places_of, IsWithin}
use Rattle.spk_sequence.proofs.WindowLemmas.{whole_from, within_empty, places_of-empty, with_held}
use Rattle.spk_sequence.proofs.sequence.Sequence.stop.Goals as goal

pub invariant_of-self : goal.invariant_of-self
invariant_of-self c = subst (λ s. IsWithin s c.self.inside.next c.self.inside.width) (sym c.clear_all.ensures) (within_empty c.self.inside.next c.self.inside.width c.self.invariant.some_places c.self.invariant.few_places c.self.invariant.one_byte)

pub returns-clause-data : goal.returns-clause-data
returns-clause-data c = rw (← c.self.view_is) (with_held (the_view (record c.self.inside { phase = c.args.phase })) _ _ (ap (λ s. places_of s c.self.inside.next c.self.inside.width) c.clear_all.ensures ∙ places_of-empty c.self.inside.next c.self.inside.width))

pub returns-clause-whole : goal.returns-clause-whole
returns-clause-whole c = whole_from _ c.clear_all.new.self refl (invariant_of-self c)
