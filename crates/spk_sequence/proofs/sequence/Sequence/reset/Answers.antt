use Rattle.std.proofs.Common.{sym, ◌∙◌, ap, refl, arith, subst}
use Rattle.spk_sequence.specs.Slots.{places_of, IsWithin}
use Rattle.spk_sequence.specs.Step.{fresh_standing}
use Rattle.spk_sequence.proofs.WindowLemmas.{whole_from, within_empty, places_of-empty, with_held}
use Rattle.spk_sequence.proofs.sequence.Sequence.reset.Goals as goal

pub invariant_of-self : goal.invariant_of-self
invariant_of-self c = subst (λ s. IsWithin s 0 c.self.inside.width) (sym c.clear_all.ensures) (within_empty 0 c.self.inside.width c.self.invariant.some_places c.self.invariant.few_places (omega arith))

pub returns-clause-data : goal.returns-clause-data
returns-clause-data c = rw (← c.self.view_is) (with_held (fresh_standing c.self.inside.wait c.self.inside.width) _ _ (ap (λ s. places_of s 0 c.self.inside.width) c.clear_all.ensures ∙ places_of-empty 0 c.self.inside.width))

pub returns-clause-whole : goal.returns-clause-whole
returns-clause-whole c = whole_from _ c.clear_all.new.self refl (invariant_of-self c)
