use Rattle.std.proofs.Common.{sym, ◌∙◌, ap, refl, arith, subst}
use Rattle.spk_sequence.specs.Slots.{places_of, IsWithin}
use Rattle.spk_sequence.specs.Step.{fresh_standing}
use Rattle.spk_sequence.proofs.WindowLemmas.{whole_from, within_empty, places_of-empty, with_held}
use Rattle.spk_sequence.proofs.sequence.Sequence.new.Goals as goal

pub invariant_of-result : goal.invariant_of-result
invariant_of-result c = subst (λ s. IsWithin s 0 c.args.width) (sym c.new.ensures) (within_empty 0 c.args.width (omega arith) (omega arith) (omega arith))

pub returns-clause-fresh : goal.returns-clause-fresh
returns-clause-fresh c = with_held (fresh_standing c.args.wait c.args.width) _ _ (ap (λ s. places_of s 0 c.args.width) c.new.ensures ∙ places_of-empty 0 c.args.width)

pub returns-clause-whole : goal.returns-clause-whole
returns-clause-whole c = whole_from _ c.new.result refl (invariant_of-result c)
