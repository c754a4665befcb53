use Rattle.std.proofs.Common.{◌≡◌, ◌∙◌, ap, refl, not, is_some, Bool, true, false}
use Rattle.std.specs.List.{list_any}
use Rattle.spk_sequence.specs.Data.{Standing}
use Rattle.spk_sequence.proofs.WindowLemmas.{whole_from, is_any_held-places_of}
use Rattle.spk_sequence.proofs.sequence.Sequence.is_any_held.Goals as goal

not_twice : (b : Bool) → not (not b) ≡ b
not_twice true = refl
not_twice false = refl

pub returns-clause-value : goal.returns-clause-value
returns-clause-value c =
    ap not c.is_empty.ensures ∙ not_twice (list_any is_some c.self.inside.slots)
    ∙ is_any_held-places_of c.self.inside.slots c.self.inside.next c.self.inside.width c.self.invariant
    ∙ ap (λ (s : Standing). list_any is_some s.held) c.self.view_is

pub returns-clause-whole : goal.returns-clause-whole
returns-clause-whole c = rw (← c.self.view_is) (whole_from _ c.self.inside.slots refl c.self.invariant)
