use Rattle.std.proofs.Common.{◌≡◌, ◌+◌, ◌%◌, ◌<◌, sym, ◌∙◌, ap, arith, get_or, None, is_some}
use Rattle.spk_sequence.specs.Data.{Standing, held_at}
use Rattle.spk_sequence.proofs.WindowLemmas.{held_at-places_of}
use Rattle.spk_sequence.proofs.sequence.Sequence.is_held_at.Goals as goal

pub returns : goal.returns
returns c =
    let inside : c.args.place < c.self.inside.width = rw (← c.self.view_is) at c.requires in
    let at : (c.self.inside.next + c.args.place) % 256 % 128 ≡ (c.self.inside.next + c.args.place) % 128 = omega arith in
    c.is_some.ensures ∙ ap is_some (c.get.ensures.entry ∙ ap (λ k. get_or c.self.inside.slots k None) at ∙ sym (held_at-places_of c.self.inside.slots c.self.inside.next c.self.inside.width c.args.place inside)
    ∙ ap (λ (s : Standing). held_at s.held c.args.place) c.self.view_is)
