use Rattle.std.proofs.Common.{refl, inl, inr, sym, ◌∙◌}
use Rattle.spk_plant_broker.proofs.Hubs.{end_kept, end_over}
use Rattle.spk_plant_broker.proofs.Rings.{rings_noted, rings_same}
use Rattle.spk_plant_broker.proofs.hub.Hub.end.Goals as goal

pub returns-then-self-clause-taken : goal.returns-then-self-clause-taken
returns-then-self-clause-taken c =
    end_kept c.args.self.now c.note.new.self _ c.args.sender c.in_ok-note.field-0 c.nothing.result c.in_ok-note.ensures
    (record { desk = refl; edges = refl; untold = refl; taken = refl; refusals = refl; accepted = refl; sized = c.note_end.ensures.sized }) refl c.note_end.ensures.fits
    (inl c.if-self.true) c.nothing.ensures

pub returns-then-not-have_ended-clause-taken : goal.returns-then-not-have_ended-clause-taken
returns-then-not-have_ended-clause-taken c =
    end_kept c.args.self.now c.note.new.self _ c.args.sender c.in_ok-note.field-0 c.nothing-then-not-have_ended.result c.in_ok-note.ensures
    (record { desk = refl; edges = refl; untold = refl; taken = refl; refusals = refl; accepted = refl; sized = c.note_end.ensures.sized }) refl c.note_end.ensures.fits
    (inr (λ firsts dropped got taken fits. sym (c.have_ended.ensures firsts dropped got taken fits) ∙ c.if-not-have_ended.true)) c.nothing-then-not-have_ended.ensures

pub returns-clause-taken : goal.returns-clause-taken
returns-clause-taken c =
    end_over c.args.self.now c.note.new.self _ c.note_end.new.lines.items c.args.sender c.in_ok-note.field-0 c.nothing-2.result c.in_ok-note.ensures
    (record { desk = refl; edges = refl; untold = refl; taken = refl; refusals = refl; accepted = refl; sized = c.finish_all.ensures.sized ∙ c.note_end.ensures.sized }) refl c.note_end.ensures.fits
    (λ firsts dropped got taken fits. sym (c.have_ended.ensures firsts dropped got taken fits) ∙ c.if-not-have_ended.false) c.finish_all.ensures.fits c.nothing-2.ensures

pub returns-then-self-clause-rings : goal.returns-then-self-clause-rings
returns-then-self-clause-rings c = rings_same c.note.new.self _ refl c.note_end.ensures.sized (rings_noted _ c.in_ok-note.field-0 c.args.self.now c.note.new.self c.in_ok-note.ensures c.requires.rings)

pub returns-then-not-have_ended-clause-rings : goal.returns-then-not-have_ended-clause-rings
returns-then-not-have_ended-clause-rings c = rings_same c.note.new.self _ refl c.note_end.ensures.sized (rings_noted _ c.in_ok-note.field-0 c.args.self.now c.note.new.self c.in_ok-note.ensures c.requires.rings)

pub returns-clause-rings : goal.returns-clause-rings
returns-clause-rings c = rings_same c.note.new.self _ refl (c.finish_all.ensures.sized ∙ c.note_end.ensures.sized) (rings_noted _ c.in_ok-note.field-0 c.args.self.now c.note.new.self c.in_ok-note.ensures c.requires.rings)
