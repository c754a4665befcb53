use Rattle.std.proofs.Common.{◌≡◌, ◌∙◌, sym, ap, refl, arith, length, Option, Some}
use Rattle.std.specs.Prelude.{slice_get}
use Rattle.std.proofs.lemmas.Option.{slice_get_past, slice_get_read}
use Rattle.spk_story.specs.Data.{Story}
use Rattle.spk_story.specs.Events as event
use Rattle.spk_board.specs.Data.{BoardData}
use Rattle.spk_board.specs.Happening.{birth_noted, noted}
use Rattle.spk_board.proofs.Tales.{happens-not}
use Rattle.spk_board.proofs.board.Board.born.Goals as goal

pub returns-then-place-len-clause-stories : goal.returns-then-place-len-clause-stories
returns-then-place-len-clause-stories c ds are =
    happens-not (event.Born c.args.now) ds c.args.self.now.stories c.args.place are
    (omega (arith, c.len.ensures, c.if-place-len.true, ap (λ b. length b.stories) c.self.view_is))

pub returns-then-place-len-clause-events : goal.returns-then-place-len-clause-events
returns-then-place-len-clause-events c =
    ap (λ (o : Option Story). record (birth_noted c.args.place c.args.now o c.args.self.now) { stories = c.args.self.now.stories })
    (sym (slice_get_past c.args.self.now.stories c.args.place
    (omega (arith, c.len.ensures, c.if-place-len.true, ap (λ b. length b.stories) c.self.view_is))))

pub returns-clause-events : goal.returns-clause-events
returns-clause-events c =
    let stories = c.args.self.now.stories in
    let at : slice_get stories c.args.place ≡ Some c.index.result.now =
    ap (λ (b : BoardData). slice_get b.stories c.args.place) (sym c.self.view_is)
    ∙ slice_get_read c.self.inside.stories.items (length c.self.inside.stories.items) c.args.place c.index.result.now refl
    (omega (arith, c.len.ensures, c.if-place-len.false)) c.index.ensures in
    c.bear.ensures.same
    ∙ ap (λ (b : BoardData). record b { stories = c.bear.new.self.stories })
    (c.in_ok-note.ensures.ok
    ∙ ap (λ w. noted (Some c.args.place) w c.args.now c.args.self.now) c.birth_of-what.ensures
    ∙ ap (λ (o : Option Story). birth_noted c.args.place c.args.now o c.args.self.now) (sym at))
