use Rattle.std.proofs.Common.{◌≡◌, ◌∙◌, Bool, if◌then◌else◌, sym, ap, refl, arith, length, Option, Some}
use Rattle.std.specs.List.{list_any}
use Rattle.std.specs.Prelude.{slice_get}
use Rattle.std.proofs.lemmas.Option.{slice_get_past, slice_get_read}
use Rattle.spk_story.specs.Data.{Story}
use Rattle.spk_story.specs.Events as event
use Rattle.spk_board.specs.declared.happened.What.TheVariants.{Asked}
use Rattle.spk_board.specs.Data.{BoardData}
use Rattle.spk_board.specs.Happening.{is_asking, noted, request_noted}
use Rattle.spk_board.proofs.Tales.{happens-not}
use Rattle.spk_board.proofs.board.Board.asked.Goals as goal
use Rattle.spk_board.proofs.board.Board.asked.Goals.{then-not-is_asking+in_ok-note, else-not-is_asking}

pub returns-then-place-len-clause-stories : goal.returns-then-place-len-clause-stories
returns-then-place-len-clause-stories c ds are =
    happens-not (event.Asked c.args.now) ds c.args.self.now.stories c.args.place are
    (omega (arith, c.len.ensures, c.if-place-len.true, ap (λ b. length b.stories) c.self.view_is))

pub returns-then-place-len-clause-events : goal.returns-then-place-len-clause-events
returns-then-place-len-clause-events c =
    ap (λ (o : Option Story). record (request_noted c.args.place c.args.now o c.args.self.now) { stories = c.args.self.now.stories })
    (sym (slice_get_past c.args.self.now.stories c.args.place
    (omega (arith, c.len.ensures, c.if-place-len.true, ap (λ b. length b.stories) c.self.view_is))))

pub returns-clause-events : goal.returns-clause-events
returns-clause-events c =
    let stories = c.args.self.now.stories in
    let at : slice_get stories c.args.place ≡ Some c.index.result.now =
    ap (λ (b : BoardData). slice_get b.stories c.args.place) (sym c.self.view_is)
    ∙ slice_get_read c.self.inside.stories.items (length c.self.inside.stories.items) c.args.place c.index.result.now refl
    (omega (arith, c.len.ensures, c.if-place-len.false)) c.index.ensures in
    let told : list_any (is_asking c.args.place c.index.result.now.since) c.args.self.now.events ≡ c.is_asking.result =
    ap (λ k. list_any (is_asking c.args.place k) c.args.self.now.events) (sym c.since-since.ensures) ∙ sym c.is_asking.ensures in
    let said = λ (t : Bool). if t then c.args.self.now else noted (Some c.args.place) Asked c.args.now c.args.self.now in
    let mid : c.if-not-is_asking.self ≡ request_noted c.args.place c.args.now (Some c.index.result.now) c.args.self.now =
    elim c.if-not-is_asking.branch [ then-not-is_asking+in_ok-note w ↦ w.self-is ∙ w.in_ok-note.ensures.ok ∙ sym (ap said (told ∙ w.if-not-is_asking.true)) | else-not-is_asking w ↦ w.self-is ∙ sym (ap said (told ∙ w.if-not-is_asking.false)) ] in
    c.ask.ensures.same
    ∙ ap (λ (b : BoardData). record b { stories = c.ask.new.self.stories })
    (mid ∙ ap (λ (o : Option Story). request_noted c.args.place c.args.now o c.args.self.now) (sym at))
