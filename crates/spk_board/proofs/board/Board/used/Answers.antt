use Rattle.std.proofs.Common.{◌∙◌, ap, refl, arith, length}
use Rattle.std.proofs.lemmas.Option.{slice_get_read}
use Rattle.spk_story.specs.Events as event
use Rattle.spk_board.proofs.Tales.{happens, happens-not}
use Rattle.spk_board.proofs.board.Board.used.Goals as goal

pub returns-then-place-len-clause-stories : goal.returns-then-place-len-clause-stories
returns-then-place-len-clause-stories c ds are =
    let items = c.self.inside.stories.items in
    happens (event.Used c.args.now) ds items c.args.place c.index_mut.result.now c.used.new.self
    (ap (λ b. b.stories) c.self.view_is ∙ are)
    (slice_get_read items (length items) c.args.place c.index_mut.result.now refl (omega (arith, c.len.ensures, c.if-place-len.true)) c.index_mut.ensures.value)
    c.used.ensures

pub returns-else-place-len-clause-stories : goal.returns-else-place-len-clause-stories
returns-else-place-len-clause-stories c ds are =
    happens-not (event.Used c.args.now) ds c.args.self.now.stories c.args.place are
    (omega (arith, c.len.ensures, c.if-place-len.false, ap (λ b. length b.stories) c.self.view_is))
