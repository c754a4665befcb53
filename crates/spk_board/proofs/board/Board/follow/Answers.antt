use Rattle.std.proofs.Common.{◌≡◌, ◌∙◌, ◌-◌, ◌++◌, sym, ap, arith, length, map}
use Rattle.std.proofs.lemmas.List.{length-map, map-append}
use Rattle.spk_board.specs.Data.{BoardData}
use Rattle.spk_board.specs.Deeds.{fresh, story_of, tales}
use Rattle.spk_board.proofs.board.Board.follow.Goals as goal

pub returns-clause-stories : goal.returns-clause-stories
returns-clause-stories c ds are =
    let more : c.saturating_sub-more.result ≡ c.args.count - length (tales ds) =
    omega (arith, c.saturating_sub-more.ensures, c.len.ensures, ap (λ (b : BoardData). length b.stories) c.self.view_is, ap length are, length-map (tales ds) story_of) in
    c.add.ensures
    ∙ ap (λ xs. xs ++ map story_of (fresh c.saturating_sub-more.result c.args.now))
    (c.in_ok-reserve.ensures.items ∙ ap (λ (b : BoardData). b.stories) c.self.view_is ∙ are)
    ∙ ap (λ n. map story_of (tales ds) ++ map story_of (fresh n c.args.now)) more
    ∙ sym (map-append story_of (tales ds) (fresh (c.args.count - length (tales ds)) c.args.now))
