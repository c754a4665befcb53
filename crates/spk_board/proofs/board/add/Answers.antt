use Rattle.std.proofs.Common.{◌∙◌, sym, ap, arith, ◌++◌, [], ◌∷◌, map}
use Rattle.std.proofs.lemmas.List.{append_assoc}
use Rattle.spk_story.specs.Told.{told}
use Rattle.spk_board.specs.Deeds.{fresh, story_of}
use Rattle.spk_board.proofs.Tales.{fresh-more}
use Rattle.spk_board.proofs.board.add.Goals as goal

pub loop-added-preserved : goal.loop-added-preserved
loop-added-preserved c = (
  c.push_reserved.ensures.items
      ∙ ap (λ xs. xs ++ c.new.result ∷ []) c.loop-added.invariant.0
      ∙ ap (λ s. (c.args.stories.now.items ++ map story_of (fresh c.loop-added._added c.args.now)) ++ s ∷ []) c.new.ensures
      ∙ append_assoc c.args.stories.now.items (map story_of (fresh c.loop-added._added c.args.now)) (told c.args.now [] ∷ [])
      ∙ ap (λ xs. c.args.stories.now.items ++ xs) (sym (fresh-more c.loop-added._added c.args.now)),
  omega (arith, c.loop-added.invariant.1, c.push_reserved.ensures.len, c.push_reserved.ensures.capacity, c.loop-added-test.true),
)
