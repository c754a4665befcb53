use Rattle.std.proofs.Common.{◌∙◌, ◌+◌, ◌++◌, [], ◌∷◌, sym, ap, append_assoc}
use Rattle.std.specs.List.{range_with_len}
use Rattle.spk_plant_given.proofs.Steps.{range-more}
use Rattle.spk_plant_given.proofs.book.add_run.Goals as goal

pub loop-more-preserved : goal.loop-more-preserved
loop-more-preserved c =
    c.in_ok-push.ensures.items
    ∙ (ap (λ l. l ++ (c.args.first + c.loop-more.more) ∷ []) c.loop-more.invariant
    ∙ (append_assoc c.args.positions.now.items (range_with_len c.args.first c.loop-more.more) ((c.args.first + c.loop-more.more) ∷ [])
    ∙ ap (λ l. c.args.positions.now.items ++ l) (sym (range-more c.args.first c.loop-more.more))))
