use Rattle.std.proofs.Common.{◌<◌, ◌∙◌, [], ◌∷◌, sym, refl, length, arith}
use Rattle.spk_broker.specs.View.{newcomer_now, newcomer_was}
use Rattle.spk_broker.specs.declared.newcomer.Newcomer.{Newcomer}
use Rattle.spk_broker.proofs.Flats.{single-flat}
use Rattle.spk_broker.proofs.Walks.{walk-step, walk-end, same-step}
use Rattle.spk_broker.proofs.newcomer.undo.Goals as goal

pub loop-newcomer-preserved : goal.loop-newcomer-preserved
loop-newcomer-preserved c =
    let below : c.loop-newcomer.newcomer-index < length c.loop-newcomer.newcomers = omega arith in
    record {
      was = same-step newcomer_was c.loop-newcomer.newcomers c.loop-newcomer.newcomer-index _ _ c.undo.new.self refl c.undo.ensures.was ∙ c.loop-newcomer.invariant.was;
      now = walk-step newcomer_now (λ (g : Newcomer). newcomer_was g ∷ []) c.loop-newcomer.newcomers c.loop-newcomer.newcomer-index _ _ c.undo.new.self below refl c.undo.ensures.now ∙ c.loop-newcomer.invariant.now;
    }

pub returns-clause-now : goal.returns-clause-now
returns-clause-now c =
    sym (walk-end newcomer_now (λ (g : Newcomer). newcomer_was g ∷ []) c.loop-newcomer.newcomers c.loop-newcomer.newcomer-index (omega arith)) ∙ c.loop-newcomer.invariant.now ∙ single-flat newcomer_was c.args.newcomers.now
