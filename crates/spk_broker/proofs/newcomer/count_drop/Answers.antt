use Rattle.std.proofs.Common.{◌<◌, ◌∙◌, sym, refl, length, map, arith}
use Rattle.spk_broker_rules.specs.Step.{newcomer_dropped}
use Rattle.spk_broker.specs.View.{newcomer_now, newcomer_was}
use Rattle.spk_broker.specs.declared.newcomer.Newcomer.{Newcomer}
use Rattle.spk_broker.proofs.Flats.{map-flat}
use Rattle.spk_broker.proofs.Walks.{walk-step, walk-end, same-step}
use Rattle.spk_broker.proofs.newcomer.count_drop.Goals as goal

pub loop-newcomer-preserved : goal.loop-newcomer-preserved
loop-newcomer-preserved c =
    let below : c.loop-newcomer.newcomer-index < length c.loop-newcomer.newcomers = omega arith in
    record {
      was = same-step newcomer_was c.loop-newcomer.newcomers c.loop-newcomer.newcomer-index _ _ c.count_drop.new.self refl c.count_drop.ensures.was ∙ c.loop-newcomer.invariant.was;
      now = walk-step newcomer_now (λ (g : Newcomer). map (newcomer_dropped c.args.conn) (newcomer_now g)) c.loop-newcomer.newcomers c.loop-newcomer.newcomer-index _ _ c.count_drop.new.self below refl c.count_drop.ensures.now ∙ c.loop-newcomer.invariant.now;
    }

pub returns-clause-now : goal.returns-clause-now
returns-clause-now c =
    sym (walk-end newcomer_now (λ (g : Newcomer). map (newcomer_dropped c.args.conn) (newcomer_now g)) c.loop-newcomer.newcomers c.loop-newcomer.newcomer-index (omega arith)) ∙ c.loop-newcomer.invariant.now ∙ map-flat (newcomer_dropped c.args.conn) newcomer_now c.args.newcomers.now
