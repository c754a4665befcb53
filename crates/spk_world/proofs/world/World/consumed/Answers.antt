use Rattle.spk_world.specs.Seen.{consumed_at}
use Rattle.spk_world.proofs.Asked.{consumed-run, prefixes-run, some-of}
use Rattle.spk_world.proofs.world.World.consumed.Goals as goal

pub returns-clause-unaltered : goal.returns-clause-unaltered
returns-clause-unaltered c = λ w done run.
    some-of c.consumed_there.result _ (consumed_at c.args.self.now c.args.host c.args.node) _ c.consumed_there.ensures (consumed-run w done c.args.self.now c.args.host c.args.node run)

pub returns-clause-prefixes : goal.returns-clause-prefixes
returns-clause-prefixes c = λ w done run.
    some-of c.consumed_there.result _ (consumed_at c.args.self.now c.args.host c.args.node) _ c.consumed_there.ensures
    (prefixes-run c.headline.ensures.prefixes w done c.args.self.now c.args.host c.args.node run)

pub returns-clause-cause : goal.returns-clause-cause
returns-clause-cause c = λ w done run. c.headline.ensures.cause w done c.args.host c.args.node run.world.widths run.all
