use Rattle.spk_world.specs.Seen.{published_at}
use Rattle.spk_world.proofs.Asked.{published-run, some-of}
use Rattle.spk_world.proofs.world.World.published.Goals as goal

pub returns-clause-listed : goal.returns-clause-listed
returns-clause-listed c = λ w done run.
    some-of c.published_there.result _ (published_at c.args.self.now c.args.node) _ c.published_there.ensures (published-run w done c.args.self.now c.args.node run)
