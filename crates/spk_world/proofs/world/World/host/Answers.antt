use Rattle.spk_world.specs.Seen.{host_at}
use Rattle.spk_world.proofs.Asked.{host-run, some-of}
use Rattle.spk_world.proofs.world.World.host.Goals as goal

pub returns-clause-listed : goal.returns-clause-listed
returns-clause-listed c = λ w done run.
    some-of c.host_there.result _ (host_at c.args.self.now c.args.host) _ c.host_there.ensures (host-run c.any_list.ensures.shows w done c.args.self.now c.args.host run)
