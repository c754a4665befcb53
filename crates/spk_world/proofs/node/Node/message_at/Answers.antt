use Rattle.spk_world.proofs.Readable.{found_in}
use Rattle.spk_world.proofs.node.Node.message_at.Goals as goal

pub returns-clause-readable : goal.returns-clause-readable
returns-clause-readable c =
    found_in c.self.inside.log.published.items c.deref.result.now c.args.position c.get.result c.deref.ensures.value (c.get.ensures.lookup).3 c.self.invariant
