use Rattle.spk_edge.proofs.Changed.{owner-there}
use Rattle.spk_edge.proofs.node.EdgeNode.turn_message.Goals as goal

pub device_birth-requires : goal.device_birth-requires
device_birth-requires c = owner-there c.args.self.now.standing.asked.book c.args.name.now c.args.number c.requires
