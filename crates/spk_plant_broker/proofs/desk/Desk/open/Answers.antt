use Rattle.spk_plant_broker.proofs.Rings.{below_push, below_same, known_opened}
use Rattle.spk_plant_broker.proofs.desk.Desk.open.Goals as goal

pub returns-clause-known : goal.returns-clause-known
returns-clause-known c = known_opened _ c.open.new.self c.args.now c.in-Ok.conn c.in-Ok.ensures.done c.in-Ok.ensures.number

pub returns-clause-openers : goal.returns-clause-openers
returns-clause-openers c n small below =
    below_push n c.reserve.new.self.items c.push_reserved.new.self.items c.args.client c.push_reserved.ensures.items small
    (below_same n c.args.self.now.openers.items c.reserve.new.self.items c.reserve.ensures.items below)
