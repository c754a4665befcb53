use Rattle.spk_broker.proofs.Near.{sits-place}
use Rattle.spk_broker.proofs.queries.place_near.Goals as goal

pub returns-then-sits_at : goal.returns-then-sits_at
returns-then-sits_at c = sits-place c.args.conn c.args.sessions.now c.args.near (c.sits_at.ensures c.if-sits_at.true) c.requires
