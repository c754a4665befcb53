use Rattle.spk_broker.proofs.Entries.{session-size, session-turned}
use Rattle.spk_broker.proofs.index_update.turn.Goals as goal

pub returns-clause-turned : goal.returns-clause-turned
returns-clause-turned c e =
    session-turned c.args.session.now c.key-key.result c.grants_before.result.now c.standing-new.result.now c.args.tree.now c.add_few.new.tree c.args.size.now
    (record { index = c.drop_gone-met.new.tree; size = c.drop_gone-met.new.size; met = c.drop_gone-met.result })
    c.key-key.ensures.was c.grants_before.ensures c.standing-new.ensures c.drop_gone-met.ensures.walked (c.add_few.ensures.filed e)

pub returns-clause-size : goal.returns-clause-size
returns-clause-size c e =
    session-size c.args.session.now c.key-key.result c.grants_before.result.now c.standing-new.result.now c.args.tree.now c.args.size.now c.add_few.new.size
    (record { index = c.drop_gone-met.new.tree; size = c.drop_gone-met.new.size; met = c.drop_gone-met.result })
    c.grants_before.ensures c.standing-new.ensures c.drop_gone-met.ensures.walked (c.add_few.ensures.size e)
