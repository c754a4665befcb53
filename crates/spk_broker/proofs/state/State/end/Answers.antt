use Rattle.std.proofs.Common.{subst, sym}
use Rattle.spk_broker_rules.specs.Data as plain
use Rattle.spk_broker_rules.specs.Step.{session_by}
use Rattle.spk_broker.specs.Filing.{IsHeld}
use Rattle.spk_broker.specs.View.{state_was}
use Rattle.spk_broker.proofs.Follows.{acked-held, entered-held}
use Rattle.std.proofs.Common.{refl}
use Rattle.spk_broker.proofs.state.State.end.Goals as goal

pub returns-in-Enters-clause-held : goal.returns-in-Enters-clause-held
returns-in-Enters-clause-held c i n h =
    subst (λ (b : plain.Broker). IsHeld i n b.sessions) (sym c.enter.ensures.done) (entered-held c.in-Enters.entry (state_was c.args.self.now) i n c.requires.lawful h)

pub returns-in-Joins-clause-held : goal.returns-in-Joins-clause-held
returns-in-Joins-clause-held c i n h =
    subst (λ (b : plain.Broker). IsHeld i n b.sessions) (sym c.enter-in-Joins.ensures.done) (entered-held c.in-Joins.entry (state_was c.args.self.now) i n c.requires.lawful h)

pub returns-clause-held : goal.returns-clause-held
returns-clause-held c i n h =
    subst (λ (b : plain.Broker). IsHeld i n b.sessions) (sym c.ack.ensures.done)
    (acked-held (session_by c.in-Acked.conn (state_was c.args.self.now).sessions) c.in-Acked.conn c.in-Acked.id (state_was c.args.self.now) i n refl c.requires.lawful h)
