use Rattle.spk_packets.specs.Message.{PubAck}
use Rattle.std.proofs.Common.{◌≡◌, false, sym, subst}
use Rattle.std.specs.Prelude.{◌==◌, IfSome}
use Rattle.spk_broker.proofs.Sendables.{puback-writable}
use Rattle.spk_broker_rules.specs.Plan.{puback}
use Rattle.spk_broker_rules.specs.Step.{acts}
use Rattle.spk_broker.specs.View.{Stands}
use Rattle.spk_broker.proofs.Standing.{say-stands}
use Rattle.spk_broker.proofs.state.State.puback.Goals as goal

pub say-requires : goal.say-requires
say-requires c = puback-writable c.in-Some.id (subst (λ o. IfSome o (λ n. (n == 0) ≡ false)) c.in-Some.is c.requires)

pub returns : goal.returns
returns c t s =
    subst (λ o. Stands c.args.self.now c.say.new.self (acts (puback c.args.conn o) t)) (sym c.in-Some.is)
    (say-stands c.args.self.now c.args.draft.now c.say.new.self t (record { conn = c.args.conn; packet = PubAck c.in-Some.id }) c.in_ok-say.ensures s)
