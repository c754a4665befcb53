use Rattle.std.proofs.Common.{◌≡◌, ◌∙◌, ap, refl, sym, true}
use Rattle.spk_broker_rules.specs.Data as plain
use Rattle.spk_broker.specs.Restoring.{is_newcomer_fit}
use Rattle.spk_broker.specs.View.{state_was}
use Rattle.spk_broker.proofs.Restores.{newcomer-sound}
use Rattle.spk_broker.proofs.broker.Broker.restore_connection.Goals as goal

pub invariant_of-self-2 : goal.invariant_of-self-2
invariant_of-self-2 c =
    let d = c.self.inside.state in
    let fits : is_newcomer_fit (state_was d) c.args.conn ≡ true =
    ap (λ (b : plain.Broker). is_newcomer_fit b c.args.conn) c.self.view_is ∙ sym c.is_newcomer_fit.ensures ∙ c.if-not-is_newcomer_fit.false in
    let sound = newcomer-sound d c.push.new.self.items _ c.self.invariant.sound c.in_ok-push.ensures.items refl fits in
    record {
      sound = record { settled = sound.0; lawful = sound.1 };
      index = c.self.invariant.index;
      calm = record { sessions = c.self.invariant.calm.sessions; soon = c.self.invariant.calm.soon };
    }
