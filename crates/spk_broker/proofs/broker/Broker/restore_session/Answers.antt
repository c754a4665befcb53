use Rattle.std.proofs.Common.{◌≡◌, ◌∙◌, ◌∷◌, ◌++◌, [], ap, arith, map, subst, sym, true}
use Rattle.spk_broker_rules.specs.Data as plain
use Rattle.spk_broker.specs.Filing.{IsHeld}
use Rattle.spk_broker.specs.Restoring.{is_session_fit}
use Rattle.spk_broker.specs.View.{state_was, session_was}
use Rattle.spk_broker.proofs.Restores.{calm-zero, session-sound}
use Rattle.spk_broker.proofs.broker.Broker.restore_session.Goals as goal

pub invariant_of-self-2 : goal.invariant_of-self-2
invariant_of-self-2 c =
    let d = c.self.inside.state in
    let fits : is_session_fit (state_was d) c.args.session ≡ true =
    ap (λ (b : plain.Broker). is_session_fit b c.args.session) c.self.view_is ∙ sym c.is_session_fit.ensures ∙ c.if-not-is_session_fit.false in
    let sound = session-sound d c.push.new.self.items c.args.session c.self.invariant.sound (c.in_ok-push.ensures.items ∙ ap (λ x. d.sessions.items ++ x ∷ []) c.into_session.ensures) fits in
    record {
      sound = record { settled = sound.0; lawful = sound.1 };
      index = subst (λ t. IsHeld t c.new.result.size (map session_was c.push.new.self.items)) (sym c.new.ensures) tt;
      calm = record { sessions = calm-zero (map session_was c.push.new.self.items); soon = omega arith };
    }
