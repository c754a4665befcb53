use Rattle.std.proofs.Common.{◌∙◌, ap, slice_get}
use Rattle.spk_broker_rules.specs.Data as plain
use Rattle.spk_broker.proofs.Restores.{session-past, session-there}
use Rattle.spk_broker.proofs.broker.Broker.session.Goals as goal

pub invariant_of-result : goal.invariant_of-result
invariant_of-result c =
    (session-there c.self.inside.state.sessions.items c.deref.result.now c.args.at c.in-Some.session.now c.deref.ensures.value (ap (λ (b : plain.Broker). b.sessions) c.self.invariant.sound.settled)
    c.in-Some.ensures.lookup.3.0 c.in-Some.ensures.lookup.1).0

pub returns-in-Some : goal.returns-in-Some
returns-in-Some c =
    (session-there c.self.inside.state.sessions.items c.deref.result.now c.args.at c.in-Some.session.now c.deref.ensures.value (ap (λ (b : plain.Broker). b.sessions) c.self.invariant.sound.settled)
    c.in-Some.ensures.lookup.3.0 c.in-Some.ensures.lookup.1).1
    ∙ ap (λ (b : plain.Broker). slice_get b.sessions c.args.at) c.self.view_is

pub returns-in-None : goal.returns-in-None
returns-in-None c =
    session-past c.self.inside.state.sessions.items c.deref.result.now c.args.at c.deref.ensures.value c.in-None.ensures.lookup.3
    ∙ ap (λ (b : plain.Broker). slice_get b.sessions c.args.at) c.self.view_is
