use Rattle.std.proofs.Common.{◌∙◌, ap}
use Rattle.spk_broker_rules.specs.Data as plain
use Rattle.spk_broker.specs.Restoring.{last_key}
use Rattle.spk_broker.proofs.Restores.{last-is}
use Rattle.spk_broker.proofs.broker.Broker.last_key.Goals as goal

pub returns-in-Some : goal.returns-in-Some
returns-in-Some c =
    c.key.ensures.was ∙ last-is c.self.inside.state.sessions.items c.deref.result.now c.in-Some.session.now c.deref.ensures.value c.in-Some.ensures.value
    ∙ ap (λ (b : plain.Broker). last_key 0 b.sessions) c.self.view_is
