-- What a call of the broker has answered.
use Rattle.std.specs.Prelude.{◌≡◌, map}
use Rattle.spk_broker.specs.Sent.{outgoing, sent_view}
use Rattle.spk_broker.specs.declared.out.Out.{Out}
use Rattle.spk_broker_rules.specs.Data.{Broker}
use Rattle.spk_broker_rules.specs.Plan.{Event}
use Rattle.spk_broker_rules.specs.Step.{step}

-- the broker's data, the sends and the closes of an event
pub record Answers (old new : Broker) (e : Event) (out : Out) : Type 0 where
  pub done : new ≡ (step old e).broker
  pub sends : map sent_view out.sends.items ≡ map outgoing (step old e).sends
  pub closes : out.closes.items ≡ (step old e).closes
