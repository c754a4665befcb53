-- What a call of the broker has answered.
use Rattle.std.specs.Prelude.{◌≡◌, ℕ, true, false, map, Option, Some, None}
use Rattle.spk_broker.specs.Sent.{outgoing, sent_view}
use Rattle.spk_broker.specs.declared.out.Out.{Out}
use Rattle.spk_broker_notes.specs.Noted.{Noted, after}
use Rattle.spk_broker_rules.specs.Plan.{Event}
use Rattle.spk_broker_rules.specs.Step.{knows, step}

-- the broker's data and what is noted, the sends and the closes of an event
pub record Answers (old new : Noted) (e : Event) (out : Out) : Type 0 where
  pub done : new ≡ after e old
  pub sends : map sent_view out.sends.items ≡ map outgoing (step old.broker e).sends
  pub closes : out.closes.items ≡ (step old.broker e).closes

-- the same of a connection: it is answered exactly where the broker knows it, else nothing happens
abbrev pub AnswersOn : ℕ → Noted → Noted → Event → Option Out → Type 0
AnswersOn conn old new e None = (knows old.broker conn ≡ false) × (new ≡ old)
AnswersOn conn old new e (Some out) = (knows old.broker conn ≡ true) × Answers old new e out
