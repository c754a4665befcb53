use Rattle.std.proofs.Common.{◌∷◌}
use Rattle.spk_sequence.specs.HostRecord.{MessageComes}
use Rattle.spk_plant_relay.proofs.Window.{lawful, near-birth, near-deaths}
use Rattle.spk_plant_relay.proofs.laws.headline.Goals as goal

pub returns-clause-prefixes : goal.returns-clause-prefixes
returns-clause-prefixes c = λ s inputs r. c.positions.ensures.fronts s inputs (lawful s inputs r)

pub returns-clause-after_gap : goal.returns-clause-after_gap
returns-clause-after_gap c = λ s inputs input r. c.positions.ensures.after_gap s inputs input (lawful s (input ∷ inputs) r)

pub returns-clause-after_death : goal.returns-clause-after_death
returns-clause-after_death c = λ s inputs input r. c.positions.ensures.after_death s inputs input r.node r.some_places r.few_places r.published

pub returns-clause-births : goal.returns-clause-births
returns-clause-births c = λ s inputs p now r.
    c.positions.ensures.births s inputs p now (lawful s (MessageComes p now ∷ inputs) r) (near-deaths s (MessageComes p now ∷ inputs) r)
    (near-birth s inputs (MessageComes p now) r)

pub returns-clause-cause : goal.returns-clause-cause
returns-clause-cause c = λ s inputs r. c.positions.ensures.cause s inputs (lawful s inputs r)

pub returns-clause-steps : goal.returns-clause-steps
returns-clause-steps c = λ s inputs input r.
    c.positions.ensures.same_steps s inputs input (lawful s (input ∷ inputs) r) (near-deaths s (input ∷ inputs) r) (near-birth s inputs input r)
