use Rattle.spk_broker_rules.proofs.Endings.{closed-gone, fresh-number, given-step, gone-stays, open-known, told-once}
use Rattle.spk_broker_rules.proofs.Waiting.{ended-gone, stands}
use Rattle.spk_broker_rules.proofs.laws.knowing.Goals as goal

pub returns-clause-fresh : goal.returns-clause-fresh
returns-clause-fresh c = fresh-number

pub returns-clause-opened : goal.returns-clause-opened
returns-clause-opened c = open-known

pub returns-clause-given : goal.returns-clause-given
returns-clause-given c = given-step

pub returns-clause-stands : goal.returns-clause-stands
returns-clause-stands c = stands

pub returns-clause-closed : goal.returns-clause-closed
returns-clause-closed c = closed-gone

pub returns-clause-ended : goal.returns-clause-ended
returns-clause-ended c = ended-gone

pub returns-clause-once : goal.returns-clause-once
returns-clause-once c = told-once

pub returns-clause-gone : goal.returns-clause-gone
returns-clause-gone c = gone-stays
