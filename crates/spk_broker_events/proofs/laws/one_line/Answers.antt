use Rattle.spk_broker_events.proofs.Lines.{apart, one-line}
use Rattle.spk_broker_events.proofs.laws.one_line.Goals as goal

pub returns-clause-alone : goal.returns-clause-alone
returns-clause-alone c = one-line c.prefix_free.ensures

pub returns-clause-apart : goal.returns-clause-apart
returns-clause-apart c = apart
