use Rattle.spk_history_rows.proofs.History.{messages, whole}
use Rattle.spk_history_rows.proofs.laws.whole.Goals as goal

pub returns-clause-each : goal.returns-clause-each
returns-clause-each c = whole c.parts.ensures.whole

pub returns-clause-messages : goal.returns-clause-messages
returns-clause-messages c = messages c.parts.ensures.whole
