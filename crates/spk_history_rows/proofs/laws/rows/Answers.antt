use Rattle.spk_history_rows.proofs.History.{each, placed}
use Rattle.spk_history_rows.proofs.laws.rows.Goals as goal

pub returns-clause-each : goal.returns-clause-each
returns-clause-each c = each

pub returns-clause-placed : goal.returns-clause-placed
returns-clause-placed c = placed
