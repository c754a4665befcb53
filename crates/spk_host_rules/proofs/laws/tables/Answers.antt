use Rattle.spk_host_rules.proofs.Tables.{table-is}
use Rattle.spk_host_rules.proofs.laws.tables.Goals as goal

pub returns : goal.returns
returns c = table-is
