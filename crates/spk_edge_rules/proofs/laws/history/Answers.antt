use Rattle.spk_store.specs.Law.{as_called}
use Rattle.spk_edge_rules.specs.Run.{calls_of, run_of}
use Rattle.spk_edge_rules.proofs.Later.{history-is, modest-at}
use Rattle.spk_edge_rules.proofs.Told.{kept_lawful}
use Rattle.spk_edge_rules.proofs.laws.history.Goals as goal

pub returns-clause-sent : goal.returns-clause-sent
returns-clause-sent c = history-is

pub returns-clause-fates : goal.returns-clause-fates
returns-clause-fates c = λ s is. (as_called s.capacity (calls_of (run_of s is)) (kept_lawful s is)).fates

pub returns-clause-counted : goal.returns-clause-counted
returns-clause-counted c = λ s is. (as_called s.capacity (calls_of (run_of s is)) (kept_lawful s is)).counted

pub returns-clause-few : goal.returns-clause-few
returns-clause-few c = λ s is p m there. (modest-at s is p m there).few

pub returns-clause-data : goal.returns-clause-data
returns-clause-data c = λ s is p m there. (modest-at s is p m there).data_
