use Rattle.spk_broker_replay.proofs.Ends.{all, begins, first, next}
use Rattle.spk_broker_replay.proofs.laws.followed.Goals as goal

pub returns-clause-first : goal.returns-clause-first
returns-clause-first c = first

pub returns-clause-restored : goal.returns-clause-restored
returns-clause-restored c = begins

pub returns-clause-next : goal.returns-clause-next
returns-clause-next c = next

pub returns-clause-all : goal.returns-clause-all
returns-clause-all c = all c.lawful.ensures
