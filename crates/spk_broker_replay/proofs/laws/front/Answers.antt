use Rattle.spk_broker_replay.proofs.Ends.{front, synced}
use Rattle.spk_broker_replay.proofs.laws.front.Goals as goal

pub returns-clause-any : goal.returns-clause-any
returns-clause-any c = front c.lawful.ensures

pub returns-clause-synced : goal.returns-clause-synced
returns-clause-synced c = synced c.lawful.ensures
