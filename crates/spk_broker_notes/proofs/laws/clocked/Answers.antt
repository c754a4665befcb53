use Rattle.spk_broker_notes.proofs.Clock.{stepped}
use Rattle.spk_broker_notes.proofs.laws.clocked.Goals as goal

pub returns : goal.returns
returns c = stepped
