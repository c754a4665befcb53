use Rattle.spk_historian.proofs.Parted.{messages_are}
use Rattle.spk_historian.proofs.laws.messages.Goals as goal

pub returns : goal.returns
returns c = messages_are
