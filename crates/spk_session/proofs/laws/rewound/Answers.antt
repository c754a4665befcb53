use Rattle.spk_session.proofs.Undone.{undone}
use Rattle.spk_session.proofs.laws.rewound.Goals as goal

pub returns : goal.returns
returns c = undone
