use Rattle.spk_state.proofs.Meanings.{one_meaning}
use Rattle.spk_state.proofs.laws.one_meaning.Goals as goal

pub returns : goal.returns
returns c = one_meaning
