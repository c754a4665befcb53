use Rattle.spk_state.proofs.Meanings.{at_means, means_at}
use Rattle.spk_state.proofs.laws.reading.Goals as goal

pub returns : goal.returns
returns c = λ bytes s. (at_means bytes s, means_at bytes s)
