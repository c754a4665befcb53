use Rattle.spk_names.proofs.NameLemmas.{found-again}
use Rattle.spk_names.proofs.laws.found_again.Goals as goal

pub returns : goal.returns
returns c = λ names name other number. found-again names name other number
