use Rattle.spk_payload.proofs.Typings.{typed_again}
use Rattle.spk_payload.proofs.laws.written_again.Goals as goal

pub returns : goal.returns
returns c = λ d v w fits e. typed_again d v w fits e
