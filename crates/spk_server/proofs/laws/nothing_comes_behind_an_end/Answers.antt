use Rattle.spk_server.proofs.Ends.{silent}
use Rattle.spk_server.proofs.laws.nothing_comes_behind_an_end.Goals as goal

pub returns : goal.returns
returns c = λ log r s k run closed none. silent k log r s run closed none
