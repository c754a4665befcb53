use Rattle.spk_credentials.proofs.Places.{in-packet}
use Rattle.spk_credentials.proofs.laws.what_a_connect_holds.Goals as goal

pub returns : goal.returns
returns c = in-packet
