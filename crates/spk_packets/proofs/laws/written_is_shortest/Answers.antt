use Rattle.spk_packets.proofs.Refused.{spelled_is_no_shorter}
use Rattle.spk_packets.proofs.laws.written_is_shortest.Goals as goal

pub returns : goal.returns
returns c = λ text p all is. spelled_is_no_shorter text p all is
