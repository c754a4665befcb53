use Rattle.spk_packets.proofs.Refused.{spelled_is_writable}
use Rattle.spk_packets.proofs.laws.refused_has_no_spelling.Goals as goal

pub returns : goal.returns
returns c = λ text p all is. spelled_is_writable text p all is
