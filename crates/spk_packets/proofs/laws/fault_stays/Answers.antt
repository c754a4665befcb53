use Rattle.spk_packets.proofs.Stays.{fault_is}
use Rattle.spk_packets.proofs.laws.fault_stays.Goals as goal

pub returns : goal.returns
returns c = λ bytes more fault named other. fault_is bytes more fault named other
