use Rattle.spk_packets.proofs.Prefix.{prefix_is}
use Rattle.spk_packets.proofs.laws.prefix_free.Goals as goal

pub returns : goal.returns
returns c = λ a b x y p q is_a is_b e. prefix_is a b x y p q is_a is_b e
