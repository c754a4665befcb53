use Rattle.std.proofs.Common.{false, arith}
use Rattle.spk_broker.proofs.Sendables.{connack-writable}
use Rattle.spk_broker.proofs.state.State.make.Goals as goal

pub say-requires : goal.say-requires
say-requires c = connack-writable false 0 (omega arith)
