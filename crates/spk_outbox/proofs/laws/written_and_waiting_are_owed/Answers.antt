use Rattle.std.proofs.Common.{arith}
use Rattle.spk_outbox.specs.Data.{fresh_outbox}
use Rattle.spk_outbox.proofs.Waiting.{owes}
use Rattle.spk_outbox.proofs.laws.written_and_waiting_are_owed.Goals as goal

pub returns : goal.returns
returns c = λ calls. owes calls fresh_outbox (omega arith)
