use Rattle.spk_server.proofs.Due.{calm_before}
use Rattle.spk_server.proofs.laws.nothing_is_due_before.Goals as goal

pub returns : goal.returns
returns c = calm_before
