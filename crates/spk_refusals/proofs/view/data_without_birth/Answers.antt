use Rattle.std.proofs.Common.{[], inr, sym}
use Rattle.spk_host_rules.specs.Data.{NodeBirth}
use Rattle.spk_refusals.proofs.view.data_without_birth.Goals as goal

pub returns-in-Ok-consume : goal.returns-in-Ok-consume
returns-in-Ok-consume c = inr (c.in-Ok-consume.ensures.watch (NodeBirth []) (sym c.in-Ok.ensures))
