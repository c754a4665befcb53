use Rattle.std.proofs.Common.{◌≡◌, subst, List, []}
use Rattle.spk_host.specs.Data.{Entry}
use Rattle.spk_host.specs.Idle.{AreStillUntil}
use Rattle.spk_host.specs.Losses.{losing}
use Rattle.spk_host.proofs.Unlost.{still_losing}
use Rattle.spk_host.proofs.nodes.Nodes.losing.Goals as goal

pub returns-then-self-now : goal.returns-then-self-now
returns-then-self-now c =
    still_losing c.args.self.now c.args.now c.self.inside.due c.if-self-now.true (subst (AreStillUntil c.self.inside.due) c.self.view_is c.self.invariant.still)
