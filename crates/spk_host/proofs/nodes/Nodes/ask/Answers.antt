use Rattle.std.proofs.Common.{◌∙◌, subst}
use Rattle.spk_host.specs.Idle.{AreStillUntil}
use Rattle.spk_host.proofs.Found.{if_ok}
use Rattle.spk_host.proofs.Idle.{still_out}
use Rattle.spk_host.proofs.nodes.Nodes.ask.Goals as goal

pub returns-then-now-self-clause-out : goal.returns-then-now-self-clause-out
returns-then-now-self-clause-out c =
    if_ok c.ask_at.result c.ask_at.ensures.out
    (λ o is. is ∙ still_out c.args.self.now c.args.now c.self.inside.due c.if-now-self.true (subst (AreStillUntil c.self.inside.due) c.self.view_is c.self.invariant.still))
