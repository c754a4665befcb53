use Rattle.std.proofs.Common.{refl, subst}
use Rattle.spk_host.specs.Idle.{AreStillUntil}
use Rattle.spk_host.specs.Step.{tick_entry}
use Rattle.spk_host.proofs.Idle.{order-ticked, still_ticked}
use Rattle.spk_host.proofs.nodes.Nodes.tick.Goals as goal

pub invariant_of-self : goal.invariant_of-self
invariant_of-self c =
    order-ticked (tick_entry c.args.now) (λ e. refl) c.self.inside.entries.len c.tick_all-self-inside.new.nodes c.deref_mut.result.now
    c.self.inside.entries.items c.self.inside.index c.tick_all-self-inside.result c.self.invariant.indexed c.tick_all-self-inside.ensures.ticked c.deref_mut.ensures.value
    c.self.inside.entries.ok.0 c.tick_all-self-inside.ensures.still

pub returns-else-now-self : goal.returns-else-now-self
returns-else-now-self c =
    still_ticked c.args.self.now c.args.now c.self.inside.due c.if-now-self.false (subst (AreStillUntil c.self.inside.due) c.self.view_is c.self.invariant.still)
