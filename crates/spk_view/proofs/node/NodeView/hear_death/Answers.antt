use Rattle.std.proofs.Common.{refl, arith}
use Rattle.spk_host_rules.specs.Step.{dead_device}
use Rattle.spk_view.proofs.Devices.{apart-lent}
use Rattle.spk_view.proofs.node.NodeView.hear_death.Goals as goal

pub invariant_of-self : goal.invariant_of-self
invariant_of-self c =
    apart-lent (dead_device c.args.name.now) (λ e. refl) c.self.inside.devices.len c.hear_death.new.devices c.deref_mut.result.now c.self.inside.devices.items
    c.self.invariant c.hear_death.ensures c.deref_mut.ensures.value c.self.inside.devices.ok.0 (omega (arith, c.hear_death.auto.devices, c.deref_mut.ensures.len, c.self.inside.devices.ok.0))
