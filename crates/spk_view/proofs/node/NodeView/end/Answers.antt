use Rattle.std.proofs.Common.{refl, arith}
use Rattle.spk_host_rules.specs.Step.{ended_device}
use Rattle.spk_view.proofs.Devices.{apart-lent}
use Rattle.spk_view.proofs.node.NodeView.end.Goals as goal

pub invariant_of-self : goal.invariant_of-self
invariant_of-self c =
    apart-lent ended_device (λ e. refl) c.self.inside.devices.len c.end_all.new.devices c.deref_mut.result.now c.self.inside.devices.items
    c.self.invariant c.end_all.ensures c.deref_mut.ensures.value c.self.inside.devices.ok.0 (omega (arith, c.end_all.auto.devices, c.deref_mut.ensures.len, c.self.inside.devices.ok.0))
