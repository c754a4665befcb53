use Rattle.std.proofs.Common.{refl, arith}
use Rattle.spk_host_rules.specs.Step.{stale_device}
use Rattle.spk_view.proofs.Devices.{apart-lent}
use Rattle.spk_view.proofs.node.NodeView.lose.Goals as goal

pub invariant_of-self : goal.invariant_of-self
invariant_of-self c =
    apart-lent stale_device (λ e. refl) c.self.inside.devices.len c.lose_all.new.devices c.deref_mut.result.now c.self.inside.devices.items
    c.self.invariant c.lose_all.ensures c.deref_mut.ensures.value c.self.inside.devices.ok.0 (omega (arith, c.lose_all.auto.devices, c.deref_mut.ensures.len, c.self.inside.devices.ok.0))
