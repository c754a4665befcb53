use Rattle.std.proofs.Common.{refl, arith}
use Rattle.spk_host_rules.specs.Step.{unborn}
use Rattle.spk_view.proofs.Devices.{apart-lent}
use Rattle.spk_view.proofs.node.NodeView.begin.Goals as goal

pub invariant_of-self : goal.invariant_of-self
invariant_of-self c =
    apart-lent unborn (λ e. refl) c.self.inside.devices.len c.unbear_all.new.devices c.deref_mut.result.now c.self.inside.devices.items
    c.self.invariant c.unbear_all.ensures c.deref_mut.ensures.value c.self.inside.devices.ok.0 (omega (arith, c.unbear_all.auto.devices, c.deref_mut.ensures.len, c.self.inside.devices.ok.0))
