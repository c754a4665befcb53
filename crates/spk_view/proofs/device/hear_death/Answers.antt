use Rattle.std.proofs.Common.{◌∙◌, sym, ap, set, arith}
use Rattle.spk_host_rules.specs.Step.{dead_device}
use Rattle.spk_view.proofs.Places.{mapped-all, mapped-more}
use Rattle.spk_view.proofs.device.hear_death.Goals as goal

pub loop-device-preserved : goal.loop-device-preserved
loop-device-preserved c =
    ap (set c.loop-device.devices c.loop-device.device-index) (c.hear_death.ensures ∙ ap (dead_device c.args.name.now) (sym c.device-item.is))
    ∙ mapped-more (dead_device c.args.name.now) c.args.devices.now c.loop-device.devices c.loop-device.device-index c.device-item.result
    c.loop-device.invariant (omega arith) c.device-item.is

pub returns : goal.returns
returns c = c.loop-device.invariant ∙ mapped-all (dead_device c.args.name.now) c.args.devices.now c.loop-device.device-index (omega arith)
