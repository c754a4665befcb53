use Rattle.std.proofs.Common.{◌∙◌, sym, ap, set, arith}
use Rattle.spk_host_rules.specs.Step.{ended_device}
use Rattle.spk_view.proofs.Places.{mapped-all, mapped-more}
use Rattle.spk_view.proofs.device.end_all.Goals as goal

pub loop-device-preserved : goal.loop-device-preserved
loop-device-preserved c =
    ap (set c.loop-device.devices c.loop-device.device-index) (c.end.ensures ∙ ap ended_device (sym c.device-item.is))
    ∙ mapped-more ended_device c.args.devices.now c.loop-device.devices c.loop-device.device-index c.device-item.result
    c.loop-device.invariant (omega arith) c.device-item.is

pub returns : goal.returns
returns c = c.loop-device.invariant ∙ mapped-all ended_device c.args.devices.now c.loop-device.device-index (omega arith)
