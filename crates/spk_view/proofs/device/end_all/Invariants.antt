use Rattle.std.proofs.Common.{◌≡◌}
use Rattle.spk_host_rules.specs.Step.{ended_device}
use Rattle.spk_view.proofs.Places.{mapped}
use Rattle.spk_view.proofs.device.end_all.Given as goal

-- so many of them were told
abbrev pub invariant-loop-device : goal.invariant-loop-device
invariant-loop-device l = l.devices ≡ mapped ended_device l.device-index l.initial.devices
