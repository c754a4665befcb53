use Rattle.std.proofs.Common.{◌≡◌}
use Rattle.spk_host_rules.specs.Step.{dead_device}
use Rattle.spk_view.proofs.Places.{mapped}
use Rattle.spk_view.proofs.device.hear_death.Given as goal

-- so many of them were told
abbrev pub invariant-loop-device : goal.invariant-loop-device
invariant-loop-device l = l.devices ≡ mapped (dead_device l.fn.name) l.device-index l.initial.devices
