use Rattle.std.proofs.Common.{◌≡◌, false, take}
use Rattle.std.specs.List.{list_any}
use Rattle.spk_device.specs.Step as step
use Rattle.spk_device.proofs.adding.has_barred.Given as goal

abbrev pub invariant-loop-byte : goal.invariant-loop-byte
invariant-loop-byte l = list_any step.is_barred (take l.byte-index l.byte-items) ≡ false
