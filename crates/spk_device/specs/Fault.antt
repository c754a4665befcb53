-- The numbers of the refusals, as docs/FAULTS.md lists them.
use Rattle.std.specs.Prelude.{◌≡◌, ℕ, Option, Some}
use Rattle.spk_device.specs.declared.fault.Refusal.{Refusal}
use Rattle.spk_device.specs.declared.fault.Refusal.TheVariants.{Duplicate, NoSuch, WrongKind, Full, BadName}
use Rattle.spk_device.specs.declared.fault.DeviceFault.{DeviceFault}
use Rattle.spk_device.specs.declared.fault.DeviceFault.TheVariants.{NoMemory, Refused}

abbrev pub refusal_number : Refusal → ℕ
refusal_number Duplicate = 40
refusal_number NoSuch = 41
refusal_number WrongKind = 42
refusal_number Full = 43
refusal_number BadName = 44

abbrev pub number_of : DeviceFault → ℕ
number_of NoMemory = 1
number_of (Refused refusal) = refusal_number refusal

-- The fault is the refusal that is due, unless memory was refused.
abbrev pub IsDue : Option Refusal → DeviceFault → Type 0
IsDue due NoMemory = Unit {0}
IsDue due (Refused refusal) = due ≡ Some refusal
