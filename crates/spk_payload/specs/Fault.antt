-- The numbers of the faults, as docs/FAULTS.md lists them.
use Rattle.std.specs.Prelude.{ℕ}
use Rattle.spk_protobuf.specs.Fault as wire
use Rattle.spk_payload.specs.declared.fault.PayloadFault.{PayloadFault}
use Rattle.spk_payload.specs.declared.fault.PayloadFault.TheVariants.{NoMemory, Wire, NotText, HasOther, Mistyped}

abbrev pub number_of : PayloadFault → ℕ
number_of NoMemory = 1
number_of (Wire fault) = wire.number_of fault
number_of NotText = 7
number_of HasOther = 8
number_of Mistyped = 9
