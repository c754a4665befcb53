-- The numbers of the faults, as docs/FAULTS.md lists them.
use Rattle.std.specs.Prelude.{ℕ}
use Rattle.spk_protobuf.specs.declared.fault.WireFault.{WireFault}
use Rattle.spk_protobuf.specs.declared.fault.WireFault.TheVariants.{Truncated, VarintTooLong, Group, FieldZero, WireType}

abbrev pub number_of : WireFault → ℕ
number_of Truncated = 2
number_of VarintTooLong = 3
number_of Group = 4
number_of FieldZero = 5
number_of WireType = 6
