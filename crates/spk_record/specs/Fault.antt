-- The number of each fault.
use Rattle.std.specs.Prelude.{ℕ}
use Rattle.spk_record.specs.declared.fault.RecordFault.{RecordFault}
use Rattle.spk_record.specs.declared.fault.RecordFault.TheVariants.{NoMemory, BadRecord}

abbrev pub number_of : RecordFault → ℕ
number_of NoMemory = 1
number_of BadRecord = 110
