-- The number of each fault.
use Rattle.std.specs.Prelude.{ℕ}
use Rattle.spk_programs.specs.declared.fault.ProgramFault.{ProgramFault}
use Rattle.spk_programs.specs.declared.fault.ProgramFault.TheVariants.{NoMemory, BadConfig, Device, BadRecord, NoHistory, BusyRecord, NoRecord}

abbrev pub number_of : ProgramFault → ℕ
number_of NoMemory = 1
number_of BadConfig = 63
number_of Device = 96
number_of BadRecord = 110
number_of NoHistory = 127
number_of BusyRecord = 130
number_of NoRecord = 131
