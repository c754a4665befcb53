-- The number of each fault.
use Rattle.std.specs.Prelude.{ℕ}
use Rattle.spk_history_print.specs.declared.fault.ExportFault.{ExportFault}
use Rattle.spk_history_print.specs.declared.fault.ExportFault.TheVariants.{NoMemory, LongHistory, Exists, NoPart, NotHistory, Database, NoOutput}

abbrev pub number_of : ExportFault → ℕ
number_of NoMemory = 1
number_of LongHistory = 132
number_of Exists = 133
number_of NoPart = 134
number_of NotHistory = 135
number_of Database = 136
number_of NoOutput = 137
