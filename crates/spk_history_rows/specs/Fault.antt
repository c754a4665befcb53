-- The number of each fault.
use Rattle.std.specs.Prelude.{ℕ}
use Rattle.spk_history_rows.specs.declared.fault.RowsFault.{RowsFault}
use Rattle.spk_history_rows.specs.declared.fault.RowsFault.TheVariants.{NoMemory, LongHistory}

abbrev pub number_of : RowsFault → ℕ
number_of NoMemory = 1
number_of LongHistory = 132
