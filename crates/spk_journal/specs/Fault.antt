-- The number of each fault.
use Rattle.std.specs.Prelude.{ℕ}
use Rattle.spk_journal.specs.declared.fault.JournalFault.{JournalFault}
use Rattle.spk_journal.specs.declared.fault.JournalFault.TheVariants.{NoMemory, BadLine}

abbrev pub number_of : JournalFault → ℕ
number_of NoMemory = 1
number_of BadLine = 118
