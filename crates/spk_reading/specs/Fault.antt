-- The number of each fault.
use Rattle.std.specs.Prelude.{ℕ}
use Rattle.spk_reading.specs.declared.fault.ReadFault.{ReadFault}
use Rattle.spk_reading.specs.declared.fault.ReadFault.TheVariants.{NoMemory, NotSparkplug, BadPayload, NoSeq, NoStamp, NoBdSeq}

abbrev pub number_of : ReadFault → ℕ
number_of NoMemory = 1
number_of NotSparkplug = 70
number_of BadPayload = 71
number_of NoSeq = 72
number_of NoStamp = 73
number_of NoBdSeq = 74
