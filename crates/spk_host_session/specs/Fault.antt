-- The number of each fault.
use Rattle.std.specs.Prelude.{ℕ}
use Rattle.spk_host_session.specs.declared.fault.HostFault.{HostFault}
use Rattle.spk_host_session.specs.declared.fault.HostFault.TheVariants.{NoMemory, NotSparkplug, BadPayload, NoSeq, NoStamp, NoBdSeq, WrongPhase}

abbrev pub number_of : HostFault → ℕ
number_of NoMemory = 1
number_of NotSparkplug = 70
number_of BadPayload = 71
number_of NoSeq = 72
number_of NoStamp = 73
number_of NoBdSeq = 74
number_of WrongPhase = 75
