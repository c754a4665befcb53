-- The numbers of the faults.
use Rattle.std.specs.Prelude.{ℕ}
use Rattle.spk_edge_rules.specs.declared.fault.EdgeFault.{EdgeFault}
use Rattle.spk_edge_rules.specs.declared.fault.EdgeFault.TheVariants.{NoMemory, WrongPhase, ClockEnd, BadCommand, BadConfig, TooLarge, Device, State, TwoOwners}

-- each fault's number
abbrev pub number_of : EdgeFault → ℕ
number_of NoMemory = 1
number_of WrongPhase = 60
number_of ClockEnd = 61
number_of BadCommand = 62
number_of BadConfig = 63
number_of TooLarge = 64
number_of (Device refusal) = 65
number_of (State fault) = 66
number_of TwoOwners = 119
