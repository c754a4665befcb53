-- The numbers of the refusals.
use Rattle.std.specs.Prelude.{ℕ}
use Rattle.spk_server.specs.declared.fault.ServerFault.{ServerFault}
use Rattle.spk_server.specs.declared.fault.ServerFault.TheVariants.{NoMemory, Limit}

abbrev pub number_of : ServerFault → ℕ
number_of NoMemory = 1
number_of Limit = 31
