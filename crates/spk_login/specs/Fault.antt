-- The number of each fault.
use Rattle.std.specs.Prelude.{ℕ}
use Rattle.spk_login.specs.declared.fault.LoginFault.{LoginFault}
use Rattle.spk_login.specs.declared.fault.LoginFault.TheVariants.{NoMemory, BadText, TooLarge, NoConnect}

abbrev pub number_of : LoginFault → ℕ
number_of NoMemory = 1
number_of BadText = 14
number_of TooLarge = 16
number_of NoConnect = 111
