-- The numbers of the refusals, and when each is due.
use Rattle.std.specs.Prelude.{◌≡◌, ℕ, Bool, true, false}
use Rattle.spk_broker.specs.declared.fault.BrokerFault.{BrokerFault}
use Rattle.spk_broker.specs.declared.fault.BrokerFault.TheVariants.{NoMemory, NoSuchConn, Limit}

abbrev pub number_of : BrokerFault → ℕ
number_of NoMemory = 1
number_of NoSuchConn = 30
number_of Limit = 31

-- what `open` is refused with: Limit exactly where the broker is full, or want of memory
abbrev pub IsLimit : Bool → BrokerFault → Type 0
IsLimit full NoMemory = Unit {0}
IsLimit full NoSuchConn = ⊥
IsLimit full Limit = full ≡ true

-- what a call for a connection is refused with: NoSuchConn exactly where it isn't known, else want of memory
abbrev pub IsUnknown : Bool → BrokerFault → Type 0
IsUnknown known NoMemory = known ≡ true
IsUnknown known NoSuchConn = known ≡ false
IsUnknown known Limit = ⊥
