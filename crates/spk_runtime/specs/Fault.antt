-- The numbers of the refusals, and how many clients may be served.
use Rattle.std.specs.Prelude.{ℕ, ◌≤◌, Option, Some, None}
use Rattle.spk_broker_store.specs.declared.fault.StoreFault.{StoreFault}
use Rattle.spk_broker_store.specs.declared.fault.StoreFault.TheVariants as store
use Rattle.spk_runtime.specs.declared.fault.ServeFault.{ServeFault}
use Rattle.spk_runtime.specs.declared.fault.ServeFault.TheVariants.{NoMemory, BadPlan, Device, Unkept}

abbrev pub number_of : ServeFault → ℕ
number_of NoMemory = 1
number_of BadPlan = 92
number_of Device = 96
number_of Unkept = 141

-- what ends a server whose store refused: a store's data are never unfit once it was opened
abbrev pub of_store : StoreFault → ServeFault
of_store store.NoMemory = NoMemory
of_store store.Unfit = Unkept
of_store store.Unkept = Unkept

-- as many clients as may be served (own rule)
abbrev pub IsCount : ℕ → Type 0
IsCount clients = (1 ≤ clients) × (clients ≤ 1000)

-- so many clients, or as many as come
abbrev pub IsServing : Option ℕ → Type 0
IsServing None = Unit {0}
IsServing (Some clients) = IsCount clients
