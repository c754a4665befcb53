-- The broker that a journal kept (own rules).
use Rattle.std.specs.Prelude.{◌≡◌, ◌⊎◌, ℕ, ◌-◌, ◌==◌, true, false, Bool, List, [], ◌++◌, length, Some, None, is_some}
use Rattle.std.specs.List.{list_all}
use Rattle.spk_broker_rules.specs.Data.{Broker}
use Rattle.spk_broker_replay.specs.Replay.{ends, run}
use Rattle.spk_broker_snapshot.specs.Lines.{lines}
use Rattle.spk_broker.specs.declared.part_fault.PartFault.TheVariants as part
use Rattle.spk_broker_notes.specs.Noted.{Noted}
use Rattle.spk_broker_journal.specs.Adding.{first_refusal, records}
use Rattle.spk_broker_journal.specs.Replayed.{IsReplayed, IsUnread}
use Rattle.spk_broker_store.specs.Data.{Data}
use Rattle.spk_broker_store.specs.declared.fault.StoreFault.{StoreFault}
use Rattle.spk_broker_store.specs.declared.fault.StoreFault.TheVariants.{NoMemory, Unfit, Unkept}

-- the limit of drops of a broker that is put together
abbrev pub limit : ℕ
limit = 128

abbrev pub are_zeros : List ℕ → Bool
are_zeros bytes = list_all (λ b. b == 0) bytes

-- Behind these bytes, which are the front of those, stand zeros alone: so a file ends that grew before its bytes came.
pub record HasZeros (seen bytes : List ℕ) : Type 0 where
  pub behind : List ℕ
  pub are : bytes ≡ seen ++ behind
  pub zeros : are_zeros behind ≡ true

-- The bytes of which the broker is read: all, or, where these aren't a broker's, those in front of zeros.
abbrev pub IsSeen : (seen bytes : List ℕ) → Type 0
IsSeen seen bytes = (seen ≡ bytes) ⊎ (IsUnread limit bytes part.Unfit × HasZeros seen bytes)

-- The broker that bytes say, behind the ends of all its connections, and how many of them weren't read.
pub record IsKept (bytes : List ℕ) (b : Broker) (cut : ℕ) : Type 0 where
  pub seen : List ℕ
  pub whole : ℕ
  pub read : Broker
  pub of_bytes : IsSeen seen bytes
  pub replayed : IsReplayed limit seen whole read
  pub is : b ≡ run read (ends read)
  pub left : cut ≡ length bytes - whole

-- what bytes are refused with: Unfit where no reading of them is a broker's, or want of memory
abbrev pub IsNotKept : List ℕ → StoreFault → Type 0
IsNotKept bytes NoMemory = Unit {0}
IsNotKept bytes Unfit = IsUnread limit bytes part.Unfit
IsNotKept bytes Unkept = ⊥

-- A broker that was kept as some bytes, of which nothing is noted yet, and a journal that begins with what it keeps.
pub record IsOpened (each : Bool) (store : Data) (noted : Noted) (cut : ℕ) : Type 0 where
  pub bytes : List ℕ
  pub kept : IsKept bytes noted.broker cut
  pub silent : noted.notes ≡ Some (record { clock = 0; bytes = [] })
  pub begins : store ≡ record { begun = length (records (lines noted.broker)); len = length (records (lines noted.broker)); since = None; each = each; broken = false }

-- what was kept is refused with Unfit where no reading of some bytes is a broker's, or what is kept then can't be written
abbrev pub IsNotOpened : StoreFault → Type 0
IsNotOpened NoMemory = Unit {0}
IsNotOpened Unfit = (bytes : List ℕ) × (IsUnread limit bytes part.Unfit ⊎ ((b : Broker) × (cut : ℕ) × IsKept bytes b cut × (is_some (first_refusal (lines b)) ≡ true)))
IsNotOpened Unkept = Unit {0}

abbrev pub IsNotRead : StoreFault → Type 0
IsNotRead NoMemory = Unit {0}
IsNotRead Unfit = (bytes : List ℕ) × IsUnread limit bytes part.Unfit
IsNotRead Unkept = Unit {0}
