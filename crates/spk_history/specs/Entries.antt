-- A walk over the entries of bytes.
use Rattle.std.specs.Prelude.{◌≡◌, ℕ, List, take}
use Rattle.spk_history.specs.Entry.{EntryData}
use Rattle.spk_history.specs.File.{AreEntries, records_of}

-- the bytes, and how many of them were given as entries
pub record EntriesData : Type 0 where
  pub bytes : List ℕ
  pub whole : ℕ

-- These entries were given: the bytes in front are their records.
pub record AreTaken (walk : EntriesData) (entries : List EntryData) : Type 0 where
  pub are : take walk.whole walk.bytes ≡ records_of entries
  pub fit : AreEntries entries
