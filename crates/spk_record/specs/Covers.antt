-- What a record on disk allows: a node that begins with it, after whatever crash, says no bdSeq and no stamp again (own rules).
use Rattle.std.specs.Prelude.{◌≡◌, ℕ, ◌+◌, ◌-◌, ◌%◌, ◌^◌, ◌≤◌, min}
use Rattle.spk_record.specs.declared.record.Record.{Record}

-- The record covers a session and a stamp: the bdSeq that comes next is the one after the session's, and the stamp isn't past the reserved one.
pub record Covers (r : Record) (opened used : ℕ) : Type 0 where
  pub session : r.bd ≡ (opened + 1) % 256
  pub stamp : used ≤ r.stamp

-- how far ahead stamps are reserved, in milliseconds, so that a record is written once in so long
abbrev pub ahead : ℕ
ahead = 5000

-- the record that is to be kept before this session opens, or before this stamp is used
abbrev pub reserved : ℕ → ℕ → Record
reserved session stamp = record { bd = (session + 1) % 256; stamp = min (stamp + ahead) (2 ^ 63 - 1) }
