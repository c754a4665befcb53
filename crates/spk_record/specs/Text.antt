-- What bytes mean as a record, and how one is written (own rule): a JSON object, as `{"bd":7,"stamp":5}`.
use Rattle.std.specs.Prelude.{◌≡◌, ℕ, ◌^◌, ◌<◌, ◌&&◌, nat_lt, List, ◌++◌, codes, decimal, Option, Some, None, option_and_then, Result, Ok, Err, if◌then◌else◌}
use Rattle.std.specs.Str.{IsUtf8, is_utf8}
use Rattle.serde_json.specs.Data.{Data, number, unsigned, object, member, no_members}
use Rattle.serde_json.specs.Read.{read}
use Rattle.serde_json.specs.Find.{get, as_number, as_u64}
use Rattle.spk_record.specs.declared.record.Record.{Record}
use Rattle.spk_record.specs.declared.fault.RecordFault.{RecordFault}
use Rattle.spk_record.specs.declared.fault.RecordFault.TheVariants.{NoMemory, BadRecord}

-- A text of JSON, as serde_json reads it, whose member `bd` is a whole number below 256 and whose member `stamp` is one
-- below 2^63. What is no object has no members.
pub record MeansRecord (bytes : List ℕ) (r : Record) : Type 0 where
  pub text : IsUtf8 bytes
  pub value : Data
  pub is_value : read bytes ≡ Some value
  pub bd : get (codes "bd") value ≡ Some (number (unsigned r.bd))
  pub stamp : get (codes "stamp") value ≡ Some (number (unsigned r.stamp))
  pub is_byte : r.bd < 256
  pub is_moment : r.stamp < 2 ^ 63

-- the answer is this record, or memory was refused
abbrev pub Gives : Result Record RecordFault → Record → Type 0
Gives (Ok t) r = t ≡ r
Gives (Err NoMemory) r = Unit {0}
Gives (Err BadRecord) r = ⊥

-- the members in this order, without spaces, in decimal
abbrev pub record_text : Record → List ℕ
record_text r = codes "{\"bd\":" ++ decimal r.bd ++ codes ",\"stamp\":" ++ decimal r.stamp ++ codes "}"

-- the value that says a record
abbrev pub record_data : Record → Data
record_data r = object (member (codes "bd") (number (unsigned r.bd)) (member (codes "stamp") (number (unsigned r.stamp)) no_members))

-- The same as a function: what the bytes mean, or None where they mean nothing.
abbrev pub of_two : ℕ → ℕ → Option Record
of_two bd stamp = if nat_lt bd 256 && nat_lt stamp (2 ^ 63) then Some (record { bd = bd; stamp = stamp }) else None

abbrev pub whole_in : List ℕ → Data → Option ℕ
whole_in name d = option_and_then as_u64 (option_and_then as_number (get name d))

abbrev pub record_of : Data → Option Record
record_of d = option_and_then (λ bd. option_and_then (of_two bd) (whole_in (codes "stamp") d)) (whole_in (codes "bd") d)

abbrev pub record_at : List ℕ → Option Record
record_at bytes = if is_utf8 bytes then option_and_then record_of (read bytes) else None
