-- The text of a record, and that it is read back.
use Rattle.std.proofs.Common.{◌≡◌, ℕ, ◌^◌, ◌<◌, List, refl, append_assoc, Some}
use Rattle.std.specs.Str.{IsUtf8}
use Rattle.serde_json.specs.Read.{read}
use Rattle.serde_json.specs.Written.{compact_text}
use Rattle.serde_json.proofs.OnLiterals.{serde_json_on_literals}
use Rattle.spk_record.specs.declared.record.Record.{Record}
use Rattle.spk_record.specs.Text.{MeansRecord, record_text, record_data}

-- what serde_json writes for the value
pub written : (r : Record) → compact_text (record_data r) ≡ record_text r
unfolding serde_json_on_literals
written r = simp (append_assoc) refl

-- a text that is read as the value means the record
pub means_data : (bytes : List ℕ) (r : Record) → IsUtf8 bytes → read bytes ≡ Some (record_data r) → r.bd < 256 → r.stamp < 2 ^ 63 → MeansRecord bytes r
means_data bytes r text is byte below = record { text = text; value = record_data r; is_value = is; bd = refl; stamp = refl; is_byte = byte; is_moment = below }
