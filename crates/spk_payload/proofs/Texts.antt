-- A text is read where the bytes are UTF-8, and else it is NotText.
use Rattle.std.proofs.Common.{◌≡◌, ℕ, Bool, true, false, List, Result, Ok, Err, refl}
use Rattle.std.specs.Str.{IsUtf8, is_utf8}
use Rattle.std.proofs.lemmas.Str.{is_utf8-from_IsUtf8, IsUtf8-from_is_utf8}
use Rattle.spk_payload.specs.declared.fault.PayloadFault.{PayloadFault}
use Rattle.spk_payload.specs.declared.fault.PayloadFault.TheVariants.{NotText}
use Rattle.spk_payload.specs.Reading.{text_at}

abbrev pub done : {A : Type 0} → A → Result A PayloadFault
done x = Ok x

pub text_at-text : (bytes : List ℕ) → IsUtf8 bytes → text_at bytes ≡ Ok bytes
unfolding text_at
text_at-text bytes h = rw (is_utf8-from_IsUtf8 bytes h) refl

not_utf8 : (bytes : List ℕ) → (IsUtf8 bytes → ⊥) → is_utf8 bytes ≡ false
not_utf8 bytes h = by_test (is_utf8 bytes) refl
  where
    by_test : (b : Bool) → is_utf8 bytes ≡ b → is_utf8 bytes ≡ false
    by_test true e = absurd (h (IsUtf8-from_is_utf8 bytes e))
    by_test false e = e

pub text_at-other : (bytes : List ℕ) → (IsUtf8 bytes → ⊥) → text_at bytes ≡ Err NotText
unfolding text_at
text_at-other bytes h = rw (not_utf8 bytes h) refl
