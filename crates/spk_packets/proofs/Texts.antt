-- A text that is read: counted, UTF-8, and without U+0000.
use Rattle.std.proofs.Common.{◌≡◌, ℕ, Bool, true, false, List, Ok, Err, refl}
use Rattle.std.specs.Str.{IsUtf8, is_utf8}
use Rattle.std.proofs.lemmas.Str.{IsUtf8-from_is_utf8, is_utf8-from_IsUtf8}
use Rattle.spk_packets.specs.declared.fault.PacketFault.TheVariants.{BadText}
use Rattle.spk_packets.specs.Grammar.{has_zero}
use Rattle.spk_packets.specs.Reading.{counted_at, text_at}

not_from : (b : Bool) → (b ≡ true → ⊥) → b ≡ false
not_from true no_text = absurd (no_text refl)
not_from false no_text = refl

pub is_utf8_not : (bytes : List ℕ) → ¬ (IsUtf8 bytes) → is_utf8 bytes ≡ false
is_utf8_not bytes h = not_from (is_utf8 bytes) (λ e. h (IsUtf8-from_is_utf8 bytes e))

pub text_at_ok : (bytes text rest : List ℕ) → counted_at bytes ≡ Ok (text, rest) → IsUtf8 text → has_zero text ≡ false → text_at bytes ≡ Ok (text, rest)
unfolding text_at
text_at_ok bytes text rest e u z = rw (e, is_utf8-from_IsUtf8 text u, z) refl

pub text_at_bytes : (bytes text rest : List ℕ) → counted_at bytes ≡ Ok (text, rest) → ¬ (IsUtf8 text) → text_at bytes ≡ Err BadText
unfolding text_at
text_at_bytes bytes text rest e u = rw (e, is_utf8_not text u) refl
