-- A name that is read: long enough, and UTF-8.
use Rattle.std.proofs.Common.{◌≡◌, ℕ, ◌≤◌, Bool, true, false, List, length, take, drop, Some, None, refl}
use Rattle.std.specs.Str.{IsUtf8, is_utf8}
use Rattle.std.proofs.lemmas.Bool.{le-ltb}
use Rattle.std.proofs.lemmas.Str.{IsUtf8-from_is_utf8, is_utf8-from_IsUtf8}
use Rattle.spk_frames.specs.Reading.{name_of}

not_from : (b : Bool) → (b ≡ true → ⊥) → b ≡ false
not_from true no_text = absurd (no_text refl)
not_from false no_text = refl

is_utf8_not : (bytes : List ℕ) → ¬ (IsUtf8 bytes) → is_utf8 bytes ≡ false
is_utf8_not bytes h = not_from (is_utf8 bytes) (λ e. h (IsUtf8-from_is_utf8 bytes e))

pub name_of_ok : (n : ℕ) (bytes : List ℕ) → n ≤ length bytes → IsUtf8 (take n bytes) → name_of n bytes ≡ Some (take n bytes, drop n bytes)
unfolding name_of
name_of_ok n bytes le u = rw (le-ltb (length bytes) n le, is_utf8-from_IsUtf8 (take n bytes) u) refl

pub name_of_not : (n : ℕ) (bytes : List ℕ) → n ≤ length bytes → ¬ (IsUtf8 (take n bytes)) → name_of n bytes ≡ None
unfolding name_of
name_of_not n bytes le u = rw (le-ltb (length bytes) n le, is_utf8_not (take n bytes) u) refl
