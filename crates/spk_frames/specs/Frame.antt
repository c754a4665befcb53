-- A content with its length and its sum in front and behind, and what of one stands at the front of bytes that may have been cut off or spoiled.
use Rattle.std.specs.Prelude.{◌≡◌, ◌⊎◌, ℕ, ◌+◌, ◌<◌, ◌≤◌, List, [], ◌++◌, length}
use Rattle.spk_frames.specs.Numbers.{four}
use Rattle.spk_frames.specs.Sum.{crc32}
use Rattle.spk_frames.specs.declared.framing.Framed.{Framed}
use Rattle.spk_frames.specs.declared.framing.Framed.TheVariants as frames

-- a content with its length and its sum
unfoldable pub framed : List ℕ → List ℕ
framed bytes = four (length bytes) ++ (bytes ++ four (crc32 bytes))

-- ---- at the front of bytes, where a content may have so many bytes at most

-- cut off: too few bytes for the length, or for content and sum behind a length that a content may have
abbrev pub IsTorn : (most : ℕ) → List ℕ → Type 0
IsTorn most bytes = (0 < length bytes) × ((length bytes < 4) ⊎ ((n : ℕ) × (rest : List ℕ) × (n ≤ most) × (bytes ≡ four n ++ rest) × (length rest < n + 4)))

abbrev pub IsFramed : (most : ℕ) → List ℕ → List ℕ → Type 0
IsFramed most bytes content = (length content ≤ most) × ((rest : List ℕ) × (bytes ≡ framed content ++ rest))

-- the content that stands there; nothing; one that is cut off; or something else
abbrev pub IsFrame : (most : ℕ) → List ℕ → Framed → Type 0
IsFrame most bytes (frames.Content content) = IsFramed most bytes content.now
IsFrame most bytes frames.End = bytes ≡ []
IsFrame most bytes frames.Torn = IsTorn most bytes
IsFrame most bytes frames.Broken = (0 < length bytes) × ¬ (IsTorn most bytes) × ((content : List ℕ) → IsFramed most bytes content → ⊥)
