-- Numbers and texts as bytes: the lowest byte first, a text behind its length in two bytes.
use Rattle.std.specs.Prelude.{ℕ, List, ◌++◌, length}
use Rattle.std.specs.Int.{w16, w32, w64, to_le_bytes}

unfoldable pub two : ℕ → List ℕ
two n = to_le_bytes w16 n

unfoldable pub four : ℕ → List ℕ
four n = to_le_bytes w32 n

unfoldable pub eight : ℕ → List ℕ
eight n = to_le_bytes w64 n

-- bytes behind their length
unfoldable pub counted : List ℕ → List ℕ
counted bytes = two (length bytes) ++ bytes
