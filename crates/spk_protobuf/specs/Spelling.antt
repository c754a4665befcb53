-- The canonical spelling of a varint and of a length-delimited field.
use Rattle.std.specs.Prelude.{ℕ, zero, suc, ◌+◌, ◌*◌, ◌/◌, ◌%◌, ◌^◌, List, [], ◌∷◌, ◌++◌, length, nat_lt, if◌then◌else◌}

-- The groups of n, the least significant first: one, and at most k more.
unfoldable pub groups_of : ℕ → ℕ → List ℕ
groups_of zero n = n ∷ []
groups_of (suc k) n = if nat_lt n 128 then n ∷ [] else ((n % 128 + 128) ∷ groups_of k (n / 128))

-- The shortest varint of a number below 2^64.
unfoldable pub varint : ℕ → List ℕ
varint n = groups_of 9 n

-- A field of wire type 2: its tag, the length and the bytes. The tag has 64 bits.
unfoldable pub bytes_field : ℕ → List ℕ → List ℕ
bytes_field number bytes = varint ((number * 8 + 2) % 2 ^ 64) ++ varint (length bytes) ++ bytes
