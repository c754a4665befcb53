-- HMAC with SHA-256 (RFC 2104, section 2).
use Rattle.std.specs.Prelude.{ℕ, nat_lt, List, ◌++◌, length, map, get_or, bit_xor, if◌then◌else◌}
use Rattle.std.specs.List.{range_with_len}
use Rattle.sha2.specs.Sha256.{sha256}

-- the bytes of a block, and what each of the key's is turned by: ipad and opad
abbrev pub block : ℕ
block = 64

abbrev pub inner_byte : ℕ
inner_byte = 0x36

abbrev pub outer_byte : ℕ
outer_byte = 0x5C

-- a key that is longer than a block is replaced by its digest
abbrev pub key_of : List ℕ → List ℕ
key_of key = if nat_lt block (length key) then sha256 key else key

-- a key with zeros up to a block, and each byte turned by this one
abbrev pub padded : ℕ → List ℕ → List ℕ
padded byte key = map (λ i. bit_xor (get_or key i 0) byte) (range_with_len 0 block)

abbrev pub hmac : List ℕ → List ℕ → List ℕ
hmac key message = sha256 (padded outer_byte (key_of key) ++ sha256 (padded inner_byte (key_of key) ++ message))
