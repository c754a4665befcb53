-- The sum of a content: the CRC-32 of gzip and PNG (RFC 1952, section 8), bit by bit. The polynomial is IEEE's, with the lowest bit first.
use Rattle.std.specs.Prelude.{ℕ, List, ◌%◌, ◌/◌, ◌==◌, if◌then◌else◌, fold, bit_xor}

-- one bit is divided away
abbrev pub step : ℕ → ℕ
step n = if n % 2 == 1 then bit_xor 0xedb8_8320 (n / 2) else n / 2

unfoldable pub eight_steps : ℕ → ℕ
eight_steps n = step (step (step (step (step (step (step (step n)))))))

-- One byte goes in at the low end, and its eight bits are divided away.
abbrev pub one_byte : ℕ → ℕ → ℕ
one_byte n byte = eight_steps (bit_xor n byte)

-- 32 bits are divided away.
abbrev pub four_times : ℕ → ℕ
four_times n = eight_steps (eight_steps (eight_steps (eight_steps n)))

unfoldable pub crc32 : List ℕ → ℕ
crc32 bytes = bit_xor (fold one_byte 0xffff_ffff bytes) 0xffff_ffff
