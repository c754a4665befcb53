-- How many bytes the parts of a record have.
use Rattle.std.proofs.Common.{◌≡◌, ℕ, ◌+◌, List, ◌++◌, length, refl, sym, ap, ◌∙◌, length-append, arith}
use Rattle.spk_frames.specs.Numbers.{counted, eight, four, two}
use Rattle.spk_frames.specs.Frame.{framed}
use Rattle.spk_frames.specs.Sum.{crc32}

pub length-two : (n : ℕ) → length (two n) ≡ 2
unfolding two
length-two n = refl

pub length-four : (n : ℕ) → length (four n) ≡ 4
unfolding four
length-four n = refl

pub length-eight : (n : ℕ) → length (eight n) ≡ 8
unfolding eight
length-eight n = refl

pub length-counted : (bytes : List ℕ) → length (counted bytes) ≡ 2 + length bytes
unfolding counted
length-counted bytes = length-append (two (length bytes)) bytes ∙ ap (λ n. n + length bytes) (length-two (length bytes))

pub length-framed : (bytes : List ℕ) → length (framed bytes) ≡ length bytes + 8
unfolding framed
length-framed bytes =
    omega (arith, length-append (four (length bytes)) (bytes ++ four (crc32 bytes)), length-append bytes (four (crc32 bytes)), length-four (length bytes), length-four (crc32 bytes))

pub ruleset lengths = (length-append, length-two, length-four, length-eight, length-counted)
