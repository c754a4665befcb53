-- Aliases that one multiplication would lay in one chain, and the chains in which they stand; worked out apart from the code.
use Rattle.std.proofs.Common.{◌≡◌, ℕ, [], ◌∷◌, List, map, refl}
use Rattle.std.specs.Prelude.{◌*◌, ◌%◌, ◌^◌}
use Rattle.std.specs.Hash.{le_bytes}
use Rattle.std.specs.Hash.FoldHasher.{folded_multiply, initial, read_short, read_u32, write}
use Rattle.std.specs.List.{range_with_len}
use Rattle.spk_view.specs.Keyed.{chain_of, spread_of}

-- the multiples of the inverse of 2^64 over the golden ratio
abbrev multiple : ℕ → ℕ
multiple k = (k * 0xf1de_83e1_9937_733d) % (2 ^ 64)

abbrev sixteen : List ℕ
sixteen = range_with_len 0 16

their-chains : map (λ k. chain_of 16 (multiple k)) sixteen
    ≡ 0 ∷ 8 ∷ 12 ∷ 13 ∷ 8 ∷ 0 ∷ 0 ∷ 9 ∷ 10 ∷ 6 ∷ 8 ∷ 3 ∷ 1 ∷ 11 ∷ 7 ∷ 1 ∷ []
unfolding chain_of spread_of write initial read_short read_u32 folded_multiply le_bytes
their-chains = refl
