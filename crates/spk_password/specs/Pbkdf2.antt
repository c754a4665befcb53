-- PBKDF2 with HMAC-SHA-256: its first block (RFC 8018, section 5.2).
use Rattle.std.specs.Prelude.{ℕ, zero, suc, ◌-◌, List, [], ◌∷◌, ◌++◌, map, get_or, bit_xor}
use Rattle.std.specs.List.{range_with_len}
use Rattle.spk_password.specs.Hmac.{hmac}

-- each byte of one turned by the other's
abbrev pub xored : List ℕ → List ℕ → List ℕ
xored xs ys = map (λ i. bit_xor (get_or xs i 0) (get_or ys i 0)) (range_with_len 0 32)

-- U of a round, from 0 on: of the salt with the number 1 of the block, and then of the one before
abbrev pub u_at : List ℕ → List ℕ → ℕ → List ℕ
u_at password salt zero = hmac password (salt ++ 0 ∷ 0 ∷ 0 ∷ 1 ∷ [])
u_at password salt (suc n) = hmac password (u_at password salt n)

-- all of them up to a round, turned by one another
abbrev pub sum_at : List ℕ → List ℕ → ℕ → List ℕ
sum_at password salt zero = u_at password salt zero
sum_at password salt (suc n) = xored (sum_at password salt n) (u_at password salt (suc n))

-- the block: without a round what one gives
abbrev pub derived : List ℕ → List ℕ → ℕ → List ℕ
derived password salt rounds = sum_at password salt (rounds - 1)
