-- The loop that reads a varint: what was read so far, with the groups that are still to come, is the whole.
use Rattle.std.proofs.Common.{◌≡◌, ℕ, suc, ◌+◌, ◌-◌, ◌*◌, ◌%◌, ◌^◌, ◌<◌, ◌≤◌, ltb, true, false, List, [], ◌∷◌, length, Result, Ok, Err, refl, sym, ap, ◌∙◌, arith}
use Rattle.std.proofs.lemmas.Bool.{lt-ltb, le-ltb}
use Rattle.std.proofs.lemmas.Nat.{mul-mod_first}
use Rattle.spk_protobuf.specs.declared.fault.WireFault.{WireFault}
use Rattle.spk_protobuf.specs.declared.fault.WireFault.TheVariants.{Truncated, VarintTooLong}
use Rattle.spk_protobuf.specs.Reading.{◌>>=◌, groups_at, varint_at}
use Rattle.spk_protobuf.proofs.Groups.{done}

-- the low part, and the groups that weigh so much
abbrev pub with_low : ℕ → ℕ → Result (ℕ × List ℕ) WireFault → Result (ℕ × List ℕ) WireFault
with_low value weight read = read >>= λ high. Ok ((value + weight * high.0) % 2 ^ 64, high.1)

start : (read : Result (ℕ × List ℕ) WireFault) → with_low 0 1 read ≡ (read >>= λ whole. Ok (whole.0 % 2 ^ 64, whole.1))
start (Ok x) = let e : (0 + 1 * x.0) % 2 ^ 64 ≡ x.0 % 2 ^ 64 = ap (λ (n : ℕ). n % 2 ^ 64) (omega arith) in ap (λ (n : ℕ). done (n, x.1)) e
start (Err w) = refl

pub with_low-start : (bytes : List ℕ) → with_low 0 1 (groups_at (10 - 0) bytes) ≡ varint_at bytes
unfolding varint_at
with_low-start bytes = start (groups_at 10 bytes)

whole_is : (value weight low high : ℕ) → (value + weight * (low + 128 * high)) % 2 ^ 64 ≡ ((value + low * weight % 2 ^ 64) % 2 ^ 64 + weight * 128 % 2 ^ 64 * high) % 2 ^ 64
whole_is value weight low high =
    let products : weight * (low + 128 * high) ≡ low * weight + weight * 128 * high = regroup in
    let wrapped : (weight * 128 % 2 ^ 64 * high) % 2 ^ 64 ≡ (weight * 128 * high) % 2 ^ 64 = mul-mod_first (weight * 128) high (2 ^ 64) in
    rw products (sums value (low * weight) (weight * 128 * high) (weight * 128 % 2 ^ 64 * high) wrapped)
  where
    regroup : weight * (low + 128 * high) ≡ low * weight + weight * 128 * high
    regroup = omega arith

    sums : (v a b c : ℕ) → c % 2 ^ 64 ≡ b % 2 ^ 64 → (v + (a + b)) % 2 ^ 64 ≡ ((v + a % 2 ^ 64) % 2 ^ 64 + c) % 2 ^ 64
    sums v a b c h = omega arith

one : (value weight i b : ℕ) (after : List ℕ) → i < 10 → 128 ≤ b → with_low value weight (groups_at (10 - i) (b ∷ after)) ≡ with_low ((value + b % 128 * weight % 2 ^ 64) % 2 ^ 64) (weight * 128 % 2 ^ 64) (groups_at (10 - (i + 1)) after)
unfolding groups_at
one value weight i b after lt le =
    let k : 10 - i ≡ suc (10 - (i + 1)) = omega arith in
    let t : ltb b 128 ≡ false = le-ltb _ _ le in
    rw (k, t) (turn (groups_at (10 - (i + 1)) after))
  where
    turn : (r : Result (ℕ × List ℕ) WireFault) → with_low value weight (r >>= λ high. Ok (b % 128 + 128 * high.0, high.1)) ≡ with_low ((value + b % 128 * weight % 2 ^ 64) % 2 ^ 64) (weight * 128 % 2 ^ 64) r
    turn (Ok x) = ap (λ (n : ℕ). done (n, x.1)) (whole_is value weight (b % 128) x.0)
    turn (Err w) = refl

-- a byte that says that more follow
pub goes_on : (value weight i b low : ℕ) (rest after : List ℕ) (total : Result (ℕ × List ℕ) WireFault) → i < 10 → rest ≡ b ∷ after → 128 ≤ b → low ≡ b % 128 → with_low value weight (groups_at (10 - i) rest) ≡ total
    → with_low ((value + low * weight % 2 ^ 64) % 2 ^ 64) (weight * 128 % 2 ^ 64) (groups_at (10 - (i + 1)) after) ≡ total
goes_on value weight i b low rest after total lt e le low-is so_far =
    ap (λ (n : ℕ). with_low ((value + n * weight % 2 ^ 64) % 2 ^ 64) (weight * 128 % 2 ^ 64) (groups_at (10 - (i + 1)) after)) low-is ∙ sym (one value weight i b after lt le) ∙ ap (λ (x : List ℕ). with_low value weight (groups_at (10 - i) x)) (sym e) ∙ so_far

last : (value weight i b : ℕ) (after : List ℕ) → i < 10 → b < 128 → with_low value weight (groups_at (10 - i) (b ∷ after)) ≡ Ok ((value + b % 128 * weight % 2 ^ 64) % 2 ^ 64, after)
unfolding groups_at
last value weight i b after lt below =
    let k : 10 - i ≡ suc (10 - (i + 1)) = omega arith in
    let t : ltb b 128 ≡ true = lt-ltb _ _ below in
    let low : b % 128 ≡ b = omega arith in
    let product : weight * b ≡ b * weight = omega arith in
    let e : (value + weight * b) % 2 ^ 64 ≡ (value + b % 128 * weight % 2 ^ 64) % 2 ^ 64 = rw (low, product) (sums value (b * weight)) in
    rw (k, t) (ap (λ (n : ℕ). done (n, after)) e)
  where
    sums : (v a : ℕ) → (v + a) % 2 ^ 64 ≡ (v + a % 2 ^ 64) % 2 ^ 64
    sums v a = omega arith

-- the last byte
pub ends_with : (value weight i b low : ℕ) (rest after : List ℕ) (total : Result (ℕ × List ℕ) WireFault) → i < 10 → rest ≡ b ∷ after → b < 128 → low ≡ b % 128 → with_low value weight (groups_at (10 - i) rest) ≡ total
    → total ≡ Ok ((value + low * weight % 2 ^ 64) % 2 ^ 64, after)
ends_with value weight i b low rest after total lt e below low-is so_far =
    sym so_far ∙ ap (λ (x : List ℕ). with_low value weight (groups_at (10 - i) x)) e ∙ last value weight i b after lt below ∙ ap (λ (n : ℕ). done ((value + n * weight % 2 ^ 64) % 2 ^ 64, after)) (sym low-is)

-- no byte is left
pub ends_short : (value weight i : ℕ) (rest : List ℕ) (total : Result (ℕ × List ℕ) WireFault) → i < 10 → length rest ≡ 0 → with_low value weight (groups_at (10 - i) rest) ≡ total → total ≡ Err Truncated
unfolding groups_at
ends_short value weight i [] total lt none so_far =
    let k : 10 - i ≡ suc (10 - (i + 1)) = omega arith in
    let e : with_low value weight (groups_at (10 - i) []) ≡ Err Truncated = rw k refl in
    sym so_far ∙ e
ends_short value weight i (b ∷ bs) total lt none so_far = absurd (omega (arith, none))

-- ten bytes, and more to follow
pub ends_long : (value weight i : ℕ) (rest : List ℕ) (total : Result (ℕ × List ℕ) WireFault) → 10 ≤ i → with_low value weight (groups_at (10 - i) rest) ≡ total → total ≡ Err VarintTooLong
unfolding groups_at
ends_long value weight i rest total le so_far =
    let k : 10 - i ≡ 0 = omega arith in
    let e : with_low value weight (groups_at (10 - i) rest) ≡ Err VarintTooLong = rw k refl in
    sym so_far ∙ e
