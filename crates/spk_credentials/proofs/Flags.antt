-- The connect flags.
use Rattle.std.proofs.Common.{◌≡◌, ℕ, ◌+◌, ◌*◌, ◌/◌, ◌%◌, ◌≤◌, Bool, true, false, nat_eq, arith, refl}
use Rattle.spk_packets.specs.Grammar.{bit}

is-one : (n : ℕ) → n ≡ 1 → nat_eq n 1 ≡ true
is-one n e = rw e refl

is-none : (n : ℕ) → n ≡ 0 → nat_eq n 1 ≡ false
is-none n e = rw e refl

pub user-bit : (u p c : Bool) (w : ℕ) → w ≤ 44 → nat_eq ((128 * bit u + 64 * bit p + w + 2 * bit c) / 128 % 2) 1 ≡ u
user-bit true true true w h = is-one _ (omega (arith, h))
user-bit true true false w h = is-one _ (omega (arith, h))
user-bit true false true w h = is-one _ (omega (arith, h))
user-bit true false false w h = is-one _ (omega (arith, h))
user-bit false true true w h = is-none _ (omega (arith, h))
user-bit false true false w h = is-none _ (omega (arith, h))
user-bit false false true w h = is-none _ (omega (arith, h))
user-bit false false false w h = is-none _ (omega (arith, h))

pub password-bit : (u p c : Bool) (w : ℕ) → w ≤ 44 → nat_eq ((128 * bit u + 64 * bit p + w + 2 * bit c) / 64 % 2) 1 ≡ p
password-bit true true true w h = is-one _ (omega (arith, h))
password-bit true true false w h = is-one _ (omega (arith, h))
password-bit true false true w h = is-none _ (omega (arith, h))
password-bit true false false w h = is-none _ (omega (arith, h))
password-bit false true true w h = is-one _ (omega (arith, h))
password-bit false true false w h = is-one _ (omega (arith, h))
password-bit false false true w h = is-none _ (omega (arith, h))
password-bit false false false w h = is-none _ (omega (arith, h))

-- without a will
pub no-will-bit : (u p c : Bool) → nat_eq ((128 * bit u + 64 * bit p + 0 + 2 * bit c) / 4 % 2) 1 ≡ false
no-will-bit true true true = refl
no-will-bit true true false = refl
no-will-bit true false true = refl
no-will-bit true false false = refl
no-will-bit false true true = refl
no-will-bit false true false = refl
no-will-bit false false true = refl
no-will-bit false false false = refl

-- with one, of this QoS
pub will-bit : (u p c r : Bool) (q : ℕ) → q ≤ 1 → nat_eq ((128 * bit u + 64 * bit p + (32 * bit r + 8 * q + 4) + 2 * bit c) / 4 % 2) 1 ≡ true
will-bit true true true true q h = is-one _ (omega (arith, h))
will-bit true true true false q h = is-one _ (omega (arith, h))
will-bit true true false true q h = is-one _ (omega (arith, h))
will-bit true true false false q h = is-one _ (omega (arith, h))
will-bit true false true true q h = is-one _ (omega (arith, h))
will-bit true false true false q h = is-one _ (omega (arith, h))
will-bit true false false true q h = is-one _ (omega (arith, h))
will-bit true false false false q h = is-one _ (omega (arith, h))
will-bit false true true true q h = is-one _ (omega (arith, h))
will-bit false true true false q h = is-one _ (omega (arith, h))
will-bit false true false true q h = is-one _ (omega (arith, h))
will-bit false true false false q h = is-one _ (omega (arith, h))
will-bit false false true true q h = is-one _ (omega (arith, h))
will-bit false false true false q h = is-one _ (omega (arith, h))
will-bit false false false true q h = is-one _ (omega (arith, h))
will-bit false false false false q h = is-one _ (omega (arith, h))

pub bits-small : (r : Bool) (q : ℕ) → q ≤ 1 → 32 * bit r + 8 * q + 4 ≤ 44
bits-small true q h = omega (arith, h)
bits-small false q h = omega (arith, h)
