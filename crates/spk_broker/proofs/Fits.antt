-- What can be written, by what refuses it, and that a packet with a shorter body fits where a longer one does.
use Rattle.std.proofs.Common.{◌≡◌, ℕ, ◌+◌, ◌≤◌, Bool, true, false, cond, List, [], ◌∷◌, length, None, refl, sym, arith, true≢false}
use Rattle.std.specs.Prelude.{nat_lt}
use Rattle.std.proofs.lemmas.Bool.{lt-ltb, le-ltb, ltb-true, ltb-false}
use Rattle.std.proofs.lemmas.List.{length-append}
use Rattle.spk_packets.specs.Fault.{first_of}
use Rattle.spk_packets.specs.Grammar.{largest}
use Rattle.spk_packets.specs.Message.{Message}
use Rattle.spk_packets.specs.Refusals.{Refusals}
use Rattle.spk_packets.specs.Spelling.{has_bad_text, has_bad_body, is_qos_two, body, shortest, spelling}
use Rattle.spk_packets.specs.declared.fault.PacketFault.{PacketFault}
use Rattle.spk_broker.specs.Sendable.{IsWritable}

-- none of the four refusals holds
pub record Fits (p : Message) : Type 0 where
  pub text : has_bad_text p ≡ false
  pub whole : has_bad_body p ≡ false
  pub qos : is_qos_two p ≡ false
  pub size : nat_lt largest (length (spelling p)) ≡ false

none-split : (b : Bool) (d : PacketFault) (rest : Refusals) → first_of ((b, d) ∷ rest) ≡ None → (b ≡ false) × (first_of rest ≡ None)
none-split false d rest e = (refl, e)
none-split true d rest e = absurd cc

none-join : (b : Bool) (d : PacketFault) (rest : Refusals) → b ≡ false → first_of rest ≡ None → first_of ((b, d) ∷ rest) ≡ None
none-join false d rest p e = e
none-join true d rest p e = absurd (true≢false p)

pub fits : (p : Message) → IsWritable p → Fits p
fits p w =
    let (a, x) = none-split _ _ _ w in
    let (b, y) = none-split _ _ _ x in
    let (c, z) = none-split _ _ _ y in
    let (d, u) = none-split _ _ _ z in
    record { text = a; whole = b; qos = c; size = d }

pub writable : (p : Message) → Fits p → IsWritable p
writable p f = none-join _ _ _ f.text (none-join _ _ _ f.whole (none-join _ _ _ f.qos (none-join _ _ [] f.size refl)))

-- ---- sizes

-- the bytes of a remaining length
abbrev width : Bool → Bool → Bool → ℕ
width a b c = cond a 1 (cond b 2 (cond c 3 4))

width-is : (n : ℕ) → length (shortest n) ≡ width (nat_lt n 128) (nat_lt n 16384) (nat_lt n 2097152)
unfolding shortest
width-is n = by (nat_lt n 128) (nat_lt n 16384) (nat_lt n 2097152) _ _ _ _ refl refl refl refl
  where
    by : (a b c : Bool) (x y z w : List ℕ) → length x ≡ 1 → length y ≡ 2 → length z ≡ 3 → length w ≡ 4 → length (cond a x (cond b y (cond c z w))) ≡ width a b c
    by true b c x y z w p q r s = p
    by false true c x y z w p q r s = q
    by false false true x y z w p q r s = r
    by false false false x y z w p q r s = s

wide : (a b c x y z : Bool) → (x ≡ true → a ≡ true) → (y ≡ true → b ≡ true) → (z ≡ true → c ≡ true) → width a b c ≤ width x y z
wide true b c true y z p q r = omega arith
wide true b c false true z p q r = omega arith
wide true b c false false true p q r = omega arith
wide true b c false false false p q r = omega arith
wide false b c true y z p q r = absurd (true≢false (sym (p refl)))
wide false true c false true z p q r = omega arith
wide false true c false false true p q r = omega arith
wide false true c false false false p q r = omega arith
wide false false c false true z p q r = absurd (true≢false (sym (q refl)))
wide false false true false false true p q r = omega arith
wide false false true false false false p q r = omega arith
wide false false false false false true p q r = absurd (true≢false (sym (r refl)))
wide false false false false false false p q r = omega arith

below : (n m k : ℕ) → n ≤ m → nat_lt m k ≡ true → nat_lt n k ≡ true
below n m k h e = lt-ltb n k (omega (arith, h, ltb-true m k e))

shortest-mono : (n m : ℕ) → n ≤ m → length (shortest n) ≤ length (shortest m)
shortest-mono n m h =
    omega (arith, width-is n, width-is m, wide (nat_lt n 128) (nat_lt n 16384) (nat_lt n 2097152) (nat_lt m 128) (nat_lt m 16384) (nat_lt m 2097152) (below n m 128 h) (below n m 16384 h) (below n m 2097152 h))

width-small : (a b c : Bool) → width a b c ≤ 4
width-small true b c = omega arith
width-small false true c = omega arith
width-small false false true = omega arith
width-small false false false = omega arith

pub shortest-small : (n : ℕ) → length (shortest n) ≤ 4
shortest-small n = omega (arith, width-is n, width-small (nat_lt n 128) (nat_lt n 16384) (nat_lt n 2097152))

length-spelling : (p : Message) → length (spelling p) ≡ 1 + length (shortest (length (body p))) + length (body p)
unfolding spelling
length-spelling p = omega (arith, length-append (shortest (length (body p))) (body p))

-- a packet whose body is no longer
pub no-larger : (p q : Message) → length (body p) ≤ length (body q) → nat_lt largest (length (spelling q)) ≡ false → nat_lt largest (length (spelling p)) ≡ false
no-larger p q h e =
    le-ltb _ _ (omega (arith, length-spelling p, length-spelling q, h, shortest-mono (length (body p)) (length (body q)) h, ltb-false largest (length (spelling q)) e))

-- a packet with a short body
pub not-large : (p : Message) → length (body p) ≤ 200000 → nat_lt largest (length (spelling p)) ≡ false
not-large p h = le-ltb _ _ (omega (arith, length-spelling p, shortest-small (length (body p)), h))
