-- When a packet with a user name and a password is too large.
use Rattle.std.proofs.Common.{◌≡◌, ◌∙◌, sym, ap, refl, ℕ, ◌+◌, ◌-◌, ◌*◌, ◌<◌, ◌≤◌, Bool, true, false, not, nat_lt, nat_le, List, [], ◌∷◌, ◌++◌, length, length-append, length-take, length-drop, take, drop, Option, arith}
use Rattle.std.proofs.lemmas.Bool.{leb-false, leb-true, ltb-true, ltb-false, lt-ltb}
use Rattle.spk_packets.specs.Spelling.{counted, shortest}
use Rattle.spk_login.specs.Bytes.{body_with, fits, password_part}
use Rattle.spk_login.proofs.Lengths.{not_less, one, three, two}

-- how long the remaining length is near the limit
header : (n : ℕ) → n < 2097152 → (1 + (length (shortest n) + n) ≤ 1048576 → n ≤ 1048572) × (n ≤ 1048572 → 1 + (length (shortest n) + n) ≤ 1048576)
header n small = go (nat_lt n 128) (nat_lt n 16384) refl refl
  where
    go : (a b : Bool) → nat_lt n 128 ≡ a → nat_lt n 16384 ≡ b → (1 + (length (shortest n) + n) ≤ 1048576 → n ≤ 1048572) × (n ≤ 1048572 → 1 + (length (shortest n) + n) ≤ 1048576)
    go true b ea eb = let lt = ltb-true n 128 ea in let l = ap length (one n lt) in ((λ h. omega (arith, lt)), (λ h. omega (arith, lt, l)))
    go false true ea eb = let ge = ltb-false n 128 ea in let lt = ltb-true n 16384 eb in let l = ap length (two n ge lt) in ((λ h. omega (arith, lt)), (λ h. omega (arith, lt, l)))
    go false false ea eb = let ge = ltb-false n 16384 eb in let l = ap length (three n ge small) in ((λ h. omega (arith, h, l)), (λ h. omega (arith, h, l)))

large : (n : ℕ) → 2097152 ≤ n → 1048576 < 1 + (length (shortest n) + n)
large n ge = omega (arith, ge)

pub with_both : (body user : List ℕ) (password : Option (List ℕ)) → 7 < length body → length (body_with body user password) ≡ length body + length (counted user ++ password_part password)
with_both body user password long =
    let more : List ℕ = counted user ++ password_part password in
    let a = length-append (take 7 body) ((Rattle.std.proofs.Common.get_or body 7 0 + (128 + Rattle.spk_login.specs.Bytes.password_flag password)) ∷ (drop 8 body ++ more)) in
    let b = length-append (drop 8 body) more in
    let first = length-take 7 body in
    let last = length-drop 8 body in
    omega (arith, long, a, b, first, last)

limit : (n total : ℕ) → total ≡ 1 + (length (shortest n) + n) → not (nat_lt 1048576 total) ≡ nat_le n 1048572
limit n total is = go (nat_le n 1048572) (nat_lt n 2097152) refl refl
  where
    low : nat_lt 1048576 total ≡ false → not (nat_lt 1048576 total) ≡ true
    low e = ap not e

    high : nat_lt 1048576 total ≡ true → not (nat_lt 1048576 total) ≡ false
    high e = ap not e

    go : (a b : Bool) → nat_le n 1048572 ≡ a → nat_lt n 2097152 ≡ b → not (nat_lt 1048576 total) ≡ a
    go true b ea eb =
        let le = leb-true n 1048572 ea in
        let fits = (header n (omega (arith, le))).1 le in
        low (not_less 1048576 total (omega (arith, is, fits)))
    go false true ea eb =
        let gt = leb-false n 1048572 ea in
        let lt = ltb-true n 2097152 eb in
        high (too_much (header n lt).0 gt)
      where
        too_much : (1 + (length (shortest n) + n) ≤ 1048576 → n ≤ 1048572) → 1048572 < n → nat_lt 1048576 total ≡ true
        too_much back gt = at (nat_lt 1048576 total) refl
          where
            at : (c : Bool) → nat_lt 1048576 total ≡ c → nat_lt 1048576 total ≡ true
            at true e = e
            at false e = let le = ltb-false 1048576 total e in let small = back (omega (arith, is, le)) in absurd (omega (arith, small, gt))
    go false false ea eb =
        let ge = ltb-false n 2097152 eb in
        let much = large n ge in
        high (lt-ltb 1048576 total (omega (arith, is, much)))

pub fitting : (body user : List ℕ) (password : Option (List ℕ)) (more : ℕ) → 7 < length body → more ≡ length (counted user ++ password_part password)
    → fits body user password ≡ nat_le (length body + more) 1048572
fitting body user password more long is =
    let n : ℕ = length (body_with body user password) in
    let a = length-append (shortest n) (body_with body user password) in
    let total : length (16 ∷ (shortest n ++ body_with body user password)) ≡ 1 + (length (shortest n) + n) = omega (arith, a) in
    let b = with_both body user password long in
    limit n (length (16 ∷ (shortest n ++ body_with body user password))) total ∙ ap (λ m. nat_le m 1048572) (b ∙ ap (λ m. length body + m) (sym is))
