-- How many numbers pass a test.
use Rattle.std.proofs.Common.{◌≡◌, ℕ, zero, suc, ◌+◌, ◌-◌, ◌<◌, ◌≤◌, ◌&&◌, Bool, true, false, cond, nat_lt, eqb, List, [], ◌∷◌, length, refl, sym, ◌∙◌, ap, arith, Option, Some, None, is_some}
use Rattle.std.specs.List.{range_with_len, count_by}
use Rattle.std.proofs.lemmas.List.Sums.{sum_by-cons}
use Rattle.std.proofs.lemmas.Bool.{lt-ltb, le-ltb, ne_eqb}
use Rattle.spk_sequence.specs.Data.{held_at}
use Rattle.spk_sequence.specs.Step.{ahead}
use Rattle.spk_sequence.specs.Numbers.{held_count}
use Rattle.spk_sequence.specs.Losses.{numbers_with}

-- 1 where it is so
abbrev pub one : Bool → ℕ
one b = cond b 1 0

-- of the numbers from a on, n of them
unfoldable pub passing : (ℕ → Bool) → ℕ → ℕ → ℕ
passing p a n = count_by p (range_with_len a n)

pub passing_none : (p : ℕ → Bool) (a : ℕ) → passing p a 0 ≡ 0
unfolding passing
passing_none p a = refl

pub passing_step : (p : ℕ → Bool) (a n : ℕ) → passing p a (suc n) ≡ one (p a) + passing p (a + 1) n
unfolding passing
passing_step p a n = sum_by-cons (λ x. cond (p x) 1 0) a (range_with_len (a + 1) n)

-- where each number adds as much to both sides
pub same_sums : (p q r s t : ℕ → Bool) (a n : ℕ) → ((x : ℕ) → a ≤ x → x < a + n → one (p x) + one (q x) ≡ one (r x) + one (s x) + one (t x)) →
    passing p a n + passing q a n ≡ passing r a n + passing s a n + passing t a n
same_sums p q r s t a zero h = omega (arith, passing_none p a, passing_none q a, passing_none r a, passing_none s a, passing_none t a)
same_sums p q r s t a (suc n) h =
    omega (
      arith,
      passing_step p a n,
      passing_step q a n,
      passing_step r a n,
      passing_step s a n,
      passing_step t a n,
      h a (omega arith) (omega arith),
      same_sums p q r s t (a + 1) n (λ x low high. h x (omega arith) (omega arith)),
    )

pub no_passing : (p : ℕ → Bool) (a n : ℕ) → ((x : ℕ) → a ≤ x → x < a + n → p x ≡ false) → passing p a n ≡ 0
no_passing p a zero h = passing_none p a
no_passing p a (suc n) h =
    omega (arith, passing_step p a n, ap one (h a (omega arith) (omega arith)), no_passing p (a + 1) n (λ x low high. h x (omega arith) (omega arith)))

pub all_passing : (p : ℕ → Bool) (a n : ℕ) → ((x : ℕ) → a ≤ x → x < a + n → p x ≡ true) → passing p a n ≡ n
all_passing p a zero h = passing_none p a
all_passing p a (suc n) h =
    omega (arith, passing_step p a n, ap one (h a (omega arith) (omega arith)), all_passing p (a + 1) n (λ x low high. h x (omega arith) (omega arith)))

-- the same numbers counted from elsewhere
pub moved_passing : (p q : ℕ → Bool) (a b n : ℕ) → ((i : ℕ) → i < n → p (a + i) ≡ q (b + i)) → passing p a n ≡ passing q b n
moved_passing p q a b zero h = passing_none p a ∙ sym (passing_none q b)
moved_passing p q a b (suc n) h =
    let first : p a ≡ q b = (let l : a ≡ a + 0 = omega arith in let r : b + 0 ≡ b = omega arith in ap p l ∙ h 0 (omega arith) ∙ ap q r) in
    let rest : passing p (a + 1) n ≡ passing q (b + 1) n = moved_passing p q (a + 1) (b + 1) n (λ i below.
    let l : a + 1 + i ≡ a + (i + 1) = omega arith in let r : b + (i + 1) ≡ b + 1 + i = omega arith in ap p l ∙ h (i + 1) (omega arith) ∙ ap q r) in
    omega (arith, passing_step p a n, passing_step q b n, ap one first, rest)

pub passing_parts : (p : ℕ → Bool) (a m n : ℕ) → passing p a (m + n) ≡ passing p a m + passing p (a + m) n
passing_parts p a zero n =
    let l : 0 + n ≡ n = omega arith in
    let r : a + 0 ≡ a = omega arith in
    omega (arith, passing_none p a, ap (passing p a) l, ap (λ b. passing p b n) r)
passing_parts p a (suc m) n =
    let l : suc m + n ≡ suc (m + n) = omega arith in
    let r : a + 1 + m ≡ a + suc m = omega arith in
    omega (arith, ap (passing p a) l, passing_step p a (m + n), passing_step p a m, passing_parts p (a + 1) m n, ap (λ b. passing p b n) r)

pub with_is : (p : ℕ → Bool) → numbers_with p ≡ passing p 0 256
unfolding numbers_with passing
with_is p = refl

-- ---- of all 256 numbers

pub with_sums : (p q r s t : ℕ → Bool) → ((x : ℕ) → x < 256 → one (p x) + one (q x) ≡ one (r x) + one (s x) + one (t x)) →
    numbers_with p + numbers_with q ≡ numbers_with r + numbers_with s + numbers_with t
with_sums p q r s t h =
    omega (arith, with_is p, with_is q, with_is r, with_is s, with_is t, same_sums p q r s t 0 256 (λ x low high. h x (omega arith)))

pub with_none : (p : ℕ → Bool) → ((x : ℕ) → x < 256 → p x ≡ false) → numbers_with p ≡ 0
with_none p h = with_is p ∙ no_passing p 0 256 (λ x low high. h x (omega arith))

pub with_same : (p q : ℕ → Bool) → ((x : ℕ) → x < 256 → p x ≡ q x) → numbers_with p ≡ numbers_with q
with_same p q h = with_is p ∙ moved_passing p q 0 0 256 (λ i below.
    let z : 0 + i ≡ i = omega arith in ap p z ∙ h i below ∙ ap q (sym z)) ∙ sym (with_is q)

-- counted by how far they are ahead of one of them
pub with_ahead : (q : ℕ → Bool) (a : ℕ) → a < 256 → numbers_with (λ x. q (ahead x a)) ≡ numbers_with q
with_ahead q a byte =
    let p : ℕ → Bool = λ x. q (ahead x a) in
    let n : ℕ = 256 - a in
    let pw : a + n ≡ 256 = omega arith in
    let qw : n + a ≡ 256 = omega arith in
    let low : passing p 0 a ≡ passing q (0 + n) a = moved_passing p q 0 (0 + n) a (λ i below. let e : ahead (0 + i) a ≡ 0 + n + i = omega arith in ap q e) in
    let high : passing p (0 + a) n ≡ passing q 0 n = moved_passing p q (0 + a) 0 n (λ i below. let e : ahead (0 + a + i) a ≡ 0 + i = omega arith in ap q e) in
    omega (arith, with_is p, with_is q, ap (passing p 0) pw, ap (passing q 0) qw, passing_parts p 0 a n, passing_parts q 0 n a, low, high)

-- those that are 1 to n - 1 ahead of a number
pub with_run : (a n : ℕ) → a < 256 → 0 < n → n ≤ 96 → numbers_with (λ x. nat_lt 0 (ahead x a) && nat_lt (ahead x a) n) + 1 ≡ n
with_run a n byte some few =
    let q : ℕ → Bool = λ d. nat_lt 0 d && nat_lt d n in
    let pw : 1 + (n - 1) ≡ n = omega arith in
    let nw : n + (256 - n) ≡ 256 = omega arith in
    let none : passing q 0 1 ≡ 0 = no_passing q 0 1 (λ x low high. let z : x ≡ 0 = omega arith in ap q z) in
    let all : passing q (0 + 1) (n - 1) ≡ n - 1 = all_passing q (0 + 1) (n - 1) (λ x low high. inside x n (omega arith) (omega arith)) in
    let past : passing q (0 + n) (256 - n) ≡ 0 = no_passing q (0 + n) (256 - n) (λ x low high. outside x n (omega arith)) in
    omega (arith, with_ahead q a byte, with_is q, ap (passing q 0) nw, passing_parts q 0 n (256 - n), ap (passing q 0) pw, passing_parts q 0 1 (n - 1), none, all, past)
  where
    inside : (x n : ℕ) → 0 < x → x < n → (nat_lt 0 x && nat_lt x n) ≡ true
    inside x n low high = rw (lt-ltb 0 x low, lt-ltb x n high) refl

    outside : (x n : ℕ) → n ≤ x → (nat_lt 0 x && nat_lt x n) ≡ false
    outside x n far = go (nat_lt 0 x) (nat_lt x n) (le-ltb x n far)
      where
        go : (b c : Bool) → c ≡ false → (b && c) ≡ false
        go true c e = e
        go false c e = refl

-- where a test passes one number alone
pub with_one : (p : ℕ → Bool) (a : ℕ) → a < 256 → ((x : ℕ) → x < 256 → eqb x a ≡ false → p x ≡ false) → numbers_with p ≡ one (p a)
with_one p a byte h =
    let nw : a + (1 + (255 - a)) ≡ 256 = omega arith in
    let z : 0 + a ≡ a = omega arith in
    let below : passing p 0 a ≡ 0 = no_passing p 0 a (λ x low high. h x (omega arith) (ne_eqb x a (λ e. absurd (omega arith)))) in
    let above : passing p (0 + a + 1) (255 - a) ≡ 0 = no_passing p (0 + a + 1) (255 - a) (λ x low high. h x (omega arith) (ne_eqb x a (λ e. absurd (omega arith)))) in
    omega (arith, with_is p, ap (passing p 0) nw, passing_parts p 0 a (1 + (255 - a)), passing_parts p (0 + a) 1 (255 - a), passing_step p (0 + a) 0, passing_none p (0 + a + 1), ap (λ x. one (p x)) z, below, above)

-- ---- places

pub places_counted : (held : List (Option (Option ℕ))) → passing (λ i. is_some (held_at held i)) 0 (length held) ≡ held_count held
unfolding held_count
places_counted [] = passing_none _ 0
places_counted (place ∷ places) =
    let at : 0 + 1 ≡ 1 = omega arith in
    omega (
      arith,
      passing_step (λ i. is_some (held_at (place ∷ places) i)) 0 (length places),
      moved_passing (λ i. is_some (held_at (place ∷ places) i)) (λ i. is_some (held_at places i)) (0 + 1) 0 (length places) (λ i below.
          let e : 0 + 1 + i ≡ suc (0 + i) = omega arith in ap (λ k. is_some (held_at (place ∷ places) k)) e),
      places_counted places,
      first place (held_count places),
    )
  where
    first : (o : Option (Option ℕ)) (n : ℕ) → cond (is_some o) (suc n) n ≡ one (is_some o) + n
    first None n = omega arith
    first (Some own) n = omega arith
