-- Eight steps at once: the table says them for a byte, and the bits above it are moved down.
use Rattle.std.proofs.Common.{◌≡◌, ℕ, zero, suc, ◌+◌, ◌*◌, ◌/◌, ◌%◌, ◌^◌, ◌<◌, ◌≤◌, ◌-◌, eqb, cond, Bool, true, false, List, [], ◌∷◌, length, take, drop, fold, get_or, refl, sym, ap, ◌∙◌, arith, add_comm}
use Rattle.std.specs.Prelude.{◌&&◌, bit_and, bit_xor}
use Rattle.std.specs.Int.Bits.{xor_assoc, xor_self, xor_zero_l, xor_zero_r}
use Rattle.std.proofs.lemmas.Nat.{and_mask, pow_pos, xor_block, xor_comm, xor_mod, xor_shr}
use Rattle.std.proofs.lemmas.Bool.{eqb-true}
use Rattle.std.proofs.lemmas.List.{take_rest}
use Rattle.spk_frames.specs.Sum.{eight_steps, four_times, one_byte, step}
use Rattle.spk_frames.specs.declared.table.TheConstants.{TABLE, TABLE_2, TABLE_3, TABLE_4}

-- ---- the table, by working it out

abbrev are_rows_from : (ℕ → ℕ) → ℕ → List ℕ → Bool
are_rows_from f q [] = true
are_rows_from f q (t ∷ ts) = eqb t (f q) && are_rows_from f (suc q) ts

left_of : (a b : Bool) → (a && b) ≡ true → a ≡ true
left_of true b e = refl
left_of false b e = absurd cc

right_of : (a b : Bool) → (a && b) ≡ true → b ≡ true
right_of true b e = e
right_of false b e = absurd cc

row : (f : ℕ → ℕ) (ts : List ℕ) (q i j : ℕ) → are_rows_from f q ts ≡ true → i < length ts → j ≡ q + i → get_or ts i 0 ≡ f j
row f [] q i j h l e = absurd (omega arith)
row f (t ∷ ts) q zero j h l e = let s : q ≡ j = omega arith in eqb-true t (f q) (left_of _ _ h) ∙ ap f s
row f (t ∷ ts) q (suc i) j h l e = row f ts (suc q) i j (right_of (eqb t (f q)) _ h) (omega arith) (omega arith)

abbrev twice_eight : ℕ → ℕ
twice_eight n = eight_steps (eight_steps n)

abbrev thrice_eight : ℕ → ℕ
thrice_eight n = eight_steps (eight_steps (eight_steps n))

are_rows : are_rows_from eight_steps 0 TABLE ≡ true
unfolding eight_steps
are_rows = refl

are_rows_2 : are_rows_from twice_eight 0 TABLE_2 ≡ true
unfolding eight_steps
are_rows_2 = refl

are_rows_3 : are_rows_from thrice_eight 0 TABLE_3 ≡ true
unfolding eight_steps
are_rows_3 = refl

are_rows_4 : are_rows_from four_times 0 TABLE_4 ≡ true
unfolding eight_steps
are_rows_4 = refl

pub table_at : (q : ℕ) → q < 256 → get_or TABLE q 0 ≡ eight_steps q
table_at q h = row eight_steps TABLE 0 q q are_rows (omega arith) (omega arith)

table_2_at : (q : ℕ) → q < 256 → get_or TABLE_2 q 0 ≡ twice_eight q
table_2_at q h = row twice_eight TABLE_2 0 q q are_rows_2 (omega arith) (omega arith)

table_3_at : (q : ℕ) → q < 256 → get_or TABLE_3 q 0 ≡ thrice_eight q
table_3_at q h = row thrice_eight TABLE_3 0 q q are_rows_3 (omega arith) (omega arith)

table_4_at : (q : ℕ) → q < 256 → get_or TABLE_4 q 0 ≡ four_times q
table_4_at q h = row four_times TABLE_4 0 q q are_rows_4 (omega arith) (omega arith)

-- ---- a step of two numbers over each other

-- the order of three
swapped : (p x y : ℕ) → bit_xor p (bit_xor x y) ≡ bit_xor x (bit_xor p y)
swapped p x y = sym (xor_assoc p x y) ∙ ap (λ n. bit_xor n y) (xor_comm p x) ∙ xor_assoc x p y

-- one that is there twice goes
gone : (p x y : ℕ) → bit_xor (bit_xor p x) (bit_xor p y) ≡ bit_xor x y
gone p x y =
    xor_assoc p x (bit_xor p y) ∙ ap (bit_xor p) (swapped x p y) ∙ sym (xor_assoc p p (bit_xor x y)) ∙ ap (λ n. bit_xor n (bit_xor x y)) (xor_self p) ∙ xor_zero_l (bit_xor x y)

mix : (p m n x y : ℕ) → m < 2 → n < 2
    → cond (eqb (bit_xor m n) 1) (bit_xor p (bit_xor x y)) (bit_xor x y) ≡ bit_xor (cond (eqb m 1) (bit_xor p x) x) (cond (eqb n 1) (bit_xor p y) y)
mix p zero zero x y l k = refl
mix p zero (suc zero) x y l k = swapped p x y
mix p zero (suc (suc n)) x y l k = absurd (omega arith)
mix p (suc zero) zero x y l k = sym (xor_assoc p x y)
mix p (suc zero) (suc zero) x y l k = sym (gone p x y)
mix p (suc zero) (suc (suc n)) x y l k = absurd (omega arith)
mix p (suc (suc m)) n x y l k = absurd (omega arith)

abbrev Mixes : (ℕ → ℕ) → Type 0
Mixes f = (a b : ℕ) → f (bit_xor a b) ≡ bit_xor (f a) (f b)

stepped : (a b m h : ℕ) → m ≡ bit_xor (a % 2) (b % 2) → h ≡ bit_xor (a / 2) (b / 2)
    → cond (eqb m 1) (bit_xor 0xedb8_8320 h) h ≡ bit_xor (step a) (step b)
stepped a b m h e f =
    ap (λ n. cond (eqb n 1) (bit_xor 0xedb8_8320 h) h) e
    ∙ ap (λ n. cond (eqb (bit_xor (a % 2) (b % 2)) 1) (bit_xor 0xedb8_8320 n) n) f
    ∙ mix 0xedb8_8320 (a % 2) (b % 2) (a / 2) (b / 2) (omega arith) (omega arith)

step_mixes : Mixes step
step_mixes a b = stepped a b (bit_xor a b % 2) (bit_xor a b / 2) (xor_mod a b 1) (xor_shr a b 1)

twice : (f : ℕ → ℕ) → Mixes f → Mixes (λ n. f (f n))
twice f m a b = ap f (m a b) ∙ m (f a) (f b)

eight_mixes : Mixes eight_steps
unfolding eight_steps
eight_mixes = twice (λ n. step (step (step (step n)))) (twice (λ n. step (step n)) (twice step step_mixes))

-- ---- bits above the byte

even : (m n : ℕ) → n ≡ m * 2 → step n ≡ m
even m n e =
    let rest : n % 2 ≡ 0 = omega arith in
    let half : n / 2 ≡ m = omega arith in
    ap (λ r. cond (eqb r 1) (bit_xor 0xedb8_8320 (n / 2)) (n / 2)) rest ∙ half

eight_high : (h : ℕ) → eight_steps (h * 256) ≡ h
unfolding eight_steps
eight_high h =
    ap (λ n. step (step (step (step (step (step (step n))))))) (even (h * 128) (h * 256) (omega arith))
    ∙ ap (λ n. step (step (step (step (step (step n)))))) (even (h * 64) (h * 128) (omega arith))
    ∙ ap (λ n. step (step (step (step (step n))))) (even (h * 32) (h * 64) (omega arith))
    ∙ ap (λ n. step (step (step (step n)))) (even (h * 16) (h * 32) (omega arith))
    ∙ ap (λ n. step (step (step n))) (even (h * 8) (h * 16) (omega arith))
    ∙ ap (λ n. step (step n)) (even (h * 4) (h * 8) (omega arith))
    ∙ ap step (even (h * 2) (h * 4) (omega arith))
    ∙ even h (h * 2) (omega arith)

parted : (x : ℕ) → bit_xor (x / 256 * 256) (x % 256) ≡ x
parted x =
    let a : x / 256 * 256 ≡ x / 256 * 2 ^ 8 + 0 = omega arith in
    let b : x % 256 ≡ 0 * 2 ^ 8 + x % 256 = omega arith in
    let low : x % 256 < 2 ^ 8 = omega arith in
    let whole : x / 256 * 2 ^ 8 + x % 256 ≡ x = omega arith in
    ap (λ n. bit_xor n (x % 256)) a ∙ ap (bit_xor (x / 256 * 2 ^ 8 + 0)) b
    ∙ xor_block 8 (x / 256) 0 0 (x % 256) (omega arith) low
    ∙ ap (λ n. n * 2 ^ 8 + bit_xor 0 (x % 256)) (xor_zero_r (x / 256)) ∙ ap (λ n. x / 256 * 2 ^ 8 + n) (xor_zero_l (x % 256)) ∙ whole

eight_of : (x : ℕ) → eight_steps x ≡ bit_xor (x / 256) (eight_steps (x % 256))
eight_of x =
    ap eight_steps (sym (parted x)) ∙ eight_mixes (x / 256 * 256) (x % 256) ∙ ap (λ n. bit_xor n (eight_steps (x % 256))) (eight_high (x / 256))

high : (n byte : ℕ) → byte < 256 → bit_xor n byte / 256 ≡ n / 256
high n byte lt =
    let none : byte / 256 ≡ 0 = omega arith in
    xor_shr n byte 8 ∙ ap (bit_xor (n / 256)) none ∙ xor_zero_r (n / 256)

-- what the table gives is the register behind one byte more
pub by_table : (n byte : ℕ) → byte < 256 → bit_xor (get_or TABLE (bit_and (bit_xor n byte) 255) 0) (n / 256) ≡ one_byte n byte
by_table n byte lt =
    let x = bit_xor n byte in
    let low : x % 256 < 256 = omega arith in
    ap (λ k. bit_xor (get_or TABLE k 0) (n / 256)) (and_mask x 8) ∙ ap (λ k. bit_xor k (n / 256)) (table_at (x % 256) low)
    ∙ xor_comm (eight_steps (x % 256)) (n / 256) ∙ ap (λ k. bit_xor k (eight_steps (x % 256))) (sym (high n byte lt)) ∙ sym (eight_of x)

-- ---- four bytes at a time

twice_of : (x : ℕ) → twice_eight x ≡ bit_xor (eight_steps (x / 256)) (twice_eight (x % 256))
twice_of x = ap eight_steps (eight_of x) ∙ eight_mixes (x / 256) (eight_steps (x % 256))

thrice_of : (x : ℕ) → thrice_eight x ≡ bit_xor (twice_eight (x / 256)) (thrice_eight (x % 256))
thrice_of x = ap twice_eight (eight_of x) ∙ twice eight_steps eight_mixes (x / 256) (eight_steps (x % 256))

thrice_mixes : Mixes thrice_eight
thrice_mixes a b = ap eight_steps (twice eight_steps eight_mixes a b) ∙ eight_mixes (twice_eight a) (twice_eight b)

four_of : (x : ℕ) → four_times x ≡ bit_xor (thrice_eight (x / 256)) (four_times (x % 256))
four_of x = ap thrice_eight (eight_of x) ∙ thrice_mixes (x / 256) (eight_steps (x % 256))

pub four_parts : (x : ℕ)
    → four_times x ≡ bit_xor (bit_xor (bit_xor (eight_steps (x / 256 / 256 / 256)) (twice_eight (x / 256 / 256 % 256))) (thrice_eight (x / 256 % 256))) (four_times (x % 256))
four_parts x =
    four_of x ∙ ap (λ n. bit_xor n (four_times (x % 256))) (thrice_of (x / 256))
    ∙ ap (λ n. bit_xor (bit_xor n (thrice_eight (x / 256 % 256))) (four_times (x % 256))) (twice_of (x / 256 / 256))

-- what the four tables give is 32 steps
pub by_tables : (x : ℕ) → x < 2 ^ 32
    → bit_xor (bit_xor (bit_xor (get_or TABLE (x / 2 ^ 24) 0) (get_or TABLE_2 (bit_and (x / 2 ^ 16) 255) 0)) (get_or TABLE_3 (bit_and (x / 2 ^ 8) 255) 0)) (get_or TABLE_4 (bit_and x 255) 0) ≡ four_times x
by_tables x lt =
    let top : x / 2 ^ 24 < 256 = omega arith in
    let first : x / 2 ^ 24 ≡ x / 256 / 256 / 256 = omega arith in
    let second : bit_and (x / 2 ^ 16) 255 ≡ x / 256 / 256 % 256 = and_mask (x / 2 ^ 16) 8 ∙ omega arith in
    let third : bit_and (x / 2 ^ 8) 255 ≡ x / 256 % 256 = and_mask (x / 2 ^ 8) 8 in
    let fourth : bit_and x 255 ≡ x % 256 = and_mask x 8 in
    let low_2 : x / 256 / 256 % 256 < 256 = omega arith in
    let low_3 : x / 256 % 256 < 256 = omega arith in
    let low_4 : x % 256 < 256 = omega arith in
    let a : get_or TABLE (x / 2 ^ 24) 0 ≡ eight_steps (x / 256 / 256 / 256) = table_at (x / 2 ^ 24) top ∙ ap eight_steps first in
    let b : get_or TABLE_2 (bit_and (x / 2 ^ 16) 255) 0 ≡ twice_eight (x / 256 / 256 % 256) = ap (λ k. get_or TABLE_2 k 0) second ∙ table_2_at (x / 256 / 256 % 256) low_2 in
    let c : get_or TABLE_3 (bit_and (x / 2 ^ 8) 255) 0 ≡ thrice_eight (x / 256 % 256) = ap (λ k. get_or TABLE_3 k 0) third ∙ table_3_at (x / 256 % 256) low_3 in
    let d : get_or TABLE_4 (bit_and x 255) 0 ≡ four_times (x % 256) = ap (λ k. get_or TABLE_4 k 0) fourth ∙ table_4_at (x % 256) low_4 in
    ap (λ k. bit_xor (bit_xor (bit_xor k (get_or TABLE_2 (bit_and (x / 2 ^ 16) 255) 0)) (get_or TABLE_3 (bit_and (x / 2 ^ 8) 255) 0)) (get_or TABLE_4 (bit_and x 255) 0)) a
    ∙ ap (λ k. bit_xor (bit_xor (bit_xor (eight_steps (x / 256 / 256 / 256)) k) (get_or TABLE_3 (bit_and (x / 2 ^ 8) 255) 0)) (get_or TABLE_4 (bit_and x 255) 0)) b
    ∙ ap (λ k. bit_xor (bit_xor (bit_xor (eight_steps (x / 256 / 256 / 256)) (twice_eight (x / 256 / 256 % 256))) k) (get_or TABLE_4 (bit_and x 255) 0)) c
    ∙ ap (bit_xor (bit_xor (bit_xor (eight_steps (x / 256 / 256 / 256)) (twice_eight (x / 256 / 256 % 256))) (thrice_eight (x / 256 % 256)))) d
    ∙ sym (four_parts x)

-- a byte that comes later stands higher before
later : (y b : ℕ) → bit_xor (eight_steps y) b ≡ eight_steps (bit_xor y (b * 256))
later y b = ap (bit_xor (eight_steps y)) (sym (eight_high b)) ∙ sym (eight_mixes y (b * 256))

beside : (k a b : ℕ) → a < 2 ^ k → bit_xor a (b * 2 ^ k) ≡ a + b * 2 ^ k
beside k a b lt =
    let x : a ≡ 0 * 2 ^ k + a = omega arith in
    let y : b * 2 ^ k ≡ b * 2 ^ k + 0 = omega arith in
    ap (λ n. bit_xor n (b * 2 ^ k)) x ∙ ap (bit_xor (0 * 2 ^ k + a)) y ∙ xor_block k 0 b a 0 lt (pow_pos k)
    ∙ ap (λ n. n * 2 ^ k + bit_xor a 0) (xor_zero_l b) ∙ ap (λ n. b * 2 ^ k + n) (xor_zero_r a) ∙ add_comm (b * 2 ^ k) a

word_of : (a b c d : ℕ) → a < 256 → b < 256 → c < 256 → bit_xor (bit_xor (bit_xor a (b * 256)) (c * 65536)) (d * 16777216) ≡ a + b * 256 + c * 65536 + d * 16777216
word_of a b c d la lb lc =
    ap (λ n. bit_xor (bit_xor n (c * 65536)) (d * 16777216)) (beside 8 a b la)
    ∙ ap (λ n. bit_xor n (d * 16777216)) (beside 16 (a + b * 256) c (omega arith))
    ∙ beside 24 (a + b * 256 + c * 65536) d (omega arith)

three_more : (n a b c d : ℕ) → bit_xor (bit_xor (bit_xor (bit_xor n a) (b * 256)) (c * 256 * 256)) (d * 256 * 256 * 256) ≡ bit_xor n (bit_xor (bit_xor (bit_xor a (b * 256)) (c * 256 * 256)) (d * 256 * 256 * 256))
three_more n a b c d =
    let p = b * 256 in
    let q = c * 256 * 256 in
    let r = d * 256 * 256 * 256 in
    ap (λ k. bit_xor (bit_xor k q) r) (xor_assoc n a p) ∙ ap (λ k. bit_xor k r) (xor_assoc n (bit_xor a p) q) ∙ xor_assoc n (bit_xor (bit_xor a p) q) r

-- four bytes, one by one, are 32 steps of them all
pub four_bytes : (n a b c d : ℕ) → a < 256 → b < 256 → c < 256 → one_byte (one_byte (one_byte (one_byte n a) b) c) d ≡ four_times (bit_xor n (a + b * 256 + c * 65536 + d * 16777216))
four_bytes n a b c d la lb lc =
    let y = bit_xor n a in
    let p = b * 256 in
    let q = c * 256 * 256 in
    let r = d * 256 * 256 * 256 in
    let q_is : c * 256 * 256 ≡ c * 65536 = omega arith in
    let r_is : d * 256 * 256 * 256 ≡ d * 16777216 = omega arith in
    ap (λ k. one_byte (one_byte (eight_steps k) c) d) (later y b)
    ∙ ap (λ k. one_byte (eight_steps k) d) (later (eight_steps (bit_xor y p)) c ∙ ap eight_steps (later (bit_xor y p) (c * 256)))
    ∙ ap eight_steps (later (twice_eight (bit_xor (bit_xor y p) q)) d ∙ ap eight_steps (later (eight_steps (bit_xor (bit_xor y p) q)) (d * 256) ∙ ap eight_steps (later (bit_xor (bit_xor y p) q) (d * 256 * 256))))
    ∙ ap four_times (three_more n a b c d ∙ ap (bit_xor n) (ap (λ k. bit_xor (bit_xor (bit_xor a p) k) r) q_is ∙ ap (bit_xor (bit_xor (bit_xor a p) (c * 65536))) r_is ∙ word_of a b c d la lb lc))

-- four bytes more, where bytes go on
pub four_on : (register word n : ℕ) (rest : List ℕ) → 4 ≤ length rest → get_or rest 0 0 < 256 → get_or rest 1 0 < 256 → get_or rest 2 0 < 256
    → word ≡ get_or rest 0 0 + get_or rest 1 0 * 256 + get_or rest 2 0 * 65536 + get_or rest 3 0 * 16777216 → n ≡ four_times (bit_xor register word)
    → fold one_byte n (take (length rest - 4) (drop 4 rest)) ≡ fold one_byte register rest
four_on register word n [] le la lb lc w is = absurd (omega arith)
four_on register word n (a ∷ []) le la lb lc w is = absurd (omega arith)
four_on register word n (a ∷ b ∷ []) le la lb lc w is = absurd (omega arith)
four_on register word n (a ∷ b ∷ c ∷ []) le la lb lc w is = absurd (omega arith)
four_on register word n (a ∷ b ∷ c ∷ d ∷ after) le la lb lc w is =
    ap (fold one_byte n) (take_rest (a ∷ b ∷ c ∷ d ∷ after) 4)
    ∙ ap (λ k. fold one_byte k after) (is ∙ ap (λ k. four_times (bit_xor register k)) w ∙ sym (four_bytes register a b c d la lb lc))
