-- The canonical spelling of a number is a varint of it, and none is shorter.
use Rattle.std.proofs.Common.{◌≡◌, ℕ, zero, suc, ◌+◌, ◌-◌, ◌*◌, ◌/◌, ◌%◌, ◌^◌, ◌<◌, ◌≤◌, true, false, cond, ltb, List, [], ◌∷◌, ◌++◌, length, refl, sym, ap, subst, ◌∙◌, append_assoc, append-nil, take, arith, inl, inr}
use Rattle.std.proofs.lemmas.Bool.{lt-ltb, le-ltb, cases_lt}
use Rattle.std.proofs.lemmas.Nat.{pow-add, pow_below}
use Rattle.std.proofs.lemmas.List.{length-set}
use Rattle.std.proofs.Math.Seq.{take-suc-set}
use Rattle.std.proofs.Math.ListN.{set}
use Rattle.std.specs.Prelude.{Result, Ok, Err, is_ok, OnOk}
use Rattle.spk_protobuf.specs.Grammar.{Bytes, AreGroups, IsVarint, IsField}
use Rattle.spk_protobuf.specs.Spelling.{groups_of, varint, bytes_field}
use Rattle.spk_protobuf.proofs.Groups.{AreGroups-more}

groups_of-length : (k n : ℕ) → length (groups_of k n) ≤ suc k
unfolding groups_of
groups_of-length zero n = omega arith
groups_of-length (suc k) n =
    elim (cases_lt n 128) [
      | inl lt ↦ let t : ltb n 128 ≡ true = lt-ltb _ _ lt in rw t (omega arith)
      | inr le ↦ let t : ltb n 128 ≡ false = le-ltb _ _ le in rw t (omega (arith, groups_of-length k (n / 128)))
    ]

-- a number below 128 is its own varint
pub varint_small : (n : ℕ) → n < 128 → varint n ≡ n ∷ []
unfolding varint groups_of
varint_small n below = ap (λ b. cond b (n ∷ []) ((n % 128 + 128) ∷ groups_of 8 (n / 128))) (lt-ltb n 128 below)

groups_of-are : (k n : ℕ) → n < 128 ^ suc k → AreGroups (groups_of k n) n
unfolding groups_of
groups_of-are zero n lt = (omega arith, refl)
groups_of-are (suc k) n lt =
    elim (cases_lt n 128) [
      | inl below ↦ let t : ltb n 128 ≡ true = lt-ltb _ _ below in rw t (below, refl)
      | inr le ↦
          let t : ltb n 128 ≡ false = le-ltb _ _ le in
          let product : 128 ^ suc (suc k) ≡ 128 * 128 ^ suc k = power (suc k) in
          let high : n / 128 < 128 ^ suc k = omega (arith, lt, product) in
          rw t (AreGroups-more (n % 128 + 128) (groups_of k (n / 128)) (n / 128) n (omega arith) (omega arith) (groups_of-are k (n / 128) high))
    ]
  where
    power : (j : ℕ) → 128 ^ suc j ≡ 128 * 128 ^ j
    power j = omega arith

pub varint_is : (n : ℕ) → n < 2 ^ 64 → IsVarint (varint n) n
unfolding varint
varint_is n lt =
    let groups : AreGroups (groups_of 9 n) n = groups_of-are 9 n (omega arith) in
    (groups_of-length 9 n, n, groups, omega arith)

-- ---- none is shorter

groups_below : (text : List ℕ) (n : ℕ) → AreGroups text n → n < 128 ^ length text
groups_below [] n h = absurd h
groups_below (b ∷ []) n h = omega (arith, h.0, h.1)
groups_below (b ∷ c ∷ bs) n h =
    let high = groups_below (c ∷ bs) h.1 h.3 in
    let product : 128 ^ suc (length (c ∷ bs)) ≡ 128 * 128 ^ length (c ∷ bs) = power (length (c ∷ bs)) in
    let below : b % 128 < 128 = omega arith in
    omega (arith, high, product, below, h.2)
  where
    power : (j : ℕ) → 128 ^ suc j ≡ 128 * 128 ^ j
    power j = omega arith

groups_short : (k n m : ℕ) → n < 128 ^ suc m → length (groups_of k n) ≤ suc m
unfolding groups_of
groups_short zero n m lt = omega arith
groups_short (suc k) n m lt =
    elim (cases_lt n 128) [
      | inl below ↦ let t : ltb n 128 ≡ true = lt-ltb _ _ below in rw t (omega arith)
      | inr le ↦ let t : ltb n 128 ≡ false = le-ltb _ _ le in rw t (more m lt le (λ j below. groups_short k (n / 128) j below))
    ]
  where
    more : (m : ℕ) → n < 128 ^ suc m → 128 ≤ n → ((j : ℕ) → n / 128 < 128 ^ suc j → length (groups_of k (n / 128)) ≤ suc j) → suc (length (groups_of k (n / 128))) ≤ suc m
    more zero lt le go = absurd (omega arith)
    more (suc j) lt le go =
        let product : 128 ^ suc (suc j) ≡ 128 * 128 ^ suc j = omega arith in
        let high : n / 128 < 128 ^ suc j = omega (arith, lt, product) in
        omega (arith, go j high)

pub varint_shortest : (n : ℕ) (text : List ℕ) → IsVarint text n → length (varint n) ≤ length text
unfolding varint
varint_shortest n [] h = absurd h.2
varint_shortest n (b ∷ bs) h =
    let below = groups_below (b ∷ bs) h.1 h.2 in
    let n_is : n ≡ h.1 % 2 ^ 64 = h.3 in
    let small : n ≤ h.1 = omega (arith, n_is) in
    groups_short 9 n (length bs) (omega (arith, below, small))

-- a number of more groups has a longer varint
groups_long : (k n m : ℕ) → m ≤ k → 128 ^ m ≤ n → suc m ≤ length (groups_of k n)
unfolding groups_of
groups_long zero n m le ge = omega arith
groups_long (suc k) n zero le ge =
    elim (cases_lt n 128) [
      | inl below ↦ let t : ltb n 128 ≡ true = lt-ltb _ _ below in rw t (omega arith)
      | inr above ↦ let t : ltb n 128 ≡ false = le-ltb _ _ above in rw t (omega arith)
    ]
groups_long (suc k) n (suc j) le ge =
    let product : 128 ^ suc j ≡ 128 * 128 ^ j = omega arith in
    let positive : 0 < 128 ^ j = pow_positive j in
    let above : 128 ≤ n = omega (arith, ge, product, positive) in
    let high : 128 ^ j ≤ n / 128 = omega (arith, ge, product) in
    let t : ltb n 128 ≡ false = le-ltb _ _ above in
    rw t (omega (arith, groups_long k (n / 128) j (omega arith) high))
  where
    pow_positive : (i : ℕ) → 0 < 128 ^ i
    pow_positive zero = omega arith
    pow_positive (suc i) = let product : 128 ^ suc i ≡ 128 * 128 ^ i = omega arith in omega (arith, product, pow_positive i)

-- a number of so many bits has a group for each seven of them
pub size_by_bits : (n j : ℕ) → j < 64 → 2 ^ j ≤ n → n < 2 * 2 ^ j → j / 7 + 1 ≡ length (varint n)
unfolding varint
size_by_bits n j short least most =
    let power : 128 ^ (j / 7) ≡ 2 ^ (7 * (j / 7)) = pow_of (j / 7) in
    let next : 128 ^ suc (j / 7) ≡ 2 ^ (7 * suc (j / 7)) = pow_of (suc (j / 7)) in
    let low : 2 ^ (7 * (j / 7)) ≤ 2 ^ j = pow_le (7 * (j / 7)) j (omega arith) in
    let high : 2 ^ suc j ≤ 2 ^ (7 * suc (j / 7)) = pow_le (suc j) (7 * suc (j / 7)) (omega arith) in
    let twice : 2 ^ suc j ≡ 2 * 2 ^ j = omega arith in
    let enough = groups_long 9 n (j / 7) (omega arith) (omega (arith, power, low, least)) in
    let few = groups_short 9 n (j / 7) (omega (arith, next, high, twice, most)) in
    omega (arith, enough, few)
  where
    pow_of : (i : ℕ) → 128 ^ i ≡ 2 ^ (7 * i)
    pow_of zero = refl
    pow_of (suc i) =
        let product : 128 ^ suc i ≡ 128 * 128 ^ i = omega arith in
        let sum : 7 * suc i ≡ 7 + 7 * i = omega arith in
        let split : 2 ^ (7 + 7 * i) ≡ 2 ^ 7 * 2 ^ (7 * i) = pow-add 2 7 (7 * i) in
        let before = pow_of i in
        rw sum (omega (arith, product, split, before))

    pow_le : (a b : ℕ) → a ≤ b → 2 ^ a ≤ 2 ^ b
    pow_le a b le =
        elim (cases_lt a b) [
          | inl lt ↦ let below : 2 ^ a < 2 ^ b = pow_below a b lt in omega (arith, below)
          | inr ge ↦ let same : a ≡ b = omega arith in rw same (omega arith)
        ]

-- ---- short varints, group by group

groups_more : (k n byte : ℕ) → 128 ≤ n → byte ≡ n % 128 + 128 → groups_of (suc k) n ≡ byte ∷ groups_of k (n / 128)
unfolding groups_of
groups_more k n byte le e = let t : ltb n 128 ≡ false = le-ltb _ _ le in rw (e, t) refl

groups_end : (k n : ℕ) → n < 128 → groups_of (suc k) n ≡ n ∷ []
unfolding groups_of
groups_end k n lt = let t : ltb n 128 ≡ true = lt-ltb _ _ lt in rw t refl

-- what was appended at once
pub appended : {E : Type 0} (r : Result (Unit {0}) E) (old new text : List ℕ) (n : ℕ) → varint n ≡ text → new ≡ cond (is_ok r) (old ++ text) old → OnOk r (new ≡ old ++ varint n)
appended (Err w) old new text n t e = tt
appended (Ok x) old new text n t e = e ∙ ap (λ (bytes : List ℕ). old ++ bytes) (sym t)

pub put-two : {E : Type 0} (r : Result (Unit {0}) E) (old new : List ℕ) (n a : ℕ) → 128 ≤ n → a ≡ n % 128 + 128 → n / 128 < 128
    → new ≡ cond (is_ok r) (old ++ a ∷ n / 128 ∷ []) old → OnOk r (new ≡ old ++ varint n)
unfolding varint
put-two r old new n a le_a is_a last e =
    let text : varint n ≡ a ∷ n / 128 ∷ [] = rw (groups_more 8 n a le_a is_a, groups_end 7 (n / 128) last) refl in
    appended r old new (a ∷ n / 128 ∷ []) n text e

pub put-three : {E : Type 0} (r : Result (Unit {0}) E) (old new : List ℕ) (n a b : ℕ) → 128 ≤ n → a ≡ n % 128 + 128 → 128 ≤ n / 128 → b ≡ n / 128 % 128 + 128 → n / 128 / 128 < 128
    → new ≡ cond (is_ok r) (old ++ a ∷ b ∷ n / 128 / 128 ∷ []) old → OnOk r (new ≡ old ++ varint n)
unfolding varint
put-three r old new n a b le_a is_a le_b is_b last e =
    let text : varint n ≡ a ∷ b ∷ n / 128 / 128 ∷ [] = rw (groups_more 8 n a le_a is_a, groups_more 7 (n / 128) b le_b is_b, groups_end 6 (n / 128 / 128) last) refl in
    appended r old new (a ∷ b ∷ n / 128 / 128 ∷ []) n text e

pub put-four : {E : Type 0} (r : Result (Unit {0}) E) (old new : List ℕ) (n a b c : ℕ) → 128 ≤ n → a ≡ n % 128 + 128 → 128 ≤ n / 128 → b ≡ n / 128 % 128 + 128 → 128 ≤ n / 128 / 128 → c ≡ n / 128 / 128 % 128 + 128 → n / 128 / 128 / 128 < 128
    → new ≡ cond (is_ok r) (old ++ a ∷ b ∷ c ∷ n / 128 / 128 / 128 ∷ []) old → OnOk r (new ≡ old ++ varint n)
unfolding varint
put-four r old new n a b c le_a is_a le_b is_b le_c is_c last e =
    let text : varint n ≡ a ∷ b ∷ c ∷ n / 128 / 128 / 128 ∷ [] = rw (groups_more 8 n a le_a is_a, groups_more 7 (n / 128) b le_b is_b, groups_more 6 (n / 128 / 128) c le_c is_c, groups_end 5 (n / 128 / 128 / 128) last) refl in
    appended r old new (a ∷ b ∷ c ∷ n / 128 / 128 / 128 ∷ []) n text e

pub put-five : {E : Type 0} (r : Result (Unit {0}) E) (old new : List ℕ) (n a b c d : ℕ) → 128 ≤ n → a ≡ n % 128 + 128 → 128 ≤ n / 128 → b ≡ n / 128 % 128 + 128 → 128 ≤ n / 128 / 128 → c ≡ n / 128 / 128 % 128 + 128 → 128 ≤ n / 128 / 128 / 128 → d ≡ n / 128 / 128 / 128 % 128 + 128 → n / 128 / 128 / 128 / 128 < 128
    → new ≡ cond (is_ok r) (old ++ a ∷ b ∷ c ∷ d ∷ n / 128 / 128 / 128 / 128 ∷ []) old → OnOk r (new ≡ old ++ varint n)
unfolding varint
put-five r old new n a b c d le_a is_a le_b is_b le_c is_c le_d is_d last e =
    let text : varint n ≡ a ∷ b ∷ c ∷ d ∷ n / 128 / 128 / 128 / 128 ∷ [] = rw (groups_more 8 n a le_a is_a, groups_more 7 (n / 128) b le_b is_b, groups_more 6 (n / 128 / 128) c le_c is_c, groups_more 5 (n / 128 / 128 / 128) d le_d is_d, groups_end 4 (n / 128 / 128 / 128 / 128) last) refl in
    appended r old new (a ∷ b ∷ c ∷ d ∷ n / 128 / 128 / 128 / 128 ∷ []) n text e

pub put-six : {E : Type 0} (r : Result (Unit {0}) E) (old new : List ℕ) (n a b c d e : ℕ) → 128 ≤ n → a ≡ n % 128 + 128 → 128 ≤ n / 128 → b ≡ n / 128 % 128 + 128 → 128 ≤ n / 128 / 128 → c ≡ n / 128 / 128 % 128 + 128 → 128 ≤ n / 128 / 128 / 128 → d ≡ n / 128 / 128 / 128 % 128 + 128 → 128 ≤ n / 128 / 128 / 128 / 128 → e ≡ n / 128 / 128 / 128 / 128 % 128 + 128 → n / 128 / 128 / 128 / 128 / 128 < 128
    → new ≡ cond (is_ok r) (old ++ a ∷ b ∷ c ∷ d ∷ e ∷ n / 128 / 128 / 128 / 128 / 128 ∷ []) old → OnOk r (new ≡ old ++ varint n)
unfolding varint
put-six r old new n a b c d e le_a is_a le_b is_b le_c is_c le_d is_d le_e is_e last made =
    let text : varint n ≡ a ∷ b ∷ c ∷ d ∷ e ∷ n / 128 / 128 / 128 / 128 / 128 ∷ [] = rw (groups_more 8 n a le_a is_a, groups_more 7 (n / 128) b le_b is_b, groups_more 6 (n / 128 / 128) c le_c is_c, groups_more 5 (n / 128 / 128 / 128) d le_d is_d, groups_more 4 (n / 128 / 128 / 128 / 128) e le_e is_e, groups_end 3 (n / 128 / 128 / 128 / 128 / 128) last) refl in
    appended r old new (a ∷ b ∷ c ∷ d ∷ e ∷ n / 128 / 128 / 128 / 128 / 128 ∷ []) n text made

-- ---- length-delimited fields

pub bytes_field-is : (number : ℕ) (bytes : List ℕ) → 0 < number → number < 2 ^ 61 → length bytes < 2 ^ 64 → IsField (bytes_field number bytes) (record { number = number; shape = Bytes bytes })
unfolding bytes_field
bytes_field-is number bytes positive below short =
    let whole : (number * 8 + 2) % 2 ^ 64 ≡ number * 8 + 2 = omega arith in
    let tag : IsVarint (varint ((number * 8 + 2) % 2 ^ 64)) (number * 8 + 2) = rw whole (varint_is (number * 8 + 2) (omega arith)) in
    (positive, varint ((number * 8 + 2) % 2 ^ 64), varint (length bytes) ++ bytes, tag, (varint (length bytes), varint_is (length bytes) short, refl), append_assoc (varint ((number * 8 + 2) % 2 ^ 64)) (varint (length bytes)) bytes)

-- ---- the loop that spells a number: the groups so far, with those of what is left, are the whole

pub shrinks : (i rest : ℕ) → i < 9 → rest < 2 ^ (64 - 7 * i) → rest / 128 < 2 ^ (64 - 7 * (i + 1))
shrinks i rest lt below =
    let k : 64 - 7 * i ≡ 64 - 7 * (i + 1) + 7 = omega arith in
    let product : 2 ^ (64 - 7 * (i + 1) + 7) ≡ 2 ^ (64 - 7 * (i + 1)) * 2 ^ 7 = pow-add 2 (64 - 7 * (i + 1)) 7 in
    let split : rest < 2 ^ (64 - 7 * (i + 1)) * 128 = omega (arith, below, ap (λ (j : ℕ). 2 ^ j) k, product) in
    omega (arith, split)

pub one_more : (i rest number : ℕ) (so_far : List ℕ) → i < 9 → 128 ≤ rest → so_far ++ groups_of (9 - i) rest ≡ varint number → (so_far ++ (rest % 128 + 128) ∷ []) ++ groups_of (9 - (i + 1)) (rest / 128) ≡ varint number
unfolding groups_of
one_more i rest number so_far lt le e =
    let k : 9 - i ≡ suc (9 - (i + 1)) = omega arith in
    let t : ltb rest 128 ≡ false = le-ltb _ _ le in
    let one : groups_of (9 - i) rest ≡ (rest % 128 + 128) ∷ groups_of (9 - (i + 1)) (rest / 128) = rw (k, t) refl in
    append_assoc so_far ((rest % 128 + 128) ∷ []) (groups_of (9 - (i + 1)) (rest / 128)) ∙ ap (λ (x : List ℕ). so_far ++ x) (sym one) ∙ e

pub last_one : (i rest number : ℕ) (so_far : List ℕ) → i < 9 → rest < 128 → so_far ++ groups_of (9 - i) rest ≡ varint number → so_far ++ rest ∷ [] ≡ varint number
unfolding groups_of
last_one i rest number so_far lt below e =
    let k : 9 - i ≡ suc (9 - (i + 1)) = omega arith in
    let t : ltb rest 128 ≡ true = lt-ltb _ _ below in
    let one : groups_of (9 - i) rest ≡ rest ∷ [] = rw (k, t) refl in
    ap (λ (x : List ℕ). so_far ++ x) (sym one) ∙ e

pub tenth : (i rest number : ℕ) (so_far : List ℕ) → 9 ≤ i → so_far ++ groups_of (9 - i) rest ≡ varint number → so_far ++ rest ∷ [] ≡ varint number
unfolding groups_of
tenth i rest number so_far le e =
    let k : 9 - i ≡ 0 = omega arith in
    let one : groups_of (9 - i) rest ≡ rest ∷ [] = rw k refl in
    ap (λ (x : List ℕ). so_far ++ x) (sym one) ∙ e

pub varint-groups : (n : ℕ) → groups_of (9 - 0) n ≡ varint n
unfolding varint
varint-groups n = refl

-- ---- the loop that appends them

-- what was appended so far, with the groups of what is left, is the whole
pub record Put (old items : List ℕ) (i rest number : ℕ) : Type 0 where
  pub so_far : List ℕ
  pub grown : items ≡ old ++ so_far
  pub whole : so_far ++ groups_of (9 - i) rest ≡ varint number
  pub below : rest < 2 ^ (64 - 7 * i)

pub put-init : (old : List ℕ) (number : ℕ) → number < 2 ^ 64 → Put old old 0 number number
put-init old number below = record { so_far = []; grown = sym (append-nil old); whole = varint-groups number; below = below }

pub put-more : (old items next : List ℕ) (i rest number : ℕ) → i < 9 → 128 ≤ rest → next ≡ items ++ (rest % 128 + 128) ∷ [] → Put old items i rest number → Put old next (i + 1) (rest / 128) number
put-more old items next i rest number lt le e p = record {
  so_far = p.so_far ++ (rest % 128 + 128) ∷ [];
  grown = e ∙ ap (λ (x : List ℕ). x ++ (rest % 128 + 128) ∷ []) p.grown ∙ append_assoc old p.so_far ((rest % 128 + 128) ∷ []);
  whole = one_more i rest number p.so_far lt le p.whole;
  below = shrinks i rest lt p.below;
}

put-all : (old items next : List ℕ) (i rest number : ℕ) → Put old items i rest number → ((so_far : List ℕ) → so_far ++ groups_of (9 - i) rest ≡ varint number → so_far ++ rest ∷ [] ≡ varint number) → next ≡ items ++ rest ∷ [] → next ≡ old ++ varint number
put-all old items next i rest number p ends e =
    e ∙ ap (λ (x : List ℕ). x ++ rest ∷ []) p.grown ∙ append_assoc old p.so_far (rest ∷ []) ∙ ap (λ (x : List ℕ). old ++ x) (ends p.so_far p.whole)

-- the front of an array in which the next byte was set
set-front : (bytes : List ℕ) (i byte : ℕ) → i < length bytes → take (i + 1) (set bytes i byte) ≡ take i bytes ++ byte ∷ []
set-front bytes i byte below =
    let n : i + 1 ≡ suc i = omega arith in
    rw n (take-suc-set bytes i byte below)

pub set-more : (bytes : List ℕ) (i rest number : ℕ) → i < 9 → 128 ≤ rest → length bytes ≡ 10 → Put [] (take i bytes) i rest number
    → record { size : length (set bytes i (rest % 128 + 128)) ≡ 10; put : Put [] (take (i + 1) (set bytes i (rest % 128 + 128))) (i + 1) (rest / 128) number }
set-more bytes i rest number lt le size p = record {
  size = length-set bytes i (rest % 128 + 128) ∙ size;
  put = put-more [] (take i bytes) (take (i + 1) (set bytes i (rest % 128 + 128))) i rest number lt le (set-front bytes i (rest % 128 + 128) (omega (arith, size))) p;
}

pub set-last : (bytes : List ℕ) (i rest number : ℕ) → i < 9 → rest < 128 → length bytes ≡ 10 → Put [] (take i bytes) i rest number → take (i + 1) (set bytes i rest) ≡ varint number
set-last bytes i rest number lt below size p =
    put-all [] (take i bytes) (take (i + 1) (set bytes i rest)) i rest number p (λ so_far. last_one i rest number so_far lt below) (set-front bytes i rest (omega (arith, size)))

pub set-tenth : (bytes : List ℕ) (i rest number : ℕ) → i ≤ 9 → 9 ≤ i → length bytes ≡ 10 → Put [] (take i bytes) i rest number → take 10 (set bytes 9 rest) ≡ varint number
set-tenth bytes i rest number le ge size p =
    let nine : i ≡ 9 = omega arith in
    let so_far : Put [] (take 9 bytes) 9 rest number = subst (λ (j : ℕ). Put [] (take j bytes) j rest number) nine p in
    put-all [] (take 9 bytes) (take 10 (set bytes 9 rest)) 9 rest number so_far (λ front. tenth 9 rest number front (omega arith)) (set-front bytes 9 rest (omega (arith, size)))

-- ---- what was appended

pub parts_are : {E : Type 0} (r : Result (Unit {0}) E) (old first second new bytes : List ℕ) (number : ℕ) → new ≡ cond (is_ok r) (second ++ bytes) second
    → second ≡ first ++ varint (length bytes) → first ≡ old ++ varint ((number * 8 % 2 ^ 64 + 2) % 2 ^ 64) → OnOk r (new ≡ old ++ bytes_field number bytes)
unfolding bytes_field
parts_are (Err w) old first second new bytes number n s f = tt
parts_are (Ok x) old first second new bytes number n s f =
    let tag : (number * 8 % 2 ^ 64 + 2) % 2 ^ 64 ≡ (number * 8 + 2) % 2 ^ 64 = omega arith in
    let regrouped : ((old ++ varint ((number * 8 + 2) % 2 ^ 64)) ++ varint (length bytes)) ++ bytes ≡ old ++ (varint ((number * 8 + 2) % 2 ^ 64) ++ varint (length bytes) ++ bytes) = simp append_assoc in
    n ∙ ap (λ (x : List ℕ). x ++ bytes) (s ∙ ap (λ (x : List ℕ). x ++ varint (length bytes)) (f ∙ ap (λ (t : ℕ). old ++ varint t) tag)) ∙ regrouped
