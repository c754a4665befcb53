-- Sums over sessions, and over connections with their wills.
use Rattle.std.proofs.Common.{◌≡◌, ◌≢◌, ◌⊎◌, inl, inr, ℕ, ◌+◌, ◌≤◌, ◌==◌, Bool, true, false, not, ◌||◌, cond, List, [], ◌∷◌, ◌++◌, refl, sym, ap, ◌∙◌, arith, Option, Some, None}
use Rattle.std.specs.List.{find, AllByRecursion}
use Rattle.std.proofs.lemmas.Bool.{ne_eqb}
use Rattle.std.proofs.lemmas.Bool.Decides.{eqb_tells}
use Rattle.spk_session.specs.Step.{without}
use Rattle.spk_broker_rules.specs.Data.{AppMessage}

abbrev pub Told : ℕ → ℕ → Type 0
Told s t = (((s == t) ≡ true) × (s ≡ t)) ⊎ (((s == t) ≡ false) × (s ≢ t))

pub same : (k : ℕ) → (k == k) ≡ true
same k = is (eqb_tells k k)
  where
    is : Told k k → (k == k) ≡ true
    is (inl f) = f.0
    is (inr f) = absurd (f.1 refl)

pub none_some : {X Y : Type 0} (x : X) → None ≡ Some x → Y
none_some x e = absurd cc

pub is_the : {X : Type 0} (x y : X) → Some x ≡ Some y → x ≡ y
is_the x y e = cc

pub yes_no : {Y : Type 0} → true ≡ false → Y
yes_no e = absurd cc

abbrev pub bit : Bool → ℕ
bit true = 1
bit false = 0

-- ---- sessions

abbrev pub sum : (ℕ → ℕ) → List ℕ → ℕ
sum f [] = 0
sum f (x ∷ xs) = f x + sum f xs

-- how often a number stands in a list
abbrev pub times : ℕ → List ℕ → ℕ
times s [] = 0
times s (t ∷ ts) = bit (s == t) + times s ts

pub sum_same : (f g : ℕ → ℕ) → ((x : ℕ) → f x ≡ g x) → (xs : List ℕ) → sum f xs ≡ sum g xs
sum_same f g e [] = refl
sum_same f g e (x ∷ xs) = let a : f x ≡ g x = e x in let b : sum f xs ≡ sum g xs = sum_same f g e xs in omega arith

-- but for a number that isn't there
pub sum_off : (f g : ℕ → ℕ) (s : ℕ) → ((x : ℕ) → (s == x) ≡ false → f x ≡ g x) → (xs : List ℕ) → times s xs ≡ 0 → sum f xs ≡ sum g xs
sum_off f g s off [] e = refl
sum_off f g s off (x ∷ xs) e = by (s == x) refl e (sum_off f g s off xs)
  where
    by : (b : Bool) → (s == x) ≡ b → bit b + times s xs ≡ 0 → (times s xs ≡ 0 → sum f xs ≡ sum g xs) → f x + sum f xs ≡ g x + sum g xs
    by true i h rest = absurd (omega arith)
    by false i h rest = let a : f x ≡ g x = off x i in let b : sum f xs ≡ sum g xs = rest (omega arith) in omega arith

-- but for one that is there once
pub sum_at : (f g : ℕ → ℕ) (s : ℕ) → ((x : ℕ) → (s == x) ≡ false → f x ≡ g x) → (xs : List ℕ) → times s xs ≡ 1 → sum g xs + f s ≡ sum f xs + g s
sum_at f g s off [] e = absurd (omega arith)
sum_at f g s off (x ∷ xs) e = by (eqb_tells s x) e (sum_at f g s off xs)
  where
    by : Told s x → bit (s == x) + times s xs ≡ 1 → (times s xs ≡ 1 → sum g xs + f s ≡ sum f xs + g s) → (g x + sum g xs) + f s ≡ (f x + sum f xs) + g s
    by (inl h) n rest =
        let one : bit (s == x) ≡ 1 = ap bit h.0 in
        let none : times s xs ≡ 0 = omega arith in
        let others : sum f xs ≡ sum g xs = sum_off f g s off xs none in
        let here : f s ≡ f x = ap f h.1 in
        let there : g s ≡ g x = ap g h.1 in
        omega arith
    by (inr h) n rest =
        let none : bit (s == x) ≡ 0 = ap bit h.0 in
        let a : f x ≡ g x = off x h.0 in
        let b : sum g xs + f s ≡ sum f xs + g s = rest (omega arith) in
        omega arith

pub sum_more : (f : ℕ → ℕ) (xs : List ℕ) (s : ℕ) → sum f (xs ++ s ∷ []) ≡ sum f xs + f s
sum_more f [] s = omega arith
sum_more f (x ∷ xs) s = let a : sum f (xs ++ s ∷ []) ≡ sum f xs + f s = sum_more f xs s in omega arith

pub times_more : (t : ℕ) (xs : List ℕ) (s : ℕ) → times t (xs ++ s ∷ []) ≡ times t xs + bit (t == s)
times_more t [] s = omega arith
times_more t (x ∷ xs) s = let a : times t (xs ++ s ∷ []) ≡ times t xs + bit (t == s) = times_more t xs s in omega arith

-- one that adds nothing is taken out
pub sum_without : (f : ℕ → ℕ) (s : ℕ) (xs : List ℕ) → f s ≡ 0 → sum f (without s xs) ≡ sum f xs
sum_without f s [] e = refl
sum_without f s (x ∷ xs) e = by (eqb_tells x s) (sum_without f s xs e)
  where
    by : Told x s → sum f (without s xs) ≡ sum f xs → sum f (cond (not (x == s)) (x ∷ without s xs) (without s xs)) ≡ f x + sum f xs
    by (inl h) rest =
        let none : f x ≡ 0 = ap f h.1 ∙ e in
        let out : sum f (cond (not (x == s)) (x ∷ without s xs) (without s xs)) ≡ sum f (without s xs) = ap (λ b. sum f (cond (not b) (x ∷ without s xs) (without s xs))) h.0 in
        omega arith
    by (inr h) rest =
        let in_ : sum f (cond (not (x == s)) (x ∷ without s xs) (without s xs)) ≡ f x + sum f (without s xs) = ap (λ b. sum f (cond (not b) (x ∷ without s xs) (without s xs))) h.0 in
        omega arith

pub times_without : (t s : ℕ) (xs : List ℕ) → times t (without s xs) ≤ times t xs
times_without t s [] = omega arith
times_without t s (x ∷ xs) = by (not (x == s)) (times_without t s xs)
  where
    by : (b : Bool) → times t (without s xs) ≤ times t xs → times t (cond b (x ∷ without s xs) (without s xs)) ≤ bit (t == x) + times t xs
    by true rest = omega arith
    by false rest = omega arith

pub times_other : (t s : ℕ) (xs : List ℕ) → s ≢ t → times t (without s xs) ≡ times t xs
times_other t s [] ne = refl
times_other t s (x ∷ xs) ne = by (eqb_tells x s) (times_other t s xs ne)
  where
    by : Told x s → times t (without s xs) ≡ times t xs → times t (cond (not (x == s)) (x ∷ without s xs) (without s xs)) ≡ bit (t == x) + times t xs
    by (inl h) rest =
        let out : times t (cond (not (x == s)) (x ∷ without s xs) (without s xs)) ≡ times t (without s xs) = ap (λ b. times t (cond (not b) (x ∷ without s xs) (without s xs))) h.0 in
        let none : bit (t == x) ≡ 0 = ap bit (ne_eqb t x (λ e. ne (sym (e ∙ h.1)))) in
        omega arith
    by (inr h) rest =
        let in_ : times t (cond (not (x == s)) (x ∷ without s xs) (without s xs)) ≡ bit (t == x) + times t (without s xs) = ap (λ b. times t (cond (not b) (x ∷ without s xs) (without s xs))) h.0 in
        omega arith

-- what is found is there, and passes
pub found_times : (p : ℕ → Bool) (xs : List ℕ) (s : ℕ) → find p xs ≡ Some s → 1 ≤ times s xs
found_times p [] s e = none_some s e
found_times p (x ∷ xs) s e = by (p x) e (found_times p xs s)
  where
    by : (b : Bool) → cond b (Some x) (find p xs) ≡ Some s → (find p xs ≡ Some s → 1 ≤ times s xs) → 1 ≤ bit (s == x) + times s xs
    by true f rest =
        let one : bit (s == x) ≡ 1 = ap bit (ap (λ y. s == y) (is_the x s f) ∙ same s) in
        omega arith
    by false f rest = let le = rest f in omega arith

pub passes : {X : Type 0} (p : X → Bool) (xs : List X) (s : X) → find p xs ≡ Some s → p s ≡ true
passes p [] s e = none_some s e
passes {X} p (x ∷ xs) s e = by (p x) refl e (passes p xs s)
  where
    by : (b : Bool) → p x ≡ b → cond b (Some x) (find p xs) ≡ Some s → (find p xs ≡ Some s → p s ≡ true) → p s ≡ true
    by true i f rest = ap p (sym (is_the x s f)) ∙ i
    by false i f rest = rest f

-- ---- connections, each with its will

abbrev pub Pair : Type 0
Pair = ℕ × Option AppMessage

abbrev pub total : (Pair → ℕ) → List Pair → ℕ
total w [] = 0
total w (x ∷ xs) = w x + total w xs

-- how often a connection is named
abbrev pub named : ℕ → List Pair → ℕ
named c [] = 0
named c (x ∷ xs) = bit (x.0 == c) + named c xs

abbrev pub has : ℕ → List Pair → Bool
has c [] = false
has c (x ∷ xs) = (x.0 == c) || has c xs

abbrev pub pair_at : ℕ → List Pair → Option Pair
pair_at c xs = find (λ (x : Pair). x.0 == c) xs

abbrev pub Apart : List Pair → Type 0
Apart xs = (c : ℕ) → named c xs ≤ 1

pub total_same : (v w : Pair → ℕ) → ((x : Pair) → v x ≡ w x) → (xs : List Pair) → total v xs ≡ total w xs
total_same v w e [] = refl
total_same v w e (x ∷ xs) = let a : v x ≡ w x = e x in let b : total v xs ≡ total w xs = total_same v w e xs in omega arith

pub total_both : (u v w : Pair → ℕ) → ((x : Pair) → u x ≡ v x + w x) → (xs : List Pair) → total u xs ≡ total v xs + total w xs
total_both u v w e [] = refl
total_both u v w e (x ∷ xs) = let a : u x ≡ v x + w x = e x in let b : total u xs ≡ total v xs + total w xs = total_both u v w e xs in omega arith

pub total_none : (w : Pair → ℕ) → ((x : Pair) → w x ≡ 0) → (xs : List Pair) → total w xs ≡ 0
total_none w e [] = refl
total_none w e (x ∷ xs) = let a : w x ≡ 0 = e x in let b : total w xs ≡ 0 = total_none w e xs in omega arith

pub total_append : (w : Pair → ℕ) (xs ys : List Pair) → total w (xs ++ ys) ≡ total w xs + total w ys
total_append w [] ys = omega arith
total_append w (x ∷ xs) ys = let a : total w (xs ++ ys) ≡ total w xs + total w ys = total_append w xs ys in omega arith

pub named_append : (c : ℕ) (xs ys : List Pair) → named c (xs ++ ys) ≡ named c xs + named c ys
named_append c [] ys = omega arith
named_append c (x ∷ xs) ys = let a : named c (xs ++ ys) ≡ named c xs + named c ys = named_append c xs ys in omega arith

-- of one connection alone
abbrev pub only : (Pair → ℕ) → ℕ → Pair → ℕ
only w c x = cond (x.0 == c) (w x) 0

pub only_none : (w : Pair → ℕ) (c : ℕ) (xs : List Pair) → named c xs ≡ 0 → total (only w c) xs ≡ 0
only_none w c [] e = refl
only_none w c (x ∷ xs) e = by (x.0 == c) e (only_none w c xs)
  where
    by : (b : Bool) → bit b + named c xs ≡ 0 → (named c xs ≡ 0 → total (only w c) xs ≡ 0) → cond b (w x) 0 + total (only w c) xs ≡ 0
    by true h rest = absurd (omega arith)
    by false h rest = let none : total (only w c) xs ≡ 0 = rest (omega arith) in omega arith

pub only_one : (w : Pair → ℕ) (c : ℕ) (xs : List Pair) (y : Pair) → named c xs ≤ 1 → pair_at c xs ≡ Some y → total (only w c) xs ≡ w y
only_one w c [] y n e = none_some y e
only_one w c (x ∷ xs) y n e = by (x.0 == c) n e (only_one w c xs y)
  where
    by : (b : Bool) → bit b + named c xs ≤ 1 → cond b (Some x) (pair_at c xs) ≡ Some y → (named c xs ≤ 1 → pair_at c xs ≡ Some y → total (only w c) xs ≡ w y)
        → cond b (w x) 0 + total (only w c) xs ≡ w y
    by true h f rest =
        let none : total (only w c) xs ≡ 0 = only_none w c xs (omega arith) in
        let is : w x ≡ w y = ap w (is_the x y f) in
        omega arith
    by false h f rest = let is : total (only w c) xs ≡ w y = rest (omega arith) f in omega arith

pub has_none : (c : ℕ) (xs : List Pair) → named c xs ≡ 0 → has c xs ≡ false
has_none c [] e = refl
has_none c (x ∷ xs) e = by (x.0 == c) e (has_none c xs)
  where
    by : (b : Bool) → bit b + named c xs ≡ 0 → (named c xs ≡ 0 → has c xs ≡ false) → (b || has c xs) ≡ false
    by true h rest = absurd (omega arith)
    by false h rest = rest (omega arith)

pub none_has : (c : ℕ) (xs : List Pair) → has c xs ≡ false → named c xs ≡ 0
none_has c [] e = refl
none_has c (x ∷ xs) e = by (x.0 == c) e (none_has c xs)
  where
    by : (b : Bool) → (b || has c xs) ≡ false → (has c xs ≡ false → named c xs ≡ 0) → bit b + named c xs ≡ 0
    by true h rest = yes_no h
    by false h rest = let none : named c xs ≡ 0 = rest h in omega arith

pub named_found : (c : ℕ) (xs : List Pair) (y : Pair) → pair_at c xs ≡ Some y → 1 ≤ named c xs
named_found c [] y e = none_some y e
named_found c (x ∷ xs) y e = by (x.0 == c) e (named_found c xs y)
  where
    by : (b : Bool) → cond b (Some x) (pair_at c xs) ≡ Some y → (pair_at c xs ≡ Some y → 1 ≤ named c xs) → 1 ≤ bit b + named c xs
    by true f rest = omega arith
    by false f rest = let le = rest f in omega arith

-- the ones of the first list that the second names
abbrev pub also_in : (Pair → ℕ) → List Pair → Pair → ℕ
also_in w ys x = cond (has x.0 ys) (w x) 0

-- Where each of the second list stands in the first, its sum is that of those that it names.
pub within : (w : Pair → ℕ) (xs ys : List Pair) → Apart xs → Apart ys → AllByRecursion (λ (y : Pair). pair_at y.0 xs ≡ Some y) ys
    → total w ys ≡ total (also_in w ys) xs
within w xs [] a b f = sym (total_none (also_in w []) (λ x. refl) xs)
within w xs (y ∷ ys) a b f =
    let one : total (only w y.0) xs ≡ w y = only_one w y.0 xs y (a y.0) f.0 in
    let rest : total w ys ≡ total (also_in w ys) xs = within w xs ys a later f.1 in
    let sum_ : total (also_in w (y ∷ ys)) xs ≡ total (only w y.0) xs + total (also_in w ys) xs = total_both (also_in w (y ∷ ys)) (only w y.0) (also_in w ys) each xs in
    omega arith
  where
    later : Apart ys
    later c = let n : bit (y.0 == c) + named c ys ≤ 1 = b c in omega arith

    once : named y.0 ys ≡ 0
    once =
        let n : bit (y.0 == y.0) + named y.0 ys ≤ 1 = b y.0 in
        let one : bit (y.0 == y.0) ≡ 1 = ap bit (same y.0) in
        omega arith

    each : (x : Pair) → also_in w (y ∷ ys) x ≡ only w y.0 x + also_in w ys x
    each x = by (eqb_tells x.0 y.0)
      where
        by : Told x.0 y.0 → cond ((y.0 == x.0) || has x.0 ys) (w x) 0 ≡ cond (x.0 == y.0) (w x) 0 + cond (has x.0 ys) (w x) 0
        by (inl h) =
            let yes : (y.0 == x.0) ≡ true = ap (λ k. y.0 == k) h.1 ∙ same y.0 in
            let no : has x.0 ys ≡ false = ap (λ k. has k ys) h.1 ∙ has_none y.0 ys once in
            let l : cond ((y.0 == x.0) || has x.0 ys) (w x) 0 ≡ w x = ap (λ k. cond (k || has x.0 ys) (w x) 0) yes in
            let m : cond (x.0 == y.0) (w x) 0 ≡ w x = ap (λ k. cond k (w x) 0) h.0 in
            let r : cond (has x.0 ys) (w x) 0 ≡ 0 = ap (λ k. cond k (w x) 0) no in
            omega arith
        by (inr h) =
            let no : (y.0 == x.0) ≡ false = ne_eqb y.0 x.0 (λ e. h.1 (sym e)) in
            let l : cond ((y.0 == x.0) || has x.0 ys) (w x) 0 ≡ cond (has x.0 ys) (w x) 0 = ap (λ k. cond (k || has x.0 ys) (w x) 0) no in
            let m : cond (x.0 == y.0) (w x) 0 ≡ 0 = ap (λ k. cond k (w x) 0) h.0 in
            omega arith
