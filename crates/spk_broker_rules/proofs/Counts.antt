-- Lists of numbers by how often each stands there: open connections are those without a CONNECT and those of sessions.
use Rattle.std.proofs.Common.{◌≡◌, ℕ, suc, ◌+◌, ◌≤◌, Bool, true, false, not, ◌||◌, cond, eqb, ltb, List, [], ◌∷◌, ◌++◌, length, refl, sym, ◌∙◌, ap, ap₂, arith, subst, Some, None, true≢false}
use Rattle.std.specs.List.{find, list_any, flat_map, AllByRecursion}
use Rattle.std.proofs.lemmas.List.{length-append}
use Rattle.std.proofs.lemmas.Bool.{lt-ltb}
use Rattle.spk_session.specs.Step.{without}
use Rattle.spk_broker_rules.proofs.Lists.{eqb-flip, eqb-is, eqb-self, all-filter}
use Rattle.spk_broker_rules.proofs.Rounds.{AreApart}

abbrev one_if : Bool → ℕ
one_if b = cond b 1 0

abbrev pub count : ℕ → List ℕ → ℕ
count c [] = 0
count c (x ∷ xs) = one_if (eqb x c) + count c xs

pub count-append : (c : ℕ) (xs ys : List ℕ) → count c (xs ++ ys) ≡ count c xs + count c ys
count-append c [] ys = omega arith
count-append c (x ∷ xs) ys = let e = count-append c xs ys in omega arith

pub count-without : (d c : ℕ) (xs : List ℕ) → count c (without d xs) ≡ cond (eqb d c) 0 (count c xs)
count-without d c [] = by (eqb d c)
  where
    by : (b : Bool) → count c [] ≡ cond b 0 0
    by true = refl
    by false = refl
count-without d c (x ∷ xs) = by (eqb x d) refl (eqb d c) refl (count-without d c xs)
  where
    by : (a : Bool) → eqb x d ≡ a → (b : Bool) → eqb d c ≡ b → count c (without d xs) ≡ cond (eqb d c) 0 (count c xs)
        → count c (cond (not a) (x ∷ without d xs) (without d xs)) ≡ cond b 0 (one_if (eqb x c) + count c xs)
    by true i true j rest = rest ∙ ap (λ b. cond b 0 (count c xs)) j
    by true i false j rest =
        let none : one_if (eqb x c) ≡ 0 = ap one_if (ap (λ y. eqb y c) (eqb-is x d i) ∙ j) in
        let here : count c (without d xs) ≡ count c xs = rest ∙ ap (λ b. cond b 0 (count c xs)) j in
        omega arith
    by false i true j rest =
        let other : eqb x c ≡ false = ap (eqb x) (sym (eqb-is d c j)) ∙ i in
        ap (λ b. one_if b + count c (without d xs)) other ∙ ap (λ n. 0 + n) (rest ∙ ap (λ b. cond b 0 (count c xs)) j)
    by false i false j rest = ap (λ n. one_if (eqb x c) + n) (rest ∙ ap (λ b. cond b 0 (count c xs)) j)

pub length-without : (d : ℕ) (xs : List ℕ) → length (without d xs) + count d xs ≡ length xs
length-without d [] = refl
length-without d (x ∷ xs) = by (eqb x d) (length-without d xs)
  where
    by : (b : Bool) → length (without d xs) + count d xs ≡ length xs → length (cond (not b) (x ∷ without d xs) (without d xs)) + (one_if b + count d xs) ≡ suc (length xs)
    by true rest = omega arith
    by false rest = omega arith

-- none that is above them all
pub count-above : (n : ℕ) (xs : List ℕ) → AllByRecursion (λ x. x ≤ n) xs → count (n + 1) xs ≡ 0
count-above n [] h = refl
count-above n (x ∷ xs) h = ap₂ (λ b k. one_if b + k) (other (eqb x (n + 1)) refl) (count-above n xs h.1)
  where
    other : (b : Bool) → eqb x (n + 1) ≡ b → eqb x (n + 1) ≡ false
    other true is = let e : x ≡ n + 1 = eqb-is x (n + 1) is in let low = h.0 in absurd (omega arith)
    other false is = is

pub any-count : (c : ℕ) (xs : List ℕ) → list_any (λ x. eqb x c) xs ≡ ltb 0 (count c xs)
any-count c [] = refl
any-count c (x ∷ xs) = by (eqb x c) (any-count c xs)
  where
    by : (b : Bool) → list_any (λ y. eqb y c) xs ≡ ltb 0 (count c xs) → (b || list_any (λ y. eqb y c) xs) ≡ ltb 0 (one_if b + count c xs)
    by true rest = sym (lt-ltb 0 (1 + count c xs) (omega arith))
    by false rest = rest ∙ ap (ltb 0) (omega arith)

-- ---- what is open

pub record Balanced (O G H : List ℕ) : Type 0 where
  pub each : (d : ℕ) → count d O ≡ count d G + count d H
  pub few : (d : ℕ) → count d O ≤ 1
  pub size : length O ≡ length G + length H

-- other lists with the same numbers
pub balanced-same : (O G H I : List ℕ) → Balanced O G H → ((d : ℕ) → count d I ≡ count d H) → length I ≡ length H → Balanced O G I
balanced-same O G H I b same size = record {
  each = λ d. b.each d ∙ ap (λ n. count d G + n) (sym (same d));
  few = b.few;
  size = b.size ∙ ap (λ n. length G + n) (sym size);
}

-- one of a session ends
pub balanced-lost : (c : ℕ) (O G H I : List ℕ) → Balanced O G H → ((d : ℕ) → count d I + count d (c ∷ []) ≡ count d H) → length I + 1 ≡ length H → Balanced (without c O) G I
balanced-lost c O G H I b less size = record {
  each = λ d. count-without c d O ∙ by d (eqb c d) refl;
  few = λ d. let e = count-without c d O in let f = b.few d in at_most d (eqb c d) (count-without c d O);
  size = (let a = length-without c O in let e = b.each c in let f = b.few c in let g = less c in let h = b.size in let i : count c (c ∷ []) ≡ 1 = ap (λ x. one_if x + 0) (eqb-self c) in omega arith);
}
  where
    by : (d : ℕ) (x : Bool) → eqb c d ≡ x → cond (eqb c d) 0 (count d O) ≡ count d G + count d I
    by d true is = let e = b.each d in let f = b.few d in let g = less d in let i : count d (c ∷ []) ≡ 1 = ap (λ x. one_if x + 0) is in
        ap (λ x. cond x 0 (count d O)) is ∙ (let r : 0 ≡ count d G + count d I = omega arith in r)
    by d false is = let e = b.each d in let g = less d in let i : count d (c ∷ []) ≡ 0 = ap (λ x. one_if x + 0) is in
        ap (λ x. cond x 0 (count d O)) is ∙ (let r : count d O ≡ count d G + count d I = omega arith in r)

    at_most : (d : ℕ) (x : Bool) → count d (without c O) ≡ cond x 0 (count d O) → count d (without c O) ≤ 1
    at_most d true e = omega arith
    at_most d false e = let f = b.few d in omega arith

-- one without a CONNECT ends
pub balanced-left : (c : ℕ) (O G H : List ℕ) → Balanced O G H → count c H ≡ 0 → Balanced (without c O) (without c G) H
balanced-left c O G H b none = record {
  each = λ d. count-without c d O ∙ by d (eqb c d) refl ∙ ap (λ n. n + count d H) (sym (count-without c d G));
  few = λ d. at_most d (eqb c d) (count-without c d O);
  size = (let a = length-without c O in let g = length-without c G in let e = b.each c in let h = b.size in omega arith);
}
  where
    by : (d : ℕ) (x : Bool) → eqb c d ≡ x → cond (eqb c d) 0 (count d O) ≡ cond (eqb c d) 0 (count d G) + count d H
    by d true is = ap (λ x. cond x 0 (count d O)) is
        ∙ (let n : count d H ≡ 0 = ap (λ k. count k H) (sym (eqb-is c d is)) ∙ none in let r : 0 ≡ 0 + count d H = omega arith in r)
        ∙ ap (λ x. cond x 0 (count d G) + count d H) (sym is)
    by d false is = ap (λ x. cond x 0 (count d O)) is ∙ b.each d ∙ ap (λ x. cond x 0 (count d G) + count d H) (sym is)

    at_most : (d : ℕ) (x : Bool) → count d (without c O) ≡ cond x 0 (count d O) → count d (without c O) ≤ 1
    at_most d true e = omega arith
    at_most d false e = let f = b.few d in omega arith

-- its CONNECT is accepted
pub balanced-moved : (c : ℕ) (O G H I : List ℕ) → Balanced O G H → 1 ≤ count c G → ((d : ℕ) → count d I ≡ count d H + count d (c ∷ [])) → length I ≡ length H + 1 → Balanced O (without c G) I
balanced-moved c O G H I b there also size = record {
  each = λ d. by d (eqb c d) refl ∙ ap (λ n. n + count d I) (sym (count-without c d G));
  few = b.few;
  size = (let g = length-without c G in let e = b.each c in let f = b.few c in let h = b.size in omega arith);
}
  where
    by : (d : ℕ) (x : Bool) → eqb c d ≡ x → count d O ≡ cond (eqb c d) 0 (count d G) + count d I
    by d true is =
        let same : c ≡ d = eqb-is c d is in
        let at_d : 1 ≤ count d G = subst (λ k. 1 ≤ count k G) same there in
        let e = b.each d in let f = b.few d in let a = also d in let i : count d (c ∷ []) ≡ 1 = ap (λ x. one_if x + 0) is in
        (let r : count d O ≡ 0 + count d I = omega arith in r) ∙ ap (λ x. cond x 0 (count d G) + count d I) (sym is)
    by d false is =
        let e = b.each d in let a = also d in let i : count d (c ∷ []) ≡ 0 = ap (λ x. one_if x + 0) is in
        (let r : count d O ≡ count d G + count d I = omega arith in r) ∙ ap (λ x. cond x 0 (count d G) + count d I) (sym is)

-- a new one
pub balanced-more : (c : ℕ) (O G H : List ℕ) → Balanced O G H → count c O ≡ 0 → Balanced (O ++ c ∷ []) (G ++ c ∷ []) H
balanced-more c O G H b none = record {
  each = λ d. let e = b.each d in let x = count-append d O (c ∷ []) in let y = count-append d G (c ∷ []) in omega arith;
  few = λ d. at_most d (eqb c d) refl;
  size = (let x = length-append O (c ∷ []) in let y = length-append G (c ∷ []) in let h = b.size in omega arith);
}
  where
    at_most : (d : ℕ) (x : Bool) → eqb c d ≡ x → count d (O ++ c ∷ []) ≤ 1
    at_most d true is =
        let same : count d O ≡ 0 = ap (λ k. count k O) (sym (eqb-is c d is)) ∙ none in
        let e = count-append d O (c ∷ []) in let i : count d (c ∷ []) ≡ 1 = ap (λ x. one_if x + 0) is in omega arith
    at_most d false is =
        let f = b.few d in let e = count-append d O (c ∷ []) in let i : count d (c ∷ []) ≡ 0 = ap (λ x. one_if x + 0) is in omega arith

-- ---- one number of a list without repetition

abbrev pub IsIn : ℕ → List ℕ → Type 0
IsIn s ss = list_any (λ t. eqb t s) ss ≡ true

module _ (m : List ℕ → ℕ) (add : (xs ys : List ℕ) → m (xs ++ ys) ≡ m xs + m ys) (f g : ℕ → List ℕ) (s : ℕ) (other : (t : ℕ) → eqb s t ≡ false → g t ≡ f t) where
  sum-out : (ss : List ℕ) → AllByRecursion (λ t. eqb s t ≡ false) ss → flat_map g ss ≡ flat_map f ss
  sum-out [] h = refl
  sum-out (t ∷ ss) h = ap₂ (λ xs ys. xs ++ ys) (other t h.0) (sum-out ss h.1)

  out-stays : (ss : List ℕ) → AllByRecursion (λ t. eqb s t ≡ false) ss → without s ss ≡ ss
  out-stays [] h = refl
  out-stays (t ∷ ss) h = ap (λ b. cond (not b) (t ∷ without s ss) (without s ss)) (eqb-flip t s ∙ h.0) ∙ ap (λ xs. t ∷ xs) (out-stays ss h.1)

  apart-from : (t : ℕ) (ss : List ℕ) → t ≡ s → AllByRecursion (λ y. eqb t y ≡ false) ss → AllByRecursion (λ y. eqb s y ≡ false) ss
  apart-from t ss same h = subst (λ x. AllByRecursion (λ y. eqb x y ≡ false) ss) same h

  pub sum-swap : (ss : List ℕ) → AreApart ss → IsIn s ss → m (flat_map g ss) + m (f s) ≡ m (flat_map f ss) + m (g s)
  sum-swap [] apart there = absurd (true≢false (sym there))
  sum-swap (t ∷ ss) apart there = by (eqb t s) refl there (sum-swap ss apart.1)
    where
      by : (b : Bool) → eqb t s ≡ b → (b || list_any (λ x. eqb x s) ss) ≡ true → (IsIn s ss → m (flat_map g ss) + m (f s) ≡ m (flat_map f ss) + m (g s))
          → m (g t ++ flat_map g ss) + m (f s) ≡ m (f t ++ flat_map f ss) + m (g s)
      by true is h rest =
          let same : t ≡ s = eqb-is t s is in
          let a = add (g t) (flat_map g ss) in let b = add (f t) (flat_map f ss) in
          let c : flat_map g ss ≡ flat_map f ss = sum-out ss (apart-from t ss same apart.0) in
          let d : m (flat_map g ss) ≡ m (flat_map f ss) = ap m c in
          let e : m (g t) ≡ m (g s) = ap (λ x. m (g x)) same in let i : m (f t) ≡ m (f s) = ap (λ x. m (f x)) same in omega arith
      by false is h rest =
          let a = add (g t) (flat_map g ss) in let b = add (f t) (flat_map f ss) in let r = rest h in
          let e : m (g t) ≡ m (f t) = ap m (other t (eqb-flip s t ∙ is)) in omega arith

  pub sum-drop : (ss : List ℕ) → AreApart ss → IsIn s ss → m (flat_map g (without s ss)) + m (f s) ≡ m (flat_map f ss)
  sum-drop [] apart there = absurd (true≢false (sym there))
  sum-drop (t ∷ ss) apart there = by (eqb t s) refl there (sum-drop ss apart.1)
    where
      by : (b : Bool) → eqb t s ≡ b → (b || list_any (λ x. eqb x s) ss) ≡ true → (IsIn s ss → m (flat_map g (without s ss)) + m (f s) ≡ m (flat_map f ss))
          → m (flat_map g (cond (not b) (t ∷ without s ss) (without s ss))) + m (f s) ≡ m (f t ++ flat_map f ss)
      by true is h rest =
          let same : t ≡ s = eqb-is t s is in let b = add (f t) (flat_map f ss) in
          let out : AllByRecursion (λ y. eqb s y ≡ false) ss = apart-from t ss same apart.0 in
          let c : flat_map g (without s ss) ≡ flat_map f ss = ap (flat_map g) (out-stays ss out) ∙ sum-out ss out in
          let d : m (flat_map g (without s ss)) ≡ m (flat_map f ss) = ap m c in let i : m (f t) ≡ m (f s) = ap (λ x. m (f x)) same in omega arith
      by false is h rest =
          let a = add (g t) (flat_map g (without s ss)) in let b = add (f t) (flat_map f ss) in let r = rest h in
          let e : m (g t) ≡ m (f t) = ap m (other t (eqb-flip s t ∙ is)) in omega arith

pub apart-without : (s : ℕ) (ss : List ℕ) → AreApart ss → AreApart (without s ss)
apart-without s [] h = tt
apart-without s (t ∷ ss) h = by (not (eqb t s)) (apart-without s ss h.1)
  where
    few : (xs : List ℕ) → AllByRecursion (λ y. eqb t y ≡ false) xs → AllByRecursion (λ y. eqb t y ≡ false) (without s xs)
    few xs = all-filter (λ y. eqb t y ≡ false) (λ y. not (eqb y s)) xs

    by : (b : Bool) → AreApart (without s ss) → AreApart (cond b (t ∷ without s ss) (without s ss))
    by true rest = (few ss h.0, rest)
    by false rest = rest

-- what a test finds is there
pub found-there : (p : ℕ → Bool) (ss : List ℕ) (s : ℕ) → find p ss ≡ Some s → IsIn s ss
found-there p [] s e = absurd (none e)
  where
    none : {y : ℕ} → None ≡ Some y → ⊥
    none h = cc
found-there p (t ∷ ss) s e = by (p t) e (found-there p ss s)
  where
    by : (b : Bool) → cond b (Some t) (find p ss) ≡ Some s → (find p ss ≡ Some s → IsIn s ss) → (eqb t s || list_any (λ x. eqb x s) ss) ≡ true
    by true h rest = let same : t ≡ s = cc in ap (λ b. b || list_any (λ x. eqb x s) ss) (ap (λ x. eqb t x) (sym same) ∙ eqb-self t)
    by false h rest = or_true (eqb t s) (list_any (λ x. eqb x s) ss) (rest h)
      where
        or_true : (a b : Bool) → b ≡ true → (a || b) ≡ true
        or_true true b e = refl
        or_true false b e = e
