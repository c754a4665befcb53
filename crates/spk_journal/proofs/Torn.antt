-- What is read of a file that was torn.
use Rattle.std.proofs.Common.{◌≡◌, ℕ, suc, ◌+◌, ◌<◌, ◌≤◌, ◌==◌, Bool, true, false, ◌||◌, List, [], ◌∷◌, ◌++◌, length, refl, sym, ap, ◌∙◌, subst, append_assoc, arith}
use Rattle.std.proofs.lemmas.List.{length-append}
use Rattle.spk_journal.specs.File.{ArePlain, IsFront, Says, has_end, text_of}

-- ---- ends

same_head : {X : Type 0} (a b : X) (x y : List X) → a ∷ x ≡ b ∷ y → a ≡ b
same_head a b x y e = cc

same_tail : {X : Type 0} (a b : X) (x y : List X) → a ∷ x ≡ b ∷ y → x ≡ y
same_tail a b x y e = cc

not_first : (a : ℕ) (u : Bool) → ((a == 10) || u) ≡ false → a ≡ 10 → ⊥
not_first a u e is = by_value (ap (λ n. (n == 10) || u) (sym is) ∙ e)
  where
    by_value : true ≡ false → ⊥
    by_value f = absurd cc

rest_of : (t u : Bool) → (t || u) ≡ false → u ≡ false
rest_of true u e = absurd cc
rest_of false u e = e

first_end : (l m x y : List ℕ) → has_end l ≡ false → has_end m ≡ false → l ++ 10 ∷ x ≡ m ++ 10 ∷ y → (l ≡ m) × (x ≡ y)
first_end [] [] x y p q e = (refl, same_tail 10 10 x y e)
first_end [] (b ∷ m) x y p q e = absurd (not_first b (has_end m) q (sym (same_head 10 b x (m ++ 10 ∷ y) e)))
first_end (a ∷ l) [] x y p q e = absurd (not_first a (has_end l) p (same_head a 10 (l ++ 10 ∷ x) y e))
first_end (a ∷ l) (b ∷ m) x y p q e =
    let head = same_head a b (l ++ 10 ∷ x) (m ++ 10 ∷ y) e in
    let more = first_end l m x y (rest_of (a == 10) (has_end l) p) (rest_of (b == 10) (has_end m) q) (same_tail a b (l ++ 10 ∷ x) (m ++ 10 ∷ y) e) in
    (ap (λ h. h ∷ l) head ∙ ap (λ t. b ∷ t) more.0, more.1)

no_end : (r l x : List ℕ) → has_end r ≡ false → r ≡ l ++ 10 ∷ x → ⊥
no_end [] [] x p e = absurd cc
no_end [] (a ∷ l) x p e = absurd cc
no_end (b ∷ r) [] x p e = not_first b (has_end r) p (same_head b 10 r x e)
no_end (b ∷ r) (a ∷ l) x p e = no_end r l x (rest_of (b == 10) (has_end r) p) (same_tail b a r (l ++ 10 ∷ x) e)

-- the first line of a text, and what follows it
headed : (l rest : List ℕ) (ls : List (List ℕ)) → text_of (l ∷ ls) ++ rest ≡ l ++ 10 ∷ (text_of ls ++ rest)
headed l rest ls =
    append_assoc (l ++ 10 ∷ []) (text_of ls) rest ∙ append_assoc l (10 ∷ []) (text_of ls ++ rest)

-- ---- one reading

pub one : (ls ms : List (List ℕ)) (r s : List ℕ) → ArePlain ls → ArePlain ms → has_end r ≡ false → has_end s ≡ false
    → text_of ls ++ r ≡ text_of ms ++ s → (ls ≡ ms) × (r ≡ s)
one [] [] r s p q t u e = (refl, e)
one [] (m ∷ ms) r s p q t u e = absurd (no_end r m (text_of ms ++ s) t (e ∙ headed m s ms))
one (l ∷ ls) [] r s p q t u e = absurd (no_end s l (text_of ls ++ r) u (sym e ∙ headed l r ls))
one (l ∷ ls) (m ∷ ms) r s p q t u e =
    let first = first_end l m (text_of ls ++ r) (text_of ms ++ s) p.0 q.0 (sym (headed l r ls) ∙ e ∙ headed m s ms) in
    let more = one ls ms r s p.1 q.1 t u first.1 in
    (ap (λ h. h ∷ ls) first.0 ∙ ap (λ t. m ∷ t) more.0, more.1)

pub one_reading : (bytes rest other : List ℕ) (lines more : List (List ℕ)) → Says bytes lines rest → Says bytes more other → (lines ≡ more) × (rest ≡ other)
one_reading bytes rest other lines more a b = one lines more rest other a.plain b.plain a.torn b.torn (sym a.are ∙ b.are)

-- ---- torn

behind_first : (l m x rest : List ℕ) (ms : List (List ℕ)) (r : List ℕ) → has_end m ≡ false → has_end l ≡ false
    → (text_of (m ∷ ms) ++ r) ++ rest ≡ l ++ 10 ∷ x → (m ≡ l) × ((text_of ms ++ r) ++ rest ≡ x)
behind_first l m x rest ms r p q e =
    first_end m l ((text_of ms ++ r) ++ rest) x p q
    (sym (append_assoc m (10 ∷ (text_of ms ++ r)) rest) ∙ ap (λ t. t ++ rest) (sym (headed m r ms)) ∙ e)

bare : (l : List ℕ) (ls : List (List ℕ)) → text_of (l ∷ ls) ≡ l ++ 10 ∷ text_of ls
bare l ls = append_assoc l (10 ∷ []) (text_of ls)

front_of : (ls ms : List (List ℕ)) (r rest : List ℕ) → ArePlain ls → ArePlain ms → (text_of ms ++ r) ++ rest ≡ text_of ls → IsFront ms ls
front_of ls [] r rest p q e = (ls, refl)
front_of [] (m ∷ ms) r rest p q e = absurd (none m (text_of ms) r rest e)
  where
    none : (m t r rest : List ℕ) → (((m ++ 10 ∷ []) ++ t) ++ r) ++ rest ≡ [] → ⊥
    none [] t r rest e = absurd cc
    none (a ∷ m) t r rest e = absurd cc
front_of (l ∷ ls) (m ∷ ms) r rest p q e =
    let first = behind_first l m (text_of ls) rest ms r q.0 p.0 (e ∙ bare l ls) in
    let more = front_of ls ms r rest p.1 q.1 first.1 in
    (more.0, ap (λ h. h ∷ ls) (sym first.0) ∙ ap (λ t. m ∷ t) more.1)

pub torn_front : (lines read : List (List ℕ)) (front lost rest : List ℕ) → ArePlain lines → front ++ lost ≡ text_of lines → Says front read rest → IsFront read lines
torn_front lines read front lost rest p e s = front_of lines read rest lost p s.plain (ap (λ t. t ++ lost) (sym s.are) ∙ e)

reaches : (a front lost x : List ℕ) → front ++ lost ≡ a ++ 10 ∷ x → length a < length front → has_end front ≡ false → ⊥
reaches a [] lost x e lt h = absurd (omega arith)
reaches [] (f ∷ fs) lost x e lt h = not_first f (has_end fs) h (same_head f 10 (fs ++ lost) x e)
reaches (b ∷ a) (f ∷ fs) lost x e lt h =
    let below : length a < length fs = omega arith in
    reaches a fs lost x (same_tail f b (fs ++ lost) (a ++ 10 ∷ x) e) below (rest_of (f == 10) (has_end fs) h)

long_line : (l : List ℕ) (ls : List (List ℕ)) (r : List ℕ) → length (text_of (l ∷ ls) ++ r) ≡ length l + suc (length (text_of ls ++ r))
long_line l ls r = ap length (headed l r ls) ∙ length-append l (10 ∷ (text_of ls ++ r))

long_bare : (l : List ℕ) (ls : List (List ℕ)) → length (text_of (l ∷ ls)) ≡ length l + suc (length (text_of ls))
long_bare l ls = ap length (bare l ls) ∙ length-append l (10 ∷ text_of ls)

whole_of : (kept more read : List (List ℕ)) (rest lost : List ℕ) → ArePlain (kept ++ more) → ArePlain read → has_end rest ≡ false
    → (text_of read ++ rest) ++ lost ≡ text_of (kept ++ more) → length (text_of kept) ≤ length (text_of read ++ rest) → IsFront kept read
whole_of [] more read rest lost p q h e le = (read, refl)
whole_of (k ∷ kept) more [] rest lost p q h e le =
    let long : length (text_of (k ∷ kept)) ≡ length k + suc (length (text_of kept)) = long_bare k kept in
    let below : length k < length rest = omega arith in
    absurd (reaches k rest lost (text_of (kept ++ more)) (e ∙ bare k (kept ++ more)) below h)
whole_of (k ∷ kept) more (m ∷ read) rest lost p q h e le =
    let first = behind_first k m (text_of (kept ++ more)) lost read rest q.0 p.0 (e ∙ bare k (kept ++ more)) in
    let one : length (text_of (k ∷ kept)) ≡ length k + suc (length (text_of kept)) = long_bare k kept in
    let two : length (text_of (m ∷ read) ++ rest) ≡ length m + suc (length (text_of read ++ rest)) = long_line m read rest in
    let same : length m ≡ length k = ap length first.0 in
    let below : length (text_of kept) ≤ length (text_of read ++ rest) = omega arith in
    let more' = whole_of kept more read rest lost p.1 q.1 h first.1 below in
    (more'.0, ap (λ h. h ∷ read) first.0 ∙ ap (λ t. k ∷ t) more'.1)

pub torn_whole : (kept more read : List (List ℕ)) (front lost rest : List ℕ) → ArePlain (kept ++ more) → front ++ lost ≡ text_of (kept ++ more)
    → Says front read rest → length (text_of kept) ≤ length front → IsFront kept read
torn_whole kept more read front lost rest p e s le =
    whole_of kept more read rest lost p s.plain s.torn (ap (λ t. t ++ lost) (sym s.are) ∙ e) (subst (λ t. length (text_of kept) ≤ length t) s.are le)
