-- What a session had gives way in the index to what it has by now.
use Rattle.std.proofs.Common.{◌≡◌, ◌⊎◌, ℕ, zero, suc, ◌+◌, ◌-◌, ◌<◌, ◌≤◌, Bool, true, false, ◌&&◌, ◌||◌, ◌==◌, cond, List, [], ◌∷◌, ◌++◌, length, map, take, drop, get_or, inl, inr, refl, sym, ap, ◌∙◌, subst, Option, Some, None, arith, true≢false, eq-eqb}
use Rattle.std.specs.Prelude.{nat_lt}
use Rattle.std.specs.Option.{is_some}
use Rattle.std.specs.List.{fold, sum_by}
use Rattle.std.specs.Str.{bytes_eq}
use Rattle.std.specs.FinMap as tree
use Rattle.std.specs.FinMap.{get-insert, get-remove}
use Rattle.std.specs.Ordering.{eq_by_cmp, is_eq}
use Rattle.std.specs.Cmp.{eq_by_cmp_equiv}
use Rattle.std.specs.declared.cmp.Ordering.{Ordering}
use Rattle.std.specs.declared.cmp.Ordering.TheVariants.{Less, Equal, Greater}
use Rattle.std.proofs.lemmas.List.{length-drop, take_all}
use Rattle.std.proofs.lemmas.List.Folds.{list_any-append}
use Rattle.std.proofs.lemmas.List.Sums.{sum_by-append}
use mathlib.Core.Logic.{⊎_elim}
use Rattle.spk_topics.specs.Grants.{Grants, grant_cmp}
use Rattle.spk_topics.proofs.RowLemmas.{grants_exact, grants_total}
use Rattle.spk_broker_rules.specs.Table.{Table, has}
use Rattle.spk_broker_rules.proofs.Lists.{eqb-is}
use Rattle.spk_broker_rules.proofs.Tables.{bytes_self}
use Rattle.spk_broker.specs.Both.{Both}
use Rattle.spk_broker.specs.Filing.{IsAlike, IsTurned, Walk, entry_of, is_next, walked, with_entry, without_entry}
use Rattle.spk_broker.specs.Granting.{standing_grants}
use Rattle.spk_broker.specs.Parts.{grant_view}
use Rattle.spk_broker.specs.Sizes.{size_of, size_of_grants}
use Rattle.spk_broker.specs.declared.session.Grant.{Grant}
use Rattle.spk_broker.proofs.Retaining.{same-bytes}

-- ---- reading

pub same-bool : (a b : Bool) → (a ≡ true → b ≡ true) → (b ≡ true → a ≡ true) → a ≡ b
same-bool true b to from = sym (to refl)
same-bool false true to from = from refl
same-bool false false to from = refl

pub first-of : (a b : Bool) → a && b ≡ true → a ≡ true
first-of true b e = refl
first-of false b e = e

pub second-of : (a b : Bool) → a && b ≡ true → b ≡ true
second-of true b e = e
second-of false b e = absurd (true≢false (sym e))

equal-of : (r : Ordering) → is_eq r ≡ true → r ≡ Equal
equal-of Less e = absurd (true≢false (sym e))
equal-of Equal e = refl
equal-of Greater e = absurd (true≢false (sym e))

-- two entries are one where their keys and their filters are
same-entry : (f g : List ℕ) (k q : ℕ) → eq_by_cmp grant_cmp (g, q) (f, k) ≡ (q == k) && bytes_eq f g
same-entry f g k q =
    same-bool (eq_by_cmp grant_cmp (g, q) (f, k)) ((q == k) && bytes_eq f g)
    (λ e.
    let same : (g, q) ≡ (f, k) = grants_exact (g, q) (f, k) (equal-of (grant_cmp (g, q) (f, k)) e) in
    ap (λ b. b && bytes_eq f g) (eq-eqb q k (ap (λ (x : List ℕ × ℕ). x.1) same)) ∙ ap (bytes_eq f) (ap (λ (x : List ℕ × ℕ). x.0) same) ∙ bytes_self f)
    (λ e.
    let keys : q ≡ k = eqb-is q k (first-of (q == k) (bytes_eq f g) e) in
    let filters : f ≡ g = same-bytes f g (second-of (q == k) (bytes_eq f g) e) in
    ap (λ n. eq_by_cmp grant_cmp (g, n) (f, k)) keys ∙ ap (λ t. eq_by_cmp grant_cmp (t, k) (f, k)) (sym filters) ∙ (eq_by_cmp_equiv grants_total).refl (f, k))

some-of : (b : Bool) (o p : Option ℕ) → is_some (cond b o p) ≡ cond b (is_some o) (is_some p)
some-of true o p = refl
some-of false o p = refl

pub read-remove : (index : Grants) (f g : List ℕ) (k q : ℕ) → is_some (tree.get (tree.remove index (f, k)) (g, q)) ≡ cond ((q == k) && bytes_eq f g) false (is_some (tree.get index (g, q)))
read-remove index f g k q =
    ap is_some (get-remove grants_total index (f, k) (g, q)) ∙ some-of (eq_by_cmp grant_cmp (g, q) (f, k)) None (tree.get index (g, q))
    ∙ ap (λ b. cond b false (is_some (tree.get index (g, q)))) (same-entry f g k q)

pub read-insert : (index : Grants) (f g : List ℕ) (k q v : ℕ) → is_some (tree.get (tree.insert index (f, k) v) (g, q)) ≡ cond ((q == k) && bytes_eq f g) true (is_some (tree.get index (g, q)))
read-insert index f g k q v =
    ap is_some (get-insert grants_total index (f, k) v (g, q)) ∙ some-of (eq_by_cmp grant_cmp (g, q) (f, k)) (Some v) (tree.get index (g, q))
    ∙ ap (λ b. cond b true (is_some (tree.get index (g, q)))) (same-entry f g k q)

-- with these grants of one session
pub read-added : (index : Grants) (key : ℕ) (gs : Table ℕ) (f : List ℕ) (q : ℕ)
    → is_some (tree.get (fold with_entry index (map (entry_of key) gs)) (f, q)) ≡ is_some (tree.get index (f, q)) || ((q == key) && has f gs)
read-added index key [] f q = none (is_some (tree.get index (f, q))) (q == key)
  where
    none : (a b : Bool) → a ≡ a || (b && false)
    none true b = refl
    none false true = refl
    none false false = refl
read-added index key (g ∷ gs) f q =
    read-added (with_entry index (entry_of key g)) key gs f q
    ∙ ap (λ a. a || ((q == key) && has f gs)) (read-insert index g.0 f key q g.1)
    ∙ join (is_some (tree.get index (f, q))) (q == key) (bytes_eq g.0 f) (has f gs)
  where
    join : (a b c d : Bool) → cond (b && c) true a || (b && d) ≡ a || (b && (c || d))
    join true true true d = refl
    join true true false d = refl
    join true false c d = refl
    join false true true d = refl
    join false true false d = refl
    join false false c d = refl

-- ---- lists

pub or-second : (a b : Bool) → b ≡ true → a || b ≡ true
or-second true b e = refl
or-second false b e = e

pub or-first : (a b : Bool) → a ≡ true → a || b ≡ true
or-first a b e = ap (λ x. x || b) e

either-of : (a b : Bool) → a || b ≡ true → (a ≡ true) ⊎ (b ≡ true)
either-of true b e = inl refl
either-of false b e = inr e

-- a filter is among the grants as much as one of the same bytes
pub has-same : (f g : List ℕ) (gs : Table ℕ) → bytes_eq f g ≡ true → has f gs ≡ true → has g gs ≡ true
has-same f g gs same e = subst (λ t. has t gs ≡ true) (same-bytes f g same) e

pub sum-cons : {X : Type 0} (f : X → ℕ) (x : X) (xs : List X) → sum_by f (x ∷ xs) ≡ f x + sum_by f xs
sum-cons f x xs = let both = sum_by-append f (x ∷ []) xs in let one : sum_by f (x ∷ []) ≡ f x = omega arith in omega (arith, both, one)

take-drop : {X : Type 0} (n : ℕ) (xs : List X) → take n xs ++ drop n xs ≡ xs
take-drop zero xs = refl
take-drop (suc n) [] = refl
take-drop (suc n) (x ∷ xs) = ap (λ l. x ∷ l) (take-drop n xs)

take-next : (n : ℕ) (gs : Table ℕ) (d : List ℕ × ℕ) → n < length gs → take (n + 1) gs ≡ take n gs ++ get_or gs n d ∷ []
take-next n [] d low = absurd (omega (arith, low))
take-next zero (g ∷ gs) d low = refl
take-next (suc n) (g ∷ gs) d low = let z : suc n + 1 ≡ suc (n + 1) = omega arith in ap (λ k. take k (g ∷ gs)) z ∙ ap (λ l. g ∷ l) (take-next n gs d (omega (arith, low)))

has-at : (n : ℕ) (gs : Table ℕ) (d : List ℕ × ℕ) (f : List ℕ) → n < length gs → bytes_eq (get_or gs n d).0 f ≡ true → has f gs ≡ true
has-at n [] d f low e = absurd (omega (arith, low))
has-at zero (g ∷ gs) d f low e = or-first (bytes_eq g.0 f) (has f gs) e
has-at (suc n) (g ∷ gs) d f low e = or-second (bytes_eq g.0 f) (has f gs) (has-at n gs d f (omega (arith, low)) e)

-- ---- whether a grant is the next one

next-low : (new : Table ℕ) (met : ℕ) (g : List ℕ × ℕ) → is_next new met g ≡ true → met < length new
next-low new met g e = below (first-of (nat_lt met (length new)) (bytes_eq (get_or new met ([], 0)).0 g.0) e)
  where
    below : nat_lt met (length new) ≡ true → met < length new
    below h = grind (arith, h)

next-same : (new : Table ℕ) (met : ℕ) (g : List ℕ × ℕ) → is_next new met g ≡ true → bytes_eq (get_or new met ([], 0)).0 g.0 ≡ true
next-same new met g e = second-of (nat_lt met (length new)) (bytes_eq (get_or new met ([], 0)).0 g.0) e

next-has : (new : Table ℕ) (met : ℕ) (g : List ℕ × ℕ) → is_next new met g ≡ true → has g.0 new ≡ true
next-has new met g e = has-at met new ([], 0) g.0 (next-low new met g e) (next-same new met g e)

-- ---- the walk over the grants that it had

without : (key : ℕ) (new : Table ℕ) (w : Walk) (g : List ℕ × ℕ) (b : Bool) → is_next new w.met g ≡ b
    → walked key new w g ≡ cond b (record w { met = w.met + 1 }) (record { index = without_entry key new w.index g; size = w.size - size_of g.0; met = w.met })
without key new w g b e = ap (λ c. cond c (record w { met = w.met + 1 }) (record { index = without_entry key new w.index g; size = w.size - size_of g.0; met = w.met })) e

-- what one grant does to another entry
step-index : (key : ℕ) (new : Table ℕ) (w : Walk) (g : List ℕ × ℕ) (f : List ℕ) (q : ℕ)
    → is_some (tree.get (walked key new w g).index (f, q)) ≡ cond (is_next new w.met g || has g.0 new) (is_some (tree.get w.index (f, q))) (cond ((q == key) && bytes_eq g.0 f) false (is_some (tree.get w.index (f, q))))
step-index key new w g f q = by (is_next new w.met g) (has g.0 new) refl refl
  where
    by : (a b : Bool) → is_next new w.met g ≡ a → has g.0 new ≡ b
        → is_some (tree.get (walked key new w g).index (f, q)) ≡ cond (is_next new w.met g || has g.0 new) (is_some (tree.get w.index (f, q))) (cond ((q == key) && bytes_eq g.0 f) false (is_some (tree.get w.index (f, q))))
    by true b e h =
        ap (λ (x : Walk). is_some (tree.get x.index (f, q))) (without key new w g true e)
        ∙ sym (ap (λ c. cond (c || has g.0 new) (is_some (tree.get w.index (f, q))) (cond ((q == key) && bytes_eq g.0 f) false (is_some (tree.get w.index (f, q))))) e)
    by false true e h =
        ap (λ (x : Walk). is_some (tree.get x.index (f, q))) (without key new w g false e)
        ∙ ap (λ c. is_some (tree.get (cond c w.index (tree.remove w.index (g.0, key))) (f, q))) h
        ∙ sym (ap (λ c. cond (c || has g.0 new) (is_some (tree.get w.index (f, q))) (cond ((q == key) && bytes_eq g.0 f) false (is_some (tree.get w.index (f, q))))) e
        ∙ ap (λ c. cond c (is_some (tree.get w.index (f, q))) (cond ((q == key) && bytes_eq g.0 f) false (is_some (tree.get w.index (f, q))))) h)
    by false false e h =
        ap (λ (x : Walk). is_some (tree.get x.index (f, q))) (without key new w g false e)
        ∙ ap (λ c. is_some (tree.get (cond c w.index (tree.remove w.index (g.0, key))) (f, q))) h
        ∙ read-remove w.index g.0 f key q
        ∙ sym (ap (λ c. cond (c || has g.0 new) (is_some (tree.get w.index (f, q))) (cond ((q == key) && bytes_eq g.0 f) false (is_some (tree.get w.index (f, q))))) e
        ∙ ap (λ c. cond c (is_some (tree.get w.index (f, q))) (cond ((q == key) && bytes_eq g.0 f) false (is_some (tree.get w.index (f, q))))) h)

cond-same : {X : Type 0} (b : Bool) (x : X) → cond b x x ≡ x
cond-same true x = refl
cond-same false x = refl

-- those of other sessions stay
walk-others : (key : ℕ) (new old : Table ℕ) (w : Walk) (f : List ℕ) (q : ℕ) → (q == key) ≡ false
    → is_some (tree.get (fold (walked key new) w old).index (f, q)) ≡ is_some (tree.get w.index (f, q))
walk-others key new [] w f q other = refl
walk-others key new (g ∷ gs) w f q other =
    walk-others key new gs (walked key new w g) f q other ∙ step-index key new w g f q
    ∙ ap (λ b. cond (is_next new w.met g || has g.0 new) (is_some (tree.get w.index (f, q))) (cond (b && bytes_eq g.0 f) false (is_some (tree.get w.index (f, q))))) other
    ∙ cond-same (is_next new w.met g || has g.0 new) (is_some (tree.get w.index (f, q)))

-- and those that are among the new ones
walk-stay : (key : ℕ) (new old : Table ℕ) (w : Walk) (f : List ℕ) → has f new ≡ true
    → is_some (tree.get (fold (walked key new) w old).index (f, key)) ≡ is_some (tree.get w.index (f, key))
walk-stay key new [] w f there = refl
walk-stay key new (g ∷ gs) w f there =
    walk-stay key new gs (walked key new w g) f there ∙ step-index key new w g f key ∙ by (is_next new w.met g || has g.0 new) (bytes_eq g.0 f) refl refl
  where
    by : (a b : Bool) → is_next new w.met g || has g.0 new ≡ a → bytes_eq g.0 f ≡ b
        → cond a (is_some (tree.get w.index (f, key))) (cond ((key == key) && b) false (is_some (tree.get w.index (f, key)))) ≡ is_some (tree.get w.index (f, key))
    by true b e h = refl
    by false false e h = none (key == key) (is_some (tree.get w.index (f, key)))
      where
        none : (a x : Bool) → cond (a && false) false x ≡ x
        none true x = refl
        none false x = refl
    by false true e h =
        absurd (true≢false (sym (or-second (is_next new w.met g) (has g.0 new) (subst (λ t. has t new ≡ true) (sym (same-bytes g.0 f h)) there)) ∙ e))

-- of the others none stays that it had
walk-gone : (key : ℕ) (new old : Table ℕ) (w : Walk) (f : List ℕ) → has f new ≡ false → is_some (tree.get (fold (walked key new) w old).index (f, key)) ≡ true
    → (is_some (tree.get w.index (f, key)) ≡ true) × (has f old ≡ false)
walk-gone key new [] w f none there = (there, refl)
walk-gone key new (g ∷ gs) w f none there =
    let rest = walk-gone key new gs (walked key new w g) f none there in
    let here = by (is_next new w.met g) (has g.0 new) (bytes_eq g.0 f) refl refl refl (sym (step-index key new w g f key) ∙ rest.0) in
    (here.0, ap (λ b. b || has f gs) here.1 ∙ rest.1)
  where
    among : has g.0 new ≡ true → bytes_eq g.0 f ≡ true → ⊥
    among h e = true≢false (sym (has-same g.0 f new e h) ∙ none)

    by : (a b c : Bool) → is_next new w.met g ≡ a → has g.0 new ≡ b → bytes_eq g.0 f ≡ c
        → cond (a || b) (is_some (tree.get w.index (f, key))) (cond ((key == key) && c) false (is_some (tree.get w.index (f, key)))) ≡ true
        → (is_some (tree.get w.index (f, key)) ≡ true) × (bytes_eq g.0 f ≡ false)
    by true b true next h e s = absurd (among (next-has new w.met g next) e)
    by true b false next h e s = (s, e)
    by false true true next h e s = absurd (among h e)
    by false true false next h e s = (s, e)
    by false false true next h e s = absurd (true≢false (sym s ∙ ap (λ x. cond (x && true) false (is_some (tree.get w.index (f, key)))) (eq-eqb key key refl)))
    by false false false next h e s = (none-of (key == key) (is_some (tree.get w.index (f, key))) s, e)
      where
        none-of : (a x : Bool) → cond (a && false) false x ≡ true → x ≡ true
        none-of true x e = e
        none-of false x e = e

-- those that were met it had
walk-met : (key : ℕ) (new old : Table ℕ) (w : Walk) (f : List ℕ) → has f (take (fold (walked key new) w old).met new) ≡ true → (has f (take w.met new) ≡ true) ⊎ (has f old ≡ true)
walk-met key new [] w f there = inl there
walk-met key new (g ∷ gs) w f there =
    ⊎_elim (λ before. by (is_next new w.met g) refl before) (λ rest. inr (or-second (bytes_eq g.0 f) (has f gs) rest)) (walk-met key new gs (walked key new w g) f there)
  where
    by : (b : Bool) → is_next new w.met g ≡ b → has f (take (walked key new w g).met new) ≡ true → (has f (take w.met new) ≡ true) ⊎ (bytes_eq g.0 f || has f gs ≡ true)
    by true next h =
        ⊎_elim (λ before. inl before)
        (λ now. inr (or-first (bytes_eq g.0 f) (has f gs) (ap (λ t. bytes_eq t f) (sym (same-bytes (get_or new w.met ([], 0)).0 g.0 (next-same new w.met g next))) ∙ one (bytes_eq (get_or new w.met ([], 0)).0 f) now)))
        (either-of (has f (take w.met new)) (has f (get_or new w.met ([], 0) ∷ []))
        (sym (list_any-append (λ (e : List ℕ × ℕ). bytes_eq e.0 f) (take w.met new) (get_or new w.met ([], 0) ∷ []))
        ∙ ap (has f) (sym (take-next w.met new ([], 0) (next-low new w.met g next)))
        ∙ ap (λ (x : Walk). has f (take x.met new)) (sym (without key new w g true next)) ∙ h))
      where
        one : (b : Bool) → b || false ≡ true → b ≡ true
        one true e = refl
        one false e = e
    by false next h = inl (ap (λ (x : Walk). has f (take x.met new)) (sym (without key new w g false next)) ∙ h)

-- what the size comes to
walk-size : (key : ℕ) (new old : Table ℕ) (w : Walk) → size_of_grants old ≤ w.size
    → (fold (walked key new) w old).size + size_of_grants old + size_of_grants (take w.met new) ≡ w.size + size_of_grants (take (fold (walked key new) w old).met new)
walk-size key new [] w le = omega arith
walk-size key new (g ∷ gs) w le = by (is_next new w.met g) refl (λ x small. walk-size key new gs x small)
  where
    cons : size_of_grants (g ∷ gs) ≡ size_of g.0 + size_of_grants gs
    cons = sum-cons (λ (e : List ℕ × ℕ). size_of e.0) g gs

    by : (b : Bool) → is_next new w.met g ≡ b
        → ((x : Walk) → size_of_grants gs ≤ x.size
        → (fold (walked key new) x gs).size + size_of_grants gs + size_of_grants (take x.met new) ≡ x.size + size_of_grants (take (fold (walked key new) x gs).met new))
        → (fold (walked key new) (walked key new w g) gs).size + size_of_grants (g ∷ gs) + size_of_grants (take w.met new)
        ≡ w.size + size_of_grants (take (fold (walked key new) (walked key new w g) gs).met new)
    by true next more_of =
        subst (λ (x : Walk). (fold (walked key new) x gs).size + size_of_grants (g ∷ gs) + size_of_grants (take w.met new) ≡ w.size + size_of_grants (take (fold (walked key new) x gs).met new)) (sym (without key new w g true next))
        (let rest = more_of (record w { met = w.met + 1 }) (omega (arith, cons, le)) in
        let more : size_of_grants (take (w.met + 1) new) ≡ size_of_grants (take w.met new) + size_of_grants (get_or new w.met ([], 0) ∷ []) =
        ap size_of_grants (take-next w.met new ([], 0) (next-low new w.met g next)) ∙ sum_by-append (λ (e : List ℕ × ℕ). size_of e.0) (take w.met new) (get_or new w.met ([], 0) ∷ []) in
        let one = sum-cons (λ (e : List ℕ × ℕ). size_of e.0) (get_or new w.met ([], 0)) [] in
        let none : size_of_grants [] ≡ 0 = refl in
        let same : size_of (get_or new w.met ([], 0)).0 ≡ size_of g.0 = ap size_of (same-bytes (get_or new w.met ([], 0)).0 g.0 (next-same new w.met g next)) in
        omega (arith, cons, rest, more, one, none, same))
    by false next more_of =
        subst (λ (x : Walk). (fold (walked key new) x gs).size + size_of_grants (g ∷ gs) + size_of_grants (take w.met new) ≡ w.size + size_of_grants (take (fold (walked key new) x gs).met new)) (sym (without key new w g false next))
        (let rest = more_of (record { index = without_entry key new w.index g; size = w.size - size_of g.0; met = w.met }) (omega (arith, cons, le)) in omega (arith, cons, le, rest))

-- ---- the whole change

abbrev pub begun : Grants → ℕ → Walk
begun index size = record { index = index; size = size; met = 0 }

pub turned-others : (key : ℕ) (new old : Table ℕ) (index more : Grants) (size : ℕ) (r : Walk) → r ≡ fold (walked key new) (begun index size) old
    → more ≡ fold with_entry r.index (map (entry_of key) (drop r.met new))
    → (f : List ℕ) (q : ℕ) → (q == key) ≡ false → is_some (tree.get more (f, q)) ≡ is_some (tree.get index (f, q))
turned-others key new old index more size r is to f q other =
    ap (λ t. is_some (tree.get t (f, q))) to ∙ read-added r.index key (drop r.met new) f q
    ∙ ap (λ b. is_some (tree.get r.index (f, q)) || (b && has f (drop r.met new))) other ∙ none (is_some (tree.get r.index (f, q)))
    ∙ ap (λ (w : Walk). is_some (tree.get w.index (f, q))) is ∙ walk-others key new old (begun index size) f q other
  where
    none : (a : Bool) → a || false ≡ a
    none true = refl
    none false = refl

pub turned-own : (key : ℕ) (new old : Table ℕ) (index more : Grants) (size : ℕ) (r : Walk) → r ≡ fold (walked key new) (begun index size) old
    → more ≡ fold with_entry r.index (map (entry_of key) (drop r.met new))
    → ((f : List ℕ) → is_some (tree.get index (f, key)) ≡ has f old) → (f : List ℕ) → is_some (tree.get more (f, key)) ≡ has f new
turned-own key new old index more size r is to filed f =
    ap (λ t. is_some (tree.get t (f, key))) to ∙ read-added r.index key (drop r.met new) f key
    ∙ ap (λ b. is_some (tree.get r.index (f, key)) || (b && has f (drop r.met new))) (eq-eqb key key refl)
    ∙ by (has f new) refl
  where
    split : has f (take r.met new) || has f (drop r.met new) ≡ has f new
    split = sym (list_any-append (λ (e : List ℕ × ℕ). bytes_eq e.0 f) (take r.met new) (drop r.met new)) ∙ ap (has f) (take-drop r.met new)

    by : (b : Bool) → has f new ≡ b → is_some (tree.get r.index (f, key)) || has f (drop r.met new) ≡ has f new
    by true there =
        ⊎_elim
        (λ met. or-first (is_some (tree.get r.index (f, key))) (has f (drop r.met new))
        (ap (λ (w : Walk). is_some (tree.get w.index (f, key))) is ∙ walk-stay key new old (begun index size) f there ∙ filed f
        ∙ ⊎_elim (λ none. absurd (true≢false (sym none))) (λ had. had) (walk-met key new old (begun index size) f (ap (λ (w : Walk). has f (take w.met new)) (sym is) ∙ met))))
        (λ rest. or-second (is_some (tree.get r.index (f, key))) (has f (drop r.met new)) rest)
        (either-of (has f (take r.met new)) (has f (drop r.met new)) (split ∙ there)) ∙ sym there
    by false none = gone (is_some (tree.get r.index (f, key))) (has f (drop r.met new)) refl refl ∙ sym none
      where
        gone : (a b : Bool) → is_some (tree.get r.index (f, key)) ≡ a → has f (drop r.met new) ≡ b → a || b ≡ false
        gone a true e h = absurd (true≢false (sym (or-second (has f (take r.met new)) (has f (drop r.met new)) h) ∙ split ∙ none))
        gone true false e h =
            let left = walk-gone key new old (begun index size) f none (ap (λ (w : Walk). is_some (tree.get w.index (f, key))) (sym is) ∙ e) in
            absurd (true≢false (sym left.0 ∙ filed f ∙ left.1))
        gone false false e h = refl

pub turned-size : (key : ℕ) (new old : Table ℕ) (index : Grants) (size all : ℕ) (r : Walk) → r ≡ fold (walked key new) (begun index size) old
    → size_of_grants old ≤ size → all ≡ r.size + size_of_grants (drop r.met new) → all + size_of_grants old ≡ size + size_of_grants new
turned-size key new old index size all r is le to =
    let walk = walk-size key new old (begun index size) le in
    let r_size = ap (λ (w : Walk). w.size) is in
    let r_met = ap (λ (w : Walk). size_of_grants (take w.met new)) is in
    let split : size_of_grants (take r.met new) + size_of_grants (drop r.met new) ≡ size_of_grants new =
    sym (sum_by-append (λ (e : List ℕ × ℕ). size_of e.0) (take r.met new) (drop r.met new)) ∙ ap size_of_grants (take-drop r.met new) in
    let none : size_of_grants (take 0 new) ≡ 0 = refl in
    omega (arith, walk, r_size, r_met, split, none, to)

pub walk-least : (key : ℕ) (new old : Table ℕ) (w : Walk) → (fold (walked key new) w old).size ≤ w.size
walk-least key new [] w = omega arith
walk-least key new (g ∷ gs) w = let rest = walk-least key new gs (walked key new w g) in let here = one (is_next new w.met g) refl in omega (arith, rest, here)
  where
    one : (b : Bool) → is_next new w.met g ≡ b → (walked key new w g).size ≤ w.size
    one true e = subst (λ (x : Walk). x.size ≤ w.size) (sym (without key new w g true e)) (omega arith)
    one false e = subst (λ (x : Walk). x.size ≤ w.size) (sym (without key new w g false e)) (omega arith)

-- ---- what a session had and what it has

-- those from a place on, to the end
map-drop : {X Y : Type 0} (f : X → Y) (n : ℕ) (xs : List X) → map f (drop n xs) ≡ drop n (map f xs)
map-drop f zero xs = refl
map-drop f (suc n) [] = refl
map-drop f (suc n) (x ∷ xs) = map-drop f n xs

rest-of : (n : ℕ) (gs : List Grant) (new : Table ℕ) → map grant_view gs ≡ new → map grant_view (take (length gs - n) (drop n gs)) ≡ drop n new
rest-of n gs new e =
    ap (map grant_view) (take_all (length gs - n) (drop n gs) (let long = length-drop n gs in omega (arith, long))) ∙ map-drop grant_view n gs ∙ ap (drop n) e

pub session-turned : (session : Both) (key : ℕ) (had wanted : List Grant) (index more : Grants) (size : ℕ) (r : Walk) → key ≡ session.was.key → map grant_view had ≡ session.was.grants
    → map grant_view wanted ≡ standing_grants session.now → r ≡ fold (walked key (map grant_view wanted)) (begun index size) (map grant_view had)
    → more ≡ fold with_entry r.index (map (entry_of key) (map grant_view (take (length wanted - r.met) (drop r.met wanted)))) → IsTurned index more session
session-turned session key had wanted index more size r k h w is to = record {
  others = λ f q other. turned-others key (standing_grants session.now) session.was.grants index more size r walk added f q (ap (λ n. q == n) k ∙ other);
  own = λ filed f. subst (λ n. is_some (tree.get more (f, n)) ≡ has f (standing_grants session.now)) k
      (turned-own key (standing_grants session.now) session.was.grants index more size r walk added (λ g. ap (λ n. is_some (tree.get index (g, n))) k ∙ filed g) f);
}
  where
    walk : r ≡ fold (walked key (standing_grants session.now)) (begun index size) session.was.grants
    walk = is ∙ ap (λ (l : Table ℕ). fold (walked key l) (begun index size) (map grant_view had)) w ∙ ap (fold (walked key (standing_grants session.now)) (begun index size)) h

    added : more ≡ fold with_entry r.index (map (entry_of key) (drop r.met (standing_grants session.now)))
    added = to ∙ ap (λ (l : Table ℕ). fold with_entry r.index (map (entry_of key) l)) (rest-of r.met wanted (standing_grants session.now) w)

pub session-size : (session : Both) (key : ℕ) (had wanted : List Grant) (index : Grants) (size all : ℕ) (r : Walk) → map grant_view had ≡ session.was.grants
    → map grant_view wanted ≡ standing_grants session.now → r ≡ fold (walked key (map grant_view wanted)) (begun index size) (map grant_view had)
    → (r.size ≤ 100000 → all ≡ r.size + size_of_grants (map grant_view (take (length wanted - r.met) (drop r.met wanted))))
    → size ≤ 100000 → size_of_grants session.was.grants ≤ size → all + size_of_grants session.was.grants ≡ size + size_of_grants (standing_grants session.now)
session-size session key had wanted index size all r h w is to small le =
    turned-size key (standing_grants session.now) session.was.grants index size all r walk le
    (to few ∙ ap (λ (l : Table ℕ). r.size + size_of_grants l) (rest-of r.met wanted (standing_grants session.now) w))
  where
    walk : r ≡ fold (walked key (standing_grants session.now)) (begun index size) session.was.grants
    walk = is ∙ ap (λ (l : Table ℕ). fold (walked key l) (begun index size) (map grant_view had)) w ∙ ap (fold (walked key (standing_grants session.now)) (begun index size)) h

    few : r.size ≤ 100000
    few =
        let least = walk-least key (standing_grants session.now) session.was.grants (begun index size) in
        let same = ap (λ (x : Walk). x.size) walk in
        omega (arith, least, same, small)

-- one whose grants are as before
pub alike-turned : (index : Grants) (session : Both) → IsAlike session → IsTurned index index session
alike-turned index session like = record {
  others = λ f q other. refl;
  own = λ filed f. filed f ∙ sym (ap (λ o. has f (standing_grants o)) like.there ∙ ap (has f) like.grants);
}

pub alike-same : (n : ℕ) (session : Both) → IsAlike session → n + size_of_grants session.was.grants ≡ n + size_of_grants (standing_grants session.now)
alike-same n session like = sym (ap (λ o. n + size_of_grants (standing_grants o)) like.there ∙ ap (λ (g : Table ℕ). n + size_of_grants g) like.grants)
