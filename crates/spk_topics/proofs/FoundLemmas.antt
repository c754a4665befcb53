-- What gathering the entries of a map gives.
use Rattle.std.proofs.Common.{◌≡◌, ◌⊎◌, ◌≤◌, ℕ, suc, max, List, [], ◌∷◌, Bool, true, false, refl, ap, sym, ◌∙◌, subst, cond, inl, inr, arith, Option, Some, None}
use Rattle.std.specs.Prelude.{slice_get, unwrap_or, nat_lt}
use Rattle.std.specs.Map.{lookup}
use Rattle.std.specs.BTreeMap.{BTreeMap, is_at, get, IsOrdered}
use Rattle.std.specs.Ordering.{nat_cmp, is_eq}
use Rattle.std.specs.Cmp.{eq_by_cmp_equiv, nat_cmp_total}
use Rattle.std.proofs.lemmas.Bool.Decides.{nat_tests}
use Rattle.std.proofs.lemmas.Map.Entries.{btree_map_get_place}
use Rattle.spk_topics.specs.Found.{merged, Gathers}

same_key : (k j : ℕ) → is_eq (nat_cmp k j) ≡ true → k ≡ j
same_key k j h = grind (arith, nat_tests)

swapped : (k j : ℕ) → is_eq (nat_cmp k j) ≡ is_eq (nat_cmp j k)
swapped k j = (eq_by_cmp_equiv nat_cmp_total).symm k j

-- at least q
abbrev HasLeast : Option ℕ → ℕ → Type 0
HasLeast o q = (best : ℕ) × (o ≡ Some best) × (q ≤ best)

more : (o : Option ℕ) (q r : ℕ) → HasLeast o r → q ≤ r → HasLeast o q
more o q r h le = (h.0, h.1, omega (arith, h.2))

least_max : (o : Option ℕ) (q v : ℕ) → o ≡ Some q → q ≤ max (unwrap_or o 0) v
least_max o q v e = rw e (omega arith)

kept_here : (o : Option ℕ) (v q : ℕ) (b : Bool) (after : Option ℕ → Option ℕ) → ((p : Option ℕ) (r : ℕ) → p ≡ Some r → HasLeast (after p) r)
    → o ≡ Some q → HasLeast (after (cond b (Some (max (unwrap_or o 0) v)) o)) q
kept_here o v q true after ih e = more _ q (max (unwrap_or o 0) v) (ih (Some (max (unwrap_or o 0) v)) (max (unwrap_or o 0) v) refl) (least_max o q v e)
kept_here o v q false after ih e = ih o q e

merged_kept : (j : ℕ) (o : Option ℕ) (es : List (ℕ × ℕ)) (q : ℕ) → o ≡ Some q → HasLeast (merged j o es) q
merged_kept j o [] q e = (q, e, omega arith)
merged_kept j o (x ∷ es) q e = kept_here o x.1 q (is_eq (nat_cmp x.0 j)) (λ p. merged j p es) (λ p r. merged_kept j p es r) e

taken_here : (j : ℕ) (o : Option ℕ) (x : ℕ × ℕ) (es : List (ℕ × ℕ)) (q : ℕ) (b : Bool) → b ≡ is_eq (nat_cmp j x.0)
    → ((p : Option ℕ) → lookup (is_at (nat_cmp j)) es ≡ Some q → HasLeast (merged j p es) q)
    → cond b (Some x.1) (lookup (is_at (nat_cmp j)) es) ≡ Some q → HasLeast (merged j (cond (is_eq (nat_cmp x.0 j)) (Some (max (unwrap_or o 0) x.1)) o) es) q
taken_here j o x es q true e ih h =
    let same : x.1 ≡ q = cc in
    rw (swapped x.0 j) (rw (← e) (more _ q (max (unwrap_or o 0) x.1) (merged_kept j (Some (max (unwrap_or o 0) x.1)) es (max (unwrap_or o 0) x.1) refl) (omega arith)))
taken_here j o x es q false e ih h = ih (cond (is_eq (nat_cmp x.0 j)) (Some (max (unwrap_or o 0) x.1)) o) h

merged_taken : (j : ℕ) (o : Option ℕ) (es : List (ℕ × ℕ)) (q : ℕ) → lookup (is_at (nat_cmp j)) es ≡ Some q → HasLeast (merged j o es) q
merged_taken j o [] q h = cc
merged_taken j o (x ∷ es) q h = taken_here j o x es q (is_eq (nat_cmp j x.0)) refl (λ p k. merged_taken j p es q k) h

abbrev Among : List (ℕ × ℕ) → ℕ × ℕ → Type 0
Among es e = (i : ℕ) × (slice_get es i ≡ Some e)

greater_at : (u v b : ℕ) (t : Bool) → nat_lt u v ≡ t → max u v ≡ b → (u ≡ b) ⊎ (v ≡ b)
greater_at u v b true h e = inr (grind (arith, nat_tests))
greater_at u v b false h e = inl (grind (arith, nat_tests))

pair_of : (x : ℕ × ℕ) (j b : ℕ) → x.0 ≡ j → x.1 ≡ b → x ≡ (j, b)
pair_of x j b s t = λ i. (s i, t i)

from_first : (o : Option ℕ) (x : ℕ × ℕ) (es : List (ℕ × ℕ)) (j b : ℕ) → x.0 ≡ j → Some (max (unwrap_or o 0) x.1) ≡ Some b → (o ≡ Some b) ⊎ Among (x ∷ es) (j, b)
from_first None x es j b s e =
    let m : max 0 x.1 ≡ b = cc in
    inr (0, ap (λ y. Some y) (pair_of x j b s (omega arith)))
from_first (Some u) x es j b s e =
    let m : max u x.1 ≡ b = cc in
    pick (greater_at u x.1 b (nat_lt u x.1) refl m)
  where
    pick : (u ≡ b) ⊎ (x.1 ≡ b) → (Some u ≡ Some b) ⊎ Among (x ∷ es) (j, b)
    pick (inl p) = inl (ap (λ y. Some y) p)
    pick (inr p) = inr (0, ap (λ y. Some y) (pair_of x j b s p))

from_here : (j b : ℕ) (o : Option ℕ) (x : ℕ × ℕ) (es : List (ℕ × ℕ)) (t : Bool) → is_eq (nat_cmp x.0 j) ≡ t
    → ((p : Option ℕ) → merged j p es ≡ Some b → (p ≡ Some b) ⊎ Among es (j, b))
    → merged j (cond t (Some (max (unwrap_or o 0) x.1)) o) es ≡ Some b → (o ≡ Some b) ⊎ Among (x ∷ es) (j, b)
from_here j b o x es true e ih h = pick (ih _ h)
  where
    pick : (Some (max (unwrap_or o 0) x.1) ≡ Some b) ⊎ Among es (j, b) → (o ≡ Some b) ⊎ Among (x ∷ es) (j, b)
    pick (inl p) = from_first o x es j b (same_key x.0 j e) p
    pick (inr (i, p)) = inr (suc i, p)
from_here j b o x es false e ih h = pick (ih o h)
  where
    pick : (o ≡ Some b) ⊎ Among es (j, b) → (o ≡ Some b) ⊎ Among (x ∷ es) (j, b)
    pick (inl p) = inl p
    pick (inr (i, p)) = inr (suc i, p)

merged_from : (j : ℕ) (o : Option ℕ) (es : List (ℕ × ℕ)) (b : ℕ) → merged j o es ≡ Some b → (o ≡ Some b) ⊎ Among es (j, b)
merged_from j o [] b h = inl h
merged_from j o (x ∷ es) b h = from_here j b o x es (is_eq (nat_cmp x.0 j)) refl (λ p k. merged_from j p es b k) h

at_place : (m : BTreeMap ℕ ℕ) → IsOrdered nat_cmp m → (o : Option ℕ) (j b : ℕ) → (o ≡ Some b) ⊎ Among m.entries (j, b) → (o ≡ Some b) ⊎ (get nat_cmp m j ≡ Some b)
at_place m ordered o j b (inl h) = inl h
at_place m ordered o j b (inr (i, h)) = inr (btree_map_get_place nat_cmp_total m i j b ordered h)

pub gathered : (old new : ℕ → Option ℕ) (m : BTreeMap ℕ ℕ) → IsOrdered nat_cmp m → ((j : ℕ) → new j ≡ merged j (old j) m.entries) → Gathers old new (get nat_cmp m)
gathered old new m ordered h = record {
  sound = λ j q e. at_place m ordered (old j) j q (merged_from j (old j) m.entries q (sym (h j) ∙ e));
  kept = λ j q e. subst (λ o. HasLeast o q) (sym (h j)) (merged_kept j (old j) m.entries q e);
  taken = λ j q e. subst (λ o. HasLeast o q) (sym (h j)) (merged_taken j (old j) m.entries q e);
}

-- where nothing was found yet, what is found is the map itself
pub taken_whole : (old new m : BTreeMap ℕ ℕ) → old.entries ≡ [] → new.entries ≡ m.entries → Gathers (get nat_cmp old) (get nat_cmp new) (get nat_cmp m)
taken_whole old new m none same = record {
  sound = λ j q e. inr (sym (found j) ∙ e);
  kept = λ j q e. let empty : get nat_cmp old j ≡ None = ap (λ (es : List (ℕ × ℕ)). lookup (is_at (nat_cmp j)) es) none in cc;
  taken = λ j q e. (q, found j ∙ e, omega arith);
}
  where
    found : (j : ℕ) → get nat_cmp new j ≡ get nat_cmp m j
    found j = ap (λ (es : List (ℕ × ℕ)). lookup (is_at (nat_cmp j)) es) same
