-- What the matching rows hold is what the grants say.
use Rattle.std.proofs.Common.{◌≡◌, ◌⊎◌, ℕ, suc, List, [], ◌∷◌, Bool, true, false, refl, ap, sym, ◌∙◌, subst, cond, inl, inr, arith, Option, Some, None}
use Rattle.std.specs.Prelude.{slice_get, Contains}
use Rattle.std.specs.Str.{bytes_eq}
use Rattle.std.specs.Map.{lookup}
use Rattle.std.specs.BTreeMap as tree
use Rattle.std.specs.Ordering.{nat_cmp, is_eq}
use Rattle.std.specs.Cmp.{nat_cmp_total}
use Rattle.std.specs.FinMap.{get-from_entries}
use Rattle.std.proofs.lemmas.Bool.Decides.{nat_tests}
use Rattle.std.proofs.lemmas.Option.{slice_get-get_or}
use Rattle.std.proofs.lemmas.Map.Entries.{btree_map_get_place}
use Rattle.std.proofs.lemmas.Map.Keys.{IsStrictlyIncreasing-from_sorted}
use Rattle.spk_topics.specs.Grants.{HasGrant, Finds}
use Rattle.spk_topics.specs.Matching.{Matches}
use Rattle.spk_topics.specs.Reached.{Reached, FindsAll}
use Rattle.spk_topics.specs.Rows.{Row, flat, grants_of, Only}
use Rattle.spk_topics.proofs.FitLemmas.{bytes_same}
use Rattle.spk_topics.proofs.RowLemmas.{grants_total, held, look, look-cons, or_else, get-grants_of}

pub record Held (rows : List Row) (f : List ℕ) (k q : ℕ) : Type 0 where
  pub place : ℕ
  pub row : Row
  pub there : slice_get rows place ≡ Some row
  pub same : row.0 ≡ f
  pub holds : held row.1 k ≡ Some q

one_later : (r : Row) (rs : List Row) (f : List ℕ) (k q : ℕ) → Held rs f k q → Held (r ∷ rs) f k q
one_later r rs f k q h = record { place = suc h.place; row = h.row; there = h.there; same = h.same; holds = h.holds }

else_cases : (o p : Option ℕ) (q : ℕ) → or_else o p ≡ Some q → (o ≡ Some q) ⊎ (p ≡ Some q)
else_cases None p q h = inr h
else_cases (Some v) p q h = inl h

part_of : (r : Row) (rs : List Row) (f : List ℕ) (k q : ℕ) (b : Bool) → bytes_eq f r.0 ≡ b → cond b (held r.1 k) None ≡ Some q → Held (r ∷ rs) f k q
part_of r rs f k q true e h = record { place = 0; row = r; there = refl; same = sym (bytes_same f r.0 e); holds = h }
part_of r rs f k q false e h = cc

-- what is looked up stands in a row
pub look_held : (rs : List Row) (f : List ℕ) (k q : ℕ) → look rs f k ≡ Some q → Held rs f k q
look_held [] f k q h = cc
look_held (r ∷ rs) f k q h = side (else_cases _ _ q (sym (look-cons r rs f k) ∙ h)) (look_held rs f k q)
  where
    side : (cond (bytes_eq f r.0) (held r.1 k) None ≡ Some q) ⊎ (look rs f k ≡ Some q) → (look rs f k ≡ Some q → Held rs f k q) → Held (r ∷ rs) f k q
    side (inl p) ih = part_of r rs f k q (bytes_eq f r.0) refl p
    side (inr p) ih = one_later r rs f k q (ih p)

pub reached_of : (rows : List Row) (topic : List ℕ) (k q : ℕ) → HasGrant (grants_of rows) topic k q → Reached rows topic k q
reached_of rows topic k q h =
    let f = h.0 in
    let g : Held rows f k q = look_held rows f k q (sym (get-from_entries grants_total (flat rows) (f, k)) ∙ h.2) in
    record { place = g.place; row = g.row; there = g.there; matching = subst (λ x. Matches x topic) (sym g.same) h.1; holds = g.holds }

abbrev pub AreSingle : List Row → Type 0
AreSingle rows = (i : ℕ) (row : Row) (k q : ℕ) → slice_get rows i ≡ Some row → held row.1 k ≡ Some q → Only rows row.0 i

pub grant_of : (rows : List Row) (topic : List ℕ) (k q : ℕ) → AreSingle rows → Reached rows topic k q → HasGrant (grants_of rows) topic k q
grant_of rows topic k q single r =
    (r.row.0, r.matching, get-grants_of rows r.row.0 r.place r.row k (single r.place r.row k q r.there r.holds) r.there (inl refl) ∙ r.holds)

same_key : (k j : ℕ) → is_eq (nat_cmp k j) ≡ true → k ≡ j
same_key k j h = grind (arith, nat_tests)

contained_here : (x : ℕ × ℕ) (es : List (ℕ × ℕ)) (k q : ℕ) (b : Bool) → is_eq (nat_cmp k x.0) ≡ b → (lookup (tree.is_at (nat_cmp k)) es ≡ Some q → Contains es (k, q))
    → cond b (Some x.1) (lookup (tree.is_at (nat_cmp k)) es) ≡ Some q → Contains (x ∷ es) (k, q)
contained_here x es k q true e ih h =
    let v : x.1 ≡ q = cc in
    let s : x.0 ≡ k = sym (same_key k x.0 e) in
    (0, omega arith, λ i. (s i, v i))
contained_here x es k q false e ih h = let (i, within, is) = ih h in (suc i, omega arith, is)

contained : (es : List (ℕ × ℕ)) (k q : ℕ) → lookup (tree.is_at (nat_cmp k)) es ≡ Some q → Contains es (k, q)
contained [] k q h = cc
contained (x ∷ es) k q h = contained_here x es k q (is_eq (nat_cmp k x.0)) refl (contained es k q) h

among : (es : List (ℕ × ℕ)) (e : ℕ × ℕ) → Contains es e → (i : ℕ) × (slice_get es i ≡ Some e)
among es e h = (h.0, slice_get-get_or es h.0 e h.1 ∙ ap (λ x. Some x) h.2)

one_value : (a b : ℕ) → Some a ≡ Some b → a ≡ b
one_value a b h = cc

-- the entries of a map that finds all are what is asked for
pub finds : (rows : List Row) (topic : List ℕ) (m : tree.BTreeMap ℕ ℕ) → AreSingle rows → tree.IsOrdered nat_cmp m → FindsAll rows topic (tree.get nat_cmp m) → Finds (grants_of rows) topic m.entries
finds rows topic m single ordered h = record {
  ascending = IsStrictlyIncreasing-from_sorted _ ordered;
  each = λ k q c.
      let (i, there) = among m.entries (k, q) c in
      let found = btree_map_get_place nat_cmp_total m i k q ordered there in
      record {
        granted = grant_of rows topic k q single (h.sound k q found);
        greatest = λ p g.
            let (best, is, le) = h.all k p (reached_of rows topic k p g) in
            let same : best ≡ q = one_value best q (sym is ∙ found) in
            omega arith;
      };
  all = λ k q g. let (best, is, le) = h.all k q (reached_of rows topic k q g) in (best, contained m.entries k best is);
}
