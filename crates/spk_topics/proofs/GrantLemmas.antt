-- What a grant changed is undone.
use Rattle.std.proofs.Common.{◌≡◌, ℕ, List, refl, ap, sym, ◌∙◌, cond, Bool, true, false, Option, Some, None}
use Rattle.std.specs.Ordering.{is_eq, eq_by_cmp}
use Rattle.std.specs.declared.cmp.Ordering.{Ordering}
use Rattle.std.specs.declared.cmp.Ordering.TheVariants.{Less, Equal, Greater}
use Rattle.std.specs.FinMap.{get, insert, remove, same_map, get_tied, get-insert, get-remove}
use Rattle.std.specs.Option.{is_some}
use Rattle.std.specs.Cmp.{eq_by_cmp_equiv}
use Rattle.spk_topics.specs.Grants.{Grants, grant_cmp}
use Rattle.spk_topics.proofs.RowLemmas.{grants_total, grants_exact}

-- at the key that was changed stands what stood, and at every other key too
undone : (grants : Grants) (k q : List ℕ × ℕ) (before between : Option ℕ) → get grants k ≡ before
    → cond (eq_by_cmp grant_cmp q k) before (cond (eq_by_cmp grant_cmp q k) between (get grants q)) ≡ get grants q
undone grants k q before between stood = by (grant_cmp q k) refl
  where
    by : (r : Ordering) → grant_cmp q k ≡ r → cond (is_eq r) before (cond (is_eq r) between (get grants q)) ≡ get grants q
    by Less is = refl
    by Equal is = sym stood ∙ get_tied grants_total grants q k is
    by Greater is = refl

pub taken-back : (grants : Grants) (filter : List ℕ) (key qos : ℕ) → get grants (filter, key) ≡ None
    → remove (insert grants (filter, key) qos) (filter, key) ≡ grants
taken-back grants filter key qos none = same_map grants_total grants_exact _ _ (λ q.
    get-remove grants_total (insert grants (filter, key) qos) (filter, key) q
    ∙ ap (cond (eq_by_cmp grant_cmp q (filter, key)) None) (get-insert grants_total grants (filter, key) qos q)
    ∙ undone grants (filter, key) q None (Some qos) none)

pub set-again : (grants : Grants) (filter : List ℕ) (key qos old : ℕ) → get grants (filter, key) ≡ Some old
    → insert (insert grants (filter, key) qos) (filter, key) old ≡ grants
set-again grants filter key qos old stood = same_map grants_total grants_exact _ _ (λ q.
    get-insert grants_total (insert grants (filter, key) qos) (filter, key) old q
    ∙ ap (cond (eq_by_cmp grant_cmp q (filter, key)) (Some old)) (get-insert grants_total grants (filter, key) qos q)
    ∙ undone grants (filter, key) q (Some old) (Some qos) stood)

-- what was granted is there
pub given-one : (grants : Grants) (filter : List ℕ) (key qos : ℕ) → get (insert grants (filter, key) qos) (filter, key) ≡ Some qos
given-one grants filter key qos = get-insert grants_total grants (filter, key) qos (filter, key)
    ∙ ap (λ b. cond b (Some qos) (get grants (filter, key))) ((eq_by_cmp_equiv grants_total).refl (filter, key))

-- what was there stays
pub given-others : (grants : Grants) (filter other : List ℕ) (key qos at : ℕ) → is_some (get grants (other, at)) ≡ true → is_some (get (insert grants (filter, key) qos) (other, at)) ≡ true
given-others grants filter other key qos at there = ap is_some (get-insert grants_total grants (filter, key) qos (other, at)) ∙ by (eq_by_cmp grant_cmp (other, at) (filter, key))
  where
    by : (b : Bool) → is_some (cond b (Some qos) (get grants (other, at))) ≡ true
    by true = refl
    by false = there
