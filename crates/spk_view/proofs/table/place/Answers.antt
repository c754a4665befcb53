use Rattle.std.proofs.Common.{◌≡◌, ◌⊎◌, ◌∙◌, sym, ap, subst, inl, inr, set, length, List, [], ◌∷◌, ◌++◌, Some, None, ℕ}
use Rattle.std.specs.Prelude.{slice_get}
use Rattle.std.specs.Str.{bytes_eq}
use Rattle.spk_host_rules.specs.Data.{Row}
use Rattle.spk_view.specs.Indexed.{IsNamed, IsPlaceOf}
use Rattle.spk_view.specs.Keyed.{key_of_name}
use Rattle.spk_view.proofs.Places.{append-sees, set-sees}
use Rattle.spk_view.proofs.Rows.{named-last, named-there, placed-last, placed-there}
use Rattle.spk_view.proofs.table.place.Goals as goal

-- what stands in a list of which one element was written
written : (rows : List Row) (k : ℕ) (row : Row) (j : ℕ) (r : Row) → slice_get (set rows k row) j ≡ Some r
    → ((j ≡ k) × (r ≡ row)) ⊎ (slice_get rows j ≡ Some r)
written rows k row j r there = by (set-sees rows k row j r there)
  where
    by : ((j ≡ k) × (r ≡ row)) ⊎ ((j ≡ k → ⊥) × (slice_get rows j ≡ Some r)) → ((j ≡ k) × (r ≡ row)) ⊎ (slice_get rows j ≡ Some r)
    by (inl h) = inl h
    by (inr h) = inr h.1

pub returns-in-Some-clause-rows : goal.returns-in-Some-clause-rows
returns-in-Some-clause-rows c =
    let rows = c.args.rows.now.items in
    sym (placed-there rows c.requires.apart c.args.row c.in-Some.place
    (subst (λ (name : List ℕ). IsPlaceOf (λ (r : Row). bytes_eq name r.name) rows (Some c.in-Some.place)) c.name-2.ensures c.in-Some.ensures))

pub returns-in-Some-clause-named : goal.returns-in-Some-clause-named
returns-in-Some-clause-named c =
    let rows = c.args.rows.now.items in
    named-there rows c.args.names.now.keys c.requires c.args.row c.in-Some.place
    (subst (λ (name : List ℕ). IsPlaceOf (λ (r : Row). bytes_eq name r.name) rows (Some c.in-Some.place)) c.name-2.ensures c.in-Some.ensures)

pub returns-in-Some-clause-others : goal.returns-in-Some-clause-others
returns-in-Some-clause-others c = λ k r there. written c.args.rows.now.items c.in-Some.place c.args.row k r there

pub returns-in_ok-push-in-None-clause-rows : goal.returns-in_ok-push-in-None-clause-rows
returns-in_ok-push-in-None-clause-rows c =
    let rows = c.args.rows.now.items in
    c.push_reserved.ensures.items ∙ ap (λ l. l ++ c.args.row ∷ []) c.in_ok-reserve-in-None.ensures.items
    ∙ sym (placed-last rows c.requires.apart c.args.row
    (subst (λ (name : List ℕ). IsPlaceOf (λ (r : Row). bytes_eq name r.name) rows None) c.name-2.ensures c.in-None.ensures))

pub returns-in_ok-push-in-None-clause-named : goal.returns-in_ok-push-in-None-clause-named
returns-in_ok-push-in-None-clause-named c =
    let rows = c.args.rows.now.items in
    let items : c.push_reserved.new.self.items ≡ rows ++ c.args.row ∷ [] =
    c.push_reserved.ensures.items ∙ ap (λ l. l ++ c.args.row ∷ []) c.in_ok-reserve-in-None.ensures.items in
    subst (λ l. IsNamed l c.push.new.self.keys) (sym items)
    (subst (IsNamed (rows ++ c.args.row ∷ [])) (sym c.in_ok-push-in-None.ensures.ok)
    (named-last rows c.args.names.now.keys c.requires c.args.row c.key_of_name-key.result (c.key_of_name-key.ensures ∙ ap key_of_name c.name.ensures)
    (subst (λ (name : List ℕ). IsPlaceOf (λ (r : Row). bytes_eq name r.name) rows None) c.name-2.ensures c.in-None.ensures)))

pub returns-in_ok-push-in-None-clause-others : goal.returns-in_ok-push-in-None-clause-others
returns-in_ok-push-in-None-clause-others c =
    let rows = c.args.rows.now.items in
    let count : c.len-place.result ≡ length rows = c.len-place.ensures ∙ c.args.rows.now.ok.0 in
    let items : c.push_reserved.new.self.items ≡ rows ++ c.args.row ∷ [] =
    c.push_reserved.ensures.items ∙ ap (λ l. l ++ c.args.row ∷ []) c.in_ok-reserve-in-None.ensures.items in
    λ k r there. seen rows c.len-place.result c.args.row k r count (append-sees rows c.args.row k r (ap (λ l. slice_get l k) (sym items) ∙ there))
  where
    seen : (rows : List Row) (n : ℕ) (row : Row) (k : ℕ) (r : Row) → n ≡ length rows → ((k ≡ length rows) × (r ≡ row)) ⊎ (slice_get rows k ≡ Some r)
        → ((k ≡ n) × (r ≡ row)) ⊎ (slice_get rows k ≡ Some r)
    seen rows n row k r count (inl h) = inl (h.0 ∙ sym count, h.1)
    seen rows n row k r count (inr h) = inr h
