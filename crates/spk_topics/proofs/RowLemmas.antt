-- What rows of grants hold for a filter and a key, and what a change of one row does to it.
use Rattle.std.proofs.Common.{◌≡◌, ◌⊎◌, ℕ, zero, suc, List, [], ◌∷◌, ◌++◌, Bool, true, false, refl, ap, sym, ◌∙◌, subst, cond, inl, inr, set, arith, Option, Some, None}
use Rattle.std.specs.Prelude.{◌&&◌, slice_get}
use Rattle.std.specs.Str.{bytes_eq}
use Rattle.std.specs.Map.{lookup}
use Rattle.std.specs.BTreeMap.{is_at}
use Rattle.std.specs.Ordering.{nat_cmp, is_eq, eq_by_cmp, ordering_then}
use Rattle.std.specs.declared.cmp.Ordering.{Ordering}
use Rattle.std.specs.declared.cmp.Ordering.TheVariants.{Less, Equal, Greater}
use Rattle.std.specs.Cmp.{IsTotalOrder, eq_by_cmp_equiv, nat_cmp_total}
use Rattle.std.specs.Cmp.Lexicographic.{slice_cmp, nat_list_cmp_total}
use Rattle.std.specs.FinMap.{find, get, insert, remove, same_map, get-insert, get-remove, get-from_entries}
use Rattle.std.proofs.lemmas.Cmp.{then_total, on_total}
use Rattle.std.proofs.lemmas.Map.Lookups.{exact_pairs, exact_unsigned, exact_bytes}
use Rattle.std.proofs.lemmas.Map.Text.{is_eq-slice_cmp}
use Rattle.spk_topics.specs.Grants.{grant_cmp}
use Rattle.spk_topics.specs.Rows.{Row, tagged, flat, grants_of, Only, Absent}
use Rattle.spk_topics.proofs.FitLemmas.{bytes_same, bytes_self}

pub grants_total : IsTotalOrder grant_cmp
grants_total = then_total (on_total (λ (p : List ℕ × ℕ). p.0) nat_list_cmp_total) (on_total (λ (p : List ℕ × ℕ). p.1) nat_cmp_total)

pub grants_exact : (x y : List ℕ × ℕ) → grant_cmp x y ≡ Equal → x ≡ y
grants_exact = exact_pairs (slice_cmp nat_cmp) nat_cmp exact_bytes exact_unsigned

-- what a row holds for a key
abbrev pub held : List (ℕ × ℕ) → ℕ → Option ℕ
held es k = lookup (is_at (nat_cmp k)) es

-- what rows hold for a filter and a key
abbrev pub look : List Row → List ℕ → ℕ → Option ℕ
look rows f k = find grant_cmp (f, k) (flat rows)

abbrev pub or_else : Option ℕ → Option ℕ → Option ℕ
or_else (Some v) o = Some v
or_else None o = o

both_eq : (a b : Ordering) → is_eq (ordering_then a b) ≡ (is_eq a && is_eq b)
both_eq Less b = refl
both_eq Equal b = refl
both_eq Greater b = refl

-- two pairs tie where both parts are the same
tie : (f g : List ℕ) (k j : ℕ) → eq_by_cmp grant_cmp (f, k) (g, j) ≡ (bytes_eq f g && is_eq (nat_cmp k j))
tie f g k j = both_eq (slice_cmp nat_cmp f g) (nat_cmp k j) ∙ ap (λ b. b && is_eq (nat_cmp k j)) (is_eq-slice_cmp f g)

cond_of : (b c : Bool) (v : ℕ) (o : Option ℕ) → cond (b && c) (Some v) (cond b o None) ≡ cond b (cond c (Some v) o) None
cond_of true c v o = refl
cond_of false c v o = refl

abbrev nothing : Option ℕ
nothing = None

cond_none : (b : Bool) → nothing ≡ cond b nothing nothing
cond_none true = refl
cond_none false = refl

find-tagged : (f g : List ℕ) (k : ℕ) (es : List (ℕ × ℕ)) → find grant_cmp (f, k) (tagged g es) ≡ cond (bytes_eq f g) (held es k) None
find-tagged f g k [] = cond_none (bytes_eq f g)
find-tagged f g k (e ∷ es) =
    ap (λ b. cond b (Some e.1) (find grant_cmp (f, k) (tagged g es))) (tie f g k e.0)
    ∙ ap (cond (bytes_eq f g && is_eq (nat_cmp k e.0)) (Some e.1)) (find-tagged f g k es)
    ∙ cond_of (bytes_eq f g) (is_eq (nat_cmp k e.0)) e.1 (held es k)

cond_else : (b : Bool) (v : ℕ) (o p : Option ℕ) → cond b (Some v) (or_else o p) ≡ or_else (cond b (Some v) o) p
cond_else true v o p = refl
cond_else false v o p = refl

find-append : (q : List ℕ × ℕ) (es bs : List ((List ℕ × ℕ) × ℕ)) → find grant_cmp q (es ++ bs) ≡ or_else (find grant_cmp q es) (find grant_cmp q bs)
find-append q [] bs = refl
find-append q (e ∷ es) bs =
    ap (cond (eq_by_cmp grant_cmp q e.0) (Some e.1)) (find-append q es bs)
    ∙ cond_else (eq_by_cmp grant_cmp q e.0) e.1 (find grant_cmp q es) (find grant_cmp q bs)

pub look-cons : (r : Row) (rs : List Row) (f : List ℕ) (k : ℕ) → look (r ∷ rs) f k ≡ or_else (cond (bytes_eq f r.0) (held r.1 k) None) (look rs f k)
look-cons r rs f k = find-append (f, k) (tagged r.0 r.1) (flat rs) ∙ ap (λ o. or_else o (look rs f k)) (find-tagged f r.0 k r.1)

else_none : (o : Option ℕ) → or_else o None ≡ o
else_none None = refl
else_none (Some v) = refl

-- a row whose filter is another, or which is empty, holds nothing
empty_part : (f : List ℕ) (k : ℕ) (r : Row) (b : Bool) → bytes_eq f r.0 ≡ b → (r.0 ≡ f → r.1 ≡ []) → cond b (held r.1 k) None ≡ None
empty_part f k r true e h = ap (λ es. held es k) (h (sym (bytes_same f r.0 e)))
empty_part f k r false e h = refl

pub none_there : (rs : List Row) (f : List ℕ) (k : ℕ) → Absent rs f → look rs f k ≡ None
none_there [] f k h = refl
none_there (r ∷ rs) f k h =
    look-cons r rs f k
    ∙ ap (λ o. or_else o (look rs f k)) (empty_part f k r (bytes_eq f r.0) refl (h 0 r refl))
    ∙ none_there rs f k (λ i s e. h (suc i) s e)

not_zero : {A : Type 0} (n : ℕ) → suc n ≡ 0 → A
not_zero n e = absurd (omega arith)

after_first : (x : Row) (xs : List Row) (f : List ℕ) → Only (x ∷ xs) f 0 → Absent xs f
after_first x xs f only i r e s = side (only (suc i) r e s)
  where
    side : (r.1 ≡ []) ⊎ (suc i ≡ 0) → r.1 ≡ []
    side (inl h) = h
    side (inr h) = not_zero i h

first_empty : (x : Row) (xs : List Row) (f : List ℕ) (m : ℕ) → Only (x ∷ xs) f (suc m) → x.0 ≡ f → x.1 ≡ []
first_empty x xs f m only s = side (only 0 x refl s)
  where
    side : (x.1 ≡ []) ⊎ (0 ≡ suc m) → x.1 ≡ []
    side (inl h) = h
    side (inr h) = not_zero m (sym h)

later_only : (x : Row) (xs : List Row) (f : List ℕ) (m : ℕ) → Only (x ∷ xs) f (suc m) → Only xs f m
later_only x xs f m only i r e s = side (only (suc i) r e s)
  where
    side : (r.1 ≡ []) ⊎ (suc i ≡ suc m) → (r.1 ≡ []) ⊎ (i ≡ m)
    side (inl h) = inl h
    side (inr h) = inr (omega arith)

-- rows hold what the one row that may have the filter holds
pub contents : (rs : List Row) (f : List ℕ) (n : ℕ) (r : Row) (k : ℕ) → Only rs f n → slice_get rs n ≡ Some r → look rs f k ≡ cond (bytes_eq f r.0) (held r.1 k) None
contents [] f n r k only e = cc
contents (x ∷ xs) f zero r k only e =
    let same : x ≡ r = cc in
    look-cons x xs f k ∙ ap (or_else (cond (bytes_eq f x.0) (held x.1 k) None)) (none_there xs f k (after_first x xs f only))
    ∙ else_none (cond (bytes_eq f x.0) (held x.1 k) None) ∙ ap (λ (s : Row). cond (bytes_eq f s.0) (held s.1 k) None) same
contents (x ∷ xs) f (suc m) r k only e =
    look-cons x xs f k
    ∙ ap (λ o. or_else o (look xs f k)) (empty_part f k x (bytes_eq f x.0) refl (first_empty x xs f m only))
    ∙ contents xs f m r k (later_only x xs f m only) e

-- the changed row holds what it holds now
changed_same : (rs : List Row) (f : List ℕ) (n : ℕ) (r : Row) (es : List (ℕ × ℕ)) (k : ℕ) → Only rs f n → slice_get rs n ≡ Some r → look (set rs n (f, es)) f k ≡ held es k
changed_same [] f n r es k only e = cc
changed_same (x ∷ xs) f zero r es k only e =
    look-cons (f, es) xs f k
    ∙ ap (or_else (cond (bytes_eq f f) (held es k) None)) (none_there xs f k (after_first x xs f only))
    ∙ else_none (cond (bytes_eq f f) (held es k) None) ∙ ap (λ b. cond b (held es k) None) (bytes_self f)
changed_same (x ∷ xs) f (suc m) r es k only e =
    look-cons x (set xs m (f, es)) f k
    ∙ ap (λ o. or_else o (look (set xs m (f, es)) f k)) (empty_part f k x (bytes_eq f x.0) refl (first_empty x xs f m only))
    ∙ changed_same xs f m r es k (later_only x xs f m only) e

no_self : (f g : List ℕ) → bytes_eq g f ≡ false → g ≡ f → ⊥
no_self f g h e = let t : bytes_eq g f ≡ true = ap (λ x. bytes_eq x f) e ∙ bytes_self f in cc

old_part : (f g : List ℕ) (k : ℕ) (r : Row) → bytes_eq g f ≡ false → (r.0 ≡ f) ⊎ (r.1 ≡ []) → cond (bytes_eq g r.0) (held r.1 k) None ≡ None
old_part f g k r h (inl e) = empty_part g k r (bytes_eq g r.0) refl (λ s. absurd (no_self f g h (sym s ∙ e)))
old_part f g k r h (inr e) = empty_part g k r (bytes_eq g r.0) refl (λ s. e)

-- any other filter has what it had
changed_other : (rs : List Row) (f g : List ℕ) (n : ℕ) (r : Row) (es : List (ℕ × ℕ)) (k : ℕ) → bytes_eq g f ≡ false → slice_get rs n ≡ Some r → (r.0 ≡ f) ⊎ (r.1 ≡ []) → look (set rs n (f, es)) g k ≡ look rs g k
changed_other [] f g n r es k h e s = cc
changed_other (x ∷ xs) f g zero r es k h e s =
    let same : r ≡ x = cc in
    look-cons (f, es) xs g k ∙ ap (λ b. or_else (cond b (held es k) None) (look xs g k)) h
    ∙ sym (look-cons x xs g k ∙ ap (λ o. or_else o (look xs g k)) (subst (λ (y : Row). cond (bytes_eq g y.0) (held y.1 k) None ≡ None) same (old_part f g k r h s)))
changed_other (x ∷ xs) f g (suc m) r es k h e s =
    look-cons x (set xs m (f, es)) g k
    ∙ ap (or_else (cond (bytes_eq g x.0) (held x.1 k) None)) (changed_other xs f g m r es k h e s)
    ∙ sym (look-cons x xs g k)

-- ---- the grants after a change of one row at one key

swapped_eq : (k j : ℕ) → is_eq (nat_cmp k j) ≡ is_eq (nat_cmp j k)
swapped_eq k j = (eq_by_cmp_equiv nat_cmp_total).symm k j

own_row : (f : List ℕ) (r : Row) (k : ℕ) → (r.0 ≡ f) ⊎ (r.1 ≡ []) → cond (bytes_eq f r.0) (held r.1 k) None ≡ held r.1 k
own_row f r k (inl e) = ap (λ b. cond b (held r.1 k) None) (ap (bytes_eq f) e ∙ bytes_self f)
own_row f r k (inr e) = ap (λ es. cond (bytes_eq f r.0) (held es k) None) e ∙ sym (cond_none (bytes_eq f r.0)) ∙ sym (ap (λ es. held es k) e)

here : (rs : List Row) (f : List ℕ) (n : ℕ) (r : Row) (es : List (ℕ × ℕ)) (key : ℕ) (o : Option ℕ) → Only rs f n → slice_get rs n ≡ Some r → (r.0 ≡ f) ⊎ (r.1 ≡ [])
    → ((j : ℕ) → held es j ≡ cond (is_eq (nat_cmp key j)) o (held r.1 j))
    → (g : List ℕ) (j : ℕ) (b : Bool) → bytes_eq g f ≡ b → look (set rs n (f, es)) g j ≡ cond (b && is_eq (nat_cmp j key)) o (look rs g j)
here rs f n r es key o only e s h g j true t =
    let same : g ≡ f = bytes_same g f t in
    subst (λ x. look (set rs n (f, es)) x j ≡ cond (is_eq (nat_cmp j key)) o (look rs x j)) (sym same)
    (changed_same rs f n r es j only e ∙ h j ∙ ap (λ b. cond b o (held r.1 j)) (swapped_eq key j)
    ∙ ap (cond (is_eq (nat_cmp j key)) o) (sym (contents rs f n r j only e ∙ own_row f r j s)))
here rs f n r es key o only e s h g j false t = changed_other rs f g n r es j t e s

pub one_changed : (rs : List Row) (f : List ℕ) (n : ℕ) (r : Row) (es : List (ℕ × ℕ)) (key : ℕ) (o : Option ℕ) → Only rs f n → slice_get rs n ≡ Some r → (r.0 ≡ f) ⊎ (r.1 ≡ [])
    → ((j : ℕ) → held es j ≡ cond (is_eq (nat_cmp key j)) o (held r.1 j))
    → (q : List ℕ × ℕ) → look (set rs n (f, es)) q.0 q.1 ≡ cond (eq_by_cmp grant_cmp q (f, key)) o (look rs q.0 q.1)
one_changed rs f n r es key o only e s h q =
    here rs f n r es key o only e s h q.0 q.1 (bytes_eq q.0 f) refl ∙ ap (λ b. cond b o (look rs q.0 q.1)) (sym (tie q.0 f q.1 key))

pub one_given : (rs : List Row) (f : List ℕ) (n : ℕ) (r : Row) (es : List (ℕ × ℕ)) (key qos : ℕ) → Only rs f n → slice_get rs n ≡ Some r → (r.0 ≡ f) ⊎ (r.1 ≡ [])
    → ((j : ℕ) → held es j ≡ cond (is_eq (nat_cmp key j)) (Some qos) (held r.1 j)) → grants_of (set rs n (f, es)) ≡ insert (grants_of rs) (f, key) qos
one_given rs f n r es key qos only e s h = same_map grants_total grants_exact _ _ (λ q.
    get-from_entries grants_total (flat (set rs n (f, es))) q ∙ one_changed rs f n r es key (Some qos) only e s h q
    ∙ sym (get-insert grants_total (grants_of rs) (f, key) qos q ∙ ap (cond (eq_by_cmp grant_cmp q (f, key)) (Some qos)) (get-from_entries grants_total (flat rs) q)))

pub one_taken : (rs : List Row) (f : List ℕ) (n : ℕ) (r : Row) (es : List (ℕ × ℕ)) (key : ℕ) → Only rs f n → slice_get rs n ≡ Some r → (r.0 ≡ f) ⊎ (r.1 ≡ [])
    → ((j : ℕ) → held es j ≡ cond (is_eq (nat_cmp key j)) None (held r.1 j)) → grants_of (set rs n (f, es)) ≡ remove (grants_of rs) (f, key)
one_taken rs f n r es key only e s h = same_map grants_total grants_exact _ _ (λ q.
    get-from_entries grants_total (flat (set rs n (f, es))) q ∙ one_changed rs f n r es key None only e s h q
    ∙ sym (get-remove grants_total (grants_of rs) (f, key) q ∙ ap (cond (eq_by_cmp grant_cmp q (f, key)) None) (get-from_entries grants_total (flat rs) q)))

-- what the grants hold for a filter and a key is what its row holds
pub get-grants_of : (rs : List Row) (f : List ℕ) (n : ℕ) (r : Row) (k : ℕ) → Only rs f n → slice_get rs n ≡ Some r → (r.0 ≡ f) ⊎ (r.1 ≡ []) → get (grants_of rs) (f, k) ≡ held r.1 k
get-grants_of rs f n r k only e s = get-from_entries grants_total (flat rs) (f, k) ∙ contents rs f n r k only e ∙ own_row f r k s
