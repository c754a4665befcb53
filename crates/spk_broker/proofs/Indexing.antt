-- The index is made session by session and grant by grant.
use Rattle.std.proofs.Common.{◌≡◌, ℕ, suc, zero, ◌+◌, ◌<◌, Bool, true, false, ◌==◌, ◌&&◌, ◌||◌, ◌⊎◌, cond, List, [], ◌∷◌, ◌++◌, length, map, take, get_or, refl, sym, ap, ◌∙◌, subst, arith, string_bytes, Option, Some, None, true≢false, eq-eqb, inl, inr}
use Rattle.std.specs.Option.{IfSome, is_some}
use Rattle.std.specs.List.{flat_map, fold, list_any}
use Rattle.std.specs.FinMap as tree
use Rattle.std.specs.FinMap.{get-empty, get-insert}
use Rattle.std.specs.Ordering.{is_eq}
use Rattle.std.specs.declared.cmp.Ordering.{Ordering}
use Rattle.std.specs.declared.cmp.Ordering.TheVariants.{Less, Equal, Greater}
use mathlib.Core.Logic.{⊎_elim}
use Rattle.std.specs.Str.{bytes_eq}
use Rattle.std.proofs.lemmas.List.{append-nil, take_more}
use Rattle.std.proofs.lemmas.List.Folds.{list_any-append}
use Rattle.std.proofs.lemmas.List.Sums.{fold-append}
use Rattle.std.proofs.lemmas.Grind.{flat_map-append}
use Rattle.spk_topics.specs.Grants.{Grants, grant_cmp}
use Rattle.spk_topics.proofs.RowLemmas.{grants_exact, grants_total}
use Rattle.spk_broker_rules.specs.Data as plain
use Rattle.spk_broker_rules.specs.Table.{Table, has}
use Rattle.spk_broker_rules.specs.Words.{option_list}
use Rattle.spk_broker_rules.proofs.Tables.{bytes_self}
use Rattle.spk_broker.specs.Both.{Both}
use Rattle.spk_broker.specs.Filing.{AreFiled, Entry, HasNoOther, IsFiled, entries_of, entry_of, index_of, is_granted, with_entry}
use Rattle.spk_broker.specs.Granting.{standing_grants}
use Rattle.spk_broker.specs.Parts.{grant_view}
use Rattle.spk_broker.specs.View.{session_now}
use Rattle.spk_broker.specs.declared.session.Grant.{Grant}
use Rattle.spk_broker.proofs.Retaining.{same-bytes}

-- ---- what is made

-- one more grant
pub entries-step : (index : Grants) (key : ℕ) (gs : List Grant) (i : ℕ) (d : Grant) → i < length gs
    → fold with_entry index (map (entry_of key) (map grant_view (take (i + 1) gs)))
    ≡ with_entry (fold with_entry index (map (entry_of key) (map grant_view (take i gs)))) ((string_bytes (get_or gs i d).filter, key), (get_or gs i d).qos)
entries-step index key [] i d low = absurd (omega (arith, low))
entries-step index key (g ∷ gs) zero d low = refl
entries-step index key (g ∷ gs) (suc i) d low =
    let z : suc i + 1 ≡ suc (i + 1) = omega arith in
    ap (λ k. fold with_entry index (map (entry_of key) (map grant_view (take k (g ∷ gs))))) z
    ∙ entries-step (with_entry index (entry_of key (grant_view g))) key gs i d (omega (arith, low))

-- all grants of one session, if it is there
pub session-entries : (o : Option plain.Session) (key : ℕ) (gs : Table ℕ) → IfSome o (λ s. key ≡ s.key) → gs ≡ standing_grants o → map (entry_of key) gs ≡ flat_map entries_of (option_list o)
session-entries None key gs k e = ap (map (entry_of key)) e
session-entries (Some s) key gs k e = ap (map (entry_of key)) e ∙ ap (λ n. map (entry_of n) s.grants) k ∙ sym (append-nil (entries_of s))

-- one more session
pub index-step : (bs : List Both) (i : ℕ) (d : Both) → i < length bs
    → index_of (flat_map session_now (take (i + 1) bs)) ≡ fold with_entry (index_of (flat_map session_now (take i bs))) (flat_map entries_of (session_now (get_or bs i d)))
index-step bs i d low =
    let x = get_or bs i d in
    let before = flat_map session_now (take i bs) in
    ap (λ l. index_of (flat_map session_now l)) (take_more bs i d low)
    ∙ ap index_of (flat_map-append session_now (take i bs) (x ∷ []))
    ∙ ap (λ l. index_of (before ++ l)) (append-nil (session_now x))
    ∙ ap (fold with_entry tree.empty) (flat_map-append entries_of before (session_now x))
    ∙ fold-append with_entry tree.empty (flat_map entries_of before) (flat_map entries_of (session_now x))

-- ---- it has them all

-- what was granted is there, and what else was there stays
pub record Inserts : Type 0 where
  pub one : (grants : Grants) (filter : List ℕ) (key qos : ℕ) → tree.get (tree.insert grants (filter, key) qos) (filter, key) ≡ Some qos
  pub others : (grants : Grants) (filter other : List ℕ) (key qos at : ℕ) → is_some (tree.get grants (other, at)) ≡ true → is_some (tree.get (tree.insert grants (filter, key) qos) (other, at)) ≡ true

pub still : Inserts → (index : Grants) (es : List Entry) (f : List ℕ) (k : ℕ) → is_some (tree.get index (f, k)) ≡ true → is_some (tree.get (fold with_entry index es) (f, k)) ≡ true
still law index [] f k there = there
still law index (e ∷ es) f k there = still law (with_entry index e) es f k (law.others index e.0.0 f e.0.1 e.1 k there)

pub session-filed : Inserts → (index : Grants) (key : ℕ) (gs : Table ℕ) → IsFiled (fold with_entry index (map (entry_of key) gs)) key gs
session-filed law index key [] f there = absurd (true≢false (sym there))
session-filed law index key (g ∷ gs) f there = by (bytes_eq g.0 f) refl there (session-filed law (with_entry index (entry_of key g)) key gs f)
  where
    by : (b : Bool) → bytes_eq g.0 f ≡ b → b || has f gs ≡ true
        → (has f gs ≡ true → is_some (tree.get (fold with_entry (with_entry index (entry_of key g)) (map (entry_of key) gs)) (f, key)) ≡ true)
        → is_some (tree.get (fold with_entry (with_entry index (entry_of key g)) (map (entry_of key) gs)) (f, key)) ≡ true
    by true e h rest =
        still law (with_entry index (entry_of key g)) (map (entry_of key) gs) f key
        (subst (λ t. is_some (tree.get (with_entry index (entry_of key g)) (t, key)) ≡ true) (same-bytes g.0 f e) (ap is_some (law.one index g.0 key g.1)))
    by false e h rest = rest h

all-filed : Inserts → (index : Grants) (ss : List plain.Session) → AreFiled (fold with_entry index (flat_map entries_of ss)) ss
all-filed law index [] = tt
all-filed law index (s ∷ ss) =
    let split = fold-append with_entry index (entries_of s) (flat_map entries_of ss) in (
      λ f there. subst (λ (t : Grants). is_some (tree.get t (f, s.key)) ≡ true) (sym split)
          (still law (fold with_entry index (entries_of s)) (flat_map entries_of ss) f s.key (session-filed law index s.key s.grants f there)),
      subst (λ (t : Grants). AreFiled t ss) (sym split) (all-filed law (fold with_entry index (entries_of s)) ss),
    )

pub index-filed : Inserts → (ss : List plain.Session) → AreFiled (index_of ss) ss
index-filed law ss = all-filed law tree.empty ss

-- ---- it has no others

-- what stands after an insert was inserted, or stood before
read-insert : (index : Grants) (e : Entry) (f : List ℕ) (k : ℕ) → is_some (tree.get (with_entry index e) (f, k)) ≡ true → ((e.0.0 ≡ f) × (e.0.1 ≡ k)) ⊎ (is_some (tree.get index (f, k)) ≡ true)
read-insert index e f k there = by (grant_cmp (f, k) e.0) refl (ap is_some (sym (get-insert grants_total index e.0 e.1 (f, k))) ∙ there)
  where
    by : (r : Ordering) → grant_cmp (f, k) e.0 ≡ r → is_some (cond (is_eq r) (Some e.1) (tree.get index (f, k))) ≡ true → ((e.0.0 ≡ f) × (e.0.1 ≡ k)) ⊎ (is_some (tree.get index (f, k)) ≡ true)
    by Less is h = inr h
    by Equal is h = let same = sym (grants_exact (f, k) e.0 is) in inl (ap (λ (q : List ℕ × ℕ). q.0) same, ap (λ (q : List ℕ × ℕ). q.1) same)
    by Greater is h = inr h

either-true : (a : Bool) → a || true ≡ true
either-true true = refl
either-true false = refl

fold-only : (index : Grants) (es : List Entry) (f : List ℕ) (k : ℕ) → is_some (tree.get (fold with_entry index es) (f, k)) ≡ true
    → (list_any (λ (e : Entry). (e.0.1 == k) && bytes_eq e.0.0 f) es ≡ true) ⊎ (is_some (tree.get index (f, k)) ≡ true)
fold-only index [] f k there = inr there
fold-only index (e ∷ es) f k there =
    let rest = list_any (λ (e : Entry). (e.0.1 == k) && bytes_eq e.0.0 f) es in
    ⊎_elim
    (λ later. inl (ap (λ b. ((e.0.1 == k) && bytes_eq e.0.0 f) || b) later ∙ either-true ((e.0.1 == k) && bytes_eq e.0.0 f)))
    (λ before. ⊎_elim
    (λ now. inl (ap (λ b. (b && bytes_eq e.0.0 f) || rest) (eq-eqb e.0.1 k now.1) ∙ ap (λ b. b || rest) (ap (λ t. bytes_eq e.0.0 t) (sym now.0) ∙ bytes_self e.0.0)))
    (λ old. inr old)
    (read-insert index e f k before))
    (fold-only (with_entry index e) es f k there)

-- those of one session
of-session : (s : plain.Session) (gs : Table ℕ) (f : List ℕ) (k : ℕ) → list_any (λ (e : Entry). (e.0.1 == k) && bytes_eq e.0.0 f) (map (entry_of s.key) gs) ≡ ((s.key == k) && has f gs)
of-session s [] f k = sym (and-none (s.key == k))
  where
    and-none : (b : Bool) → b && false ≡ false
    and-none true = refl
    and-none false = refl
of-session s (g ∷ gs) f k = ap (λ b. ((s.key == k) && bytes_eq g.0 f) || b) (of-session s gs f k) ∙ joined (s.key == k) (bytes_eq g.0 f) (has f gs)
  where
    joined : (a b c : Bool) → (a && b) || (a && c) ≡ a && (b || c)
    joined true b c = refl
    joined false b c = refl

of-sessions : (ss : List plain.Session) (f : List ℕ) (k : ℕ) → list_any (λ (e : Entry). (e.0.1 == k) && bytes_eq e.0.0 f) (flat_map entries_of ss) ≡ is_granted f k ss
of-sessions [] f k = refl
of-sessions (s ∷ ss) f k =
    list_any-append (λ (e : Entry). (e.0.1 == k) && bytes_eq e.0.0 f) (entries_of s) (flat_map entries_of ss)
    ∙ ap (λ b. b || list_any (λ (e : Entry). (e.0.1 == k) && bytes_eq e.0.0 f) (flat_map entries_of ss)) (of-session s s.grants f k)
    ∙ ap (λ b. ((s.key == k) && has f s.grants) || b) (of-sessions ss f k)

pub index-only : (ss : List plain.Session) → HasNoOther (index_of ss) ss
index-only ss f k there =
    ⊎_elim (λ among. sym (of-sessions ss f k) ∙ among) (λ none. absurd (true≢false (sym none ∙ ap is_some (get-empty grant_cmp (f, k)))))
    (fold-only tree.empty (flat_map entries_of ss) f k there)
