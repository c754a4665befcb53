-- A session that the index doesn't find has no grant that fits, and a message does nothing to it.
use Rattle.std.proofs.Common.{◌≡◌, ◌↔◌, ℕ, suc, zero, ◌+◌, ◌<◌, Bool, true, false, not, ◌||◌, cond, eqb, List, [], ◌∷◌, ◌++◌, length, drop, set, get_or, slice_index_or, refl, sym, ap, ◌∙◌, subst, arith, Option, Some, None, true≢false, eq-eqb, Vec, Global}
use Rattle.std.specs.Prelude.{IsTrue, max, unwrap_or}
use Rattle.std.specs.Option.{is_some}
use Rattle.std.specs.List.{flat_map}
use Rattle.std.specs.FinMap as tree
use Rattle.std.specs.Str.{bytes_eq}
use Rattle.std.proofs.lemmas.List.{append-nil}
use Rattle.spk_topics.specs.Fitting.{is_match}
use Rattle.spk_topics.specs.Grants.{Grants, Finds}
use Rattle.spk_topics.specs.Matching.{Matches}
use Rattle.spk_broker_rules.specs.Data as plain
use Rattle.spk_broker_rules.specs.Step.{Served, serve, serve_at, stays}
use Rattle.spk_broker_rules.specs.Table.{Table, has}
use Rattle.spk_broker_rules.specs.Words.{best, level, option_list}
use Rattle.spk_broker_rules.proofs.Tables.{bytes_self}
use Rattle.spk_broker.specs.Both.{Both}
use Rattle.spk_broker.specs.Drafts.{Drafted, left_by, served_by, with_served}
use Rattle.spk_broker.specs.Filing.{AllOf, AreFiled, ArePassed, IsFiled, has_key}
use Rattle.spk_broker.specs.View.{session_now}

-- ---- nobody that fits

no-best : (topic : List ℕ) (gs : Table ℕ) → ((f : List ℕ) → has f gs ≡ true → is_match f topic ≡ true → ⊥) → best topic gs ≡ None
no-best topic [] h = refl
no-best topic (g ∷ gs) h = by (is_match g.0 topic) refl (no-best topic gs (λ f there fits. h f (ap (λ b. bytes_eq g.0 f || b) there ∙ either (bytes_eq g.0 f)) fits))
  where
    either : (b : Bool) → b || true ≡ true
    either true = refl
    either false = refl

    by : (b : Bool) → is_match g.0 topic ≡ b → best topic gs ≡ None → cond b (Some (max g.1 (unwrap_or (best topic gs) 0))) (best topic gs) ≡ None
    by true fits rest = absurd (h g.0 (ap (λ b. b || has g.0 gs) (bytes_self g.0)) fits)
    by false fits rest = rest

there-is : (o : Option ℕ) → is_some o ≡ true → (q : ℕ) × (o ≡ Some q)
there-is None h = absurd (true≢false (sym h))
there-is (Some q) h = (q, refl)

found-key : (found : List (ℕ × ℕ)) (key qos k : ℕ) → k < length found → slice_index_or found k (key, qos) ≡ (key, qos) → has_key key found ≡ true
found-key [] key qos k low is = absurd (omega (arith, low))
found-key (g ∷ gs) key qos zero low is =
    ap (λ (e : ℕ × ℕ). eqb e.0 key || has_key key gs) is ∙ ap (λ b. b || has_key key gs) (eqb_self key)
  where
    eqb_self : (n : ℕ) → eqb n n ≡ true
    eqb_self n = eq-eqb n n refl
found-key (g ∷ gs) key qos (suc k) low is = ap (λ b. eqb g.0 key || b) (found-key gs key qos k (omega (arith, low)) is) ∙ either (eqb g.0 key)
  where
    either : (b : Bool) → b || true ≡ true
    either true = refl
    either false = refl

pub not-found : (index : Grants) (topic : List ℕ) (found : List (ℕ × ℕ)) → Finds index topic found → ((f t : List ℕ) → IsTrue (is_match f t) ↔ Matches f t)
    → (key : ℕ) (gs : Table ℕ) → IsFiled index key gs → has_key key found ≡ false → best topic gs ≡ None
not-found index topic found finds law key gs filed none = no-best topic gs nobody
  where
    nobody : (f : List ℕ) → has f gs ≡ true → is_match f topic ≡ true → ⊥
    nobody f there fits =
        let grant = there-is (tree.get index (f, key)) (filed f there) in
        let among = finds.all key grant.0 (f, (law f topic).0 fits, grant.1) in
        true≢false (sym (found-key found key among.0 among.1.0 among.1.1 among.1.2) ∙ none)

pub passed-all : (index : Grants) (topic : List ℕ) (found : Vec (ℕ × ℕ) Global) → Finds index topic found.items → ((f t : List ℕ) → IsTrue (is_match f t) ↔ Matches f t)
    → (ss : List plain.Session) → AreFiled index ss → ArePassed (Some found) topic ss
passed-all index topic found finds law [] all = tt
passed-all index topic found finds law (s ∷ ss) all = (λ p. not-found index topic found.items finds law s.key s.grants all.0 (turned (has_key s.key found.items) p), passed-all index topic found finds law ss all.1)
  where
    turned : (b : Bool) → not b ≡ true → b ≡ false
    turned true e = sym e
    turned false e = refl

-- where nothing is known nobody is passed over
pub passed-none : (topic : List ℕ) (ss : List plain.Session) → ArePassed None topic ss
passed-none topic [] = tt
passed-none topic (s ∷ ss) = (λ e. absurd (true≢false (sym e)), passed-none topic ss)

-- ---- it does nothing

idle : (m : plain.AppMessage) (s : plain.Session) → best m.topic s.grants ≡ None → serve m s ≡ stays s []
idle m s none = ap (λ o. serve_at (level m.qos o) m s) none

pub idle-left : (m : plain.AppMessage) (o : Option plain.Session) → ((s : plain.Session) → o ≡ Some s → best m.topic s.grants ≡ None) → option_list o ≡ left_by (serve m) o
idle-left m None h = refl
idle-left m (Some s) h = ap (λ (x : Served). x.left) (sym (idle m s (h s refl)))

pub idle-drafted : (m : plain.AppMessage) (o : Option plain.Session) (d : Drafted) → ((s : plain.Session) → o ≡ Some s → best m.topic s.grants ≡ None) → served_by (serve m) o d ≡ d
idle-drafted m None d h = refl
idle-drafted m (Some s) d h = ap (λ (x : Served). with_served x d) (idle m s (h s refl))
    ∙ ap (λ x. record d { sends = x; closes = d.closes ++ []; waiting = d.waiting ++ [] }) (append-nil d.sends)
    ∙ ap (λ x. record d { closes = x; waiting = d.waiting ++ [] }) (append-nil d.closes)
    ∙ ap (λ x. record d { waiting = x }) (append-nil d.waiting)

-- ---- along the sessions

-- of those from a place on
pub passed-at : (Q : ℕ → Table ℕ → Type 0) (cur : List Both) (i : ℕ) (d : Both) (s : plain.Session) → i < length cur → (get_or cur i d).now ≡ Some s → AllOf Q (flat_map session_now (drop i cur)) → Q s.key s.grants
passed-at Q [] i d s low is all = absurd (omega (arith, low))
passed-at Q (c ∷ cs) zero d s low is all = by c.now is all
  where
    by : (o : Option plain.Session) → o ≡ Some s → AllOf Q (option_list o ++ flat_map session_now cs) → Q s.key s.grants
    by None e all = absurd (none e)
      where
        none : {Y : Type 0} {y : Y} → None ≡ Some y → ⊥
        none e = cc
    by (Some x) e all = let same : x ≡ s = cc in subst (λ (y : plain.Session). Q y.key y.grants) same all.0
passed-at Q (c ∷ cs) (suc i) d s low is all = passed-at Q cs i d s (omega (arith, low)) is all

pub passed-next : (Q : ℕ → Table ℕ → Type 0) (cur : List Both) (i : ℕ) (new : Both) → i < length cur → AllOf Q (flat_map session_now (drop i cur)) → AllOf Q (flat_map session_now (drop (i + 1) (set cur i new)))
passed-next Q [] i new low all = absurd (omega (arith, low))
passed-next Q (c ∷ cs) zero new low all = by c.now all
  where
    by : (o : Option plain.Session) → AllOf Q (option_list o ++ flat_map session_now cs) → AllOf Q (flat_map session_now cs)
    by None all = all
    by (Some x) all = all.1
passed-next Q (c ∷ cs) (suc i) new low all =
    let z : suc i + 1 ≡ suc (i + 1) = omega arith in
    subst (λ k. AllOf Q (flat_map session_now (drop k (set (c ∷ cs) (suc i) new)))) (sym z) (passed-next Q cs i new (omega (arith, low)) all)

-- the index finds all that it has
pub filed-more : (index more : Grants) → ((f : List ℕ) (k : ℕ) → is_some (tree.get index (f, k)) ≡ true → is_some (tree.get more (f, k)) ≡ true) → (ss : List plain.Session) → AreFiled index ss → AreFiled more ss
filed-more index more h [] all = tt
filed-more index more h (s ∷ ss) all = (λ f there. h f s.key (all.0 f there), filed-more index more h ss all.1)
