-- The greatest timestamp heard, along any list of STATEs.
use Rattle.std.proofs.Common.{◌≡◌, ℕ, ◌<◌, ◌≤◌, Bool, true, false, ltb, cond, List, [], ◌∷◌, ◌++◌, length, refl, sym, ◌∙◌, ap, subst, arith, Option, Some, None, inl, inr, ◌↔◌, append_assoc}
use Rattle.std.specs.List.{All, Any}
use Rattle.std.proofs.lemmas.Bool.{cases_lt, lt-ltb, le-ltb, ltb-true, true≢false, false_from_ne_true}
use Rattle.std.proofs.lemmas.List.{get_or_append_left, append-nil, length-append}
use Rattle.std.proofs.lemmas.List.Elements.{All-push, All-weaker, All-nil}
use Rattle.std.proofs.lemmas.List.Quantifiers.{Any-push}
use Rattle.spk_state.specs.declared.state.State.{State}
use Rattle.spk_state.specs.declared.primary.Heard.TheVariants.{Online, Offline, Ignored}
use Rattle.spk_state.specs.Past.{IsGreatest, IsEarlier, host_is}
use Rattle.spk_state.specs.Step.{is_less, heard_as, after_heard, after_all}

-- what was among the STATEs is among them when one more comes
any-more : (P : State → Type 0) (states : List State) (s : State) → Any P states → Any P (states ++ s ∷ [])
any-more P states s h = (h.0, h.1, omega (arith, length-append states (s ∷ []), h.2), get_or_append_left states (s ∷ []) h.1 h.0 h.2 ∙ h.3, h.4)

-- one more STATE
greatest-more : (heard : Option ℕ) (states : List State) (s : State) → IsGreatest heard states → IsGreatest (after_heard heard s) (states ++ s ∷ [])
greatest-more None states s h = subst (λ xs. IsGreatest (Some s.timestamp) (xs ++ s ∷ [])) (sym h)
    (Any-push (λ (other : State). other.timestamp ≡ s.timestamp) [] s refl, All-push (λ (other : State). other.timestamp ≤ s.timestamp) [] s (All-nil (λ (other : State). other.timestamp ≤ s.timestamp)) (omega arith))
greatest-more (Some t) states s h = elim (cases_lt s.timestamp t) [
  | inl less ↦ let e : ltb s.timestamp t ≡ true = lt-ltb s.timestamp t less in
      rw e (any-more (λ (other : State). other.timestamp ≡ t) states s h.0, All-push (λ (other : State). other.timestamp ≤ t) states s h.1 (omega arith))
  | inr not_less ↦ let e : ltb s.timestamp t ≡ false = le-ltb s.timestamp t not_less in
      rw e (
        Any-push (λ (other : State). other.timestamp ≡ s.timestamp) states s refl,
        All-push (λ (other : State). other.timestamp ≤ s.timestamp) states s
            (All-weaker (λ (other : State). other.timestamp ≤ t) (λ (other : State). other.timestamp ≤ s.timestamp) (λ other below. omega arith) states h.1) (omega arith),
      )
]

greatest-all : (coming states : List State) (heard : Option ℕ) → IsGreatest heard states → IsGreatest (after_all heard coming) (states ++ coming)
greatest-all [] states heard h = subst (IsGreatest heard) (sym (append-nil states)) h
greatest-all (s ∷ coming) states heard h =
    subst (IsGreatest (after_all (after_heard heard s) coming)) (append_assoc states (s ∷ []) coming)
    (greatest-all coming (states ++ s ∷ []) (after_heard heard s) (greatest-more heard states s h))

pub stands : (states : List State) → IsGreatest (after_all None states) states
stands states = greatest-all states [] None refl

-- nothing is among no STATEs
none-among : {Q : Type 0} (P : State → Type 0) (states : List State) → states ≡ [] → Any P states → Q
none-among P states e h = absurd (let l : h.0 < length states = h.2 in let n : length states ≡ 0 = ap length e in omega arith)

-- one that is there is below a bound of all
below-all : (states : List State) (bound : ℕ) (P : State → Type 0) → All (λ (s : State). s.timestamp ≤ bound) states → (h : Any P states) → h.1.timestamp ≤ bound
below-all states bound P all h = subst (λ (s : State). s.timestamp ≤ bound) h.3 (all h.0 h.1 h.2)

-- the greatest is one alone
pub greatest_one : (states : List State) (a b : Option ℕ) → IsGreatest a states → IsGreatest b states → a ≡ b
greatest_one states None None p q = refl
greatest_one states None (Some t) p q = none-among (λ (s : State). s.timestamp ≡ t) states p q.0
greatest_one states (Some t) None p q = none-among (λ (s : State). s.timestamp ≡ t) states q p.0
greatest_one states (Some t) (Some u) p q =
    let a : p.0.1.timestamp ≤ u = below-all states u (λ (s : State). s.timestamp ≡ t) q.1 p.0 in
    let b : q.0.1.timestamp ≤ t = below-all states t (λ (s : State). s.timestamp ≡ u) p.1 q.0 in
    let c : p.0.1.timestamp ≡ t = p.0.4 in
    let d : q.0.1.timestamp ≡ u = q.0.4 in
    ap Some (omega arith)

-- less than the greatest is less than one of them
pub less-earlier : (heard : Option ℕ) (states : List State) (s : State) → IsGreatest heard states → is_less s.timestamp heard ≡ true → IsEarlier s states
less-earlier None states s h e = absurd (true≢false (sym e))
less-earlier (Some t) states s h e =
    let below : s.timestamp < t = ltb-true s.timestamp t e in
    let is : h.0.1.timestamp ≡ t = h.0.4 in
    (h.0.0, h.0.1, h.0.2, h.0.3, omega arith)

pub earlier-less : (heard : Option ℕ) (states : List State) (s : State) → IsGreatest heard states → IsEarlier s states → is_less s.timestamp heard ≡ true
earlier-less None states s h e = none-among (λ (other : State). s.timestamp < other.timestamp) states h e
earlier-less (Some t) states s h e =
    let a : e.1.timestamp ≤ t = below-all states t (λ (other : State). s.timestamp < other.timestamp) h.1 e in
    let b : s.timestamp < e.1.timestamp = e.4 in
    lt-ltb s.timestamp t (omega arith)

-- what is heard, by that test

host-heard : (s : State) (P : Type 0) → host_is s ≡ Ignored → P
host-heard s P e = go s.online e where
  go : (b : Bool) → cond b Online Offline ≡ Ignored → P
  go true f = cc
  go false f = cc

heard-less : (less : Bool) (s : State) → cond less Ignored (host_is s) ≡ Ignored → less ≡ true
heard-less true s e = refl
heard-less false s e = host-heard s (false ≡ true) e

pub ignored : (states : List State) (s : State) → (heard_as (after_all None states) s ≡ Ignored) ↔ IsEarlier s states
ignored states s = (
  λ e. less-earlier (after_all None states) states s (stands states) (heard-less (is_less s.timestamp (after_all None states)) s e),
  λ e. let less : is_less s.timestamp (after_all None states) ≡ true = earlier-less (after_all None states) states s (stands states) e in ap (λ b. cond b Ignored (host_is s)) less,
)

pub heard_else : (states : List State) (s : State) → (IsEarlier s states → ⊥) → heard_as (after_all None states) s ≡ host_is s
heard_else states s h =
    let not_less : is_less s.timestamp (after_all None states) ≡ false =
    false_from_ne_true (is_less s.timestamp (after_all None states)) (λ e. h (less-earlier (after_all None states) states s (stands states) e)) in
    ap (λ b. cond b Ignored (host_is s)) not_less
