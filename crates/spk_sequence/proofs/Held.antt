-- A message ahead of the one that comes next, and what waits.
use Rattle.std.proofs.Common.{◌≡◌, ℕ, ◌+◌, ◌-◌, ◌%◌, ◌<◌, ◌≤◌, ◌≢◌, ◌&&◌, ◌||◌, true, false, cond, nat_lt, eqb, List, [], ◌∷◌, length, set, refl, sym, ◌∙◌, ap, arith, Option, Some, None, is_some, inl, inr, subst}
use Rattle.std.proofs.lemmas.List.{get_or-set_same, get_or-set_other, length-set}
use Rattle.std.proofs.lemmas.Bool.{true≢false, cases_eq, cases_Bool, lt-ltb, ltb-true, eq-eqb, ne_eqb, and_parts, and_from, or_right, or_left, or_cases, eqb-true}
use Rattle.spk_sequence.specs.declared.answer.Step.TheVariants as step
use Rattle.spk_sequence.specs.Data.{Standing, IsWhole, held_at}
use Rattle.spk_sequence.specs.Step.{is_any_held, after_held}
use Rattle.spk_sequence.specs.Calls.{Stepped}
use Rattle.spk_sequence.specs.NodeRecord.{Setting, opens, stamp_at, written_number}
use Rattle.spk_sequence.specs.HostRecord.{Input, MessageComes, HostRecord, held_under, next_after, reach}
use Rattle.spk_sequence.specs.Following.{Following, contains, taken, following, waits, is_waiting, is_gap}
use Rattle.spk_sequence.proofs.Places.{none_held, none_held-from}
use Rattle.spk_sequence.proofs.Tied.{Tied, IsTaken, IsFollowed, IsWaiting, InStep, entry_of}
use Rattle.spk_sequence.proofs.Quiet.{quiet, following_as, following-quiet, goes_on_true}

-- a list with a position above n has a member that is above n
pub above_of : (hs : List ℕ) (n : ℕ) → is_waiting hs n ≡ true → (q : ℕ) × (contains q hs ≡ true) × (n < q)
above_of [] n e = absurd (true≢false (sym e))
above_of (q ∷ hs) n e = elim (or_cases (nat_lt n q) (is_waiting hs n) e) [
  | inl here ↦ (q, or_left (eqb q q) (contains q hs) (eq-eqb q q refl), ltb-true n q here)
  | inr later ↦ (let r : (p : ℕ) × (contains p hs ≡ true) × (n < p) = above_of hs n later in (r.0, or_right (eqb q r.0) (contains r.0 hs) r.1, r.2))
]

-- and the other way round
pub above_from : (hs : List ℕ) (n q : ℕ) → contains q hs ≡ true → n < q → is_waiting hs n ≡ true
above_from [] n q e above = e
above_from (p ∷ hs) n q e above = elim (or_cases (eqb p q) (contains q hs) e) [
  | inl same ↦ or_left (nat_lt n p) (is_waiting hs n) (let i : p ≡ q = eqb-true p q same in lt-ltb n p (omega arith))
  | inr later ↦ or_right (nat_lt n p) (is_waiting hs n) (above_from hs n q later above)
]

full_at : (o : Option (Option ℕ)) → o ≡ None → is_some o ≡ false
full_at o e = ap is_some e

-- a place is full exactly where a position waits
pub any_held-waiting : (s : Setting) (h : HostRecord) (d : Standing) (b : ℕ) → Tied s h d → taken s h ≡ Some b → (following s h).on ≡ true → is_any_held d.held ≡ is_waiting (following s h).handed (next_after h)
any_held-waiting s h d b t tk on =
    let n : ℕ = next_after h in
    let f : Following = following s h in
    let w : IsFollowed s h d b = t.followed b tk on in
    let sized : length d.held ≡ s.width = t.whole.all_places ∙ t.width in
    elim (cases_Bool (is_waiting f.handed n)) [
      | inl some ↦
          let r : (q : ℕ) × (contains q f.handed ≡ true) × (n < q) = above_of f.handed n some in
          let wq : waits f n r.0 ≡ true = and_from (contains r.0 f.handed) (nat_lt n r.0) r.1 (lt-ltb n r.0 r.2) in
          let above : n < r.0 = r.2 in
          let near : r.0 < n + s.width = (w.waiting r.0 wq).near in
          let at : n + (r.0 - n) ≡ r.0 = omega arith in
          let full : held_at d.held (r.0 - n) ≡ Some (Some (stamp_at s.published r.0)) =
          w.places (r.0 - n) (omega arith) ∙ ap (λ x. entry_of s (waits f n x) x) at ∙ ap (λ x. entry_of s x r.0) wq in
          elim (cases_Bool (is_any_held d.held)) [
            | inl any ↦ any ∙ sym some
            | inr none ↦ absurd (let e : Some (Some (stamp_at s.published r.0)) ≡ None = sym full ∙ none_held d.held none (r.0 - n) in cc)
          ]
      | inr none ↦ none_held-from d.held (λ i below.
          let idle : waits f n (n + i) ≡ false = elim (cases_Bool (waits f n (n + i))) [
            | inl wi ↦ absurd (true≢false (sym (above_from f.handed n (n + i) (and_parts (contains (n + i) f.handed) (nat_lt n (n + i)) wi).0 (ltb-true n (n + i) (and_parts (contains (n + i) f.handed) (nat_lt n (n + i)) wi).1)) ∙ none))
            | inr idle ↦ idle
          ] in
          w.places i (omega arith) ∙ ap (λ x. entry_of s x (n + i)) idle) ∙ sym none
    ]

-- two positions in step with one birth, less than 256 apart, have different numbers
pub numbers_differ : (s : Setting) (b p q : ℕ) → opens s.published b ≡ true → InStep s p b → InStep s q b → b ≤ p → b ≤ q → p < q + 256 → q < p + 256 → p ≢ q → written_number s p ≢ written_number s q
numbers_differ s b p q o ip iq bp bq low high ne e =
    let x : written_number s p ≡ (written_number s b + (p - b)) % 256 = ip.counted b o (omega arith) bp in
    let y : written_number s q ≡ (written_number s b + (q - b)) % 256 = iq.counted b o (omega arith) bq in
    ne (omega arith)

-- the events of this file: a message is held
abbrev held_event : ℕ → ℕ → Input
held_event p now = MessageComes p now

pub tied_held : (s : Setting) (h : HostRecord) (d : Standing) (p now b : ℕ) → Tied s h d → taken s h ≡ Some b → (following s h).on ≡ true → is_gap s h (MessageComes p now) ≡ false →
    next_after h < p → p < next_after h + s.width → waits (following s h) (next_after h) p ≡ false → opens s.published p ≡ false → InStep s p b → p < length s.published →
    Tied s (quiet (MessageComes p now) (Stepped step.Held) ∷ h) (after_held d (p - next_after h) (Some (stamp_at s.published p)) now)
tied_held s h d p now b t tk on g ahead below fresh closed in_step published =
    let n : ℕ = next_after h in
    let input : Input = MessageComes p now in
    let old : Following = following s h in
    let h' : HostRecord = quiet input (Stepped step.Held) ∷ h in
    let f : following s h' ≡ following_as true input old n [] = following-quiet s h input (Stepped step.Held) true (goes_on_true s h input on g refl) in
    let o : IsTaken s h d b = t.birth b tk in
    let w : IsFollowed s h d b = t.followed b tk on in
    let held : is_any_held d.held ≡ is_waiting old.handed n = any_held-waiting s h d b t tk on in
    let whole : IsWhole d = t.whole in
    let sized : length d.held ≡ s.width = whole.all_places ∙ t.width in
    let place : ℕ = p - n in
    let inside : place < length d.held = omega arith in
    let others : (q : ℕ) → q ≢ p → waits (following s h') n q ≡ waits old n q =
    λ q ne. ap (λ (x : Following). waits x n q) f ∙ ap (λ x. (x || contains q old.handed) && nat_lt n q) (ne_eqb p q (λ e. ne (sym e))) in
    let this : waits (following s h') n p ≡ true =
    ap (λ (x : Following). waits x n p) f ∙ and_from (eqb p p || contains p old.handed) (nat_lt n p) (or_left (eqb p p) (contains p old.handed) (eq-eqb p p refl)) (lt-ltb n p ahead) in
    record {
      whole = record {
        some_places = whole.some_places;
        few_places = whole.few_places;
        one_byte = whole.one_byte;
        all_places = length-set d.held place (Some (Some (stamp_at s.published p))) ∙ whole.all_places;
        next_not_held = get_or-set_other d.held place 0 (Some (Some (stamp_at s.published p))) None (λ e. absurd (omega arith)) ∙ whole.next_not_held;
      };
      wait = t.wait;
      width = t.width;
      live = t.live ∙ on ∙ sym (ap (λ (x : Following). x.on) f);
      known = t.known;
      dead = t.dead;
      fits = (let l : reach h ≤ length s.published = t.fits in omega arith);
      birth = λ c tc. let k : IsTaken s h d c = t.birth c tc in record {
        opening = k.opening;
        stamp = k.stamp;
        bd = k.bd;
        below = k.below;
        reached = (let r : next_after h ≤ reach h = k.reached in omega arith);
        one_birth = k.one_birth;
      };
      followed = λ c tc on'.
          let k : IsFollowed s h d c = t.followed c tc on in
          let same : b ≡ c = (let e : Some b ≡ Some c = sym tk ∙ tc in cc) in
          record {
            next = k.next;
            high = (let r : reach h ≤ n + s.width = k.high in omega arith);
            cause = ap (λ (x : Following). contains n x.handed) f ∙ ap (λ x. x || contains n old.handed) (ne_eqb p n (λ e. absurd (omega arith))) ∙ k.cause;
            places = λ i lt. elim (cases_eq i place) [
              | inl here ↦
                  let at : n + i ≡ p = omega arith in
                  ap (held_at (set d.held place (Some (Some (stamp_at s.published p))))) here
                  ∙ get_or-set_same d.held place (Some (Some (stamp_at s.published p))) None inside
                  ∙ sym (ap (λ x. entry_of s (waits (following s h') n x) x) at ∙ ap (λ x. entry_of s x p) this)
              | inr there ↦
                  let ne : n + i ≢ p = λ e. there (omega arith) in
                  get_or-set_other d.held place i (Some (Some (stamp_at s.published p))) None there ∙ k.places i lt ∙ ap (λ x. entry_of s x (n + i)) (sym (others (n + i) ne))
            ];
            waiting = λ q wq. elim (cases_eq q p) [
              | inl here ↦ subst (λ x. IsWaiting s h' c x) (sym here) (record {
                near = below;
                reached = omega arith;
                closed = closed;
                in_step = subst (InStep s p) same in_step;
                under = ap (λ x. cond x (Some p) (held_under s h (written_number s p))) (eq-eqb (written_number s p) (written_number s p) refl);
              })
              | inr there ↦
                  let wo : waits old n q ≡ true = sym (others q there) ∙ wq in
                  let v : IsWaiting s h c q = k.waiting q wo in
                  let oc : IsTaken s h d c = t.birth c tc in
                  let over : n < q = ltb-true n q (and_parts (contains q old.handed) (nat_lt n q) wo).1 in
                  let bn : c < n = oc.below in
                  let qn : q < n + s.width = v.near in
                  let few : d.width ≤ 96 = whole.few_places in
                  let wide : d.width ≡ s.width = t.width in
                  record {
                    near = v.near;
                    reached = (let r : q < reach h = v.reached in omega arith);
                    closed = v.closed;
                    in_step = v.in_step;
                    under = ap (λ x. cond x (Some p) (held_under s h (written_number s q)))
                        (ne_eqb (written_number s p) (written_number s q) (numbers_differ s c p q oc.opening (subst (InStep s p) same in_step) v.in_step (omega arith) (omega arith) (omega arith) (omega arith) (λ e. there (sym e))))
                        ∙ v.under;
                  }
            ];
            since = λ any. elim (cases_Bool (is_waiting old.handed n)) [
              | inl before ↦ ap (λ x. cond x d.since now) (held ∙ before) ∙ k.since before
                  ∙ sym (ap (λ (x : Following). x.began) f ∙ ap (λ x. cond (x && true) old.began now) before)
              | inr none ↦ ap (λ x. cond x d.since now) (held ∙ none)
                  ∙ sym (ap (λ (x : Following). x.began) f ∙ ap (λ x. cond (x && true) old.began now) none)
            ];
          };
      off_held = λ off. absurd (true≢false (sym (ap (λ (x : Following). x.on) f) ∙ off));
      off_handed = λ off. absurd (true≢false (sym (ap (λ (x : Following). x.on) f) ∙ off));
    }
