-- A message or an NBIRTH that is consumed, with the waiting ones that follow it without a hole.
use Rattle.std.proofs.Common.{◌≡◌, ℕ, suc, ◌+◌, ◌-◌, ◌%◌, ◌<◌, ◌≤◌, ◌&&◌, ◌||◌, Bool, true, false, cond, not, nat_lt, max, List, ◌∷◌, length, refl, sym, ◌∙◌, ap, arith, Option, Some, None, is_some, inl, inr, subst}
use Rattle.std.specs.List.{range_with_len, list_any, filter_map}
use Rattle.std.proofs.lemmas.List.Sums.{prefix_len_passes, prefix_len_stops, prefix_len-le-length}
use Rattle.std.proofs.lemmas.Bool.{true≢false, cases_lt, cases_eq, cases_Bool, lt-ltb, le-ltb, ltb-true, ne_eqb, and_right, and_parts}
use Rattle.spk_sequence.specs.declared.answer.Step.TheVariants as step
use Rattle.spk_sequence.specs.Data.{Standing, held_at}
use Rattle.spk_sequence.specs.Step.{run_of, after_consumed}
use Rattle.spk_sequence.specs.Calls.{Stepped}
use Rattle.spk_sequence.specs.NodeRecord.{Setting, opens, stamp_at, session_at, written_number, written_session}
use Rattle.spk_sequence.specs.HostRecord.{MessageComes, Done, HostRecord, held_under, consumed_by, next_after, reach}
use Rattle.spk_sequence.specs.Following.{Following, contains, taken, takes, following, waits, is_waiting, is_session_dead}
use Rattle.spk_sequence.proofs.Places.{held_at-past}
use Rattle.spk_sequence.proofs.WindowLemmas.{held_at-places_from, length-places_from}
use Rattle.spk_sequence.proofs.Ranges.{after_last-range, none_opens, last_opening-none, filter_map-run}
use Rattle.spk_sequence.proofs.Tied.{Tied, IsTaken, IsFollowed, IsWaiting, InStep, entry_of}
use Rattle.spk_sequence.proofs.Quiet.{following_as, goes_on}

-- an event that consumes a message and k waiting ones after it
abbrev pub eats : ℕ → ℕ → ℕ → Done
eats p now k = record { input = MessageComes p now; reply = Stepped (step.Consumed (1 + k)); consumed = range_with_len p (suc k) }

-- What is known before p is consumed: c is the birth taken after it, and `held` the places counted from the position
-- after p.
pub record IsReady (s : Setting) (h : HostRecord) (p now c : ℕ) (held : List (Option (Option ℕ))) : Type 0 where
  pub published : p < length s.published
  pub behind : reach h ≤ p + s.width
  pub opening : opens s.published c ≡ true
  pub after : c ≤ p
  pub in_step : InStep s p c
  pub takes_it : cond (opens s.published p) (Some p) (taken s h) ≡ Some c
  pub one_birth : (q : ℕ) → c < q → q ≤ p → opens s.published q ≡ false
  pub sized : length held ≡ s.width
  pub places : (i : ℕ) → i < s.width → held_at held i ≡ entry_of s (contains (p + 1 + i) (following s h).handed) (p + 1 + i)
  pub near : (q : ℕ) → p < q → contains q (following s h).handed ≡ true → q < p + s.width
  pub waiting : (q : ℕ) → p < q → contains q (following s h).handed ≡ true → IsWaiting s h c q
  pub low : (q : ℕ) → p < q → contains q (following s h).handed ≡ true → next_after h < q
  pub follows : (opens s.published p || goes_on s h (MessageComes p now)) ≡ true
  pub alive : (not (opens s.published p) && is_session_dead s h) ≡ false

-- the run: each of it was handed, and the one after it was not
pub in_run : (s : Setting) (h : HostRecord) (p now c : ℕ) (held : List (Option (Option ℕ))) → IsReady s h p now c held → (k : ℕ) → k < run_of held → contains (p + 1 + k) (following s h).handed ≡ true
in_run s h p now c held r k below =
    let few : run_of held ≤ length held = prefix_len-le-length is_some held in
    let sized : length held ≡ s.width = r.sized in
    elim (cases_Bool (contains (p + 1 + k) (following s h).handed)) [
      | inl handed ↦ handed
      | inr missing ↦ absurd (true≢false (sym (prefix_len_passes is_some held k None below) ∙ ap is_some (r.places k (omega arith) ∙ ap (λ x. entry_of s x (p + 1 + k)) missing)))
    ]

past_run : (s : Setting) (h : HostRecord) (p now c : ℕ) (held : List (Option (Option ℕ))) → IsReady s h p now c held → contains (p + 1 + run_of held) (following s h).handed ≡ false
past_run s h p now c held r =
    let few : run_of held ≤ length held = prefix_len-le-length is_some held in
    let sized : length held ≡ s.width = r.sized in
    let k : ℕ = run_of held in
    elim (cases_Bool (contains (p + 1 + k) (following s h).handed)) [
      | inl handed ↦
          let near : p + 1 + k < p + s.width = r.near (p + 1 + k) (omega arith) handed in
          absurd (true≢false (sym (ap is_some (r.places k (omega arith) ∙ ap (λ x. entry_of s x (p + 1 + k)) handed)) ∙ prefix_len_stops is_some held None (omega arith)))
      | inr missing ↦ missing
    ]

pub closed_run : (s : Setting) (h : HostRecord) (p now c : ℕ) (held : List (Option (Option ℕ))) → IsReady s h p now c held → (q : ℕ) → p + 1 ≤ q → q < p + 1 + run_of held → opens s.published q ≡ false
closed_run s h p now c held r q low high =
    let at : p + 1 + (q - (p + 1)) ≡ q = omega arith in
    (r.waiting q (omega arith) (ap (λ x. contains x (following s h).handed) (sym at) ∙ in_run s h p now c held r (q - (p + 1)) (omega arith))).closed

-- what is consumed under the numbers is the run
pub consumed_is_run : (s : Setting) (h : HostRecord) (p now c : ℕ) (held : List (Option (Option ℕ))) → IsReady s h p now c held → consumed_by s h (MessageComes p now) (Stepped (step.Consumed (1 + run_of held))) ≡ range_with_len p (suc (run_of held))
consumed_is_run s h p now c held r =
    let k : ℕ = run_of held in
    let count : 1 + k - 1 ≡ k = omega arith in
    ap (λ n. p ∷ filter_map (λ i. held_under s h ((written_number s p + i) % 256)) (range_with_len 1 n)) count
    ∙ ap (λ ps. p ∷ ps) (filter_map-run (λ i. held_under s h ((written_number s p + i) % 256)) p 1 k (λ i low high.
    let at : p + 1 + (i - 1) ≡ p + i = omega arith in
    let handed : contains (p + i) (following s h).handed ≡ true = ap (λ x. contains x (following s h).handed) (sym at) ∙ in_run s h p now c held r (i - 1) (omega arith) in
    let w : IsWaiting s h c (p + i) = r.waiting (p + i) (omega arith) handed in
    let after : c ≤ p = r.after in
    let one : written_number s p ≡ (written_number s c + (p - c)) % 256 = r.in_step.counted c r.opening (omega arith) after in
    let other : written_number s (p + i) ≡ (written_number s c + (p + i - c)) % 256 = w.in_step.counted c r.opening (omega arith) (omega arith) in
    let same : (written_number s p + i) % 256 ≡ written_number s (p + i) = omega arith in
    ap (held_under s h) same ∙ w.under))

takes_is : (s : Setting) (h : HostRecord) (p now c : ℕ) (held : List (Option (Option ℕ))) → IsReady s h p now c held → takes s (eats p now (run_of held)) ≡ opens s.published p
takes_is s h p now c held r =
    let rest : list_any (opens s.published) (range_with_len (p + 1) (run_of held)) ≡ false = none_opens s.published (p + 1) (run_of held) (closed_run s h p now c held r) in
    ap (λ x. opens s.published p || x) rest ∙ or_false (opens s.published p)
  where
    or_false : (b : Bool) → (b || false) ≡ b
    or_false true = refl
    or_false false = refl

next_is : (s : Setting) (h : HostRecord) (p now k : ℕ) → next_after (eats p now k ∷ h) ≡ p + 1 + k
next_is s h p now k = after_last-range (next_after h) p k ∙ omega arith

taken_is : (s : Setting) (h : HostRecord) (p now c : ℕ) (held : List (Option (Option ℕ))) → IsReady s h p now c held → taken s (eats p now (run_of held) ∷ h) ≡ Some c
taken_is s h p now c held r =
    last_opening-none s.published (cond (opens s.published p) (Some p) (taken s h)) (p + 1) (run_of held) (closed_run s h p now c held r) ∙ r.takes_it

pub tied_eaten : (s : Setting) (h : HostRecord) (d e : Standing) (p now c : ℕ) (held : List (Option (Option ℕ))) → Tied s h d → IsReady s h p now c held →
    e.wait ≡ s.wait → e.width ≡ s.width → e.stamp ≡ stamp_at s.published c → e.bd ≡ written_session s (session_at s.published c) →
    Tied s (eats p now (run_of held) ∷ h) (after_consumed e (written_number s p) held now)
tied_eaten s h d e p now c held t r wait width stamp bd =
    let k : ℕ = run_of held in
    let old : Following = following s h in
    let h' : HostRecord = eats p now k ∷ h in
    let n : ℕ = p + 1 + k in
    let next : next_after h' ≡ n = next_is s h p now k in
    let wide : d.width ≡ s.width = t.width in
    let w0 : 0 < d.width = t.whole.some_places in
    let w1 : d.width ≤ 96 = t.whole.few_places in
    let fits : reach h ≤ length s.published = t.fits in
    let published : p < length s.published = r.published in
    let behind : reach h ≤ p + s.width = r.behind in
    let sized : length held ≡ s.width = r.sized in
    let few : k ≤ length held = prefix_len-le-length is_some held in
    let stops : contains n old.handed ≡ false = past_run s h p now c held r in
    let on : (takes s (eats p now k) || goes_on s h (MessageComes p now)) ≡ true = ap (λ x. x || goes_on s h (MessageComes p now)) (takes_is s h p now c held r) ∙ r.follows in
    let f : following s h' ≡ following_as true (MessageComes p now) old (next_after h) (range_with_len p (suc k)) = ap (λ x. following_as x (MessageComes p now) old (next_after h) (range_with_len p (suc k))) on in
    let handed : (q : ℕ) → p < q → contains q (following s h').handed ≡ contains q old.handed = λ q above. ap (λ (x : Following). contains q x.handed) f ∙ ap (λ x. x || contains q old.handed) (ne_eqb p q (λ i. absurd (omega arith))) in
    let last_reached : p + 1 + k ≤ max (p + 1) (reach h) = elim (cases_eq k 0) [
      | inl none ↦ omega arith
      | inr some ↦
          let at : p + 1 + (k - 1) ≡ p + k = omega arith in
          let there : contains (p + k) old.handed ≡ true = ap (λ x. contains x old.handed) (sym at) ∙ in_run s h p now c held r (k - 1) (omega arith) in
          let reached : p + k < reach h = (r.waiting (p + k) (omega arith) there).reached in omega arith
    ] in
    record {
      whole = record {
        some_places = omega arith;
        few_places = omega arith;
        one_byte = omega arith;
        all_places = length-places_from held e.width k;
        next_not_held = held_at-places_from held e.width k 0 (omega arith) ∙ (elim (cases_lt k s.width) [
          | inl inside ↦ (let at : k + 0 ≡ k = omega arith in ap (held_at held) at ∙ r.places k inside ∙ ap (λ x. entry_of s x (p + 1 + k)) stops)
          | inr past ↦ held_at-past held (k + 0) (omega arith)
        ]);
      };
      wait = wait;
      width = width;
      live = sym (ap (λ (x : Following). x.on) f);
      known = sym (ap is_some (taken_is s h p now c held r));
      dead = λ gone. absurd (true≢false (sym gone ∙ ap (λ x. not x && is_session_dead s h) (takes_is s h p now c held r) ∙ r.alive));
      fits = omega arith;
      birth = λ b tb.
          let same : c ≡ b = (let i : Some c ≡ Some b = sym (taken_is s h p now c held r) ∙ tb in cc) in
          let after : c ≤ p = r.after in
          subst (λ x. IsTaken s h' (after_consumed e (written_number s p) held now) x) same (record {
            opening = r.opening;
            stamp = stamp;
            bd = bd;
            below = omega arith;
            reached = omega arith;
            one_birth = λ q low high. elim (cases_lt p q) [
              | inl above ↦ closed_run s h p now c held r q (omega arith) (omega arith)
              | inr below ↦ r.one_birth q low below
            ];
          });
      followed = λ b tb o.
          let same : c ≡ b = (let i : Some c ≡ Some b = sym (taken_is s h p now c held r) ∙ tb in cc) in
          let after : c ≤ p = r.after in
          let one : written_number s p ≡ (written_number s c + (p - c)) % 256 = r.in_step.counted c r.opening (omega arith) after in
          let waits_is : (q : ℕ) → n < q → waits (following s h') (next_after h') q ≡ contains q old.handed = λ q above.
          ap (λ x. waits (following s h') x q) next ∙ ap (λ x. contains q (following s h').handed && x) (lt-ltb n q above) ∙ and_true (contains q (following s h').handed) ∙ handed q (omega arith) in
          subst (λ x. IsFollowed s h' (after_consumed e (written_number s p) held now) x) same (record {
            next = omega arith;
            high = omega arith;
            cause = ap (λ x. contains x (following s h').handed) next ∙ handed n (omega arith) ∙ stops;
            places = λ i below.
                let at : next_after h' + i ≡ p + 1 + (k + i) = omega arith in
                held_at-places_from held e.width k i (omega arith) ∙ (elim (cases_eq i 0) [
                  | inl first ↦
                      let here : k + i ≡ k = omega arith in
                      let not_past : nat_lt (next_after h') (next_after h' + i) ≡ false = le-ltb (next_after h') (next_after h' + i) (omega arith) in
                      ap (held_at held) here ∙ (let empty : held_at held k ≡ None = elim (cases_lt k s.width) [
                        | inl inside ↦ r.places k inside ∙ ap (λ x. entry_of s x (p + 1 + k)) stops
                        | inr past ↦ held_at-past held k (omega arith)
                      ] in empty)
                      ∙ sym (ap (λ x. entry_of s x (next_after h' + i)) (and_right (contains (next_after h' + i) (following s h').handed) (nat_lt (next_after h') (next_after h' + i)) not_past))
                  | inr later ↦ (let goal : held_at held (k + i) ≡ entry_of s (contains (p + 1 + (k + i)) old.handed) (p + 1 + (k + i)) = elim (cases_lt (k + i) s.width) [
                    | inl inside ↦ r.places (k + i) inside
                    | inr past ↦
                        let gone : contains (p + 1 + (k + i)) old.handed ≡ false = elim (cases_Bool (contains (p + 1 + (k + i)) old.handed)) [
                          | inl there ↦ absurd (let near : p + 1 + (k + i) < p + s.width = r.near (p + 1 + (k + i)) (omega arith) there in omega arith)
                          | inr gone ↦ gone
                        ] in
                        held_at-past held (k + i) (omega arith) ∙ sym (ap (λ x. entry_of s x (p + 1 + (k + i))) gone)
                  ] in goal)
                      ∙ sym (ap (λ x. entry_of s x (next_after h' + i)) (waits_is (next_after h' + i) (omega arith)) ∙ ap (λ x. entry_of s (contains x old.handed) x) at)
                ]);
            waiting = λ q wq.
                let parts : (contains q (following s h').handed ≡ true) × (nat_lt (next_after h') q ≡ true) = and_parts (contains q (following s h').handed) (nat_lt (next_after h') q) wq in
                let over : next_after h' < q = ltb-true (next_after h') q parts.1 in
                let there : contains q old.handed ≡ true = sym (handed q (omega arith)) ∙ parts.0 in
                let v : IsWaiting s h c q = r.waiting q (omega arith) there in
                let near : q < p + s.width = r.near q (omega arith) there in
                let reached : q < reach h = v.reached in
                record {
                  near = omega arith;
                  reached = omega arith;
                  closed = v.closed;
                  in_step = v.in_step;
                  under = v.under;
                };
            since = λ any. sym (ap (λ (x : Following). x.began) f ∙ ap (λ x. cond x old.began now) (and_right (is_waiting old.handed (next_after h)) false refl));
          });
      off_held = λ off. absurd (true≢false (sym (ap (λ (x : Following). x.on) f) ∙ off));
      off_handed = λ off. absurd (true≢false (sym (ap (λ (x : Following). x.on) f) ∙ off));
    }
  where
    and_true : (b : Bool) → (b && true) ≡ b
    and_true true = refl
    and_true false = refl
