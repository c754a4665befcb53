-- What an event answers on numbers, and that it is what it answers on positions.
use Rattle.std.proofs.Common.{◌≡◌, ℕ, suc, ◌+◌, ◌-◌, ◌<◌, ◌≤◌, ◌&&◌, ◌||◌, ◌⊎◌, Bool, true, false, cond, not, nat_lt, nat_le, eqb, List, [], ◌∷◌, length, refl, sym, ◌∙◌, ap, arith, Option, Some, None, is_some, inl, inr, subst}
use Rattle.std.specs.List.{range_with_len, prefix_len}
use Rattle.std.proofs.lemmas.List.FromFn.{length-range_with_len, get_or-range_with_len}
use Rattle.std.proofs.lemmas.List.Sums.{prefix_len_is, prefix_len-le-length, prefix_len_passes, prefix_len_stops}
use Rattle.std.proofs.lemmas.Bool.{true≢false, cases_lt, cases_eq, cases_Bool, lt-ltb, and_right, and_left, and_from, lt-leb}
use Rattle.spk_sequence.specs.declared.phase.Phase.{Phase}
use Rattle.spk_sequence.specs.declared.phase.Phase.TheVariants as phase
use Rattle.spk_sequence.specs.declared.message.Kind.{Kind}
use Rattle.spk_sequence.specs.declared.answer.Step.{Step}
use Rattle.spk_sequence.specs.declared.answer.Step.TheVariants as step
use Rattle.spk_sequence.specs.Data.{Standing, held_at}
use Rattle.spk_sequence.specs.Step.{is_live, is_dead, is_known, is_below, ahead, hand, hand_ahead, hand_other, places_from, run_of, after_consumed, after_held, after_stop}
use Rattle.spk_sequence.specs.Calls.{Stepped, after_call}
use Rattle.spk_sequence.specs.NodeRecord.{Setting, opens, stamp_at, written_number}
use Rattle.spk_sequence.specs.HostRecord.{Input, MessageComes, Done, HostRecord, kind_of, call_of, consumed_by, done_at, next_after, reach}
use Rattle.spk_sequence.specs.Following.{Following, contains, taken, following, waits, is_session_dead}
use Rattle.spk_sequence.specs.Window.{InWindow, IsNearBirth, IsNearDeath}
use Rattle.spk_sequence.specs.Positions.{is_taken_before, is_of_dead, right_at, right_consumed, birth_step, message_step, run_after}
use Rattle.spk_sequence.proofs.Places.{held_at-past}
use Rattle.spk_sequence.proofs.WindowLemmas.{held_at-places_from, length-places_from}
use Rattle.spk_sequence.proofs.Tied.{Tied, IsTaken, IsFollowed, IsWaiting, InStep, entry_of, not_dead}
use Rattle.spk_sequence.proofs.Quiet.{goes_on, goes_on_true}
use Rattle.spk_sequence.proofs.Eaten.{IsReady, in_run, closed_run}

-- p is consumed, with k waiting ones after it: an NBIRTH newer than the one taken, or the position that comes next.
pub record Eats (s : Setting) (h : HostRecord) (p k : ℕ) : Type 0 where
  pub within : p + suc k ≤ length s.published
  pub closed : (q : ℕ) → p < q → q < p + suc k → opens s.published q ≡ false
  pub alone : (following s h).on ≡ false → k ≡ 0
  pub which : ((opens s.published p ≡ true) × (is_taken_before (taken s h) p ≡ false) × (is_of_dead s h p ≡ false)) ⊎ ((opens s.published p ≡ false) × (p ≡ next_after h) × ((following s h).on ≡ true))

-- what an event consumes
abbrev pub Ate : Setting → HostRecord → Input → List ℕ → Type 0
Ate s h (MessageComes p now) ps = (ps ≡ []) ⊎ ((k : ℕ) × Eats s h p k × (ps ≡ range_with_len p (suc k)))
Ate s h _ ps = ps ≡ []

-- sessions are near, and the phase is Dead only where the session is dead
abbrev pub IsExact : Setting → HostRecord → Standing → Input → Type 0
IsExact s h d input = IsNearBirth s h input × IsNearDeath s h input × (is_dead d.phase ≡ is_session_dead s h)

-- After an event the data is tied to the record again, and the event is that of the positions.
pub record Outcome (s : Setting) (h : HostRecord) (d : Standing) (input : Input) : Type 0 where
  pub tied : Tied s (done_at s h d input ∷ h) (after_call d (call_of s input))
  pub same : IsExact s h d input → done_at s h d input ≡ right_at s h input
  pub ate : Ate s h input (done_at s h d input).consumed

abbrev pub stepped : ℕ → ℕ → Step → List ℕ → Done
stepped p now r ps = record { input = MessageComes p now; reply = Stepped r; consumed = ps }

pub outcome_from : (s : Setting) (h : HostRecord) (d e : Standing) (p now : ℕ) (kind : Kind) (r : Step) (ps : List ℕ) → kind_of s p ≡ kind → hand d (written_number s p) kind now ≡ (r, e) →
    consumed_by s h (MessageComes p now) (Stepped r) ≡ ps → Tied s (stepped p now r ps ∷ h) e →
    (IsExact s h d (MessageComes p now) → cond (opens s.published p) (birth_step s h p) (message_step s h p) ≡ r) → right_consumed (MessageComes p now) (Stepped r) ≡ ps →
    Ate s h (MessageComes p now) ps → Outcome s h d (MessageComes p now)
outcome_from s h d e p now kind r ps k x c t right q ate =
    let is : hand d (written_number s p) (kind_of s p) now ≡ (r, e) = ap (λ j. hand d (written_number s p) j now) k ∙ x in
    record {
      tied = subst (λ (y : Step × Standing). Tied s (stepped p now y.0 (consumed_by s h (MessageComes p now) (Stepped y.0)) ∷ h) y.1) (sym is)
          (subst (λ js. Tied s (stepped p now r js ∷ h) e) (sym c) t);
      same = λ near. ap (λ (y : Step × Standing). stepped p now y.0 (consumed_by s h (MessageComes p now) (Stepped y.0))) is
          ∙ ap (stepped p now r) (c ∙ sym q)
          ∙ sym (ap (λ y. stepped p now y (right_consumed (MessageComes p now) (Stepped y))) (right near));
      ate = subst (Ate s h (MessageComes p now)) (sym (ap (λ (y : Step × Standing). consumed_by s h (MessageComes p now) (Stepped y.0)) is ∙ c)) ate;
    }

-- the six rules, one test after another
pub not_live : (d : Standing) (x now : ℕ) (own : Option ℕ) → is_live d.phase ≡ false → hand_other d x own now ≡ (step.NotLive, d)
not_live d x now own a = rw a refl

pub too_old : (d : Standing) (x now : ℕ) (own : Option ℕ) → is_live d.phase ≡ true → is_below own d.stamp ≡ true → hand_other d x own now ≡ (step.Old, d)
too_old d x now own a b = rw (a, b) refl

pub next_one : (d : Standing) (x now : ℕ) (own : Option ℕ) → is_live d.phase ≡ true → is_below own d.stamp ≡ false → eqb (ahead x d.next) 0 ≡ true →
    hand_other d x own now ≡ (step.Consumed (1 + run_of (places_from d.held d.width 1)), after_consumed d x (places_from d.held d.width 1) now)
next_one d x now own a b c = rw (a, b, c) refl

pub not_next : (d : Standing) (x now : ℕ) (own : Option ℕ) → is_live d.phase ≡ true → is_below own d.stamp ≡ false → eqb (ahead x d.next) 0 ≡ false →
    hand_other d x own now ≡ hand_ahead d (ahead x d.next) own now
not_next d x now own a b c = rw (a, b, c) refl

pub again : (d : Standing) (x now : ℕ) (own : Option ℕ) → is_live d.phase ≡ true → is_below own d.stamp ≡ false → eqb (ahead x d.next) 0 ≡ false → nat_lt (ahead x d.next) d.width ≡ true → is_some (held_at d.held (ahead x d.next)) ≡ true →
    hand_other d x own now ≡ (step.Old, d)
again d x now own a b c e f = rw (a, b, c, e, f) refl

pub held_now : (d : Standing) (x now : ℕ) (own : Option ℕ) → is_live d.phase ≡ true → is_below own d.stamp ≡ false → eqb (ahead x d.next) 0 ≡ false → nat_lt (ahead x d.next) d.width ≡ true → is_some (held_at d.held (ahead x d.next)) ≡ false →
    hand_other d x own now ≡ (step.Held, after_held d (ahead x d.next) own now)
held_now d x now own a b c e f = rw (a, b, c, e, f) refl

pub too_far : (d : Standing) (x now : ℕ) (own : Option ℕ) → is_live d.phase ≡ true → is_below own d.stamp ≡ false → eqb (ahead x d.next) 0 ≡ false → nat_lt (ahead x d.next) d.width ≡ false → nat_lt (ahead x d.next) (256 - d.width) ≡ true →
    hand_other d x own now ≡ (step.Gap, after_stop d phase.Gap)
too_far d x now own a b c e f = rw (a, b, c, e, f) refl

pub behind : (d : Standing) (x now : ℕ) (own : Option ℕ) → is_live d.phase ≡ true → is_below own d.stamp ≡ false → eqb (ahead x d.next) 0 ≡ false → nat_lt (ahead x d.next) d.width ≡ false → nat_lt (ahead x d.next) (256 - d.width) ≡ false →
    hand_other d x own now ≡ (step.Old, d)
behind d x now own a b c e f = rw (a, b, c, e, f) refl

-- the same by positions
pub off_step : (s : Setting) (h : HostRecord) (p : ℕ) → (following s h).on ≡ false → message_step s h p ≡ step.NotLive
off_step s h p a = rw a refl

pub old_step : (s : Setting) (h : HostRecord) (p : ℕ) → (following s h).on ≡ true → nat_lt p (next_after h) ≡ true → message_step s h p ≡ step.Old
old_step s h p a b = rw (a, b) refl

pub next_step : (s : Setting) (h : HostRecord) (p k : ℕ) → (following s h).on ≡ true → nat_lt p (next_after h) ≡ false → eqb p (next_after h) ≡ true → run_after s h p ≡ k → message_step s h p ≡ step.Consumed (1 + k)
next_step s h p k a b c e = rw (a, b, c, e) refl

pub again_step : (s : Setting) (h : HostRecord) (p : ℕ) → (following s h).on ≡ true → nat_lt p (next_after h) ≡ false → eqb p (next_after h) ≡ false → nat_lt p (next_after h + s.width) ≡ true → waits (following s h) (next_after h) p ≡ true → message_step s h p ≡ step.Old
again_step s h p a b c e f = rw (a, b, c, e, f) refl

pub held_step : (s : Setting) (h : HostRecord) (p : ℕ) → (following s h).on ≡ true → nat_lt p (next_after h) ≡ false → eqb p (next_after h) ≡ false → nat_lt p (next_after h + s.width) ≡ true → waits (following s h) (next_after h) p ≡ false → message_step s h p ≡ step.Held
held_step s h p a b c e f = rw (a, b, c, e, f) refl

pub gap_step : (s : Setting) (h : HostRecord) (p : ℕ) → (following s h).on ≡ true → nat_lt p (next_after h) ≡ false → eqb p (next_after h) ≡ false → nat_lt p (next_after h + s.width) ≡ false → message_step s h p ≡ step.Gap
gap_step s h p a b c e = rw (a, b, c, e) refl

-- the run of positions is the run of places
pub run_after-is : (s : Setting) (h : HostRecord) (p now c : ℕ) (held : List (Option (Option ℕ))) → IsReady s h p now c held → run_after s h p ≡ run_of held
run_after-is s h p now c held r =
    let f : Following = following s h in
    let n : ℕ = next_after h in
    let k : ℕ = run_of held in
    let few : k ≤ length held = prefix_len-le-length is_some held in
    let sized : length held ≡ s.width = r.sized in
    let long : length (range_with_len (p + 1) s.width) ≡ s.width = length-range_with_len (p + 1) s.width in
    let waits_is : (q : ℕ) → p < q → waits f n q ≡ contains q f.handed = λ q above. elim (cases_Bool (contains q f.handed)) [
      | inl there ↦ and_from (contains q f.handed) (nat_lt n q) there (lt-ltb n q (r.low q above there)) ∙ sym there
      | inr gone ↦ and_left (contains q f.handed) (nat_lt n q) gone ∙ sym gone
    ] in
    let full : (i : ℕ) → i < s.width → is_some (held_at held i) ≡ waits f n (p + 1 + i) = λ i below.
    ap is_some (r.places i below) ∙ some_if (contains (p + 1 + i) f.handed) (stamp_at s.published (p + 1 + i)) ∙ sym (waits_is (p + 1 + i) (omega arith)) in
    prefix_len_is (waits f n) (range_with_len (p + 1) s.width) k 0 (omega arith)
    (λ i below. ap (waits f n) (get_or-range_with_len (p + 1) s.width i 0 (omega arith)) ∙ sym (full i (omega arith)) ∙ prefix_len_passes is_some held i None below)
    (λ below. let inside : k < s.width = omega arith in
    ap (waits f n) (get_or-range_with_len (p + 1) s.width k 0 inside) ∙ sym (full k inside) ∙ stops held (omega arith))
  where
    some_if : (b : Bool) (x : ℕ) → is_some (cond b (Some (Some x)) None) ≡ b
    some_if true x = refl
    some_if false x = refl

    stops : (xs : List (Option (Option ℕ))) → prefix_len is_some xs < length xs → is_some (held_at xs (prefix_len is_some xs)) ≡ false
    stops xs below = prefix_len_stops is_some xs None below

pub live_is_alive : (x : Phase) → is_live x ≡ true → is_dead x ≡ false
live_is_alive phase.Live e = refl
live_is_alive phase.Unknown e = refl
live_is_alive phase.Gap e = refl
live_is_alive phase.Dead e = absurd (true≢false (sym e))

pub live_is_known : (x : Phase) → is_live x ≡ true → is_known x ≡ true
live_is_known phase.Live e = refl
live_is_known phase.Gap e = refl
live_is_known phase.Dead e = refl
live_is_known phase.Unknown e = absurd (true≢false (sym e))

-- what comes after the one that comes next
pub message_ready : (s : Setting) (h : HostRecord) (d : Standing) (p now b : ℕ) → Tied s h d → taken s h ≡ Some b → (following s h).on ≡ true → p ≡ next_after h → opens s.published p ≡ false → InStep s p b → InWindow s h p →
    IsReady s h p now b (places_from d.held d.width 1)
message_ready s h d p now b t tk on at closed in_step window =
    let n : ℕ = next_after h in
    let f : Following = following s h in
    let o : IsTaken s h d b = t.birth b tk in
    let w : IsFollowed s h d b = t.followed b tk on in
    let wide : d.width ≡ s.width = t.width in
    let some : 0 < d.width = t.whole.some_places in
    let sized : length d.held ≡ d.width = t.whole.all_places in
    let waits_is : (q : ℕ) → p < q → waits f n q ≡ contains q f.handed = λ q above. ap (λ x. contains q f.handed && x) (lt-ltb n q (omega arith)) ∙ and_true (contains q f.handed) in
    let waiting : (q : ℕ) → p < q → contains q f.handed ≡ true → IsWaiting s h b q = λ q above there. w.waiting q (waits_is q above ∙ there) in
    record {
      published = window.published;
      behind = window.not_far_behind;
      opening = o.opening;
      after = (let l : b < n = o.below in omega arith);
      in_step = in_step;
      takes_it = ap (λ x. cond x (Some p) (taken s h)) closed ∙ tk;
      one_birth = λ q low high. elim (cases_lt q n) [
        | inl inside ↦ o.one_birth q low inside
        | inr last ↦ (let here : p ≡ q = omega arith in ap (opens s.published) (sym here) ∙ closed)
      ];
      sized = length-places_from d.held d.width 1 ∙ wide;
      places = λ i below.
          let there : n + (1 + i) ≡ p + 1 + i = omega arith in
          held_at-places_from d.held d.width 1 i (omega arith) ∙ (elim (cases_lt (1 + i) s.width) [
            | inl inside ↦ w.places (1 + i) inside ∙ ap (λ x. entry_of s (waits f n x) x) there ∙ ap (λ x. entry_of s x (p + 1 + i)) (waits_is (p + 1 + i) (omega arith))
            | inr past ↦
                let gone : contains (p + 1 + i) f.handed ≡ false = elim (cases_Bool (contains (p + 1 + i) f.handed)) [
                  | inl handed ↦ absurd (let near : p + 1 + i < n + s.width = (waiting (p + 1 + i) (omega arith) handed).near in omega arith)
                  | inr gone ↦ gone
                ] in
                held_at-past d.held (1 + i) (omega arith) ∙ sym (ap (λ x. entry_of s x (p + 1 + i)) gone)
          ]);
      near = λ q above there. (let near : q < n + s.width = (waiting q above there).near in omega arith);
      waiting = waiting;
      low = λ q above there. omega arith;
      follows = ap (λ x. x || goes_on s h (MessageComes p now)) closed ∙ goes_on_true s h (MessageComes p now) on (and_right (f.on && not (opens s.published p)) (nat_le (n + s.width) p) (lt-leb (n + s.width) p (omega arith))) refl;
      alive = ap (λ x. not x && is_session_dead s h) closed ∙ not_dead s h d t (live_is_alive d.phase (t.live ∙ on));
    }
  where
    and_true : (b : Bool) → (b && true) ≡ b
    and_true true = refl
    and_true false = refl

-- what is ready is consumed
pub eats_ready : (s : Setting) (h : HostRecord) (d : Standing) (p now c : ℕ) (held : List (Option (Option ℕ))) → Tied s h d → IsReady s h p now c held →
    ((opens s.published p ≡ true) × (is_taken_before (taken s h) p ≡ false) × (is_of_dead s h p ≡ false)) ⊎ ((opens s.published p ≡ false) × (p ≡ next_after h) × ((following s h).on ≡ true)) → Eats s h p (run_of held)
eats_ready s h d p now c held t r which = record {
  within = elim (cases_eq (run_of held) 0) [
    | inl none ↦ (let l : p < length s.published = r.published in omega arith)
    | inr some ↦
        let at : p + 1 + (run_of held - 1) ≡ p + run_of held = omega arith in
        let there : contains (p + run_of held) (following s h).handed ≡ true = ap (λ x. contains x (following s h).handed) (sym at) ∙ in_run s h p now c held r (run_of held - 1) (omega arith) in
        let reached : p + run_of held < reach h = (r.waiting (p + run_of held) (omega arith) there).reached in
        let fits : reach h ≤ length s.published = t.fits in omega arith
  ];
  closed = λ q low high. closed_run s h p now c held r q (omega arith) (omega arith);
  alone = λ off. elim (cases_eq (run_of held) 0) [
    | inl none ↦ none
    | inr some ↦ absurd (true≢false (sym (in_run s h p now c held r 0 (omega arith)) ∙ ap (contains (p + 1 + 0)) (t.off_handed off)))
  ];
  which = which;
}
