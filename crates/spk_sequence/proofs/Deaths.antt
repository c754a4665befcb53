-- Nothing of a dead session is consumed: what was handed was published, and no more is asked.
use Rattle.std.proofs.Common.{◌≡◌, ℕ, ◌+◌, ◌-◌, ◌%◌, ◌<◌, ◌≤◌, ◌&&◌, ◌⊎◌, Bool, true, false, cond, nat_lt, nat_le, eqb, List, [], ◌∷◌, length, refl, sym, ◌∙◌, ap, arith, Option, Some, None, is_some, inl, inr, subst}
use Rattle.std.specs.List.{range_with_len, filter_map, cons_option}
use Rattle.std.proofs.lemmas.Bool.{true≢false, cases_lt, cases_eq, cases_Bool, or_cases, and_parts, and_from, eq-eqb, eqb-true, ltb-true, leb-true, leb-false, ltb-false, ne_eqb, false_from_ne_true, or_left, or_right}
use Rattle.std.proofs.lemmas.List.{get_or-set_same, get_or-set_other}
use Rattle.std.proofs.lemmas.List.FromFn.{length-map-range_with_len}
use Rattle.std.proofs.lemmas.List.Sums.{prefix_len_passes, prefix_len-le-length}
use Rattle.spk_sequence.specs.declared.phase.Phase.{Phase}
use Rattle.spk_sequence.specs.declared.phase.Phase.TheVariants as phase
use Rattle.spk_sequence.specs.declared.message.Kind.{Kind}
use Rattle.spk_sequence.specs.declared.message.Kind.TheVariants.{Birth, Other}
use Rattle.spk_sequence.specs.declared.answer.Step.{Step}
use Rattle.spk_sequence.specs.declared.answer.Step.TheVariants as step
use Rattle.spk_sequence.specs.Data.{Standing, IsWhole, held_at}
use Rattle.spk_sequence.specs.Step.{is_live, is_dead, is_known, is_below, is_kept, is_match, is_over, is_any_held, ahead, hand, kept_places, places_from, run_of, after_consumed, after_held, after_stop, fresh_standing}
use Rattle.spk_sequence.specs.Calls.{Stepped, after_call}
use Rattle.spk_sequence.specs.Numbers.{held_as, KeepsNumbers}
use Rattle.spk_sequence.specs.NodeRecord.{Setting, NodeRecord, IsNodeRecord, opens, session_at, stamp_at, written_number, written_session}
use Rattle.spk_sequence.specs.HostRecord.{Input, MessageComes, DeathComes, TickComes, Done, HostRecord, record_of, standing_of, done_at, consumed_by, held_under, kind_of, call_of}
use Rattle.spk_sequence.specs.Following.{contains, taken, last_opening, is_matching_death, is_session_of, dead_sessions}
use Rattle.spk_sequence.specs.Claims.{AfterDeath, AllPublished, IsPublished}
use Rattle.spk_sequence.proofs.Places.{held_at-past, held_at-empty, held_at-made, none_held-from}
use Rattle.spk_sequence.proofs.Ranges.{in_run}
use Rattle.spk_sequence.proofs.WindowLemmas.{held_at-places_from, length-places_from}
use Rattle.spk_sequence.proofs.Tied.{number_below}
use Rattle.spk_sequence.proofs.Outcomes.{live_is_known, live_is_alive, not_live, too_old, next_one, again, held_now, too_far, behind}
use Rattle.spk_sequence.proofs.Births.{birth_kind, old_birth, dead_birth, new_birth}
use Rattle.spk_sequence.proofs.NumberLemmas.{keeps_numbers, whole_stop, rest_was, kept_was}
use Rattle.spk_sequence.proofs.Always.{whole_fresh}

-- the data holds the stamp and the bdSeq of this birth
record IsBirthOf (s : Setting) (d : Standing) (b : ℕ) : Type 0 where
  within : b < length s.published
  opening : opens s.published b ≡ true
  stamp : d.stamp ≡ stamp_at s.published b
  bd : d.bd ≡ written_session s (session_at s.published b)

-- what is held under a number is the position held last under it, and it is not older than the birth taken
record IsHeldAs (s : Setting) (h : HostRecord) (d : Standing) (x : ℕ) (own : Option ℕ) : Type 0 where
  position : ℕ
  under : held_under s h x ≡ Some position
  within : position < length s.published
  closed : opens s.published position ≡ false
  own_is : own ≡ Some (stamp_at s.published position)
  newer : d.stamp ≤ stamp_at s.published position

-- a dead session is below that of the birth taken, or is it, and the phase is Dead
record IsPast (s : Setting) (h : HostRecord) (d : Standing) (j : ℕ) : Type 0 where
  birth : ℕ
  is_taken : taken s h ≡ Some birth
  below : (j < session_at s.published birth) ⊎ ((j ≡ session_at s.published birth) × (is_dead d.phase ≡ true))

record IsStamped (s : Setting) (h : HostRecord) (d : Standing) : Type 0 where
  whole : IsWhole d
  known : is_known d.phase ≡ is_some (taken s h)
  off_held : is_live d.phase ≡ false → (i : ℕ) → held_at d.held i ≡ None
  birth : (b : ℕ) → taken s h ≡ Some b → IsBirthOf s d b
  held : (x : ℕ) (own : Option ℕ) → x < 256 → held_as d x ≡ Some own → IsHeldAs s h d x own
  past : (j : ℕ) → contains j (dead_sessions s h) ≡ true → IsPast s h d j

none_is : (o : Option (Option ℕ)) (own : Option ℕ) → o ≡ None → o ≡ Some own → ⊥
none_is o own none some = (let i : None ≡ Some own = sym none ∙ some in absurd (cc))

stamped_fresh : (s : Setting) → 0 < s.width → s.width ≤ 96 → IsWhole (fresh_standing s.wait s.width) → IsStamped s [] (fresh_standing s.wait s.width)
stamped_fresh s low high whole = record {
  whole = whole;
  known = refl;
  off_held = λ off. held_at-empty s.width;
  birth = λ b e. absurd (cc);
  held = λ x own byte e. absurd (none_is (held_at (fresh_standing s.wait s.width).held (ahead x 0)) own (held_at-empty s.width (ahead x 0)) e);
  past = λ j there. absurd (true≢false (sym there));
}

-- a birth was taken where the phase says so
birth_taken : (s : Setting) (h : HostRecord) (d : Standing) → IsStamped s h d → is_known d.phase ≡ true → (b : ℕ) × (taken s h ≡ Some b)
birth_taken s h d i known = go (taken s h) refl
  where
    go : (o : Option ℕ) → taken s h ≡ o → (b : ℕ) × (taken s h ≡ Some b)
    go None tk = absurd (true≢false (sym known ∙ i.known ∙ ap is_some tk))
    go (Some b) tk = (b, tk)

-- The host follows no longer after an event that consumes nothing and holds nothing.
stamped_stops : (s : Setting) (h : HostRecord) (d : Standing) (e : Done) (to : Phase) → IsStamped s h d → is_live to ≡ false → is_known to ≡ is_known d.phase → taken s (e ∷ h) ≡ taken s h →
    ((j : ℕ) → contains j (dead_sessions s (e ∷ h)) ≡ true → IsPast s (e ∷ h) (after_stop d to) j) → IsStamped s (e ∷ h) (after_stop d to)
stamped_stops s h d e to i off known same past = record {
  whole = whole_stop d to i.whole;
  known = known ∙ i.known ∙ sym (ap is_some same);
  off_held = λ o. held_at-empty d.width;
  birth = λ b tk. let o : IsBirthOf s d b = i.birth b (sym same ∙ tk) in record { within = o.within; opening = o.opening; stamp = o.stamp; bd = o.bd };
  held = λ x own byte there. absurd (none_is (held_at (after_stop d to).held (ahead x d.next)) own (held_at-empty d.width (ahead x d.next)) there);
  past = past;
}

-- nothing changes
stamped_still : (s : Setting) (h : HostRecord) (d : Standing) (e : Done) → IsStamped s h d → taken s (e ∷ h) ≡ taken s h → ((x : ℕ) → held_under s (e ∷ h) x ≡ held_under s h x) → dead_sessions s (e ∷ h) ≡ dead_sessions s h → IsStamped s (e ∷ h) d
stamped_still s h d e i same under dead = record {
  whole = i.whole;
  known = i.known ∙ sym (ap is_some same);
  off_held = i.off_held;
  birth = λ b tk. i.birth b (sym same ∙ tk);
  held = λ x own byte there. let o : IsHeldAs s h d x own = i.held x own byte there in record { position = o.position; under = under x ∙ o.under; within = o.within; closed = o.closed; own_is = o.own_is; newer = o.newer };
  past = λ j there. let o : IsPast s h d j = i.past j (ap (contains j) (sym dead) ∙ there) in record { birth = o.birth; is_taken = same ∙ o.is_taken; below = o.below };
}

-- moments
tick_stamped : (s : Setting) (h : HostRecord) (d : Standing) (now : ℕ) → IsStamped s h d → IsStamped s (done_at s h d (TickComes now) ∷ h) (after_call d (call_of s (TickComes now)))
tick_stamped s h d now i = elim (cases_Bool (is_over d now)) [
  | inr idle ↦ subst (λ x. IsStamped s (done_at s h d (TickComes now) ∷ h) (cond x (after_stop d phase.Gap) d)) (sym idle) (stamped_still s h d (done_at s h d (TickComes now)) i refl (λ x. refl) refl)
  | inl over ↦
      let live : is_live d.phase ≡ true = elim (cases_Bool (is_live d.phase)) [
        | inl live ↦ live
        | inr off ↦ absurd (true≢false (sym (and_parts (is_any_held d.held) (nat_le d.wait (now - d.since)) over).0 ∙ none_held-from d.held (λ k below. i.off_held off k)))
      ] in
      subst (λ x. IsStamped s (done_at s h d (TickComes now) ∷ h) (cond x (after_stop d phase.Gap) d)) (sym over)
      (stamped_stops s h d (done_at s h d (TickComes now)) phase.Gap i refl (sym (live_is_known d.phase live)) refl
      (λ j there. let o : IsPast s h d j = i.past j there in record {
        birth = o.birth;
        is_taken = o.is_taken;
        below = elim o.below [
          | inl less ↦ inl less
          | inr dead ↦ absurd (true≢false (sym dead.1 ∙ live_is_alive d.phase live))
        ];
      }))
]

-- a session that matches has the bdSeq of the birth taken
bytes_match : (s : Setting) (h : HostRecord) (d : Standing) (j now : ℕ) → IsStamped s h d → is_matching_death s h (DeathComes j now) ≡ true → is_match d (written_session s j) ≡ true
bytes_match s h d j now i m = go (taken s h) refl m
  where
    go : (o : Option ℕ) → taken s h ≡ o → is_session_of s o j ≡ true → is_match d (written_session s j) ≡ true
    go None e m = absurd (true≢false (sym m))
    go (Some b) e m =
        and_from (is_known d.phase) (eqb (written_session s j) d.bd) (i.known ∙ ap is_some e)
        (eq-eqb (written_session s j) d.bd (ap (written_session s) (eqb-true j (session_at s.published b) m) ∙ sym (i.birth b e).bd))

session_matches : (s : Setting) (o : Option ℕ) (j : ℕ) → is_session_of s o j ≡ true → (b : ℕ) × (o ≡ Some b) × (j ≡ session_at s.published b)
session_matches s None j m = absurd (true≢false (sym m))
session_matches s (Some b) j m = (b, refl, eqb-true j (session_at s.published b) m)

death_stamped : (s : Setting) (h : HostRecord) (d : Standing) (j now : ℕ) → IsStamped s h d → IsStamped s (done_at s h d (DeathComes j now) ∷ h) (after_call d (call_of s (DeathComes j now)))
death_stamped s h d j now i = elim (cases_Bool (is_match d (written_session s j))) [
  | inr ignored ↦
      let m : is_matching_death s h (DeathComes j now) ≡ false = false_from_ne_true (is_matching_death s h (DeathComes j now)) (λ m. true≢false (sym (bytes_match s h d j now i m) ∙ ignored)) in
      subst (λ x. IsStamped s (done_at s h d (DeathComes j now) ∷ h) (cond x (after_stop d phase.Dead) d)) (sym ignored)
      (stamped_still s h d (done_at s h d (DeathComes j now)) i refl (λ x. refl) (ap (λ x. cond x (j ∷ dead_sessions s h) (dead_sessions s h)) m))
  | inl matched ↦
      subst (λ x. IsStamped s (done_at s h d (DeathComes j now) ∷ h) (cond x (after_stop d phase.Dead) d)) (sym matched)
      (stamped_stops s h d (done_at s h d (DeathComes j now)) phase.Dead i refl (sym (and_parts (is_known d.phase) (eqb (written_session s j) d.bd) matched).0) refl (λ k there. go k (is_matching_death s h (DeathComes j now)) refl there))
]
  where
    again_past : (k : ℕ) → IsPast s h d k → IsPast s (done_at s h d (DeathComes j now) ∷ h) (after_stop d phase.Dead) k
    again_past k o = record {
      birth = o.birth;
      is_taken = o.is_taken;
      below = elim o.below [
        | inl less ↦ inl less
        | inr dead ↦ inr (dead.0, refl)
      ];
    }

    go : (k : ℕ) (m : Bool) → is_matching_death s h (DeathComes j now) ≡ m → contains k (cond (is_matching_death s h (DeathComes j now)) (j ∷ dead_sessions s h) (dead_sessions s h)) ≡ true → IsPast s (done_at s h d (DeathComes j now) ∷ h) (after_stop d phase.Dead) k
    go k false m there = again_past k (i.past k (subst (λ x. contains k (cond x (j ∷ dead_sessions s h) (dead_sessions s h)) ≡ true) m there))
    go k true m there = elim (or_cases (eqb j k) (contains k (dead_sessions s h)) (subst (λ x. contains k (cond x (j ∷ dead_sessions s h) (dead_sessions s h)) ≡ true) m there)) [
      | inr before ↦ again_past k (i.past k before)
      | inl here ↦ (let b : (c : ℕ) × (taken s h ≡ Some c) × (j ≡ session_at s.published c) = session_matches s (taken s h) j m in record {
        birth = b.0;
        is_taken = b.1;
        below = inr (sym (eqb-true j k here) ∙ b.2, refl);
      })
    ]

-- ---- what is consumed

abbrev Found : (ℕ → Option ℕ) → ℕ → List ℕ → Type 0
Found f q xs = (x : ℕ) × (contains x xs ≡ true) × (f x ≡ Some q)

found_later : (f : ℕ → Option ℕ) (q x : ℕ) (xs : List ℕ) → Found f q xs → Found f q (x ∷ xs)
found_later f q x xs o = (o.0, or_right (eqb x o.0) (contains o.0 xs) o.1, o.2)

found_here : (f : ℕ → Option ℕ) (q x : ℕ) (xs : List ℕ) (o : Option ℕ) → f x ≡ o → (contains q (filter_map f xs) ≡ true → Found f q xs) → contains q (cons_option o (filter_map f xs)) ≡ true → Found f q (x ∷ xs)
found_here f q x xs None e later there = found_later f q x xs (later there)
found_here f q x xs (Some p) e later there = elim (or_cases (eqb p q) (contains q (filter_map f xs)) there) [
  | inl here ↦ (x, or_left (eqb x x) (contains x xs) (eq-eqb x x refl), e ∙ ap Some (eqb-true p q here))
  | inr rest ↦ found_later f q x xs (later rest)
]

in_filter_map : (f : ℕ → Option ℕ) (q : ℕ) (xs : List ℕ) → contains q (filter_map f xs) ≡ true → Found f q xs
in_filter_map f q [] there = absurd (true≢false (sym there))
in_filter_map f q (x ∷ xs) there = found_here f q x xs (f x) refl (in_filter_map f q xs) there

-- a member of what is consumed: the one handed, or one that was held
record IsEaten (s : Setting) (stamp p q : ℕ) : Type 0 where
  within : q < length s.published
  newer : stamp ≤ stamp_at s.published q
  closed : (q ≡ p) ⊎ (opens s.published q ≡ false)

last_opening-closed : (published : NodeRecord) (o : Option ℕ) (ps : List ℕ) → ((q : ℕ) → contains q ps ≡ true → opens published q ≡ false) → last_opening published o ps ≡ o
last_opening-closed published o [] closed = refl
last_opening-closed published o (p ∷ ps) closed =
    ap (λ x. last_opening published (cond x (Some p) o) ps) (closed p (or_left (eqb p p) (contains p ps) (eq-eqb p p refl)))
    ∙ last_opening-closed published o ps (λ q there. closed q (or_right (eqb p q) (contains q ps) there))

-- What is left over: full places stand for positions that were held, and none is older than the birth after the event.
record IsLeft (s : Setting) (h : HostRecord) (d : Standing) (p stamp : ℕ) (rest : List (Option (Option ℕ))) : Type 0 where
  sized : length rest ≡ d.width
  was : (i : ℕ) → i < d.width → (own : Option ℕ) → held_at rest i ≡ Some own → held_as d ((written_number s p + 1 + i) % 256) ≡ Some own
  newer : (i : ℕ) (own : ℕ) → i < d.width → held_at rest i ≡ Some (Some own) → stamp ≤ own

some_is : (o : Option (Option ℕ)) → is_some o ≡ true → (own : Option ℕ) × (o ≡ Some own)
some_is (Some own) e = (own, refl)
some_is None e = absurd (true≢false (sym e))

-- each position that is consumed behind the one handed was held, and is not older than the birth
eaten_rest : (s : Setting) (h : HostRecord) (d : Standing) (p stamp i : ℕ) (rest : List (Option (Option ℕ))) → IsStamped s h d → IsLeft s h d p stamp rest → i < run_of rest →
    (q : ℕ) → held_under s h ((written_number s p + (1 + i)) % 256) ≡ Some q → (q < length s.published) × (stamp ≤ stamp_at s.published q) × (opens s.published q ≡ false)
eaten_rest s h d p stamp i rest st left below q under =
    let sized : length rest ≡ d.width = left.sized in
    let short : run_of rest ≤ length rest = prefix_len-le-length is_some rest in
    let full : (own : Option ℕ) × (held_at rest i ≡ Some own) = some_is (held_at rest i) (prefix_len_passes is_some rest i None below) in
    let own : Option ℕ = full.0 in
    let x : ℕ = (written_number s p + (1 + i)) % 256 in
    let at : (written_number s p + 1 + i) % 256 ≡ x = (let e : written_number s p + 1 + i ≡ written_number s p + (1 + i) = omega arith in ap (λ n. n % 256) e) in
    let there : held_as d x ≡ Some own = ap (held_as d) (sym at) ∙ left.was i (omega arith) own full.1 in
    let o : IsHeldAs s h d x own = st.held x own (omega arith) there in
    let same : o.position ≡ q = (let e : Some o.position ≡ Some q = sym o.under ∙ under in cc) in
    let stamped : held_at rest i ≡ Some (Some (stamp_at s.published o.position)) = full.1 ∙ ap Some o.own_is in
    subst (λ y. (y < length s.published) × (stamp ≤ stamp_at s.published y) × (opens s.published y ≡ false)) same
    (o.within, left.newer i (stamp_at s.published o.position) (omega arith) stamped, o.closed)

places_from_rest : (rest : List (Option (Option ℕ))) (width k j : ℕ) (own : Option ℕ) → length rest ≡ width → held_at (places_from rest width k) j ≡ Some own → (k + j < width) × (held_at rest (k + j) ≡ Some own)
places_from_rest rest width k j own sized there = elim (cases_lt j width) [
  | inr past ↦ absurd (none_is (held_at (places_from rest width k) j) own (held_at-past (places_from rest width k) j (let l : length (places_from rest width k) ≡ width = length-places_from rest width k in omega arith)) there)
  | inl inside ↦
      let e : held_at rest (k + j) ≡ Some own = sym (held_at-places_from rest width k j inside) ∙ there in
      elim (cases_lt (k + j) width) [
        | inl within ↦ (within, e)
        | inr out ↦ absurd (none_is (held_at rest (k + j)) own (held_at-past rest (k + j) (omega arith)) e)
      ]
]

-- A message is consumed, with those that follow it. The birth after it is b.
eaten_stamped : (s : Setting) (h : HostRecord) (d e : Standing) (p now b : ℕ) (kind : Kind) (rest : List (Option (Option ℕ))) → IsNodeRecord s.published → IsStamped s h d → p < length s.published → kind_of s p ≡ kind →
    hand d (written_number s p) kind now ≡ (step.Consumed (1 + run_of rest), after_consumed e (written_number s p) rest now) → e.width ≡ d.width → IsLeft s h d p e.stamp rest → IsBirthOf s e b →
    cond (opens s.published p) (Some p) (taken s h) ≡ Some b → e.stamp ≤ stamp_at s.published p → ((j : ℕ) → contains j (dead_sessions s h) ≡ true → j < session_at s.published b) →
    IsStamped s (done_at s h d (MessageComes p now) ∷ h) (after_call d (call_of s (MessageComes p now))) × AfterDeath s h (done_at s h d (MessageComes p now))
eaten_stamped s h d e p now b kind rest node st published k rule wide left born tk newer above =
    let x : ℕ = written_number s p in
    let n : ℕ = 1 + run_of rest in
    let t : Standing = after_consumed e x rest now in
    let is : hand d x (kind_of s p) now ≡ (step.Consumed n, t) = ap (λ y. hand d x y now) k ∙ rule in
    let done : Done = record { input = MessageComes p now; reply = Stepped (step.Consumed n); consumed = consumed_by s h (MessageComes p now) (Stepped (step.Consumed n)) } in
    let numbers : KeepsNumbers d t x (step.Consumed n) = subst (λ (y : Step × Standing). KeepsNumbers d y.1 x y.0) rule (keeps_numbers d x now kind (number_below s p) st.whole) in
    let follow : List ℕ = filter_map (λ i. held_under s h ((x + i) % 256)) (range_with_len 1 (n - 1)) in
    let eaten : (q : ℕ) → contains q follow ≡ true → (q < length s.published) × (e.stamp ≤ stamp_at s.published q) × (opens s.published q ≡ false) = λ q there.
    (let o : (i : ℕ) × (contains i (range_with_len 1 (n - 1)) ≡ true) × (held_under s h ((x + i) % 256) ≡ Some q) = in_filter_map (λ i. held_under s h ((x + i) % 256)) q (range_with_len 1 (n - 1)) there in
    let within : (1 ≤ o.0) × (o.0 < 1 + (n - 1)) = in_run o.0 1 (n - 1) o.1 in
    let at : o.0 ≡ 1 + (o.0 - 1) = omega arith in
    eaten_rest s h d p e.stamp (o.0 - 1) rest st left (omega arith) q (ap (λ i. held_under s h ((x + i) % 256)) (sym at) ∙ o.2)) in
    let taken_is : taken s (done ∷ h) ≡ Some b = last_opening-closed s.published (cond (opens s.published p) (Some p) (taken s h)) follow (λ q there. (eaten q there).2) ∙ tk in
    let stamped : IsStamped s (done ∷ h) t = record {
      whole = numbers.whole;
      known = sym (ap is_some taken_is);
      off_held = λ off. absurd (true≢false off);
      birth = λ c tc. let same : b ≡ c = (let i : Some b ≡ Some c = sym taken_is ∙ tc in cc) in subst (IsBirthOf s t) same (record { within = born.within; opening = born.opening; stamp = born.stamp; bd = born.bd });
      held = λ y own byte there.
          let before : held_as d y ≡ Some own = numbers.remains (λ i. cc) y byte own there in
          let o : IsHeldAs s h d y own = st.held y own byte before in
          let sized : length rest ≡ e.width = left.sized ∙ sym wide in
          let from : (run_of rest + ahead y t.next < e.width) × (held_at rest (run_of rest + ahead y t.next) ≡ Some own) = places_from_rest rest e.width (run_of rest) (ahead y t.next) own sized there in
          record {
            position = o.position;
            under = o.under;
            within = o.within;
            closed = o.closed;
            own_is = o.own_is;
            newer = left.newer (run_of rest + ahead y t.next) (stamp_at s.published o.position) (let i : run_of rest + ahead y t.next < e.width = from.0 in omega arith) (from.1 ∙ ap Some o.own_is);
          };
      past = λ j there. record { birth = b; is_taken = taken_is; below = inl (above j there) };
    } in
    let later : (q : ℕ) → q < length s.published → e.stamp ≤ stamp_at s.published q → contains (session_at s.published q) (dead_sessions s h) ≡ false = λ q below stamp. false_from_ne_true (contains (session_at s.published q) (dead_sessions s h)) (λ dead.
    let less : session_at s.published q < session_at s.published b = above (session_at s.published q) dead in
    let own : e.stamp ≡ stamp_at s.published b = born.stamp in
    elim (cases_lt q b) [
      | inl before ↦ absurd (let low : stamp_at s.published q < stamp_at s.published b = node.newer q b before born.within born.opening in omega arith)
      | inr after ↦ absurd (let up : session_at s.published b ≤ session_at s.published q = node.sessions b q after below in omega arith)
    ]) in
    let after_death : AfterDeath s h done = λ q there. elim (or_cases (eqb p q) (contains q follow) there) [
      | inl here ↦ (let same : p ≡ q = eqb-true p q here in subst (λ y. contains (session_at s.published y) (dead_sessions s h) ≡ false) same (later p published newer))
      | inr behind ↦ later q (eaten q behind).0 (eaten q behind).1
    ] in
    subst (λ (y : Step × Standing). IsStamped s (record { input = MessageComes p now; reply = Stepped y.0; consumed = consumed_by s h (MessageComes p now) (Stepped y.0) } ∷ h) y.1 × AfterDeath s h (record { input = MessageComes p now; reply = Stepped y.0; consumed = consumed_by s h (MessageComes p now) (Stepped y.0) })) (sym is)
    (stamped, after_death)

-- ---- messages

abbrev Both : Setting → HostRecord → Standing → ℕ → ℕ → (Step × Standing) → Type 0
Both s h d p now y = IsStamped s (record { input = MessageComes p now; reply = Stepped y.0; consumed = consumed_by s h (MessageComes p now) (Stepped y.0) } ∷ h) y.1
    × AfterDeath s h (record { input = MessageComes p now; reply = Stepped y.0; consumed = consumed_by s h (MessageComes p now) (Stepped y.0) })

nothing_eaten : (s : Setting) (h : HostRecord) (e : Done) → e.consumed ≡ [] → AfterDeath s h e
nothing_eaten s h e none q there = absurd (true≢false (sym there ∙ ap (contains q) none))

-- a message that consumes nothing
abbrev as_done : ℕ → ℕ → Step → Done
as_done p now r = record { input = MessageComes p now; reply = Stepped r; consumed = [] }

still_old : (s : Setting) (h : HostRecord) (d : Standing) (p now : ℕ) → IsStamped s h d → Both s h d p now (step.Old, d)
still_old s h d p now st = (stamped_still s h d (as_done p now step.Old) st refl (λ x. refl) refl, nothing_eaten s h (as_done p now step.Old) refl)

gap_stamped : (s : Setting) (h : HostRecord) (d : Standing) (p now : ℕ) → IsStamped s h d → is_live d.phase ≡ true → Both s h d p now (step.Gap, after_stop d phase.Gap)
gap_stamped s h d p now st live = (
  stamped_stops s h d (as_done p now step.Gap) phase.Gap st refl (sym (live_is_known d.phase live)) refl (λ j there. let o : IsPast s h d j = st.past j there in record {
    birth = o.birth;
    is_taken = o.is_taken;
    below = elim o.below [
      | inl less ↦ inl less
      | inr dead ↦ absurd (true≢false (sym dead.1 ∙ live_is_alive d.phase live))
    ];
  }),
  nothing_eaten s h (as_done p now step.Gap) refl,
)

-- a message is held
held_stamped : (s : Setting) (h : HostRecord) (d : Standing) (p now : ℕ) → IsStamped s h d → p < length s.published → opens s.published p ≡ false → d.stamp ≤ stamp_at s.published p → is_live d.phase ≡ true →
    hand d (written_number s p) (Other (Some (stamp_at s.published p))) now ≡ (step.Held, after_held d (ahead (written_number s p) d.next) (Some (stamp_at s.published p)) now) → ahead (written_number s p) d.next < d.width →
    Both s h d p now (step.Held, after_held d (ahead (written_number s p) d.next) (Some (stamp_at s.published p)) now)
held_stamped s h d p now st published closed newer live rule inside =
    let x : ℕ = written_number s p in
    let own : Option ℕ = Some (stamp_at s.published p) in
    let t : Standing = after_held d (ahead x d.next) own now in
    let w : IsWhole d = st.whole in
    let sized : length d.held ≡ d.width = w.all_places in
    let byte_x : x < 256 = number_below s p in
    let next : d.next < 256 = w.one_byte in
    let numbers : KeepsNumbers d t x step.Held = subst (λ (y : Step × Standing). KeepsNumbers d y.1 x y.0) rule (keeps_numbers d x now (Other own) byte_x w) in (
      record {
        whole = numbers.whole;
        known = st.known;
        off_held = λ off. absurd (true≢false (sym live ∙ off));
        birth = λ b tk. let o : IsBirthOf s d b = st.birth b tk in record { within = o.within; opening = o.opening; stamp = o.stamp; bd = o.bd };
        held = λ y mine byte there. elim (cases_eq x y) [
          | inl same ↦ subst (λ z. held_as t z ≡ Some mine → IsHeldAs s (as_done p now step.Held ∷ h) t z mine) same (λ here. record {
            position = p;
            under = ap (λ b. cond b (Some p) (held_under s h x)) (eq-eqb x x refl);
            within = published;
            closed = closed;
            own_is = (let put : held_at t.held (ahead x d.next) ≡ Some own = get_or-set_same d.held (ahead x d.next) (Some own) None (omega arith) in
                let e : Some own ≡ Some mine = sym put ∙ here in some_same own mine e);
            newer = newer;
          }) there
          | inr other ↦
              let before : held_as d y ≡ Some mine = sym (get_or-set_other d.held (ahead x d.next) (ahead y d.next) (Some own) None (λ e. absurd (omega arith))) ∙ there in
              let o : IsHeldAs s h d y mine = st.held y mine byte before in
              record {
                position = o.position;
                under = ap (λ b. cond b (Some p) (held_under s h y)) (ne_eqb x y other) ∙ o.under;
                within = o.within;
                closed = o.closed;
                own_is = o.own_is;
                newer = o.newer;
              }
        ];
        past = λ j there. let o : IsPast s h d j = st.past j there in record { birth = o.birth; is_taken = o.is_taken; below = o.below };
      },
      nothing_eaten s h (as_done p now step.Held) refl,
    )
  where
    some_same : (a b : Option ℕ) → Some a ≡ Some b → b ≡ a
    some_same a b e = cc

-- the dead sessions are below that of the birth taken, while the phase is not Dead
below_taken : (s : Setting) (h : HostRecord) (d : Standing) (b : ℕ) → IsStamped s h d → taken s h ≡ Some b → is_dead d.phase ≡ false → (j : ℕ) → contains j (dead_sessions s h) ≡ true → j < session_at s.published b
below_taken s h d b st tk alive j there =
    let o : IsPast s h d j = st.past j there in
    let same : o.birth ≡ b = (let e : Some o.birth ≡ Some b = sym o.is_taken ∙ tk in cc) in
    elim o.below [
      | inl less ↦ subst (λ c. j < session_at s.published c) same less
      | inr dead ↦ absurd (true≢false (sym dead.1 ∙ alive))
    ]

other_stamped : (s : Setting) (h : HostRecord) (d : Standing) (p now : ℕ) → IsNodeRecord s.published → IsStamped s h d → p < length s.published → opens s.published p ≡ false →
    IsStamped s (done_at s h d (MessageComes p now) ∷ h) (after_call d (call_of s (MessageComes p now))) × AfterDeath s h (done_at s h d (MessageComes p now))
other_stamped s h d p now node st published closed =
    let x : ℕ = written_number s p in
    let own : ℕ = stamp_at s.published p in
    let place : ℕ = ahead x d.next in
    let kind : kind_of s p ≡ Other (Some own) = ap (λ y. cond y (Birth own (written_session s (session_at s.published p))) (Other (Some own))) closed in
    let w : IsWhole d = st.whole in
    let sized : length d.held ≡ d.width = w.all_places in
    let next : d.next < 256 = w.one_byte in
    let byte : x < 256 = number_below s p in
    elim (cases_Bool (is_live d.phase)) [
      | inr off ↦ subst (Both s h d p now) (sym (ap (λ y. hand d x y now) kind ∙ not_live d x now (Some own) off)) (stamped_still s h d (as_done p now step.NotLive) st refl (λ y. refl) refl, nothing_eaten s h (as_done p now step.NotLive) refl)
      | inl live ↦ elim (cases_Bool (is_below (Some own) d.stamp)) [
        | inl old ↦ subst (Both s h d p now) (sym (ap (λ y. hand d x y now) kind ∙ too_old d x now (Some own) live old)) (still_old s h d p now st)
        | inr fresh ↦
            let newer : d.stamp ≤ own = ltb-false own d.stamp fresh in
            elim (cases_Bool (eqb place 0)) [
              | inl first ↦
                  let b : (c : ℕ) × (taken s h ≡ Some c) = birth_taken s h d st (live_is_known d.phase live) in
                  let rest : List (Option (Option ℕ)) = places_from d.held d.width 1 in
                  let at : place ≡ 0 = eqb-true place 0 first in
                  let was : (i : ℕ) → i < d.width → (mine : Option ℕ) → held_at rest i ≡ Some mine → held_as d ((x + 1 + i) % 256) ≡ Some mine = rest_was d x w byte at in
                  eaten_stamped s h d d p now b.0 (Other (Some own)) rest node st published kind (next_one d x now (Some own) live fresh first) refl
                  (record {
                    sized = length-places_from d.held d.width 1;
                    was = was;
                    newer = λ i stamp below there. (let o : IsHeldAs s h d ((x + 1 + i) % 256) (Some stamp) = st.held ((x + 1 + i) % 256) (Some stamp) (omega arith) (was i below (Some stamp) there) in
                        let e : Some stamp ≡ Some (stamp_at s.published o.position) = o.own_is in
                        let same : stamp ≡ stamp_at s.published o.position = cc in
                        let low : d.stamp ≤ stamp_at s.published o.position = o.newer in omega arith);
                  })
                  (st.birth b.0 b.1) (ap (λ y. cond y (Some p) (taken s h)) closed ∙ b.1) newer (below_taken s h d b.0 st b.1 (live_is_alive d.phase live))
              | inr later ↦ elim (cases_Bool (nat_lt place d.width)) [
                | inl inside ↦ elim (cases_Bool (is_some (held_at d.held place))) [
                  | inl twice ↦ subst (Both s h d p now) (sym (ap (λ y. hand d x y now) kind ∙ again d x now (Some own) live fresh later inside twice)) (still_old s h d p now st)
                  | inr free ↦
                      let rule : hand d x (Other (Some own)) now ≡ (step.Held, after_held d place (Some own) now) = held_now d x now (Some own) live fresh later inside free in
                      subst (Both s h d p now) (sym (ap (λ y. hand d x y now) kind ∙ rule)) (held_stamped s h d p now st published closed newer live rule (ltb-true place d.width inside))
                ]
                | inr outside ↦ elim (cases_Bool (nat_lt place (256 - d.width))) [
                  | inl far ↦ subst (Both s h d p now) (sym (ap (λ y. hand d x y now) kind ∙ too_far d x now (Some own) live fresh later outside far)) (gap_stamped s h d p now st live)
                  | inr back ↦ subst (Both s h d p now) (sym (ap (λ y. hand d x y now) kind ∙ behind d x now (Some own) live fresh later outside back)) (still_old s h d p now st)
                ]
              ]
            ]
      ]
    ]

birth_stamped : (s : Setting) (h : HostRecord) (d : Standing) (p now : ℕ) → IsNodeRecord s.published → IsStamped s h d → p < length s.published → opens s.published p ≡ true →
    IsStamped s (done_at s h d (MessageComes p now) ∷ h) (after_call d (call_of s (MessageComes p now))) × AfterDeath s h (done_at s h d (MessageComes p now))
birth_stamped s h d p now node st published opening =
    let x : ℕ = written_number s p in
    let own : ℕ = stamp_at s.published p in
    let bd : ℕ = written_session s (session_at s.published p) in
    let kind : kind_of s p ≡ Birth own bd = birth_kind s p opening in
    let w : IsWhole d = st.whole in
    let byte : x < 256 = number_below s p in
    elim (cases_Bool (is_known d.phase && nat_le own d.stamp)) [
      | inl old ↦
          let parts : (is_known d.phase ≡ true) × (nat_le own d.stamp ≡ true) = and_parts (is_known d.phase) (nat_le own d.stamp) old in
          subst (Both s h d p now) (sym (ap (λ y. hand d x y now) kind ∙ old_birth d x own bd now parts.0 parts.1)) (stamped_still s h d (as_done p now step.OldBirth) st refl (λ y. refl) refl, nothing_eaten s h (as_done p now step.OldBirth) refl)
      | inr fresh ↦ elim (cases_Bool (is_dead d.phase && eqb bd d.bd)) [
        | inl dead ↦
            let parts : (is_dead d.phase ≡ true) × (eqb bd d.bd ≡ true) = and_parts (is_dead d.phase) (eqb bd d.bd) dead in
            subst (Both s h d p now) (sym (ap (λ y. hand d x y now) kind ∙ dead_birth d x own bd now fresh parts.0 parts.1)) (stamped_still s h d (as_done p now step.DeadSession) st refl (λ y. refl) refl, nothing_eaten s h (as_done p now step.DeadSession) refl)
        | inr alive ↦
            let rest : List (Option (Option ℕ)) = kept_places d x own in
            eaten_stamped s h d (record d { stamp = own; bd = bd }) p now p (Birth own bd) rest node st published kind (new_birth d x own bd now fresh alive) refl
            (record {
              sized = length-map-range_with_len (λ i. cond (nat_lt (i + 1) d.width && is_kept (held_at d.held (ahead (x + 1 + i) d.next)) own) (held_at d.held (ahead (x + 1 + i) d.next)) None) 0 d.width;
              was = kept_was d x own w;
              newer = kept_newer d x own;
            })
            (record { within = published; opening = opening; stamp = refl; bd = refl }) (ap (λ y. cond y (Some p) (taken s h)) opening) (omega arith)
            (λ j there.
            let o : IsPast s h d j = st.past j there in
            let b : ℕ = o.birth in
            let born : IsBirthOf s d b = st.birth b o.is_taken in
            let known : is_known d.phase ≡ true = st.known ∙ ap is_some o.is_taken in
            let stamp : d.stamp ≡ stamp_at s.published b = born.stamp in
            let above : d.stamp < own = leb-false own d.stamp (ap (λ y. y && nat_le own d.stamp) (sym known) ∙ fresh) in
            let later : b ≤ p = elim (cases_lt p b) [
              | inl before ↦ absurd (let low : own ≤ stamp_at s.published b = node.stamps p b (omega arith) born.within in omega arith)
              | inr after ↦ after
            ] in
            let up : session_at s.published b ≤ session_at s.published p = node.sessions b p later published in
            elim o.below [
              | inl less ↦ omega arith
              | inr dead ↦
                  let same : j ≡ session_at s.published b = dead.0 in
                  let other : session_at s.published p ≡ session_at s.published b → ⊥ = λ e. true≢false (sym (and_from (is_dead d.phase) (eqb bd d.bd) dead.1 (eq-eqb bd d.bd (ap (written_session s) e ∙ sym born.bd))) ∙ alive) in
                  elim (cases_eq (session_at s.published p) (session_at s.published b)) [
                    | inl one ↦ absurd (other one)
                    | inr apart ↦ omega arith
                  ]
            ])
      ]
    ]
  where
    kept_if : (a : Bool) (o : Option (Option ℕ)) (stamp own : ℕ) → cond (a && is_kept o stamp) o None ≡ Some (Some own) → stamp ≤ own
    kept_if false o stamp own e = absurd (none_is (cond false o None) (Some own) refl e)
    kept_if true None stamp own e = absurd (none_is (cond false None None) (Some own) refl e)
    kept_if true (Some None) stamp own e = absurd (none_is (cond false (Some None) None) (Some own) refl e)
    kept_if true (Some (Some mine)) stamp own e = elim (cases_Bool (nat_le stamp mine)) [
      | inl kept ↦ (let f : Some (Some mine) ≡ Some (Some own) = sym (ap (λ b. cond b (Some (Some mine)) None) kept) ∙ e in let same : mine ≡ own = cc in let low : stamp ≤ mine = leb-true stamp mine kept in omega arith)
      | inr gone ↦ absurd (none_is (cond false (Some (Some mine)) None) (Some own) refl (sym (ap (λ b. cond b (Some (Some mine)) None) gone) ∙ e))
    ]

    kept_newer : (d : Standing) (x stamp i own : ℕ) → i < d.width → held_at (kept_places d x stamp) i ≡ Some (Some own) → stamp ≤ own
    kept_newer d x stamp i own below there =
        kept_if (nat_lt (i + 1) d.width) (held_at d.held (ahead (x + 1 + i) d.next)) stamp own
        (sym (held_at-made (λ i. cond (nat_lt (i + 1) d.width && is_kept (held_at d.held (ahead (x + 1 + i) d.next)) stamp) (held_at d.held (ahead (x + 1 + i) d.next)) None) d.width i below) ∙ there)

event_stamped : (s : Setting) (h : HostRecord) (d : Standing) (input : Input) → IsNodeRecord s.published → IsStamped s h d → IsPublished s input → IsStamped s (done_at s h d input ∷ h) (after_call d (call_of s input)) × AfterDeath s h (done_at s h d input)
event_stamped s h d (TickComes now) node st published = (tick_stamped s h d now st, nothing_eaten s h (done_at s h d (TickComes now)) refl)
event_stamped s h d (DeathComes j now) node st published = (death_stamped s h d j now st, nothing_eaten s h (done_at s h d (DeathComes j now)) refl)
event_stamped s h d (MessageComes p now) node st published = elim (cases_Bool (opens s.published p)) [
  | inl opening ↦ birth_stamped s h d p now node st published opening
  | inr closed ↦ other_stamped s h d p now node st published closed
]

stamped_always : (s : Setting) → IsNodeRecord s.published → 0 < s.width → s.width ≤ 96 → (inputs : List Input) → AllPublished s inputs → IsStamped s (record_of s inputs) (standing_of s inputs)
stamped_always s node low high [] published = stamped_fresh s low high (whole_fresh s.wait s.width low high)
stamped_always s node low high (input ∷ inputs) published =
    (event_stamped s (record_of s inputs) (standing_of s inputs) input node (stamped_always s node low high inputs published.1) published.0).0

pub after_death : (s : Setting) (inputs : List Input) (input : Input) → IsNodeRecord s.published → 0 < s.width → s.width ≤ 96 → AllPublished s (input ∷ inputs) → AfterDeath s (record_of s inputs) (done_at s (record_of s inputs) (standing_of s inputs) input)
after_death s inputs input node low high published =
    (event_stamped s (record_of s inputs) (standing_of s inputs) input node (stamped_always s node low high inputs published.1) published.0).1
