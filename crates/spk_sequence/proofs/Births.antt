-- An NBIRTH.
use Rattle.std.proofs.Common.{◌≡◌, ℕ, suc, ◌+◌, ◌-◌, ◌%◌, ◌<◌, ◌≤◌, ◌&&◌, ◌||◌, Bool, true, false, cond, not, nat_lt, nat_le, eqb, List, [], length, refl, sym, ◌∙◌, ap, arith, Option, Some, None, is_some, inl, inr, subst}
use Rattle.std.specs.List.{range_with_len}
use Rattle.std.proofs.lemmas.List.FromFn.{length-map-range_with_len}
use Rattle.std.proofs.lemmas.Bool.{true≢false, cases_lt, cases_eq, cases_Bool, cases_order, lt-ltb, le-ltb, eq-eqb, ne_eqb, and_right, and_left, and_parts, and_from, le-leb, lt-leb}
use Rattle.spk_sequence.specs.declared.phase.Phase.{Phase}
use Rattle.spk_sequence.specs.declared.phase.Phase.TheVariants as phase
use Rattle.spk_sequence.specs.declared.message.Kind.TheVariants.{Birth, Other}
use Rattle.spk_sequence.specs.declared.answer.Step.TheVariants as step
use Rattle.spk_sequence.specs.Data.{Standing, held_at}
use Rattle.spk_sequence.specs.Step.{is_live, is_dead, is_known, is_kept, ahead, kept_places, run_of, hand_birth, after_birth}
use Rattle.spk_sequence.specs.Calls.{Stepped}
use Rattle.spk_sequence.specs.NodeRecord.{Setting, IsNodeRecord, opens, stamp_at, session_at, written_number, written_session}
use Rattle.spk_sequence.specs.HostRecord.{MessageComes, HostRecord, kind_of, next_after, reach}
use Rattle.spk_sequence.specs.Following.{Following, contains, taken, following, waits, is_session_dead, is_session_of}
use Rattle.spk_sequence.specs.Window.{InWindow, IsNearTo}
use Rattle.spk_sequence.specs.Positions.{birth_step, message_step, run_after, is_taken_before, is_of_dead}
use Rattle.spk_sequence.proofs.Places.{held_at-made, held_at-past}
use Rattle.spk_sequence.proofs.Tied.{Tied, IsTaken, IsFollowed, IsWaiting, InStep, in_step_later, entry_of, number_below, not_dead}
use Rattle.spk_sequence.proofs.Quiet.{tied_still, goes_on}
use Rattle.spk_sequence.proofs.Eaten.{IsReady, tied_eaten, consumed_is_run}
use Rattle.spk_sequence.proofs.Outcomes.{Outcome, outcome_from, run_after-is, eats_ready}
use Rattle.spk_sequence.proofs.Messages.{passed}

-- what the place i past a birth becomes
abbrev kept_entry : Standing → ℕ → ℕ → ℕ → Option (Option ℕ)
kept_entry d number stamp i =
    let entry = held_at d.held (ahead (number + 1 + i) d.next) in cond (nat_lt (i + 1) d.width && is_kept entry stamp) entry None

none_kept : (c : Bool) (o : Option (Option ℕ)) (stamp : ℕ) → o ≡ None → cond (c && is_kept o stamp) o None ≡ None
none_kept true o stamp e = rw e refl
none_kept false o stamp e = refl

older_dropped : (c : Bool) (o : Option (Option ℕ)) (own stamp : ℕ) → o ≡ Some (Some own) → nat_le stamp own ≡ false → cond (c && is_kept o stamp) o None ≡ None
older_dropped true o own stamp e f = rw (e, f) refl
older_dropped false o own stamp e f = refl

newer_kept : (c : Bool) (o : Option (Option ℕ)) (own stamp : ℕ) → c ≡ true → o ≡ Some (Some own) → nat_le stamp own ≡ true → cond (c && is_kept o stamp) o None ≡ Some (Some own)
newer_kept c o own stamp e f g = rw (e, f, g) refl

-- a birth keeps exactly the waiting positions past it
kept_is : (s : Setting) (h : HostRecord) (d : Standing) (p b i : ℕ) → IsNodeRecord s.published → Tied s h d → taken s h ≡ Some b → (following s h).on ≡ true → opens s.published p ≡ true → b < p → next_after h ≤ p → p < length s.published → i < s.width →
    kept_entry d (written_number s p) (stamp_at s.published p) i ≡ entry_of s (contains (p + 1 + i) (following s h).handed) (p + 1 + i)
kept_is s h d p b i node t tk on opening newer ahead_of published below =
    let n : ℕ = next_after h in
    let f : Following = following s h in
    let x : ℕ = written_number s p in
    let st : ℕ = stamp_at s.published p in
    let o : IsTaken s h d b = t.birth b tk in
    let w : IsFollowed s h d b = t.followed b tk on in
    let wide : d.width ≡ s.width = t.width in
    let few : d.width ≤ 96 = t.whole.few_places in
    let sized : length d.held ≡ d.width = t.whole.all_places in
    let bn : b < n = o.below in
    let next : d.next ≡ (written_number s b + (n - b)) % 256 = w.next in
    let fits : reach h ≤ length s.published = t.fits in
    let byte : x < 256 = number_below s p in
    elim (cases_Bool (contains (p + 1 + i) f.handed)) [
      | inl there ↦
          let v : IsWaiting s h b (p + 1 + i) = w.waiting (p + 1 + i) (and_from (contains (p + 1 + i) f.handed) (nat_lt n (p + 1 + i)) there (lt-ltb n (p + 1 + i) (omega arith))) in
          let wq : waits f n (p + 1 + i) ≡ true = and_from (contains (p + 1 + i) f.handed) (nat_lt n (p + 1 + i)) there (lt-ltb n (p + 1 + i) (omega arith)) in
          let near : p + 1 + i < n + s.width = v.near in
          let one : written_number s (p + 1 + i) ≡ (x + (p + 1 + i - p)) % 256 = v.in_step.counted p opening (omega arith) (omega arith) in
          let other : written_number s (p + 1 + i) ≡ (written_number s b + (p + 1 + i - b)) % 256 = v.in_step.counted b o.opening (omega arith) (omega arith) in
          let place : ahead (x + 1 + i) d.next ≡ p + 1 + i - n = omega arith in
          let at : n + (p + 1 + i - n) ≡ p + 1 + i = omega arith in
          let reached : p + 1 + i < reach h = v.reached in
          newer_kept (nat_lt (i + 1) d.width) (held_at d.held (ahead (x + 1 + i) d.next)) (stamp_at s.published (p + 1 + i)) st
          (lt-ltb (i + 1) d.width (omega arith))
          (ap (held_at d.held) place ∙ w.places (p + 1 + i - n) (omega arith) ∙ ap (λ y. entry_of s (waits f n y) y) at ∙ ap (λ y. entry_of s y (p + 1 + i)) wq)
          (le-leb st (stamp_at s.published (p + 1 + i)) (node.stamps p (p + 1 + i) (omega arith) (omega arith)))
          ∙ sym (ap (λ y. entry_of s y (p + 1 + i)) there)
      | inr gone ↦
          let a : ℕ = ahead (x + 1 + i) d.next in
          (let empty : kept_entry d x st i ≡ None = elim (cases_lt a s.width) [
            | inr past ↦ none_kept (nat_lt (i + 1) d.width) (held_at d.held a) st (held_at-past d.held a (omega arith))
            | inl inside ↦ elim (cases_Bool (waits f n (n + a))) [
              | inr idle ↦ none_kept (nat_lt (i + 1) d.width) (held_at d.held a) st (w.places a inside ∙ ap (λ y. entry_of s y (n + a)) idle)
              | inl wq ↦
                  let v : IsWaiting s h b (n + a) = w.waiting (n + a) wq in
                  let entry : held_at d.held a ≡ Some (Some (stamp_at s.published (n + a))) = w.places a inside ∙ ap (λ y. entry_of s y (n + a)) wq in
                  let near : n + a < n + s.width = v.near in
                  elim (cases_order (n + a) p) [
                    | inl same ↦ absurd (true≢false (sym opening ∙ ap (opens s.published) (sym same) ∙ v.closed))
                    | inr (inl before) ↦ older_dropped (nat_lt (i + 1) d.width) (held_at d.held a) (stamp_at s.published (n + a)) st entry
                        (lt-leb st (stamp_at s.published (n + a)) (node.newer (n + a) p before published opening))
                    | inr (inr after) ↦ elim (cases_lt (i + 1) d.width) [
                      | inr wide_past ↦ ap (λ y. cond (y && is_kept (held_at d.held a) st) (held_at d.held a) None) (le-ltb (i + 1) d.width wide_past)
                      | inl fits_in ↦
                          let one : written_number s (n + a) ≡ (x + (n + a - p)) % 256 = v.in_step.counted p opening (omega arith) (omega arith) in
                          let other : written_number s (n + a) ≡ (written_number s b + (n + a - b)) % 256 = v.in_step.counted b o.opening (omega arith) (omega arith) in
                          let same : n + a ≡ p + 1 + i = omega arith in
                          absurd (true≢false (sym (and_parts (contains (n + a) f.handed) (nat_lt n (n + a)) wq).0 ∙ ap (λ y. contains y f.handed) same ∙ gone))
                    ]
                  ]
            ]
          ] in empty)
          ∙ sym (ap (λ y. entry_of s y (p + 1 + i)) gone)
    ]

-- where the host does not follow nothing is kept
kept_off : (s : Setting) (h : HostRecord) (d : Standing) (p i : ℕ) → Tied s h d → (following s h).on ≡ false →
    kept_entry d (written_number s p) (stamp_at s.published p) i ≡ entry_of s (contains (p + 1 + i) (following s h).handed) (p + 1 + i)
kept_off s h d p i t off =
    none_kept (nat_lt (i + 1) d.width) (held_at d.held (ahead (written_number s p + 1 + i) d.next)) (stamp_at s.published p) (t.off_held off (ahead (written_number s p + 1 + i) d.next))
    ∙ sym (ap (λ hs. entry_of s (contains (p + 1 + i) hs) (p + 1 + i)) (t.off_handed off))

in_step_self : (s : Setting) (p : ℕ) → InStep s p p
in_step_self s p = record {
  counted = λ c opening low high.
      let same : p ≡ c = omega arith in
      let byte : written_number s p < 256 = number_below s p in
      subst (λ y. written_number s p ≡ (written_number s y + (p - y)) % 256) same (omega arith);
}

ready_on : (s : Setting) (h : HostRecord) (d : Standing) (p now b : ℕ) → IsNodeRecord s.published → Tied s h d → taken s h ≡ Some b → (following s h).on ≡ true → opens s.published p ≡ true → b < p → InWindow s h p →
    IsReady s h p now p (kept_places d (written_number s p) (stamp_at s.published p))
ready_on s h d p now b node t tk on opening newer window =
    let n : ℕ = next_after h in
    let f : Following = following s h in
    let o : IsTaken s h d b = t.birth b tk in
    let w : IsFollowed s h d b = t.followed b tk on in
    let wide : d.width ≡ s.width = t.width in
    let ahead_of : n ≤ p = elim (cases_lt p n) [
      | inl inside ↦ absurd (true≢false (sym opening ∙ o.one_birth p newer inside))
      | inr past ↦ past
    ] in
    let waiting : (q : ℕ) → p < q → contains q f.handed ≡ true → IsWaiting s h b q = λ q above there. w.waiting q (and_from (contains q f.handed) (nat_lt n q) there (lt-ltb n q (omega arith))) in
    record {
      published = window.published;
      behind = window.not_far_behind;
      opening = opening;
      after = omega arith;
      in_step = in_step_self s p;
      takes_it = ap (λ y. cond y (Some p) (taken s h)) opening;
      one_birth = λ q low high. absurd (omega arith);
      sized = length-map-range_with_len (kept_entry d (written_number s p) (stamp_at s.published p)) 0 d.width ∙ wide;
      places = λ i below. held_at-made (kept_entry d (written_number s p) (stamp_at s.published p)) d.width i (omega arith) ∙ kept_is s h d p b i node t tk on opening newer ahead_of window.published below;
      near = λ q above there. (let near : q < n + s.width = (waiting q above there).near in omega arith);
      waiting = λ q above there. (let v : IsWaiting s h b q = waiting q above there in record {
        near = v.near;
        reached = v.reached;
        closed = v.closed;
        in_step = in_step_later s q b p (omega arith) v.in_step;
        under = v.under;
      });
      low = λ q above there. omega arith;
      follows = ap (λ y. y || goes_on s h (MessageComes p now)) opening;
      alive = ap (λ y. not y && is_session_dead s h) opening;
    }

ready_off : (s : Setting) (h : HostRecord) (d : Standing) (p now : ℕ) → Tied s h d → (following s h).on ≡ false → opens s.published p ≡ true → InWindow s h p →
    IsReady s h p now p (kept_places d (written_number s p) (stamp_at s.published p))
ready_off s h d p now t off opening window =
    let f : Following = following s h in
    let wide : d.width ≡ s.width = t.width in
    let none : (q : ℕ) → contains q f.handed ≡ false = λ q. ap (contains q) (t.off_handed off) in
    record {
      published = window.published;
      behind = window.not_far_behind;
      opening = opening;
      after = omega arith;
      in_step = in_step_self s p;
      takes_it = ap (λ y. cond y (Some p) (taken s h)) opening;
      one_birth = λ q low high. absurd (omega arith);
      sized = length-map-range_with_len (kept_entry d (written_number s p) (stamp_at s.published p)) 0 d.width ∙ wide;
      places = λ i below. held_at-made (kept_entry d (written_number s p) (stamp_at s.published p)) d.width i (omega arith) ∙ kept_off s h d p i t off;
      near = λ q above there. absurd (true≢false (sym there ∙ none q));
      waiting = λ q above there. absurd (true≢false (sym there ∙ none q));
      low = λ q above there. absurd (true≢false (sym there ∙ none q));
      follows = ap (λ y. y || goes_on s h (MessageComes p now)) opening;
      alive = ap (λ y. not y && is_session_dead s h) opening;
    }

-- the rules for births
pub old_birth : (d : Standing) (x stamp bd now : ℕ) → is_known d.phase ≡ true → nat_le stamp d.stamp ≡ true → hand_birth d x stamp bd now ≡ (step.OldBirth, d)
old_birth d x stamp bd now a b = rw (a, b) refl

pub dead_birth : (d : Standing) (x stamp bd now : ℕ) → (is_known d.phase && nat_le stamp d.stamp) ≡ false → is_dead d.phase ≡ true → eqb bd d.bd ≡ true → hand_birth d x stamp bd now ≡ (step.DeadSession, d)
dead_birth d x stamp bd now a b c = rw (a, b, c) refl

pub new_birth : (d : Standing) (x stamp bd now : ℕ) → (is_known d.phase && nat_le stamp d.stamp) ≡ false → (is_dead d.phase && eqb bd d.bd) ≡ false →
    hand_birth d x stamp bd now ≡ (step.Consumed (1 + run_of (kept_places d x stamp)), after_birth d x stamp bd now)
new_birth d x stamp bd now a b = rw (a, b) refl

pub birth_kind : (s : Setting) (p : ℕ) → opens s.published p ≡ true → kind_of s p ≡ Birth (stamp_at s.published p) (written_session s (session_at s.published p))
birth_kind s p opening = ap (λ x. cond x (Birth (stamp_at s.published p) (written_session s (session_at s.published p))) (Other (Some (stamp_at s.published p)))) opening

old_right : (s : Setting) (h : HostRecord) (p : ℕ) → opens s.published p ≡ true → is_taken_before (taken s h) p ≡ true → cond (opens s.published p) (birth_step s h p) (message_step s h p) ≡ step.OldBirth
old_right s h p opening a = ap (λ x. cond x (birth_step s h p) (message_step s h p)) opening ∙ ap (λ x. cond x step.OldBirth (cond (is_of_dead s h p) step.DeadSession (step.Consumed (1 + run_after s h p)))) a

dead_right : (s : Setting) (h : HostRecord) (p : ℕ) → opens s.published p ≡ true → is_taken_before (taken s h) p ≡ false → is_of_dead s h p ≡ true → cond (opens s.published p) (birth_step s h p) (message_step s h p) ≡ step.DeadSession
dead_right s h p opening a b = ap (λ x. cond x (birth_step s h p) (message_step s h p)) opening
    ∙ ap (λ x. cond x step.OldBirth (cond (is_of_dead s h p) step.DeadSession (step.Consumed (1 + run_after s h p)))) a
    ∙ ap (λ x. cond x step.DeadSession (step.Consumed (1 + run_after s h p))) b

new_right : (s : Setting) (h : HostRecord) (p k : ℕ) → opens s.published p ≡ true → is_taken_before (taken s h) p ≡ false → is_of_dead s h p ≡ false → run_after s h p ≡ k → cond (opens s.published p) (birth_step s h p) (message_step s h p) ≡ step.Consumed (1 + k)
new_right s h p k opening a b c = ap (λ x. cond x (birth_step s h p) (message_step s h p)) opening
    ∙ ap (λ x. cond x step.OldBirth (cond (is_of_dead s h p) step.DeadSession (step.Consumed (1 + run_after s h p)))) a
    ∙ ap (λ x. cond x step.DeadSession (step.Consumed (1 + run_after s h p))) b
    ∙ ap (λ x. step.Consumed (1 + x)) c

-- a birth that is taken
take_birth : (s : Setting) (h : HostRecord) (d : Standing) (p now : ℕ) → Tied s h d → opens s.published p ≡ true → IsReady s h p now p (kept_places d (written_number s p) (stamp_at s.published p)) →
    (is_known d.phase && nat_le (stamp_at s.published p) d.stamp) ≡ false → (is_dead d.phase && eqb (written_session s (session_at s.published p)) d.bd) ≡ false →
    is_taken_before (taken s h) p ≡ false → is_of_dead s h p ≡ false → Outcome s h d (MessageComes p now)
take_birth s h d p now t opening ready a b before of_dead =
    let x : ℕ = written_number s p in
    let st : ℕ = stamp_at s.published p in
    let bd : ℕ = written_session s (session_at s.published p) in
    let held : List (Option (Option ℕ)) = kept_places d x st in
    let k : ℕ = run_of held in
    let more : 1 + k ≡ suc k = omega arith in
    outcome_from s h d (after_birth d x st bd now) p now (Birth st bd) (step.Consumed (1 + k)) (range_with_len p (suc k)) (birth_kind s p opening)
    (new_birth d x st bd now a b) (consumed_is_run s h p now p held ready)
    (let e : Standing = record d { stamp = st; bd = bd } in tied_eaten s h d e p now p held t ready t.wait t.width refl refl)
    (λ near. new_right s h p k opening before of_dead (run_after-is s h p now p held ready))
    (ap (range_with_len p) more) (inr (k, eats_ready s h d p now p held t ready (inl (opening, before, of_dead)), refl))

unknown_is_alive : (x : Phase) → is_known x ≡ false → is_dead x ≡ false
unknown_is_alive phase.Unknown e = refl
unknown_is_alive phase.Live e = refl
unknown_is_alive phase.Gap e = refl
unknown_is_alive phase.Dead e = absurd (true≢false e)

unknown_is_off : (x : Phase) → is_known x ≡ false → is_live x ≡ false
unknown_is_off phase.Unknown e = refl
unknown_is_off phase.Live e = absurd (true≢false e)
unknown_is_off phase.Gap e = refl
unknown_is_off phase.Dead e = refl

dead_is_off : (x : Phase) → is_dead x ≡ true → is_live x ≡ false
dead_is_off phase.Dead e = refl
dead_is_off phase.Unknown e = absurd (true≢false (sym e))
dead_is_off phase.Live e = absurd (true≢false (sym e))
dead_is_off phase.Gap e = refl

-- before the first birth
first_birth : (s : Setting) (h : HostRecord) (d : Standing) (p now : ℕ) → Tied s h d → InWindow s h p → opens s.published p ≡ true → taken s h ≡ None → Outcome s h d (MessageComes p now)
first_birth s h d p now t window opening tk =
    let unknown : is_known d.phase ≡ false = t.known ∙ ap is_some tk in
    let off : (following s h).on ≡ false = sym t.live ∙ unknown_is_off d.phase unknown in
    take_birth s h d p now t opening (ready_off s h d p now t off opening window)
    (and_left (is_known d.phase) (nat_le (stamp_at s.published p) d.stamp) unknown)
    (and_left (is_dead d.phase) (eqb (written_session s (session_at s.published p)) d.bd) (unknown_is_alive d.phase unknown))
    (ap (λ o. is_taken_before o p) tk)
    (and_left (is_session_dead s h) (is_session_of s (taken s h) (session_at s.published p)) (not_dead s h d t (unknown_is_alive d.phase unknown)))

-- sessions less than 256 apart are one where their bytes are
pub near_sessions : (s : Setting) (j k : ℕ) → j < k + 256 → k < j + 256 → written_session s j ≡ written_session s k → j ≡ k
near_sessions s j k low high e = omega arith

later_birth : (s : Setting) (h : HostRecord) (d : Standing) (p now b : ℕ) → IsNodeRecord s.published → Tied s h d → InWindow s h p → opens s.published p ≡ true → taken s h ≡ Some b → Outcome s h d (MessageComes p now)
later_birth s h d p now b node t window opening tk =
    let n : ℕ = next_after h in
    let x : ℕ = written_number s p in
    let st : ℕ = stamp_at s.published p in
    let j : ℕ = session_at s.published p in
    let k : ℕ = session_at s.published b in
    let bd : ℕ = written_session s j in
    let o : IsTaken s h d b = t.birth b tk in
    let known : is_known d.phase ≡ true = t.known ∙ ap is_some tk in
    let bn : b < n = o.below in
    let nr : n ≤ reach h = o.reached in
    let fits : reach h ≤ length s.published = t.fits in
    let published : p < length s.published = window.published in
    let stamp : d.stamp ≡ stamp_at s.published b = o.stamp in
    elim (cases_lt b p) [
      | inr before ↦
          let older : st ≤ d.stamp = (let e : st ≤ stamp_at s.published b = node.stamps p b before (omega arith) in omega arith) in
          outcome_from s h d d p now (Birth st bd) step.OldBirth [] (birth_kind s p opening) (old_birth d x st bd now known (le-leb st d.stamp older)) refl
          (elim (cases_Bool (following s h).on) [
            | inl on ↦ passed s h d p now b step.OldBirth (λ y. refl) t tk on (omega arith)
            | inr off ↦ tied_still s h d (MessageComes p now) (Stepped step.OldBirth) t off refl (omega arith)
          ])
          (λ near. old_right s h p opening (ap (λ y. is_taken_before y p) tk ∙ le-leb p b before)) refl (inl refl)
      | inl newer ↦
          let newest : stamp_at s.published b < st = node.newer b p newer published opening in
          let fresh : (is_known d.phase && nat_le st d.stamp) ≡ false = and_right (is_known d.phase) (nat_le st d.stamp) (lt-leb st d.stamp (omega arith)) in
          let before : is_taken_before (taken s h) p ≡ false = ap (λ y. is_taken_before y p) tk ∙ lt-leb p b newer in
          let of_session : is_session_of s (taken s h) j ≡ eqb j k = ap (λ y. is_session_of s y j) tk in
          elim (cases_Bool (is_dead d.phase)) [
            | inr alive ↦ take_birth s h d p now t opening
                (elim (cases_Bool (following s h).on) [
                  | inl on ↦ ready_on s h d p now b node t tk on opening newer window
                  | inr off ↦ ready_off s h d p now t off opening window
                ])
                fresh (and_left (is_dead d.phase) (eqb bd d.bd) alive) before
                (and_left (is_session_dead s h) (is_session_of s (taken s h) j) (not_dead s h d t alive))
            | inl dead ↦
                let off : (following s h).on ≡ false = sym t.live ∙ dead_is_off d.phase dead in
                elim (cases_eq bd d.bd) [
                  | inl same ↦ outcome_from s h d d p now (Birth st bd) step.DeadSession [] (birth_kind s p opening) (dead_birth d x st bd now fresh dead (eq-eqb bd d.bd same)) refl
                      (tied_still s h d (MessageComes p now) (Stepped step.DeadSession) t off refl (omega arith))
                      (λ near. dead_right s h p opening before
                      (let close : IsNearTo s (Some b) j = subst (λ y. IsNearTo s y j) tk (near.0 opening) in
                      let one : j ≡ k = near_sessions s j k close.0 close.1 (same ∙ o.bd) in
                      and_from (is_session_dead s h) (is_session_of s (taken s h) j) (sym near.2 ∙ dead) (of_session ∙ eq-eqb j k one))) refl (inl refl)
                  | inr other ↦ take_birth s h d p now t opening (ready_off s h d p now t off opening window) fresh
                      (and_right (is_dead d.phase) (eqb bd d.bd) (ne_eqb bd d.bd other)) before
                      (and_right (is_session_dead s h) (is_session_of s (taken s h) j) (of_session ∙ ne_eqb j k (λ e. other (ap (written_session s) e ∙ sym o.bd))))
                ]
          ]
    ]

pub birth_outcome : (s : Setting) (h : HostRecord) (d : Standing) (p now : ℕ) → IsNodeRecord s.published → Tied s h d → InWindow s h p → opens s.published p ≡ true → Outcome s h d (MessageComes p now)
birth_outcome s h d p now node t window opening = go (taken s h) refl
  where
    go : (o : Option ℕ) → taken s h ≡ o → Outcome s h d (MessageComes p now)
    go None e = first_birth s h d p now t window opening e
    go (Some b) e = later_birth s h d p now b node t window opening e
