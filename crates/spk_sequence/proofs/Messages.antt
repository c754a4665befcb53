-- A message that is not an NBIRTH.
use Rattle.std.proofs.Common.{◌≡◌, ℕ, suc, ◌+◌, ◌-◌, ◌*◌, ◌%◌, ◌<◌, ◌≤◌, ◌&&◌, ◌||◌, Bool, true, false, cond, not, nat_lt, nat_le, eqb, List, [], ◌∷◌, length, refl, sym, ◌∙◌, ap, arith, Option, Some, None, is_some, inl, inr, subst}
use Rattle.std.specs.List.{range_with_len}
use Rattle.std.proofs.lemmas.Bool.{true≢false, cases_lt, cases_eq, cases_Bool, lt-ltb, le-ltb, ltb-true, eq-eqb, ne_eqb, and_right, and_parts, and_from, le-leb, lt-leb, or_left, eqb-true}
use Rattle.spk_sequence.specs.declared.phase.Phase.TheVariants as phase
use Rattle.spk_sequence.specs.declared.message.Kind.TheVariants.{Birth, Other}
use Rattle.spk_sequence.specs.declared.answer.Step.{Step}
use Rattle.spk_sequence.specs.declared.answer.Step.TheVariants as step
use Rattle.spk_sequence.specs.Data.{Standing, held_at}
use Rattle.spk_sequence.specs.Step.{is_live, is_below, ahead, places_from, run_of, after_consumed, after_held, after_stop}
use Rattle.spk_sequence.specs.Calls.{Stepped}
use Rattle.spk_sequence.specs.NodeRecord.{Setting, IsNodeRecord, opens, stamp_at, session_at, written_number, written_session}
use Rattle.spk_sequence.specs.HostRecord.{MessageComes, HostRecord, is_held_under, kind_of, next_after, reach}
use Rattle.spk_sequence.specs.Following.{Following, contains, taken, following, waits, is_waiting, is_gap}
use Rattle.spk_sequence.specs.Window.{InWindow}
use Rattle.spk_sequence.specs.Positions.{birth_step, message_step}
use Rattle.spk_sequence.proofs.Tied.{Tied, IsTaken, IsFollowed, IsWaiting, InStep, entry_of, not_dead}
use Rattle.spk_sequence.proofs.Quiet.{quiet, tied_still, tied_on, tied_stops, goes_on_gap}
use Rattle.spk_sequence.proofs.Held.{tied_held, above_from}
use Rattle.spk_sequence.proofs.Eaten.{IsReady, tied_eaten, consumed_is_run}
use Rattle.spk_sequence.proofs.Outcomes.{Outcome, outcome_from, not_live, too_old, next_one, again, held_now, too_far, behind, off_step, old_step, next_step, again_step, held_step, gap_step, run_after-is, live_is_alive, live_is_known, message_ready, eats_ready}

pub some_of : (o : Option ℕ) → is_some o ≡ true → (b : ℕ) × (o ≡ Some b)
some_of (Some b) e = (b, refl)
some_of None e = absurd (true≢false (sym e))

-- while the host follows a birth was taken
pub birth_of : (s : Setting) (h : HostRecord) (d : Standing) → Tied s h d → (following s h).on ≡ true → (b : ℕ) × (taken s h ≡ Some b)
birth_of s h d t on = some_of (taken s h) (sym t.known ∙ live_is_known d.phase (t.live ∙ on))

message_kind : (s : Setting) (p : ℕ) → opens s.published p ≡ false → kind_of s p ≡ Other (Some (stamp_at s.published p))
message_kind s p closed = ap (λ x. cond x (Birth (stamp_at s.published p) (written_session s (session_at s.published p))) (Other (Some (stamp_at s.published p)))) closed

message_right : (s : Setting) (h : HostRecord) (p : ℕ) (r : Step) → opens s.published p ≡ false → message_step s h p ≡ r → cond (opens s.published p) (birth_step s h p) (message_step s h p) ≡ r
message_right s h p r closed e = ap (λ x. cond x (birth_step s h p) (message_step s h p)) closed ∙ e

no_gap : (s : Setting) (h : HostRecord) (p now : ℕ) → p < next_after h + s.width → is_gap s h (MessageComes p now) ≡ false
no_gap s h p now below = and_right ((following s h).on && not (opens s.published p)) (nat_le (next_after h + s.width) p) (lt-leb (next_after h + s.width) p below)

-- an old message
pub passed : (s : Setting) (h : HostRecord) (d : Standing) (p now b : ℕ) (r : Step) → ((x : ℕ) → is_held_under s x (MessageComes p now) (Stepped r) ≡ false) → Tied s h d → taken s h ≡ Some b → (following s h).on ≡ true → p < next_after h → Tied s (quiet (MessageComes p now) (Stepped r) ∷ h) d
passed s h d p now b r unheld t tk on below =
    let l : next_after h ≤ reach h = (t.birth b tk).reached in
    tied_on s h d (MessageComes p now) (Stepped r) b t tk on (no_gap s h p now (omega arith)) refl unheld (omega arith)
    (λ q above. ap (λ x. x || contains q (following s h).handed) (ne_eqb p q (λ e. absurd (omega arith))))
    (ap (λ x. x || is_waiting (following s h).handed (next_after h)) (le-ltb (next_after h) p (omega arith)))

-- one that waits already
waits_twice : (s : Setting) (h : HostRecord) (d : Standing) (p now b : ℕ) → Tied s h d → taken s h ≡ Some b → (following s h).on ≡ true → waits (following s h) (next_after h) p ≡ true → Tied s (quiet (MessageComes p now) (Stepped step.Old) ∷ h) d
waits_twice s h d p now b t tk on w =
    let n : ℕ = next_after h in
    let hs : List ℕ = (following s h).handed in
    let v : IsWaiting s h b p = (t.followed b tk on).waiting p w in
    let parts : (contains p hs ≡ true) × (nat_lt n p ≡ true) = and_parts (contains p hs) (nat_lt n p) w in
    let above : n < p = ltb-true n p parts.1 in
    let reached : p < reach h = v.reached in
    tied_on s h d (MessageComes p now) (Stepped step.Old) b t tk on (no_gap s h p now v.near) refl (λ x. refl) (omega arith)
    (λ q over. elim (cases_Bool (eqb p q)) [
      | inl same ↦ or_left (eqb p q) (contains q hs) same ∙ sym (subst (λ x. contains x hs ≡ true) (eqb-true p q same) parts.0)
      | inr other ↦ ap (λ x. x || contains q hs) other
    ])
    (or_left (nat_lt n p) (is_waiting hs n) parts.1 ∙ sym (above_from hs n p parts.0 above))

pub message_outcome : (s : Setting) (h : HostRecord) (d : Standing) (p now : ℕ) → IsNodeRecord s.published → Tied s h d → InWindow s h p → opens s.published p ≡ false →
    ((b : ℕ) → taken s h ≡ Some b → (following s h).on ≡ true → b ≤ p → InStep s p b) → Outcome s h d (MessageComes p now)
message_outcome s h d p now node t window closed steps =
    let n : ℕ = next_after h in
    let f : Following = following s h in
    let x : ℕ = written_number s p in
    let st : ℕ = stamp_at s.published p in
    let kind : kind_of s p ≡ Other (Some st) = message_kind s p closed in
    let published : p < length s.published = window.published in
    let fits : reach h ≤ length s.published = t.fits in
    elim (cases_Bool f.on) [
      | inr off ↦ outcome_from s h d d p now (Other (Some st)) step.NotLive [] kind (not_live d x now (Some st) (t.live ∙ off)) refl
          (tied_still s h d (MessageComes p now) (Stepped step.NotLive) t off refl (omega arith))
          (λ near. message_right s h p step.NotLive closed (off_step s h p off)) refl (inl refl)
      | inl on ↦
          let taken_one : (b : ℕ) × (taken s h ≡ Some b) = birth_of s h d t on in
          let b : ℕ = taken_one.0 in
          let tk : taken s h ≡ Some b = taken_one.1 in
          let o : IsTaken s h d b = t.birth b tk in
          let w : IsFollowed s h d b = t.followed b tk on in
          let live : is_live d.phase ≡ true = t.live ∙ on in
          let bn : b < n = o.below in
          let nr : n ≤ reach h = o.reached in
          let high : reach h ≤ n + s.width = w.high in
          let low : reach h ≤ p + s.width = window.not_far_behind in
          let wide : d.width ≡ s.width = t.width in
          let few : d.width ≤ 96 = t.whole.few_places in
          let some : 0 < d.width = t.whole.some_places in
          elim (cases_lt p b) [
            | inl older ↦
                let stamp : st < d.stamp = (let e : st < stamp_at s.published b = node.newer p b older (omega arith) o.opening in let i : d.stamp ≡ stamp_at s.published b = o.stamp in omega arith) in
                outcome_from s h d d p now (Other (Some st)) step.Old [] kind (too_old d x now (Some st) live (lt-ltb st d.stamp stamp)) refl
                (passed s h d p now b step.Old (λ y. refl) t tk on (omega arith))
                (λ near. message_right s h p step.Old closed (old_step s h p on (lt-ltb p n (omega arith)))) refl (inl refl)
            | inr newer ↦
                let in_step : InStep s p b = steps b tk on newer in
                let number : x ≡ (written_number s b + (p - b)) % 256 = in_step.counted b o.opening (omega arith) newer in
                let next : d.next ≡ (written_number s b + (n - b)) % 256 = w.next in
                let not_below : is_below (Some st) d.stamp ≡ false = (let e : stamp_at s.published b ≤ st = node.stamps b p newer published in let i : d.stamp ≡ stamp_at s.published b = o.stamp in le-ltb st d.stamp (omega arith)) in
                elim (cases_lt p n) [
                  | inl before ↦
                      let far : 256 - s.width ≤ ahead x d.next = omega arith in
                      outcome_from s h d d p now (Other (Some st)) step.Old [] kind
                      (behind d x now (Some st) live not_below (ne_eqb (ahead x d.next) 0 (λ e. absurd (omega arith))) (le-ltb (ahead x d.next) d.width (omega arith)) (le-ltb (ahead x d.next) (256 - d.width) (omega arith))) refl
                      (passed s h d p now b step.Old (λ y. refl) t tk on before)
                      (λ near. message_right s h p step.Old closed (old_step s h p on (lt-ltb p n before))) refl (inl refl)
                  | inr from_next ↦ elim (cases_eq p n) [
                    | inl here ↦
                        let held : List (Option (Option ℕ)) = places_from d.held d.width 1 in
                        let ready : IsReady s h p now b held = message_ready s h d p now b t tk on here closed in_step window in
                        let k : ℕ = run_of held in
                        let more : 1 + k ≡ suc k = omega arith in
                        outcome_from s h d (after_consumed d x held now) p now (Other (Some st)) (step.Consumed (1 + k)) (range_with_len p (suc k)) kind
                        (next_one d x now (Some st) live not_below (eq-eqb (ahead x d.next) 0 (omega arith))) (consumed_is_run s h p now b held ready)
                        (tied_eaten s h d d p now b held t ready t.wait t.width o.stamp o.bd)
                        (λ near. message_right s h p (step.Consumed (1 + k)) closed (next_step s h p k on (le-ltb p n from_next) (eq-eqb p n here) (run_after-is s h p now b held ready)))
                        (ap (range_with_len p) more) (inr (k, eats_ready s h d p now b held t ready (inr (closed, here, on)), refl))
                    | inr later ↦ elim (cases_lt p (n + s.width)) [
                      | inl inside ↦
                          let place : ahead x d.next ≡ p - n = omega arith in
                          let at : n + (p - n) ≡ p = omega arith in
                          let entry : is_some (held_at d.held (ahead x d.next)) ≡ waits f n p =
                          ap (λ i. is_some (held_at d.held i)) place ∙ ap is_some (w.places (p - n) (omega arith) ∙ ap (λ i. entry_of s (waits f n i) i) at) ∙ some_if (waits f n p) st in
                          let not_zero : eqb (ahead x d.next) 0 ≡ false = ne_eqb (ahead x d.next) 0 (λ e. absurd (omega arith)) in
                          let within : nat_lt (ahead x d.next) d.width ≡ true = lt-ltb (ahead x d.next) d.width (omega arith) in
                          elim (cases_Bool (waits f n p)) [
                            | inl twice ↦ outcome_from s h d d p now (Other (Some st)) step.Old [] kind
                                (again d x now (Some st) live not_below not_zero within (entry ∙ twice)) refl
                                (waits_twice s h d p now b t tk on twice)
                                (λ near. message_right s h p step.Old closed (again_step s h p on (le-ltb p n from_next) (ne_eqb p n later) (lt-ltb p (n + s.width) inside) twice)) refl (inl refl)
                            | inr fresh ↦ outcome_from s h d (after_held d (p - n) (Some st) now) p now (Other (Some st)) step.Held [] kind
                                (held_now d x now (Some st) live not_below not_zero within (entry ∙ fresh) ∙ ap (λ i. (step.Held, after_held d i (Some st) now)) place) refl
                                (tied_held s h d p now b t tk on (no_gap s h p now inside) (omega arith) inside fresh closed in_step published)
                                (λ near. message_right s h p step.Held closed (held_step s h p on (le-ltb p n from_next) (ne_eqb p n later) (lt-ltb p (n + s.width) inside) fresh)) refl (inl refl)
                          ]
                      | inr outside ↦
                          let upper : p < reach h + (256 - 2 * s.width) = window.not_far_ahead on in
                          let place : ahead x d.next ≡ p - n = omega arith in
                          outcome_from s h d (after_stop d phase.Gap) p now (Other (Some st)) step.Gap [] kind
                          (too_far d x now (Some st) live not_below (ne_eqb (ahead x d.next) 0 (λ e. absurd (omega arith))) (le-ltb (ahead x d.next) d.width (omega arith)) (lt-ltb (ahead x d.next) (256 - d.width) (omega arith))) refl
                          (tied_stops s h d (MessageComes p now) (Stepped step.Gap) phase.Gap t refl
                          (goes_on_gap s h (MessageComes p now) (and_from (f.on && not (opens s.published p)) (nat_le (n + s.width) p) (and_from f.on (not (opens s.published p)) on (ap not closed)) (le-leb (n + s.width) p outside)))
                          (sym (live_is_known d.phase live)) (λ gone. absurd (true≢false (sym gone ∙ not_dead s h d t (live_is_alive d.phase live)))) (omega arith))
                          (λ near. message_right s h p step.Gap closed (gap_step s h p on (le-ltb p n from_next) (ne_eqb p n later) (le-ltb p (n + s.width) outside))) refl (inl refl)
                    ]
                  ]
                ]
          ]
    ]
  where
    some_if : (b : Bool) (y : ℕ) → is_some (cond b (Some (Some y)) None) ≡ b
    some_if true y = refl
    some_if false y = refl
