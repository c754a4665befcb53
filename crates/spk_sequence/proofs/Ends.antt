-- Deaths and moments.
use Rattle.std.proofs.Common.{◌≡◌, ℕ, ◌-◌, ◌&&◌, ◌||◌, true, false, cond, nat_le, eqb, ◌∷◌, refl, sym, ◌∙◌, ap, Option, Some, None, is_some, inl, inr, subst}
use Rattle.std.proofs.lemmas.Bool.{true≢false, cases_Bool, cases_eq, eq-eqb, eqb-true, ne_eqb, and_left, and_parts, and_from, or_left, false_from_ne_true}
use Rattle.spk_sequence.specs.declared.phase.Phase.TheVariants as phase
use Rattle.spk_sequence.specs.declared.answer.Match.TheVariants.{Matched, Ignored}
use Rattle.spk_sequence.specs.Data.{Standing}
use Rattle.spk_sequence.specs.Step.{is_live, is_known, is_dead, is_any_held, is_match, is_over, after_stop, death}
use Rattle.spk_sequence.specs.Calls.{Reply, Ticked, Told}
use Rattle.spk_sequence.specs.NodeRecord.{Setting, session_at, written_session}
use Rattle.spk_sequence.specs.HostRecord.{Input, DeathComes, TickComes, HostRecord, is_held_under, next_after, reach, reach_past}
use Rattle.spk_sequence.specs.Following.{Following, contains, taken, following, and_handed, is_waiting, is_gap, is_matching_death, is_session_of, is_session_dead}
use Rattle.spk_sequence.specs.Window.{IsNear, IsNearTo, IsToldApart}
use Rattle.spk_sequence.proofs.Places.{none_held-from}
use Rattle.spk_sequence.proofs.Tied.{Tied, IsTaken, IsFollowed, not_dead}
use Rattle.spk_sequence.proofs.Quiet.{quiet, tied_still, tied_on, tied_stops, goes_on_match, goes_on_gap, goes_on_off}
use Rattle.spk_sequence.proofs.Held.{any_held-waiting}
use Rattle.spk_sequence.proofs.Outcomes.{Outcome, live_is_known, live_is_alive}
use Rattle.spk_sequence.proofs.Messages.{birth_of}
use Rattle.spk_sequence.proofs.Births.{near_sessions}

-- nothing changes at an event without a message
unchanged : (s : Setting) (h : HostRecord) (d : Standing) (input : Input) (reply : Reply) → Tied s h d → is_gap s h input ≡ false → is_matching_death s h input ≡ false →
    (b : ℕ) → taken s h ≡ Some b → (following s h).on ≡ true → ((x : ℕ) → is_held_under s x input reply ≡ false) → reach_past input (reach h) ≡ reach h → and_handed input (following s h).handed ≡ (following s h).handed → Tied s (quiet input reply ∷ h) d
unchanged s h d input reply t g m b tk on unheld same_reach same =
    tied_on s h d input reply b t tk on g m unheld same_reach (λ q above. ap (contains q) same) (ap (λ hs. is_waiting hs (next_after h)) same)

-- what the sequence's own bytes tell apart from the birth taken
told_apart : (s : Setting) (h : HostRecord) (j : ℕ) → IsNear s h j → IsToldApart s (taken s h) j
told_apart s h j near = go (taken s h) near
  where
    go : (o : Option ℕ) → IsNearTo s o j → IsToldApart s o j
    go None close = tt
    go (Some b) close = λ same. near_sessions s j (session_at s.published b) close.0 close.1 same

-- bytes match exactly where sessions do
match_is : (s : Setting) (h : HostRecord) (d : Standing) (j now : ℕ) → Tied s h d → IsToldApart s (taken s h) j → is_match d (written_session s j) ≡ is_matching_death s h (DeathComes j now)
match_is s h d j now t apart = go (taken s h) refl
  where
    go : (o : Option ℕ) → taken s h ≡ o → is_match d (written_session s j) ≡ is_matching_death s h (DeathComes j now)
    go None e = and_left (is_known d.phase) (eqb (written_session s j) d.bd) (t.known ∙ ap is_some e) ∙ sym (ap (λ y. is_session_of s y j) e)
    go (Some b) e =
        let o : IsTaken s h d b = t.birth b e in
        let alone : IsToldApart s (Some b) j = subst (λ y. IsToldApart s y j) e apart in
        ap (λ y. y && eqb (written_session s j) d.bd) (t.known ∙ ap is_some e)
        ∙ (elim (cases_eq j (session_at s.published b)) [
          | inl same ↦ eq-eqb (written_session s j) d.bd (ap (written_session s) same ∙ sym o.bd) ∙ sym (eq-eqb j (session_at s.published b) same)
          | inr other ↦ ne_eqb (written_session s j) d.bd (λ i. other (alone (i ∙ o.bd))) ∙ sym (ne_eqb j (session_at s.published b) other)
        ])
        ∙ sym (ap (λ y. is_session_of s y j) e)

-- a session that matches has the bdSeq of the birth taken
match_of_session : (s : Setting) (h : HostRecord) (d : Standing) (j now : ℕ) → Tied s h d → is_matching_death s h (DeathComes j now) ≡ true → is_match d (written_session s j) ≡ true
match_of_session s h d j now t m = go (taken s h) refl m
  where
    go : (o : Option ℕ) → taken s h ≡ o → is_session_of s o j ≡ true → is_match d (written_session s j) ≡ true
    go None e m = absurd (true≢false (sym m))
    go (Some b) e m =
        let o : IsTaken s h d b = t.birth b e in
        and_from (is_known d.phase) (eqb (written_session s j) d.bd) (t.known ∙ ap is_some e)
        (eq-eqb (written_session s j) d.bd (ap (written_session s) (eqb-true j (session_at s.published b) m) ∙ sym o.bd))

pub death_outcome : (s : Setting) (h : HostRecord) (d : Standing) (j now : ℕ) → Tied s h d → ((following s h).on ≡ true → IsToldApart s (taken s h) j) → Outcome s h d (DeathComes j now)
death_outcome s h d j now t apart =
    let input : Input = DeathComes j now in
    record {
      tied = elim (cases_Bool (is_matching_death s h input)) [
        | inl m ↦
            let matched : is_match d (written_session s j) ≡ true = match_of_session s h d j now t m in
            subst (λ x. Tied s (quiet input (Told (cond x Matched Ignored)) ∷ h) (cond x (after_stop d phase.Dead) d)) (sym matched)
            (tied_stops s h d input (Told Matched) phase.Dead t refl (goes_on_match s h input m)
            (sym (and_parts (is_known d.phase) (eqb (written_session s j) d.bd) matched).0) (λ gone. refl) t.fits)
        | inr m ↦ elim (cases_Bool (is_match d (written_session s j))) [
          | inl matched ↦
              let off : (following s h).on ≡ false = false_from_ne_true (following s h).on (λ on. true≢false (sym matched ∙ match_is s h d j now t (apart on) ∙ m)) in
              subst (λ x. Tied s (quiet input (Told (cond x Matched Ignored)) ∷ h) (cond x (after_stop d phase.Dead) d)) (sym matched)
              (tied_stops s h d input (Told Matched) phase.Dead t refl (goes_on_off s h input off)
              (sym (and_parts (is_known d.phase) (eqb (written_session s j) d.bd) matched).0) (λ gone. refl) t.fits)
          | inr ignored ↦
              subst (λ x. Tied s (quiet input (Told (cond x Matched Ignored)) ∷ h) (cond x (after_stop d phase.Dead) d)) (sym ignored)
              (elim (cases_Bool (following s h).on) [
                | inl on ↦ (let b : (c : ℕ) × (taken s h ≡ Some c) = birth_of s h d t on in unchanged s h d input (Told Ignored) t refl m b.0 b.1 on (λ x. refl) refl refl)
                | inr off ↦ tied_still s h d input (Told Ignored) t off m t.fits
              ])
        ]
      ];
      same = λ near. ap (λ y. quiet input (Told (cond y Matched Ignored))) (match_is s h d j now t (told_apart s h j near.1));
      ate = refl;
    }

-- after a death of a near session the phase is Dead only where the session is dead
pub death_exact : (s : Setting) (h : HostRecord) (d : Standing) (j now : ℕ) → Tied s h d → IsNear s h j → is_dead d.phase ≡ is_session_dead s h → is_dead (death d (written_session s j)).phase ≡ (is_matching_death s h (DeathComes j now) || is_session_dead s h)
death_exact s h d j now t near same =
    let e : is_match d (written_session s j) ≡ is_matching_death s h (DeathComes j now) = match_is s h d j now t (told_apart s h j near) in
    elim (cases_Bool (is_match d (written_session s j))) [
      | inl matched ↦ ap (λ x. is_dead (cond x (after_stop d phase.Dead) d).phase) matched ∙ sym (or_left (is_matching_death s h (DeathComes j now)) (is_session_dead s h) (sym e ∙ matched))
      | inr ignored ↦ ap (λ x. is_dead (cond x (after_stop d phase.Dead) d).phase) ignored ∙ same ∙ sym (ap (λ x. x || is_session_dead s h) (sym e ∙ ignored))
    ]

-- the timer is over exactly at a gap
over_is : (s : Setting) (h : HostRecord) (d : Standing) (now : ℕ) → Tied s h d → is_over d now ≡ is_gap s h (TickComes now)
over_is s h d now t =
    let n : ℕ = next_after h in
    let f : Following = following s h in
    elim (cases_Bool f.on) [
      | inr off ↦ and_left (is_any_held d.held) (nat_le d.wait (now - d.since)) (none_held-from d.held (λ i below. t.off_held off i))
          ∙ sym (ap (λ x. x && is_waiting f.handed n && nat_le s.wait (now - f.began)) off)
      | inl on ↦
          let b : (c : ℕ) × (taken s h ≡ Some c) = birth_of s h d t on in
          let w : IsFollowed s h d b.0 = t.followed b.0 b.1 on in
          let any : is_any_held d.held ≡ is_waiting f.handed n = any_held-waiting s h d b.0 t b.1 on in
          ap (λ x. x && nat_le d.wait (now - d.since)) any
          ∙ (elim (cases_Bool (is_waiting f.handed n)) [
            | inl some ↦ (let e : nat_le d.wait (now - d.since) ≡ nat_le s.wait (now - f.began) = rw (t.wait, w.since some) refl in ap (λ x. is_waiting f.handed n && x) e)
            | inr none ↦ and_left (is_waiting f.handed n) (nat_le d.wait (now - d.since)) none ∙ sym (and_left (is_waiting f.handed n) (nat_le s.wait (now - f.began)) none)
          ])
          ∙ sym (ap (λ x. x && is_waiting f.handed n && nat_le s.wait (now - f.began)) on)
    ]

pub tick_outcome : (s : Setting) (h : HostRecord) (d : Standing) (now : ℕ) → Tied s h d → Outcome s h d (TickComes now)
tick_outcome s h d now t =
    let input : Input = TickComes now in
    let e : is_over d now ≡ is_gap s h input = over_is s h d now t in
    elim (cases_Bool (is_over d now)) [
      | inl over ↦
          let g : is_gap s h input ≡ true = sym e ∙ over in
          let on : (following s h).on ≡ true = (and_parts (following s h).on (is_waiting (following s h).handed (next_after h)) (and_parts ((following s h).on && is_waiting (following s h).handed (next_after h)) (nat_le s.wait (now - (following s h).began)) g).0).0 in
          let live : is_live d.phase ≡ true = t.live ∙ on in
          record {
            tied = subst (λ x. Tied s (quiet input (Ticked x) ∷ h) (cond x (after_stop d phase.Gap) d)) (sym over)
                (tied_stops s h d input (Ticked true) phase.Gap t refl (goes_on_gap s h input g) (sym (live_is_known d.phase live)) (λ gone. absurd (true≢false (sym gone ∙ not_dead s h d t (live_is_alive d.phase live)))) t.fits);
            same = λ x. ap (λ y. quiet input (Ticked y)) e;
            ate = refl;
          }
      | inr waits_on ↦
          let g : is_gap s h input ≡ false = sym e ∙ waits_on in
          record {
            tied = subst (λ x. Tied s (quiet input (Ticked x) ∷ h) (cond x (after_stop d phase.Gap) d)) (sym waits_on)
                (elim (cases_Bool (following s h).on) [
                  | inl on ↦ (let b : (c : ℕ) × (taken s h ≡ Some c) = birth_of s h d t on in unchanged s h d input (Ticked false) t g refl b.0 b.1 on (λ x. refl) refl refl)
                  | inr off ↦ tied_still s h d input (Ticked false) t off refl t.fits
                ]);
            same = λ x. ap (λ y. quiet input (Ticked y)) e;
            ate = refl;
          }
    ]
