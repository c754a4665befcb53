-- Where all deaths are of near sessions the phase is Dead exactly while the session is.
use Rattle.std.proofs.Common.{◌≡◌, ℕ, ◌+◌, ◌-◌, ◌<◌, ◌≤◌, ◌&&◌, true, false, cond, not, nat_lt, nat_le, eqb, List, [], ◌∷◌, refl, sym, ◌∙◌, ap, Option, Some, is_some, inl, inr}
use Rattle.std.specs.List.{range_with_len, list_any}
use Rattle.std.proofs.lemmas.Bool.{true≢false, cases_Bool, or_left}
use Rattle.spk_sequence.specs.declared.phase.Phase.TheVariants as phase
use Rattle.spk_sequence.specs.declared.message.Kind.{Kind}
use Rattle.spk_sequence.specs.declared.message.Kind.TheVariants.{Birth, Other}
use Rattle.spk_sequence.specs.declared.answer.Step.{Step}
use Rattle.spk_sequence.specs.Data.{Standing, held_at}
use Rattle.spk_sequence.specs.Step.{is_live, is_dead, is_known, is_below, is_over, ahead, hand, hand_birth, hand_other, hand_ahead, after_stop}
use Rattle.spk_sequence.specs.Calls.{after_call}
use Rattle.spk_sequence.specs.NodeRecord.{Setting, IsNodeRecord, opens, stamp_at, session_at, written_number, written_session}
use Rattle.spk_sequence.specs.HostRecord.{Input, MessageComes, DeathComes, TickComes, HostRecord, record_of, standing_of, done_at, kind_of, call_of}
use Rattle.spk_sequence.specs.Following.{takes, following, is_session_dead}
use Rattle.spk_sequence.specs.Window.{AllMayCome, IsNearDeath, AllNearDeaths}
use Rattle.spk_sequence.proofs.Tied.{Tied, not_dead}
use Rattle.spk_sequence.proofs.Outcomes.{Outcome, Eats, live_is_alive, not_live}
use Rattle.spk_sequence.proofs.Ends.{death_exact}
use Rattle.spk_sequence.proofs.Restarts.{refused_is, dead_off}
use Rattle.spk_sequence.proofs.Always.{AllStep, outcome, tied_always}

abbrev IsAlive : (Step × Standing) → Type 0
IsAlive y = is_dead y.1.phase ≡ false

alive_birth : (d : Standing) (x stamp bd now : ℕ) → is_dead d.phase ≡ false → IsAlive (hand_birth d x stamp bd now)
alive_birth d x stamp bd now alive = elim (cases_Bool (is_known d.phase && nat_le stamp d.stamp)) [
  | inl old ↦ rw old alive
  | inr newer ↦ elim (cases_Bool (is_dead d.phase && eqb bd d.bd)) [
    | inl dead ↦ rw (newer, dead) alive
    | inr fresh ↦ rw (newer, fresh) refl
  ]
]

alive_ahead : (d : Standing) (place : ℕ) (stamp : Option ℕ) (now : ℕ) → is_dead d.phase ≡ false → IsAlive (hand_ahead d place stamp now)
alive_ahead d place stamp now alive = elim (cases_Bool (nat_lt place d.width)) [
  | inl inside ↦ elim (cases_Bool (is_some (held_at d.held place))) [
    | inl twice ↦ rw (inside, twice) alive
    | inr free ↦ rw (inside, free) alive
  ]
  | inr outside ↦ elim (cases_Bool (nat_lt place (256 - d.width))) [
    | inl far ↦ rw (outside, far) refl
    | inr back ↦ rw (outside, back) alive
  ]
]

alive_other : (d : Standing) (x : ℕ) (stamp : Option ℕ) (now : ℕ) → is_dead d.phase ≡ false → IsAlive (hand_other d x stamp now)
alive_other d x stamp now alive = elim (cases_Bool (is_live d.phase)) [
  | inr off ↦ rw off alive
  | inl live ↦ elim (cases_Bool (is_below stamp d.stamp)) [
    | inl old ↦ rw (live, old) alive
    | inr fresh ↦ elim (cases_Bool (eqb (ahead x d.next) 0)) [
      | inl first ↦ rw (live, fresh, first) refl
      | inr later ↦ rw (live, fresh, later) (alive_ahead d (ahead x d.next) stamp now alive)
    ]
  ]
]

-- no message makes the phase Dead
alive_hand : (d : Standing) (x : ℕ) (kind : Kind) (now : ℕ) → is_dead d.phase ≡ false → IsAlive (hand d x kind now)
alive_hand d x (Birth stamp bd) now alive = alive_birth d x stamp bd now alive
alive_hand d x (Other stamp) now alive = alive_other d x stamp now alive

abbrev IsExactly : Setting → HostRecord → Standing → Type 0
IsExactly s h d = is_dead d.phase ≡ is_session_dead s h

-- a message while the session is dead
dead_message : (s : Setting) (h : HostRecord) (d : Standing) (p now : ℕ) → Tied s h d → IsExactly s h d → Outcome s h d (MessageComes p now) → is_dead d.phase ≡ true → IsExactly s (done_at s h d (MessageComes p now) ∷ h) (after_call d (call_of s (MessageComes p now)))
dead_message s h d p now t same out dead = elim out.ate [
  | inl none ↦
      ap (λ (e : Standing). is_dead e.phase) (still none) ∙ same ∙ sym (ap (λ ps. not (list_any (opens s.published) ps) && is_session_dead s h) none)
  | inr some ↦ elim (cases_Bool (opens s.published p)) [
    | inr closed ↦ absurd (off_eats some.0 some.1 closed)
    | inl opening ↦
        let takes_it : takes s (done_at s h d (MessageComes p now)) ≡ true = ap (list_any (opens s.published)) some.2 ∙ or_left (opens s.published p) (list_any (opens s.published) (range_with_len (p + 1) some.0)) opening in
        let on : (following s (done_at s h d (MessageComes p now) ∷ h)).on ≡ true = or_left (takes s (done_at s h d (MessageComes p now))) _ takes_it in
        let alive : is_dead (after_call d (call_of s (MessageComes p now))).phase ≡ false = live_is_alive (after_call d (call_of s (MessageComes p now))).phase (out.tied.live ∙ on) in
        alive ∙ sym (not_dead s (done_at s h d (MessageComes p now) ∷ h) (after_call d (call_of s (MessageComes p now))) out.tied alive)
  ]
]
  where
    off_eats : (k : ℕ) → Eats s h p k → opens s.published p ≡ false → ⊥
    off_eats k a closed = elim a.which [
      | inl birth ↦ true≢false (sym birth.0 ∙ closed)
      | inr next ↦ true≢false (sym next.2 ∙ dead_off s h d t dead)
    ]

    still : (done_at s h d (MessageComes p now)).consumed ≡ [] → after_call d (call_of s (MessageComes p now)) ≡ d
    still none = elim (cases_Bool (opens s.published p)) [
      | inl opening ↦ (refused_is s h d p now opening none).still
      | inr closed ↦
          let off : is_live d.phase ≡ false = t.live ∙ dead_off s h d t dead in
          ap (λ x. (hand d (written_number s p) (cond x (Birth (stamp_at s.published p) (written_session s (session_at s.published p))) (Other (Some (stamp_at s.published p)))) now).1) closed
          ∙ ap (λ (y : Step × Standing). y.1) (not_live d (written_number s p) now (Some (stamp_at s.published p)) off)
    ]

exact_event : (s : Setting) (h : HostRecord) (d : Standing) (input : Input) → Tied s h d → Outcome s h d input → IsNearDeath s h input → IsExactly s h d → IsExactly s (done_at s h d input ∷ h) (after_call d (call_of s input))
exact_event s h d (DeathComes j now) t out near same = death_exact s h d j now t near same
exact_event s h d (TickComes now) t out near same = elim (cases_Bool (is_over d now)) [
  | inr idle ↦ ap (λ x. is_dead (cond x (after_stop d phase.Gap) d).phase) idle ∙ same
  | inl over ↦
      let alive : is_dead (after_call d (call_of s (TickComes now))).phase ≡ false = ap (λ x. is_dead (cond x (after_stop d phase.Gap) d).phase) over in
      alive ∙ sym (not_dead s (done_at s h d (TickComes now) ∷ h) (after_call d (call_of s (TickComes now))) out.tied alive)
]
exact_event s h d (MessageComes p now) t out near same = elim (cases_Bool (is_dead d.phase)) [
  | inl dead ↦ dead_message s h d p now t same out dead
  | inr alive ↦
      let after : is_dead (after_call d (call_of s (MessageComes p now))).phase ≡ false = alive_hand d (written_number s p) (kind_of s p) now alive in
      after ∙ sym (not_dead s (done_at s h d (MessageComes p now) ∷ h) (after_call d (call_of s (MessageComes p now))) out.tied after)
]

pub exact_always : (s : Setting) → IsNodeRecord s.published → 0 < s.width → s.width ≤ 96 → (inputs : List Input) → AllMayCome s inputs → AllStep s inputs → AllNearDeaths s inputs → IsExactly s (record_of s inputs) (standing_of s inputs)
exact_always s node low high [] may steps near = refl
exact_always s node low high (input ∷ inputs) may steps near =
    let t : Tied s (record_of s inputs) (standing_of s inputs) = tied_always s node low high inputs may.1 steps.1 in
    exact_event s (record_of s inputs) (standing_of s inputs) input t (outcome s (record_of s inputs) (standing_of s inputs) input node t may.0 steps.0) near.0
    (exact_always s node low high inputs may.1 steps.1 near.1)
