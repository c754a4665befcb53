-- Messages in order are consumed one by one.
use Rattle.std.proofs.Common.{◌≡◌, ℕ, ◌+◌, ◌-◌, ◌%◌, ◌<◌, ◌&&◌, true, false, cond, nat_le, eqb, List, [], ◌∷◌, refl, sym, ◌∙◌, ap, arith, Option, Some, None, inl, inr, subst}
use Rattle.std.proofs.lemmas.Bool.{cases_lt, cases_Bool, le-leb, and_left, and_right, ne_eqb, eq-eqb}
use Rattle.spk_sequence.specs.declared.phase.Phase.TheVariants as phase
use Rattle.spk_sequence.specs.declared.message.Kind.TheVariants.{Birth, Other}
use Rattle.spk_sequence.specs.declared.answer.Step.{Step}
use Rattle.spk_sequence.specs.declared.answer.Step.TheVariants as step
use Rattle.spk_sequence.specs.declared.answer.Match.TheVariants.{Matched, Ignored}
use Rattle.spk_sequence.specs.Data.{Standing, IsWhole, held_at}
use Rattle.spk_sequence.specs.Step.{is_live, is_known, is_dead, is_below, is_any_held, is_match, is_over, ahead, places_from, run_of, hand, hand_birth, hand_other, after_birth, after_consumed, after_stop}
use Rattle.spk_sequence.specs.Calls.{Call, Hand, Tick, Death, Stepped, Ticked, Told, replies_of}
use Rattle.spk_sequence.specs.InLine.{IsInLine, replies_in_line}
use Rattle.spk_sequence.specs.Numbers.{KeepsNumbers}
use Rattle.spk_sequence.proofs.Places.{held_at-past, none_held, none_held-from}
use Rattle.spk_sequence.proofs.WindowLemmas.{held_at-places_from, length-places_from}
use Rattle.spk_sequence.proofs.Outcomes.{next_one, live_is_known}
use Rattle.spk_sequence.proofs.Births.{old_birth}
use Rattle.spk_sequence.proofs.NumberLemmas.{keeps_numbers}

-- no run where the first place is empty
run_none : (held : List (Option (Option ℕ))) → held_at held 0 ≡ None → run_of held ≡ 0
run_none [] e = refl
run_none (None ∷ held) e = refl
run_none (Some own ∷ held) e = absurd (cc)

none_from : (held : List (Option (Option ℕ))) (width k i : ℕ) → ((j : ℕ) → held_at held j ≡ None) → held_at (places_from held width k) i ≡ None
none_from held width k i none = elim (cases_lt i width) [
  | inl inside ↦ held_at-places_from held width k i inside ∙ none (k + i)
  | inr past ↦ held_at-past (places_from held width k) i (omega (arith, length-places_from held width k))
]

consumed_alone : (s : Standing) (number now : ℕ) (own : Option ℕ) → IsWhole s → is_live s.phase ≡ true → ((i : ℕ) → held_at s.held i ≡ None) → number ≡ s.next → is_below own s.stamp ≡ false →
    hand_other s number own now ≡ (step.Consumed 1, after_consumed s number (places_from s.held s.width 1) now)
consumed_alone s number now own w live none at fresh =
    let byte : s.next < 256 = w.one_byte in
    next_one s number now own live fresh (eq-eqb (ahead number s.next) 0 (omega arith))
    ∙ ap (λ k. (step.Consumed (1 + k), after_consumed s number (places_from s.held s.width 1) now)) (run_none (places_from s.held s.width 1) (none_from s.held s.width 1 0 none))

pub line_from : (calls : List Call) (s : Standing) → IsWhole s → is_live s.phase ≡ true → ((i : ℕ) → held_at s.held i ≡ None) → IsInLine s.next s.stamp s.bd calls → replies_of s calls ≡ replies_in_line calls
line_from [] s w live none line = refl
line_from (Hand number (Birth other session) now ∷ calls) s w live none line =
    ap (λ (y : Step × Standing). Stepped y.0 ∷ replies_of y.1 calls) (old_birth s number other session now (live_is_known s.phase live) (le-leb other s.stamp line.0))
    ∙ ap (λ r. Stepped step.OldBirth ∷ r) (line_from calls s w live none line.1)
line_from (Hand number (Other own) now ∷ calls) s w live none line =
    let rest : List (Option (Option ℕ)) = places_from s.held s.width 1 in
    let t : Standing = after_consumed s number rest now in
    let e : hand_other s number own now ≡ (step.Consumed 1, t) = consumed_alone s number now own w live none line.0 line.1 in
    let at : number ≡ s.next = line.0 in
    let byte : s.next < 256 = w.one_byte in
    let whole : IsWhole t = subst (λ (y : Step × Standing). IsWhole y.1) e (keeps_numbers s number now (Other own) (omega arith) w).whole in
    let run : run_of rest ≡ 0 = run_none rest (none_from s.held s.width 1 0 none) in
    let next : (s.next + 1) % 256 ≡ t.next = omega arith in
    ap (λ (y : Step × Standing). Stepped y.0 ∷ replies_of y.1 calls) e
    ∙ ap (λ r. Stepped (step.Consumed 1) ∷ r) (line_from calls t whole refl (λ i. none_from rest s.width (run_of rest) i (λ j. none_from s.held s.width 1 j none))
    (subst (λ x. IsInLine x s.stamp s.bd calls) next line.2))
line_from (Tick now ∷ calls) s w live none line =
    let idle : is_over s now ≡ false = and_left (is_any_held s.held) (nat_le s.wait (now - s.since)) (none_held-from s.held (λ i below. none i)) in
    ap (λ b. Ticked b ∷ replies_of (cond b (after_stop s phase.Gap) s) calls) idle ∙ ap (λ r. Ticked false ∷ r) (line_from calls s w live none line)
line_from (Death bd ∷ calls) s w live none line =
    let other : is_match s bd ≡ false = and_right (is_known s.phase) (eqb bd s.bd) (ne_eqb bd s.bd line.0) in
    ap (λ b. Told (cond b Matched Ignored) ∷ replies_of (cond b (after_stop s phase.Dead) s) calls) other ∙ ap (λ r. Told Ignored ∷ r) (line_from calls s w live none line.1)

-- the data after a birth that was taken
born_as : (s : Standing) (number stamp bd now n : ℕ) → (hand_birth s number stamp bd now).0 ≡ step.Consumed n →
    (hand_birth s number stamp bd now).1 ≡ after_birth s number stamp bd now
born_as s number stamp bd now n = elim (cases_Bool (is_known s.phase && nat_le stamp s.stamp)) [
  | inl old ↦ rw old (λ e. absurd (cc))
  | inr newer ↦ elim (cases_Bool (is_dead s.phase && eqb bd s.bd)) [
    | inl dead ↦ rw (newer, dead) (λ e. absurd (cc))
    | inr alive ↦ rw (newer, alive) (λ e. refl)
  ]
]

pub line_from_birth : (calls : List Call) (s : Standing) (number stamp bd now n : ℕ) → number < 256 → IsWhole s → (hand s number (Birth stamp bd) now).0 ≡ step.Consumed n → is_any_held (hand s number (Birth stamp bd) now).1.held ≡ false →
    IsInLine ((number + n) % 256) stamp bd calls → replies_of (hand s number (Birth stamp bd) now).1 calls ≡ replies_in_line calls
line_from_birth calls s number stamp bd now n byte w answer none line =
    let k : KeepsNumbers s (hand s number (Birth stamp bd) now).1 number (hand s number (Birth stamp bd) now).0 = keeps_numbers s number now (Birth stamp bd) byte w in
    let next : (hand_birth s number stamp bd now).1.next ≡ (number + n) % 256 = (k.eaten n answer).next in
    let e : (hand_birth s number stamp bd now).1 ≡ after_birth s number stamp bd now = born_as s number stamp bd now n answer in
    line_from calls (hand_birth s number stamp bd now).1 k.whole (ap (λ (x : Standing). is_live x.phase) e) (none_held (hand_birth s number stamp bd now).1.held none)
    (subst (λ x. IsInLine x (hand_birth s number stamp bd now).1.stamp (hand_birth s number stamp bd now).1.bd calls) (sym next)
    (subst (λ x. IsInLine ((number + n) % 256) x (hand_birth s number stamp bd now).1.bd calls) (sym (ap (λ (x : Standing). x.stamp) e))
    (subst (λ x. IsInLine ((number + n) % 256) stamp x calls) (sym (ap (λ (x : Standing). x.bd) e)) line)))
