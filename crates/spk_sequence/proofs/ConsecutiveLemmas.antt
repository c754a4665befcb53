-- What is consumed from a birth on has numbers that follow one another.
use Rattle.std.proofs.Common.{◌≡◌, ℕ, zero, suc, ◌+◌, ◌-◌, ◌%◌, ◌<◌, ◌⊎◌, ◌&&◌, Bool, true, false, cond, nat_lt, nat_le, eqb, List, [], ◌∷◌, ◌++◌, map, refl, sym, ◌∙◌, ap, arith, Option, is_some, inl, inr, subst}
use Rattle.std.specs.List.{range_with_len, sum}
use Rattle.std.proofs.lemmas.List.{append-nil}
use Rattle.std.proofs.lemmas.Bool.{cases_Bool, eqb-true}
use Rattle.spk_sequence.specs.declared.phase.Phase.{Phase}
use Rattle.spk_sequence.specs.declared.phase.Phase.TheVariants as phase
use Rattle.spk_sequence.specs.declared.message.Kind.TheVariants.{Birth, Other}
use Rattle.spk_sequence.specs.declared.answer.Step.{Step}
use Rattle.spk_sequence.specs.declared.answer.Step.TheVariants as step
use Rattle.spk_sequence.specs.Data.{Standing, IsWhole, held_at}
use Rattle.spk_sequence.specs.Step.{is_live, is_known, is_dead, is_below, is_match, is_over, ahead, places_from, kept_places, run_of, hand, hand_birth, hand_other, after_stop}
use Rattle.spk_sequence.specs.Calls.{Hand, Tick, Death}
use Rattle.spk_sequence.specs.Losses.{Event, Called, Reset, after_event}
use Rattle.spk_sequence.specs.Fates.{consumed_by, consumed_at, each, IsByte, AreBytes}
use Rattle.spk_sequence.specs.Consecutive.{numbers_from, numbers_at, numbers_consumed, TakesNone, NoBirthTaken}
use Rattle.spk_sequence.proofs.Outcomes.{not_live, too_old, next_one, again, held_now, too_far, behind}
use Rattle.spk_sequence.proofs.LossLemmas.{whole_after, some_consumed, not_born}
use Rattle.spk_sequence.proofs.FateLemmas.{sum-cons}

-- the same list from elsewhere
mapped : (f g : ℕ → ℕ) (a b n : ℕ) → ((i : ℕ) → i < n → f (a + i) ≡ g (b + i)) → map f (range_with_len a n) ≡ map g (range_with_len b n)
mapped f g a b zero h = refl
mapped f g a b (suc n) h =
    let first : f a ≡ g b = (let l : a ≡ a + 0 = omega arith in let r : b + 0 ≡ b = omega arith in ap f l ∙ h 0 (omega arith) ∙ ap g r) in
    let rest : map f (range_with_len (a + 1) n) ≡ map g (range_with_len (b + 1) n) = mapped f g (a + 1) (b + 1) n (λ i below.
    let l : a + 1 + i ≡ a + (i + 1) = omega arith in let r : b + (i + 1) ≡ b + 1 + i = omega arith in ap f l ∙ h (i + 1) (omega arith) ∙ ap g r) in
    ap (λ x. x ∷ map f (range_with_len (a + 1) n)) first ∙ ap (λ xs. g b ∷ xs) rest

ranged : (f : ℕ → ℕ) (a m n : ℕ) → map f (range_with_len a (m + n)) ≡ map f (range_with_len a m) ++ map f (range_with_len (a + m) n)
ranged f a zero n =
    let l : 0 + n ≡ n = omega arith in
    let r : a ≡ a + 0 = omega arith in
    ap (λ k. map f (range_with_len a k)) l ∙ ap (λ k. map f (range_with_len k n)) r
ranged f a (suc m) n =
    let l : suc m + n ≡ suc (m + n) = omega arith in
    let r : a + 1 + m ≡ a + suc m = omega arith in
    ap (λ k. map f (range_with_len a k)) l ∙ ap (λ xs. f a ∷ xs) (ranged f (a + 1) m n)
    ∙ ap (λ k. f a ∷ (map f (range_with_len (a + 1) m) ++ map f (range_with_len k n))) r

-- so many, and so many more behind them
numbers_parts : (first m n : ℕ) → numbers_from first (m + n) ≡ numbers_from first m ++ numbers_from ((first + m) % 256) n
numbers_parts first m n =
    ranged (λ i. (first + i) % 256) 0 m n
    ∙ ap (λ xs. numbers_from first m ++ xs) (mapped (λ i. (first + i) % 256) (λ i. ((first + m) % 256 + i) % 256) (0 + m) 0 n (λ i below. let e : (first + (0 + m + i)) % 256 ≡ ((first + m) % 256 + (0 + i)) % 256 = omega arith in e))

-- What an event does that takes no birth while the node is followed: what it consumes begins with the number that comes
-- next, and then the node is followed from the number after them on, or it is no longer.
record Goes (s : Standing) (e : Event) : Type 0 where
  numbers : numbers_at s e ≡ numbers_from s.next (consumed_at s e)
  after : ((is_live (after_event s e).phase ≡ true) × ((after_event s e).next ≡ (s.next + consumed_at s e) % 256)) ⊎ ((is_live (after_event s e).phase ≡ false) × (consumed_at s e ≡ 0))

abbrev StepGoes : Standing → ℕ → (Step × Standing) → Type 0
StepGoes s number y =
    (numbers_from number (consumed_by y.0) ≡ numbers_from s.next (consumed_by y.0))
    × (((is_live y.1.phase ≡ true) × (y.1.next ≡ (s.next + consumed_by y.0) % 256)) ⊎ ((is_live y.1.phase ≡ false) × (consumed_by y.0 ≡ 0)))

stays_at : (s : Standing) → IsWhole s → s.next ≡ (s.next + 0) % 256
stays_at s w = let byte : s.next < 256 = w.one_byte in omega arith

other_goes : (s : Standing) (number now : ℕ) (own : Option ℕ) → number < 256 → IsWhole s → is_live s.phase ≡ true → StepGoes s number (hand_other s number own now)
other_goes s number now own byte w live =
    let place : ℕ = ahead number s.next in
    let next : s.next < 256 = w.one_byte in
    elim (cases_Bool (is_below own s.stamp)) [
      | inl old ↦ subst (StepGoes s number) (sym (too_old s number now own live old)) (refl, inl (live, stays_at s w))
      | inr fresh ↦ elim (cases_Bool (eqb place 0)) [
        | inl first ↦
            let here : place ≡ 0 = eqb-true place 0 first in
            let same : number ≡ s.next = omega arith in
            let k : ℕ = run_of (places_from s.held s.width 1) in
            subst (StepGoes s number) (sym (next_one s number now own live fresh first))
            (ap (λ n. numbers_from n (1 + k)) same, inl (refl, (let e : (number + 1 + k) % 256 ≡ (s.next + (1 + k)) % 256 = omega arith in e)))
        | inr later ↦ elim (cases_Bool (nat_lt place s.width)) [
          | inl inside ↦ elim (cases_Bool (is_some (held_at s.held place))) [
            | inl twice ↦ subst (StepGoes s number) (sym (again s number now own live fresh later inside twice)) (refl, inl (live, stays_at s w))
            | inr free ↦ subst (StepGoes s number) (sym (held_now s number now own live fresh later inside free)) (refl, inl (live, stays_at s w))
          ]
          | inr outside ↦ elim (cases_Bool (nat_lt place (256 - s.width))) [
            | inl far ↦ subst (StepGoes s number) (sym (too_far s number now own live fresh later outside far)) (refl, inr (refl, refl))
            | inr back ↦ subst (StepGoes s number) (sym (behind s number now own live fresh later outside back)) (refl, inl (live, stays_at s w))
          ]
        ]
      ]
    ]

-- a birth that consumes nothing isn't taken
unborn : (s : Standing) (number stamp bd now : ℕ) → consumed_at s (Called (Hand number (Birth stamp bd) now)) ≡ 0 → (hand_birth s number stamp bd now).1 ≡ s
unborn s number stamp bd now none =
    not_born s number stamp bd now (λ n e. absurd (let some : 0 < n = some_consumed s number now (Birth stamp bd) n e in let is : n ≡ 0 = sym (ap consumed_by e) ∙ none in omega arith))

quiet_goes : (s : Standing) (e : Event) → IsWhole s → numbers_at s e ≡ [] → consumed_at s e ≡ 0 → ((is_live (after_event s e).phase ≡ true) × ((after_event s e).next ≡ s.next)) ⊎ (is_live (after_event s e).phase ≡ false) → Goes s e
quiet_goes s e w none zero_at (inl (on, same)) =
    let byte : s.next < 256 = w.one_byte in
    record { numbers = none ∙ sym (ap (numbers_from s.next) zero_at); after = inl (on, omega arith) }
quiet_goes s e w none zero_at (inr off) = record { numbers = none ∙ sym (ap (numbers_from s.next) zero_at); after = inr (off, zero_at) }

stops : (s : Standing) (to : Phase) (b : Bool) → is_live s.phase ≡ true → is_live to ≡ false →
    (let t : Standing = cond b (after_stop s to) s in ((is_live t.phase ≡ true) × (t.next ≡ s.next)) ⊎ (is_live t.phase ≡ false))
stops s to true live off = inr off
stops s to false live off = inl (live, refl)

goes_on : (s : Standing) (e : Event) → IsByte e → IsWhole s → TakesNone s e → is_live s.phase ≡ true → Goes s e
goes_on s (Called (Hand number (Other own) now)) byte w none live =
    let g : StepGoes s number (hand_other s number own now) = other_goes s number now own byte w live in
    record { numbers = g.0; after = g.1 }
goes_on s (Called (Hand number (Birth stamp bd) now)) byte w none live =
    let same : (hand_birth s number stamp bd now).1 ≡ s = unborn s number stamp bd now none in
    quiet_goes s (Called (Hand number (Birth stamp bd) now)) w (ap (numbers_from number) none) none
    (inl (ap (λ (t : Standing). is_live t.phase) same ∙ live, ap (λ (t : Standing). t.next) same))
goes_on s (Called (Tick now)) byte w none live = quiet_goes s (Called (Tick now)) w refl refl (stops s phase.Gap (is_over s now) live refl)
goes_on s (Called (Death bd)) byte w none live = quiet_goes s (Called (Death bd)) w refl refl (stops s phase.Dead (is_match s bd) live refl)
goes_on s Reset byte w none live = quiet_goes s Reset w refl refl (inr refl)

-- while the node isn't followed nothing is consumed, until a birth is taken
still_off : (s : Standing) (e : Event) → TakesNone s e → is_live s.phase ≡ false → (consumed_at s e ≡ 0) × (numbers_at s e ≡ []) × (is_live (after_event s e).phase ≡ false)
still_off s (Called (Hand number (Other own) now)) none off =
    subst (λ (y : Step × Standing). (consumed_by y.0 ≡ 0) × (numbers_from number (consumed_by y.0) ≡ []) × (is_live y.1.phase ≡ false)) (sym (not_live s number now own off)) (refl, refl, off)
still_off s (Called (Hand number (Birth stamp bd) now)) none off =
    (none, ap (numbers_from number) none, ap (λ (t : Standing). is_live t.phase) (unborn s number stamp bd now none) ∙ off)
still_off s (Called (Tick now)) none off = (refl, refl, stop (is_over s now))
  where
    stop : (b : Bool) → (let t : Standing = cond b (after_stop s phase.Gap) s in is_live t.phase) ≡ false
    stop true = refl
    stop false = off
still_off s (Called (Death bd)) none off = (refl, refl, stop (is_match s bd))
  where
    stop : (b : Bool) → (let t : Standing = cond b (after_stop s phase.Dead) s in is_live t.phase) ≡ false
    stop true = refl
    stop false = off
still_off s Reset none off = (refl, refl, refl)

silent : (events : List Event) (s : Standing) → NoBirthTaken s events → is_live s.phase ≡ false → (numbers_consumed s events ≡ []) × (sum (each consumed_at s events) ≡ 0)
silent [] s none off = (refl, refl)
silent (e ∷ events) s none off =
    let here : (consumed_at s e ≡ 0) × (numbers_at s e ≡ []) × (is_live (after_event s e).phase ≡ false) = still_off s e none.0 off in
    let rest : (numbers_consumed (after_event s e) events ≡ []) × (sum (each consumed_at (after_event s e) events) ≡ 0) = silent events (after_event s e) none.1 here.2 in
    (ap (λ xs. xs ++ numbers_consumed (after_event s e) events) here.1 ∙ rest.0, omega (arith, sum-cons (consumed_at s e) (each consumed_at (after_event s e) events), here.0, rest.1))

pub follow_on : (events : List Event) (s : Standing) → IsWhole s → AreBytes events → NoBirthTaken s events → is_live s.phase ≡ true →
    numbers_consumed s events ≡ numbers_from s.next (sum (each consumed_at s events))
follow_on [] s w bytes none live = refl
follow_on (e ∷ events) s w bytes none live =
    let g : Goes s e = goes_on s e bytes.0 w none.0 live in
    let n : ℕ = consumed_at s e in
    let m : ℕ = sum (each consumed_at (after_event s e) events) in
    let count : sum (each consumed_at s (e ∷ events)) ≡ n + m = sum-cons n (each consumed_at (after_event s e) events) in
    elim g.after [
      | inl on ↦
          ap (λ xs. xs ++ numbers_consumed (after_event s e) events) g.numbers
          ∙ ap (λ xs. numbers_from s.next n ++ xs) (follow_on events (after_event s e) (whole_after s e bytes.0 w) bytes.1 none.1 on.0 ∙ ap (λ x. numbers_from x m) on.1)
          ∙ sym (numbers_parts s.next n m) ∙ ap (numbers_from s.next) (sym count)
      | inr off ↦
          let rest : (numbers_consumed (after_event s e) events ≡ []) × (m ≡ 0) = silent events (after_event s e) none.1 off.0 in
          let all : n ≡ sum (each consumed_at s (e ∷ events)) = omega (arith, rest.1) in
          ap (λ xs. numbers_at s e ++ xs) rest.0 ∙ append-nil (numbers_at s e) ∙ g.numbers ∙ ap (numbers_from s.next) all
    ]

-- a birth that is taken is followed
abbrev FollowsBirth : ℕ → (Step × Standing) → Type 0
FollowsBirth number y = (n : ℕ) → y.0 ≡ step.Consumed n → (is_live y.1.phase ≡ true) × (y.1.next ≡ (number + n) % 256)

born : (s : Standing) (number stamp bd now : ℕ) → FollowsBirth number (hand_birth s number stamp bd now)
born s number stamp bd now = elim (cases_Bool (is_known s.phase && nat_le stamp s.stamp)) [
  | inl old ↦ rw old (λ n e. absurd (cc))
  | inr newer ↦ elim (cases_Bool (is_dead s.phase && eqb bd s.bd)) [
    | inl dead ↦ rw (newer, dead) (λ n e. absurd (cc))
    | inr alive ↦ rw (newer, alive) (λ n e. (refl, counted (run_of (kept_places s number stamp)) n e))
  ]
]
  where
    counted : (k n : ℕ) → step.Consumed (1 + k) ≡ step.Consumed n → (number + 1 + k) % 256 ≡ (number + n) % 256
    counted k n e = let is : 1 + k ≡ n = cc in let at : number + 1 + k ≡ number + n = omega arith in ap (λ x. x % 256) at

pub follow_birth : (s : Standing) (number stamp bd now n : ℕ) (events : List Event) → number < 256 → IsWhole s → (hand s number (Birth stamp bd) now).0 ≡ step.Consumed n →
    AreBytes events → NoBirthTaken (hand s number (Birth stamp bd) now).1 events →
    numbers_consumed s (Called (Hand number (Birth stamp bd) now) ∷ events) ≡ numbers_from number (n + sum (each consumed_at (hand s number (Birth stamp bd) now).1 events))
follow_birth s number stamp bd now n events byte w is bytes none =
    let new : Standing = (hand s number (Birth stamp bd) now).1 in
    let m : ℕ = sum (each consumed_at new events) in
    let b : (is_live new.phase ≡ true) × (new.next ≡ (number + n) % 256) = born s number stamp bd now n is in
    ap (λ k. numbers_from number k ++ numbers_consumed new events) (ap consumed_by is)
    ∙ ap (λ xs. numbers_from number n ++ xs) (follow_on events new (whole_after s (Called (Hand number (Birth stamp bd) now)) byte w) bytes none b.0 ∙ ap (λ x. numbers_from x m) b.1)
    ∙ sym (numbers_parts number n m)

pub nothing_else : (events : List Event) (s : Standing) → NoBirthTaken s events → is_live s.phase ≡ false → numbers_consumed s events ≡ []
nothing_else events s none off = (silent events s none off).0
