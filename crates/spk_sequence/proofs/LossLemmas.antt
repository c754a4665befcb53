-- What an event does to each number, and what it drops.
use Rattle.std.proofs.Common.{◌≡◌, ℕ, ◌+◌, ◌-◌, ◌%◌, ◌<◌, ◌≤◌, ◌≢◌, ◌&&◌, Bool, true, false, cond, not, nat_lt, nat_le, eqb, List, [], ◌∷◌, length, set, refl, sym, ◌∙◌, ap, arith, Option, Some, None, is_some, inl, inr, subst}
use Rattle.std.specs.List.{list_any, position_or_len}
use Rattle.std.proofs.lemmas.List.{length-replicate, get_or-set_same, get_or-set_other}
use Rattle.std.proofs.lemmas.List.Sums.{prefix_len-le-length}
use Rattle.std.proofs.lemmas.Bool.{true≢false, false≢true, cases_lt, cases_eq, cases_Bool, eqb-true, eqb-false, ne_eqb, eq-eqb, ltb-true, lt-ltb}
use Rattle.spk_sequence.specs.declared.phase.Phase.{Phase}
use Rattle.spk_sequence.specs.declared.phase.Phase.TheVariants as phase
use Rattle.spk_sequence.specs.declared.message.Kind.{Kind}
use Rattle.spk_sequence.specs.declared.message.Kind.TheVariants.{Birth, Other}
use Rattle.spk_sequence.specs.declared.answer.Step.{Step}
use Rattle.spk_sequence.specs.declared.answer.Step.TheVariants as step
use Rattle.spk_sequence.specs.declared.answer.Loss.{Loss}
use Rattle.spk_sequence.specs.Data.{Standing, IsWhole, held_at}
use Rattle.spk_sequence.specs.Step.{is_live, is_known, is_dead, is_below, is_match, is_over, is_any_held, ahead, places_from, run_of, hand, hand_birth, hand_other, after_consumed, after_held, after_stop, tick, death, fresh_standing, kept_places}
use Rattle.spk_sequence.specs.Calls.{Hand, Tick, Death}
use Rattle.spk_sequence.specs.Numbers.{held_as, held_count, Remains, KeepsNumbers, IsEaten, IsAdded}
use Rattle.spk_sequence.specs.Losses.{Event, Called, Reset, after_event, is_held_as, takes_held, consumes, drops, numbers_with, dropped_at, missing_in, no_loss, at_stake, loss_at}
use Rattle.spk_sequence.specs.Fates.{IsByte}
use Rattle.spk_sequence.proofs.Places.{held_at-past, held_at-empty, none_held}
use Rattle.spk_sequence.proofs.WindowLemmas.{held_at-places_from, length-places_from}
use Rattle.spk_sequence.proofs.Outcomes.{not_live, too_old, next_one, again, held_now, too_far, behind}
use Rattle.spk_sequence.proofs.NumberLemmas.{keeps_numbers, tick_whole, death_whole, tick_remains, death_remains}
use Rattle.spk_sequence.proofs.Tallies.{one, passing, with_is, passing_parts, no_passing, places_counted, with_ahead, with_none, with_same}

-- the messages held, by their numbers
pub held_with : (s : Standing) → IsWhole s → numbers_with (is_held_as s) ≡ held_count s.held
held_with s w =
    let q : ℕ → Bool = λ i. is_some (held_at s.held i) in
    let few : s.width ≤ 96 = w.few_places in
    let byte : s.next < 256 = w.one_byte in
    let sized : length s.held ≡ s.width = w.all_places in
    let all : length s.held + (256 - length s.held) ≡ 256 = omega arith in
    let past : passing q (0 + length s.held) (256 - length s.held) ≡ 0 = no_passing q (0 + length s.held) (256 - length s.held) (λ i low high. ap is_some (held_at-past s.held i (omega arith))) in
    omega (arith, with_ahead q s.next byte, with_is q, ap (passing q 0) all, passing_parts q 0 (length s.held) (256 - length s.held), places_counted s.held, past)

-- What an event does to one number: h, whether a message was held under it; e, whether it is consumed; g, whether one is held
-- under it afterwards; new, whether it is the one handed, which is held now.
pub record Moved (h e g new : Bool) : Type 0 where
  pub eaten_held : e ≡ true → h ≡ true
  pub eaten_gone : e ≡ true → g ≡ false
  pub stays : g ≡ true → new ≡ false → h ≡ true
  pub new_held : new ≡ true → g ≡ true
  pub new_free : new ≡ true → h ≡ false

-- one test of what becomes of it
pub moved_one : (h e g new a b c : Bool) → Moved h e g new →
    one (h && cond e a (cond g b c)) + one (new && b) ≡ one (e && a) + one ((h && not e && not g) && c) + one (g && b)
moved_one false true g new a b c m = absurd (false≢true (m.eaten_held refl))
moved_one true true true new a b c m = absurd (true≢false (m.eaten_gone refl))
moved_one true true false true a b c m = absurd (true≢false (m.new_free refl))
moved_one true true false false a b c m = refl_sum (one a)
  where
    refl_sum : (n : ℕ) → n + 0 ≡ n + 0 + 0
    refl_sum n = omega arith
moved_one true false true true a b c m = absurd (true≢false (m.new_free refl))
moved_one true false true false a b c m = (omega arith)
moved_one true false false true a b c m = absurd (true≢false (m.new_free refl))
moved_one true false false false a b c m = (omega arith)
moved_one false false true true a b c m = (omega arith)
moved_one false false true false a b c m = absurd (false≢true (m.stays refl refl))
moved_one false false false true a b c m = absurd (false≢true (m.new_held refl))
moved_one false false false false a b c m = (omega arith)

-- the number is that of the message handed, and the step holds it
abbrev pub is_new : Step → ℕ → ℕ → Bool
is_new step.Held number x = eqb x number
is_new _ number x = false

none_moved : (h g : Bool) → (g ≡ true → h ≡ true) → Moved h false g false
none_moved h g stays = record {
  eaten_held = λ e. absurd (false≢true e);
  eaten_gone = λ e. absurd (false≢true e);
  stays = λ there old. stays there;
  new_held = λ e. absurd (false≢true e);
  new_free = λ e. absurd (false≢true e);
}

some_is : (o : Option (Option ℕ)) → is_some o ≡ true → (own : Option ℕ) × (o ≡ Some own)
some_is (Some own) e = (own, refl)
some_is None e = absurd (true≢false (sym e))

remains_held : (old new : Standing) (x : ℕ) → x < 256 → Remains old new → is_held_as new x ≡ true → is_held_as old x ≡ true
remains_held old new x fits remains there =
    let own : (o : Option ℕ) × (held_as new x ≡ Some o) = some_is (held_as new x) there in ap is_some (remains x fits own.0 own.1)

both : (b c : Bool) → (b && c) ≡ true → (b ≡ true) × (c ≡ true)
both true true e = (refl, refl)
both true false e = absurd (false≢true e)
both false c e = absurd (false≢true e)

eaten_moved : (old new : Standing) (number n x : ℕ) → number < 256 → IsWhole old → IsWhole new → new.width ≤ 96 → x < 256 → Remains old new → IsEaten old new number n →
    Moved (is_held_as old x) (takes_held (step.Consumed n) number x) (is_held_as new x) false
eaten_moved old new number n x byte w v few fits remains eaten =
    let d : ℕ = ahead x number in
    let most : n ≤ old.width = eaten.few in
    let wide : old.width ≤ 96 = w.few_places in
    let sized : length new.held ≡ new.width = v.all_places in
    let at : new.next ≡ (number + n) % 256 = eaten.next in
    record {
      eaten_held = λ e.
          let parts : (nat_lt 0 d ≡ true) × (nat_lt d n ≡ true) = both (nat_lt 0 d) (nat_lt d n) e in
          let low : 0 < d = ltb-true 0 d parts.0 in
          let high : d < n = ltb-true d n parts.1 in
          let there : (number + d) % 256 ≡ x = omega arith in
          ap (is_held_as old) (sym there) ∙ eaten.were_held d low high;
      eaten_gone = λ e.
          let parts : (nat_lt 0 d ≡ true) × (nat_lt d n ≡ true) = both (nat_lt 0 d) (nat_lt d n) e in
          let low : 0 < d = ltb-true 0 d parts.0 in
          let high : d < n = ltb-true d n parts.1 in
          ap is_some (held_at-past new.held (ahead x new.next) (omega arith));
      stays = λ there fresh. remains_held old new x fits remains there;
      new_held = λ e. absurd (false≢true e);
      new_free = λ e. absurd (false≢true e);
    }

added_moved : (old new : Standing) (number x : ℕ) → x < 256 → IsAdded old new number → Moved (is_held_as old x) false (is_held_as new x) (eqb x number)
added_moved old new number x fits added = record {
  eaten_held = λ e. absurd (false≢true e);
  eaten_gone = λ e. absurd (false≢true e);
  stays = λ there other. sym (ap is_some (added.others x fits (eqb-false x number other))) ∙ there;
  new_held = λ same. ap (is_held_as new) (eqb-true x number same) ∙ added.is_held;
  new_free = λ same. ap (is_held_as old) (eqb-true x number same) ∙ ap is_some added.was_free;
}

-- what a step does to each number
pub moved_by : (old new : Standing) (number : ℕ) (answer : Step) (x : ℕ) → number < 256 → IsWhole old → KeepsNumbers old new number answer → x < 256 →
    Moved (is_held_as old x) (takes_held answer number x) (is_held_as new x) (is_new answer number x)
moved_by old new number (step.Consumed n) x byte w k fits = eaten_moved old new number n x byte w k.whole k.whole.few_places fits (k.remains (λ e. absurd (cc))) (k.eaten n refl)
moved_by old new number step.Held x byte w k fits = added_moved old new number x fits (k.added refl)
moved_by old new number step.Old x byte w k fits = none_moved _ _ (remains_held old new x fits (k.remains (λ e. absurd (cc))))
moved_by old new number step.Gap x byte w k fits = none_moved _ _ (remains_held old new x fits (k.remains (λ e. absurd (cc))))
moved_by old new number step.OldBirth x byte w k fits = none_moved _ _ (remains_held old new x fits (k.remains (λ e. absurd (cc))))
moved_by old new number step.DeadSession x byte w k fits = none_moved _ _ (remains_held old new x fits (k.remains (λ e. absurd (cc))))
moved_by old new number step.NotLive x byte w k fits = none_moved _ _ (remains_held old new x fits (k.remains (λ e. absurd (cc))))

-- the number that an event adds to what is held
abbrev pub adds : Standing → Event → ℕ → Bool
adds s (Called (Hand number kind now)) x = is_new (hand s number kind now).0 number x
adds s _ x = false

fresh_none : (wait width x : ℕ) → is_held_as (fresh_standing wait width) x ≡ false
fresh_none wait width x = ap is_some (held_at-empty width (ahead x 0))

pub moved_at : (s : Standing) (e : Event) (x : ℕ) → IsByte e → IsWhole s → x < 256 → Moved (is_held_as s x) (consumes s e x) (is_held_as (after_event s e) x) (adds s e x)
moved_at s (Called (Hand number kind now)) x byte w fits =
    moved_by s (hand s number kind now).1 number (hand s number kind now).0 x byte w (keeps_numbers s number now kind byte w) fits
moved_at s (Called (Tick now)) x byte w fits = none_moved _ _ (remains_held s (tick s now) x fits (tick_remains s now))
moved_at s (Called (Death bd)) x byte w fits = none_moved _ _ (remains_held s (death s bd) x fits (death_remains s bd))
moved_at s Reset x byte w fits = none_moved _ _ (λ there. absurd (true≢false (sym there ∙ fresh_none s.wait s.width x)))

fresh_whole : (wait width : ℕ) → 0 < width → width ≤ 96 → IsWhole (fresh_standing wait width)
fresh_whole wait width some few = record {
  some_places = some;
  few_places = few;
  one_byte = omega arith;
  all_places = length-replicate {A = Option (Option ℕ)} width None;
  next_not_held = held_at-empty width 0;
}

pub whole_after : (s : Standing) (e : Event) → IsByte e → IsWhole s → IsWhole (after_event s e)
whole_after s (Called (Hand number kind now)) byte w = (keeps_numbers s number now kind byte w).whole
whole_after s (Called (Tick now)) byte w = tick_whole s now w
whole_after s (Called (Death bd)) byte w = death_whole s bd w
whole_after s Reset byte w = fresh_whole s.wait s.width w.some_places w.few_places

-- what is consumed is never nothing
some_one : (k n : ℕ) → step.Consumed (1 + k) ≡ step.Consumed n → 0 < n
some_one k n e = let is : 1 + k ≡ n = cc in omega arith

abbrev SomeConsumed : (Step × Standing) → Type 0
SomeConsumed y = (n : ℕ) → y.0 ≡ step.Consumed n → 0 < n

other_consumed : (s : Standing) (number now : ℕ) (own : Option ℕ) → SomeConsumed (hand_other s number own now)
other_consumed s number now own =
    let place : ℕ = ahead number s.next in
    elim (cases_Bool (is_live s.phase)) [
      | inr off ↦ subst SomeConsumed (sym (not_live s number now own off)) (λ n e. absurd (cc))
      | inl live ↦ elim (cases_Bool (is_below own s.stamp)) [
        | inl old ↦ subst SomeConsumed (sym (too_old s number now own live old)) (λ n e. absurd (cc))
        | inr fresh ↦ elim (cases_Bool (eqb place 0)) [
          | inl first ↦ subst SomeConsumed (sym (next_one s number now own live fresh first)) (λ n e. some_one (run_of (places_from s.held s.width 1)) n e)
          | inr later ↦ elim (cases_Bool (nat_lt place s.width)) [
            | inl inside ↦ elim (cases_Bool (is_some (held_at s.held place))) [
              | inl twice ↦ subst SomeConsumed (sym (again s number now own live fresh later inside twice)) (λ n e. absurd (cc))
              | inr free ↦ subst SomeConsumed (sym (held_now s number now own live fresh later inside free)) (λ n e. absurd (cc))
            ]
            | inr outside ↦ elim (cases_Bool (nat_lt place (256 - s.width))) [
              | inl far ↦ subst SomeConsumed (sym (too_far s number now own live fresh later outside far)) (λ n e. absurd (cc))
              | inr back ↦ subst SomeConsumed (sym (behind s number now own live fresh later outside back)) (λ n e. absurd (cc))
            ]
          ]
        ]
      ]
    ]

birth_consumed : (s : Standing) (number stamp bd now n : ℕ) → (hand_birth s number stamp bd now).0 ≡ step.Consumed n → 0 < n
birth_consumed s number stamp bd now n = elim (cases_Bool (is_known s.phase && nat_le stamp s.stamp)) [
  | inl old ↦ rw old (λ e. absurd (cc))
  | inr newer ↦ elim (cases_Bool (is_dead s.phase && eqb bd s.bd)) [
    | inl dead ↦ rw (newer, dead) (λ e. absurd (cc))
    | inr alive ↦ rw (newer, alive) (λ e. some_one (run_of (kept_places s number stamp)) n e)
  ]
]

pub some_consumed : (s : Standing) (number now : ℕ) (kind : Kind) (n : ℕ) → (hand s number kind now).0 ≡ step.Consumed n → 0 < n
some_consumed s number now (Birth stamp bd) n e = birth_consumed s number stamp bd now n e
some_consumed s number now (Other own) n e = other_consumed s number now own n e

-- what a loss says is what is dropped
pub loss_held : (s : Standing) (e : Event) → (loss_at s e).held ≡ dropped_at s e
loss_held s e = go (dropped_at s e) (missing_in s.held)
  where
    go : (n m : ℕ) → (cond (eqb n 0) no_loss (let l : Loss = record { held = n; missing = m } in l)).held ≡ n
    go n m = elim (cases_Bool (eqb n 0)) [
      | inl z ↦ rw z (sym (eqb-true n 0 z))
      | inr some ↦ rw some refl
    ]

-- ---- which events drop what is held

some_counted : (held : List (Option (Option ℕ))) → held_count held ≡ 0 → list_any is_some held ≡ false
unfolding held_count
some_counted [] e = refl
some_counted (None ∷ held) e = some_counted held e
some_counted (Some own ∷ held) e = absurd (omega (arith, e))

-- all that is held is dropped
pub loss_of_all : (s : Standing) (e : Event) → dropped_at s e ≡ held_count s.held → loss_at s e ≡ at_stake s
loss_of_all s e is = elim (cases_eq (dropped_at s e) 0) [
  | inl z ↦
      let none : held_count s.held ≡ 0 = sym is ∙ z in
      ap (λ n. loss_with n (missing_in s.held)) z
      ∙ sym (ap (λ n. stake_with n (missing_in s.held)) none ∙ ap (stake_with 0) (ap (λ b. cond b (position_or_len is_some s.held) 0) (some_counted s.held none)))
  | inr some ↦
      ap (λ b. cond b no_loss (stake_with (dropped_at s e) (missing_in s.held))) (ne_eqb (dropped_at s e) 0 some)
      ∙ ap (λ n. stake_with n (missing_in s.held)) is
]
  where
    stake_with : ℕ → ℕ → Loss
    stake_with n m = record { held = n; missing = m }

    loss_with : ℕ → ℕ → Loss
    loss_with n m = cond (eqb n 0) no_loss (stake_with n m)

pub loss_of_none : (s : Standing) (e : Event) → dropped_at s e ≡ 0 → loss_at s e ≡ no_loss
loss_of_none s e z = ap (λ b. cond b no_loss (let l : Loss = record { held = dropped_at s e; missing = missing_in s.held } in l)) (eq-eqb (dropped_at s e) 0 z)

-- nothing is held afterwards, and nothing is consumed of what was held
all_drops : (h e g : Bool) → e ≡ false → g ≡ false → (h && not e && not g) ≡ h
all_drops true e g p q = rw (p, q) refl
all_drops false e g p q = refl

pub drops_all : (s : Standing) (e : Event) → IsWhole s → ((x : ℕ) → x < 256 → consumes s e x ≡ false) → ((x : ℕ) → x < 256 → is_held_as (after_event s e) x ≡ false) → dropped_at s e ≡ held_count s.held
drops_all s e w eaten gone =
    with_same (drops s e) (is_held_as s) (λ x fits. all_drops (is_held_as s x) (consumes s e x) (is_held_as (after_event s e) x) (eaten x fits) (gone x fits)) ∙ held_with s w

-- what was held and isn't consumed is held afterwards
no_drop : (h e g : Bool) → (h ≡ true → e ≡ false → g ≡ true) → (h && not e && not g) ≡ false
no_drop true true g keeps = refl
no_drop true false g keeps = rw (keeps refl refl) refl
no_drop false e g keeps = refl

pub drops_none : (s : Standing) (e : Event) → ((x : ℕ) → x < 256 → is_held_as s x ≡ true → consumes s e x ≡ false → is_held_as (after_event s e) x ≡ true) → dropped_at s e ≡ 0
drops_none s e keeps =
    with_none (drops s e) (λ x fits. no_drop (is_held_as s x) (consumes s e x) (is_held_as (after_event s e) x) (keeps x fits))

stopped_none : (s : Standing) (to : Phase) (x : ℕ) → is_held_as (after_stop s to) x ≡ false
stopped_none s to x = ap is_some (held_at-empty s.width (ahead x s.next))

pub loss_at_tick : (s : Standing) (now : ℕ) → IsWhole s → loss_at s (Called (Tick now)) ≡ cond (is_over s now) (at_stake s) no_loss
loss_at_tick s now w = elim (cases_Bool (is_over s now)) [
  | inl over ↦ loss_of_all s (Called (Tick now)) (drops_all s (Called (Tick now)) w (λ x fits. refl) (λ x fits.
      ap (λ b. is_held_as (cond b (after_stop s phase.Gap) s) x) over ∙ stopped_none s phase.Gap x)) ∙ sym (ap (λ b. cond b (at_stake s) no_loss) over)
  | inr idle ↦ loss_of_none s (Called (Tick now)) (drops_none s (Called (Tick now)) (λ x fits there kept.
      ap (λ b. is_held_as (cond b (after_stop s phase.Gap) s) x) idle ∙ there)) ∙ sym (ap (λ b. cond b (at_stake s) no_loss) idle)
]

pub loss_at_death : (s : Standing) (bd : ℕ) → IsWhole s → loss_at s (Called (Death bd)) ≡ cond (is_match s bd) (at_stake s) no_loss
loss_at_death s bd w = elim (cases_Bool (is_match s bd)) [
  | inl matched ↦ loss_of_all s (Called (Death bd)) (drops_all s (Called (Death bd)) w (λ x fits. refl) (λ x fits.
      ap (λ b. is_held_as (cond b (after_stop s phase.Dead) s) x) matched ∙ stopped_none s phase.Dead x)) ∙ sym (ap (λ b. cond b (at_stake s) no_loss) matched)
  | inr ignored ↦ loss_of_none s (Called (Death bd)) (drops_none s (Called (Death bd)) (λ x fits there kept.
      ap (λ b. is_held_as (cond b (after_stop s phase.Dead) s) x) ignored ∙ there)) ∙ sym (ap (λ b. cond b (at_stake s) no_loss) ignored)
]

pub loss_at_reset : (s : Standing) → IsWhole s → loss_at s Reset ≡ at_stake s
loss_at_reset s w = loss_of_all s Reset (drops_all s Reset w (λ x fits. refl) (λ x fits. fresh_none s.wait s.width x))

-- a step of a message that is no NBIRTH: at a gap nothing is held any more, and else what is held and not consumed stays
record OtherKeeps (s : Standing) (number : ℕ) (y : Step × Standing) : Type 0 where
  gone : y.0 ≡ step.Gap → (x : ℕ) → x < 256 → (takes_held y.0 number x ≡ false) × (is_held_as y.1 x ≡ false)
  stays : (y.0 ≡ step.Gap → ⊥) → (x : ℕ) → x < 256 → is_held_as s x ≡ true → takes_held y.0 number x ≡ false → is_held_as y.1 x ≡ true

same_keeps : (s : Standing) (number : ℕ) (r : Step) → r ≢ step.Gap → OtherKeeps s number (r, s)
same_keeps s number r other = record { gone = λ e. absurd (other e); stays = λ e x fits there kept. there }

-- past the run: so far behind the number that the places are counted from
not_in : (d n : ℕ) → 0 < d → (nat_lt 0 d && nat_lt d n) ≡ false → n ≤ d
not_in d n some e = elim (cases_lt d n) [
  | inl inside ↦ absurd (true≢false (sym (let t : (nat_lt 0 d && nat_lt d n) ≡ true = rw (lt-ltb 0 d some, lt-ltb d n inside) refl in t) ∙ e))
  | inr past ↦ past
]

within : (held : List (Option (Option ℕ))) (i : ℕ) → is_some (held_at held i) ≡ true → i < length held
within held i there = elim (cases_lt i (length held)) [
  | inl inside ↦ inside
  | inr past ↦ absurd (true≢false (sym there ∙ ap is_some (held_at-past held i past)))
]

consumed_keeps : (s : Standing) (number now : ℕ) → number < 256 → IsWhole s → ahead number s.next ≡ 0 →
    OtherKeeps s number (step.Consumed (1 + run_of (places_from s.held s.width 1)), after_consumed s number (places_from s.held s.width 1) now)
consumed_keeps s number now byte w here =
    let rest : List (Option (Option ℕ)) = places_from s.held s.width 1 in
    let k : ℕ = run_of rest in
    let few : s.width ≤ 96 = w.few_places in
    let next : s.next < 256 = w.one_byte in
    let sized : length s.held ≡ s.width = w.all_places in
    let short : k ≤ length rest = prefix_len-le-length is_some rest in
    let long : length rest ≡ s.width = length-places_from s.held s.width 1 in
    record {
      gone = λ e. absurd (cc);
      stays = λ other x fits there kept.
          let j : ℕ = ahead x s.next in
          let inside : j < length s.held = within s.held j there in
          let some : 0 < j = elim (cases_lt 0 j) [
            | inl above ↦ above
            | inr first ↦ absurd (let z : j ≡ 0 = omega arith in true≢false (sym there ∙ ap (λ i. is_some (held_at s.held i)) z ∙ ap is_some w.next_not_held))
          ] in
          let same : ahead x number ≡ j = omega arith in
          let past : 1 + k ≤ j = omega (arith, not_in (ahead x number) (1 + k) (omega arith) kept) in
          let at : ahead x ((number + 1 + k) % 256) ≡ j - (1 + k) = omega arith in
          let low : j - (1 + k) < s.width = omega arith in
          let high : k + (j - (1 + k)) < s.width = omega arith in
          let back : 1 + (k + (j - (1 + k))) ≡ j = omega arith in
          ap (λ i. is_some (held_at (places_from rest s.width k) i)) at
          ∙ ap is_some (held_at-places_from rest s.width k (j - (1 + k)) low ∙ held_at-places_from s.held s.width 1 (k + (j - (1 + k))) high)
          ∙ ap (λ i. is_some (held_at s.held i)) back ∙ there;
    }

held_keeps : (s : Standing) (number now : ℕ) (own : Option ℕ) → IsWhole s → ahead number s.next < s.width → OtherKeeps s number (step.Held, after_held s (ahead number s.next) own now)
held_keeps s number now own w low =
    let place : ℕ = ahead number s.next in
    let sized : length s.held ≡ s.width = w.all_places in
    let inside : place < length s.held = omega arith in
    record {
      gone = λ e. absurd (cc);
      stays = λ other x fits there kept. elim (cases_eq (ahead x s.next) place) [
        | inl same ↦ ap (λ i. is_some (held_at (set s.held place (Some own)) i)) same ∙ ap is_some (get_or-set_same s.held place (Some own) None inside)
        | inr apart ↦ ap is_some (get_or-set_other s.held place (ahead x s.next) (Some own) None apart) ∙ there
      ];
    }

other_keeps : (s : Standing) (number now : ℕ) (own : Option ℕ) → number < 256 → IsWhole s → OtherKeeps s number (hand_other s number own now)
other_keeps s number now own byte w =
    let place : ℕ = ahead number s.next in
    elim (cases_Bool (is_live s.phase)) [
      | inr off ↦ subst (OtherKeeps s number) (sym (not_live s number now own off)) (same_keeps s number step.NotLive (λ e. cc))
      | inl live ↦ elim (cases_Bool (is_below own s.stamp)) [
        | inl old ↦ subst (OtherKeeps s number) (sym (too_old s number now own live old)) (same_keeps s number step.Old (λ e. cc))
        | inr fresh ↦ elim (cases_Bool (eqb place 0)) [
          | inl first ↦ subst (OtherKeeps s number) (sym (next_one s number now own live fresh first)) (consumed_keeps s number now byte w (eqb-true place 0 first))
          | inr later ↦ elim (cases_Bool (nat_lt place s.width)) [
            | inl inside ↦ elim (cases_Bool (is_some (held_at s.held place))) [
              | inl twice ↦ subst (OtherKeeps s number) (sym (again s number now own live fresh later inside twice)) (same_keeps s number step.Old (λ e. cc))
              | inr free ↦ subst (OtherKeeps s number) (sym (held_now s number now own live fresh later inside free)) (held_keeps s number now own w (ltb-true place s.width inside))
            ]
            | inr outside ↦ elim (cases_Bool (nat_lt place (256 - s.width))) [
              | inl far ↦ subst (OtherKeeps s number) (sym (too_far s number now own live fresh later outside far))
                  (record { gone = λ e x fits. (refl, stopped_none s phase.Gap x); stays = λ other. absurd (other refl) })
              | inr back ↦ subst (OtherKeeps s number) (sym (behind s number now own live fresh later outside back)) (same_keeps s number step.Old (λ e. cc))
            ]
          ]
        ]
      ]
    ]

pub loss_at_gap : (s : Standing) (number now : ℕ) (own : Option ℕ) → number < 256 → IsWhole s → (hand s number (Other own) now).0 ≡ step.Gap →
    loss_at s (Called (Hand number (Other own) now)) ≡ at_stake s
loss_at_gap s number now own byte w is =
    let k : OtherKeeps s number (hand_other s number own now) = other_keeps s number now own byte w in
    loss_of_all s (Called (Hand number (Other own) now)) (drops_all s (Called (Hand number (Other own) now)) w (λ x fits. (k.gone is x fits).0) (λ x fits. (k.gone is x fits).1))

pub no_loss_else : (s : Standing) (number now : ℕ) (own : Option ℕ) → number < 256 → IsWhole s → ((hand s number (Other own) now).0 ≡ step.Gap → ⊥) →
    loss_at s (Called (Hand number (Other own) now)) ≡ no_loss
no_loss_else s number now own byte w other =
    let k : OtherKeeps s number (hand_other s number own now) = other_keeps s number now own byte w in
    loss_of_none s (Called (Hand number (Other own) now)) (drops_none s (Called (Hand number (Other own) now)) (k.stays other))

-- a birth that isn't taken changes nothing
pub not_born : (s : Standing) (number stamp bd now : ℕ) → ((n : ℕ) → (hand_birth s number stamp bd now).0 ≡ step.Consumed n → ⊥) → (hand_birth s number stamp bd now).1 ≡ s
not_born s number stamp bd now = elim (cases_Bool (is_known s.phase && nat_le stamp s.stamp)) [
  | inl old ↦ rw old (λ none. refl)
  | inr newer ↦ elim (cases_Bool (is_dead s.phase && eqb bd s.bd)) [
    | inl dead ↦ rw (newer, dead) (λ none. refl)
    | inr alive ↦ rw (newer, alive) (λ none. absurd (none (1 + run_of (kept_places s number stamp)) refl))
  ]
]

pub no_loss_unborn : (s : Standing) (number stamp bd now : ℕ) → ((n : ℕ) → (hand s number (Birth stamp bd) now).0 ≡ step.Consumed n → ⊥) →
    loss_at s (Called (Hand number (Birth stamp bd) now)) ≡ no_loss
no_loss_unborn s number stamp bd now none =
    loss_of_none s (Called (Hand number (Birth stamp bd) now)) (drops_none s (Called (Hand number (Birth stamp bd) now)) (λ x fits there kept.
    ap (λ t. is_held_as t x) (not_born s number stamp bd now none) ∙ there))

-- nor does one drop anything where nothing is held
pub no_loss_idle : (s : Standing) (e : Event) → is_any_held s.held ≡ false → loss_at s e ≡ no_loss
no_loss_idle s e idle =
    loss_of_none s e (drops_none s e (λ x fits there kept. absurd (true≢false (sym there ∙ ap is_some (none_held s.held idle (ahead x s.next))))))
