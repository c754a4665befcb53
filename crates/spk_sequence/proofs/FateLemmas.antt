-- The fates of the messages, by what the calls answer.
use Rattle.std.proofs.Common.{◌≡◌, ℕ, zero, suc, ◌+◌, ◌<◌, ◌≤◌, ◌&&◌, Bool, true, false, cond, eqb, List, [], ◌∷◌, length, map, get_or, refl, sym, ◌∙◌, ap, arith, is_some, inl, inr}
use Rattle.std.specs.List.{count_by, sum}
use Rattle.std.proofs.lemmas.List.Sums.{sum_by-cons}
use Rattle.std.proofs.lemmas.List.{length-map, get_or_past}
use Rattle.std.proofs.lemmas.Bool.{cases_Bool, and_left, ne_eqb, eq-eqb, eqb-true, eqb-false}
use Rattle.spk_sequence.specs.declared.message.Kind.{Kind}
use Rattle.spk_sequence.specs.declared.answer.Step.{Step}
use Rattle.spk_sequence.specs.declared.answer.Step.TheVariants as step
use Rattle.spk_sequence.specs.declared.answer.Loss.{Loss}
use Rattle.spk_sequence.specs.Data.{Standing, IsWhole}
use Rattle.spk_sequence.specs.Step.{is_any_held, ahead, hand}
use Rattle.spk_sequence.specs.Calls.{Hand, Tick, Death}
use Rattle.spk_sequence.specs.Numbers.{held_count, KeepsNumbers, IsEaten}
use Rattle.spk_sequence.specs.Losses.{Event, Called, Reset, after_event, is_held_as, takes_held, consumes, drops, numbers_with, dropped_at, no_loss, loss_at}
use Rattle.spk_sequence.specs.Fates.{Fate, ConsumedAt, StillHeld, TurnedAway, DroppedAt, later, fate_of_held, fate_by, fates, is_consumed_at, is_dropped_at, is_still_held, is_turned_away, consumed_by, turned_away_by, handed_at, consumed_at, turned_away_at, after_events, each, lost_count, IsByte, AreBytes}
use Rattle.spk_sequence.proofs.Places.{none_held}
use Rattle.spk_sequence.proofs.NumberLemmas.{keeps_numbers}
use Rattle.spk_sequence.proofs.Tallies.{one, with_sums, with_none, with_same, with_run, with_one}
use Rattle.spk_sequence.proofs.LossLemmas.{held_with, moved_one, moved_at, is_new, adds, whole_after, some_consumed, loss_held}

-- how many messages have a fate that passes a test, by the answers
abbrev pub told : (Fate → Bool) → Standing → List Event → ℕ
told p s [] = cond (p StillHeld) (held_count s.held) 0
told p s (e ∷ events) =
    cond (p (ConsumedAt 0)) (consumed_at s e) 0 + cond (p TurnedAway) (turned_away_at s e) 0 + cond (p (DroppedAt 0)) (dropped_at s e) 0
    + told (λ f. p (later f)) (after_event s e) events

-- those of the messages that are held before
abbrev held_fates : (Fate → Bool) → Standing → List Event → ℕ
held_fates p s events = numbers_with (λ x. is_held_as s x && p (fate_of_held s x events))

and_same : (b c : Bool) → c ≡ true → (b && c) ≡ b
and_same true c e = e
and_same false c e = refl

and_none : (b c : Bool) → c ≡ false → (b && c) ≡ false
and_none true c e = e
and_none false c e = refl

-- under a test that is the same for all numbers
with_and : (q : ℕ → Bool) (b : Bool) → numbers_with (λ x. q x && b) ≡ cond b (numbers_with q) 0
with_and q true = with_same (λ x. q x && true) q (λ x fits. and_same (q x) true refl)
with_and q false = with_none (λ x. q x && false) (λ x fits. and_none (q x) false refl)

pushed : (p : Fate → Bool) (e g : Bool) (a b c : Fate) → p (cond e a (cond g b c)) ≡ cond e (p a) (cond g (p b) (p c))
pushed p true g a b c = refl
pushed p false true a b c = refl
pushed p false false a b c = refl

-- one event
event_sums : (p : Fate → Bool) (s : Standing) (e : Event) (events : List Event) → IsByte e → IsWhole s →
    held_fates p s (e ∷ events) + numbers_with (λ x. adds s e x && p (later (fate_of_held (after_event s e) x events)))
    ≡ numbers_with (λ x. consumes s e x && p (ConsumedAt 0)) + numbers_with (λ x. drops s e x && p (DroppedAt 0)) + held_fates (λ f. p (later f)) (after_event s e) events
event_sums p s e events byte w =
    with_sums _ _ _ _ _ (λ x fits.
    ap (λ b. one (is_held_as s x && b) + one (adds s e x && p (later (fate_of_held (after_event s e) x events))))
    (pushed p (consumes s e x) (is_held_as (after_event s e) x) (ConsumedAt 0) (later (fate_of_held (after_event s e) x events)) (DroppedAt 0))
    ∙ moved_one (is_held_as s x) (consumes s e x) (is_held_as (after_event s e) x) (adds s e x) (p (ConsumedAt 0)) (p (later (fate_of_held (after_event s e) x events))) (p (DroppedAt 0))
    (moved_at s e x byte w fits))

away_fate : (a t : Bool) (l r : ℕ) → l ≡ 0 → r ≡ 0 → one t + l ≡ cond a 0 0 + cond t 1 0 + r
away_fate true true l r e f = omega arith
away_fate true false l r e f = omega arith
away_fate false true l r e f = omega arith
away_fate false false l r e f = omega arith

-- the one handed
handed_fate : (p : Fate → Bool) (new old : Standing) (number : ℕ) (events : List Event) (answer : Step) → number < 256 → IsWhole old → KeepsNumbers old new number answer →
    ((n : ℕ) → answer ≡ step.Consumed n → 0 < n) →
    one (p (fate_by answer new number events)) + numbers_with (λ x. takes_held answer number x && p (ConsumedAt 0))
    ≡ cond (p (ConsumedAt 0)) (consumed_by answer) 0 + cond (p TurnedAway) (turned_away_by answer) 0 + numbers_with (λ x. is_new answer number x && p (later (fate_of_held new x events)))
handed_fate p new old number events (step.Consumed n) byte w k some =
    let eaten : IsEaten old new number n = k.eaten n refl in
    let few : n ≤ old.width = eaten.few in
    let wide : old.width ≤ 96 = w.few_places in
    let run : numbers_with (takes_held (step.Consumed n) number) + 1 ≡ n = with_run number n byte (some n refl) (omega arith) in
    let none : numbers_with (λ x. false && p (later (fate_of_held new x events))) ≡ 0 = with_none _ (λ x fits. refl) in
    go (p (ConsumedAt 0)) (p TurnedAway) (numbers_with (takes_held (step.Consumed n) number)) n _ _ run (with_and (takes_held (step.Consumed n) number) (p (ConsumedAt 0))) none
  where
    go : (a t : Bool) (m n l r : ℕ) → m + 1 ≡ n → l ≡ cond a m 0 → r ≡ 0 → one a + l ≡ cond a n 0 + cond t 0 0 + r
    go true true m n l r e f g = omega arith
    go true false m n l r e f g = omega arith
    go false true m n l r e f g = omega arith
    go false false m n l r e f g = omega arith
handed_fate p new old number events step.Held byte w k some =
    let G : ℕ → Bool = λ x. p (later (fate_of_held new x events)) in
    let none : numbers_with (λ x. false && p (ConsumedAt 0)) ≡ 0 = with_none _ (λ x fits. refl) in
    let same : numbers_with (λ x. eqb x number && G x) ≡ one (eqb number number && G number) = with_one _ number byte (λ x fits other. and_left (eqb x number) (G x) other) in
    let is : one (eqb number number && G number) ≡ one (G number) = ap (λ b. one (b && G number)) (eq-eqb number number refl) in
    go (p (ConsumedAt 0)) (p TurnedAway) (one (G number)) _ _ none (same ∙ is)
  where
    go : (a t : Bool) (m l r : ℕ) → l ≡ 0 → r ≡ m → m + l ≡ cond a 0 0 + cond t 0 0 + r
    go true true m l r e f = omega arith
    go true false m l r e f = omega arith
    go false true m l r e f = omega arith
    go false false m l r e f = omega arith
handed_fate p new old number events step.Old byte w k some = away_fate (p (ConsumedAt 0)) (p TurnedAway) _ _ (with_none _ (λ x fits. refl)) (with_none _ (λ x fits. refl))
handed_fate p new old number events step.Gap byte w k some = away_fate (p (ConsumedAt 0)) (p TurnedAway) _ _ (with_none _ (λ x fits. refl)) (with_none _ (λ x fits. refl))
handed_fate p new old number events step.OldBirth byte w k some = away_fate (p (ConsumedAt 0)) (p TurnedAway) _ _ (with_none _ (λ x fits. refl)) (with_none _ (λ x fits. refl))
handed_fate p new old number events step.DeadSession byte w k some = away_fate (p (ConsumedAt 0)) (p TurnedAway) _ _ (with_none _ (λ x fits. refl)) (with_none _ (λ x fits. refl))
handed_fate p new old number events step.NotLive byte w k some = away_fate (p (ConsumedAt 0)) (p TurnedAway) _ _ (with_none _ (λ x fits. refl)) (with_none _ (λ x fits. refl))

counted_cons : {A : Type 0} (p : A → Bool) (x : A) (xs : List A) → count_by p (x ∷ xs) ≡ one (p x) + count_by p xs
counted_cons p x xs = sum_by-cons (λ y. cond (p y) 1 0) x xs

counted_map : {A B : Type 0} (p : B → Bool) (f : A → B) (xs : List A) → count_by p (map f xs) ≡ count_by (λ x. p (f x)) xs
counted_map p f [] = refl
counted_map p f (x ∷ xs) = counted_cons p (f x) (map f xs) ∙ ap (λ n. one (p (f x)) + n) (counted_map p f xs) ∙ sym (counted_cons (λ y. p (f y)) x xs)

-- an event that hands nothing
quiet_told : (p : Fate → Bool) (s : Standing) (e : Event) (events : List Event) → IsByte e → IsWhole s →
    ((x : ℕ) → adds s e x ≡ false) → ((x : ℕ) → consumes s e x ≡ false) → consumed_at s e ≡ 0 → turned_away_at s e ≡ 0 → fates s (e ∷ events) ≡ map later (fates (after_event s e) events) →
    held_fates (λ f. p (later f)) (after_event s e) events + count_by (λ f. p (later f)) (fates (after_event s e) events) ≡ told (λ f. p (later f)) (after_event s e) events →
    held_fates p s (e ∷ events) + count_by p (fates s (e ∷ events)) ≡ told p s (e ∷ events)
quiet_told p s e events byte w adds_none takes_none no_count no_away same rest =
    let G : ℕ → Bool = λ x. p (later (fate_of_held (after_event s e) x events)) in
    let sums = event_sums p s e events byte w in
    let none : numbers_with (λ x. adds s e x && G x) ≡ 0 = with_none _ (λ x fits. and_left (adds s e x) (G x) (adds_none x)) in
    let eaten : numbers_with (λ x. consumes s e x && p (ConsumedAt 0)) ≡ 0 = with_none _ (λ x fits. and_left (consumes s e x) (p (ConsumedAt 0)) (takes_none x)) in
    let counted : count_by p (fates s (e ∷ events)) ≡ count_by (λ f. p (later f)) (fates (after_event s e) events) = ap (count_by p) same ∙ counted_map p later (fates (after_event s e) events) in
    omega (arith, sums, none, eaten, counted, rest, with_and (drops s e) (p (DroppedAt 0)), nothing (p (ConsumedAt 0)) (consumed_at s e) no_count, nothing (p TurnedAway) (turned_away_at s e) no_away)
  where
    nothing : (b : Bool) (n : ℕ) → n ≡ 0 → cond b n 0 ≡ 0
    nothing true n e = e
    nothing false n e = refl

-- an event that hands a message
hand_told : (p : Fate → Bool) (s : Standing) (number now : ℕ) (kind : Kind) (events : List Event) → number < 256 → IsWhole s →
    held_fates (λ f. p (later f)) (hand s number kind now).1 events + count_by (λ f. p (later f)) (fates (hand s number kind now).1 events) ≡ told (λ f. p (later f)) (hand s number kind now).1 events →
    held_fates p s (Called (Hand number kind now) ∷ events) + count_by p (fates s (Called (Hand number kind now) ∷ events)) ≡ told p s (Called (Hand number kind now) ∷ events)
hand_told p s number now kind events byte w rest =
    let e : Event = Called (Hand number kind now) in
    let new : Standing = (hand s number kind now).1 in
    let answer : Step = (hand s number kind now).0 in
    let sums = event_sums p s e events byte w in
    let first = handed_fate p new s number events answer byte w (keeps_numbers s number now kind byte w) (λ n is. some_consumed s number now kind n is) in
    let counted : count_by p (fates s (e ∷ events)) ≡ one (p (fate_by answer new number events)) + count_by (λ f. p (later f)) (fates new events) =
    counted_cons p (fate_by answer new number events) (map later (fates new events)) ∙ ap (λ n. one (p (fate_by answer new number events)) + n) (counted_map p later (fates new events)) in
    omega (arith, sums, first, counted, rest, with_and (drops s e) (p (DroppedAt 0)))

-- over every list
pub all_told : (events : List Event) (p : Fate → Bool) (s : Standing) → IsWhole s → AreBytes events → held_fates p s events + count_by p (fates s events) ≡ told p s events
all_told [] p s w bytes =
    omega (arith, with_and (is_held_as s) (p StillHeld), ap (λ n. cond (p StillHeld) n 0) (held_with s w))
all_told (Called (Hand number kind now) ∷ events) p s w bytes =
    hand_told p s number now kind events bytes.0 w
    (all_told events (λ f. p (later f)) (hand s number kind now).1 (whole_after s (Called (Hand number kind now)) bytes.0 w) bytes.1)
all_told (Called (Tick now) ∷ events) p s w bytes =
    quiet_told p s (Called (Tick now)) events tt w (λ x. refl) (λ x. refl) refl refl refl
    (all_told events (λ f. p (later f)) (after_event s (Called (Tick now))) (whole_after s (Called (Tick now)) tt w) bytes.1)
all_told (Called (Death bd) ∷ events) p s w bytes =
    quiet_told p s (Called (Death bd)) events tt w (λ x. refl) (λ x. refl) refl refl refl
    (all_told events (λ f. p (later f)) (after_event s (Called (Death bd))) (whole_after s (Called (Death bd)) tt w) bytes.1)
all_told (Reset ∷ events) p s w bytes =
    quiet_told p s Reset events tt w (λ x. refl) (λ x. refl) refl refl refl
    (all_told events (λ f. p (later f)) (after_event s Reset) (whole_after s Reset tt w) bytes.1)

-- ---- one fate

told_same : (events : List Event) (p q : Fate → Bool) (s : Standing) → ((f : Fate) → p f ≡ q f) → told p s events ≡ told q s events
told_same [] p q s h = ap (λ b. cond b (held_count s.held) 0) (h StillHeld)
told_same (e ∷ events) p q s h =
    omega (
      arith,
      ap (λ b. cond b (consumed_at s e) 0) (h (ConsumedAt 0)),
      ap (λ b. cond b (turned_away_at s e) 0) (h TurnedAway),
      ap (λ b. cond b (dropped_at s e) 0) (h (DroppedAt 0)),
      told_same events (λ f. p (later f)) (λ f. q (later f)) (after_event s e) (λ f. h (later f)),
    )

told_never : (events : List Event) (p : Fate → Bool) (s : Standing) → ((f : Fate) → p f ≡ false) → told p s events ≡ 0
told_never [] p s h = ap (λ b. cond b (held_count s.held) 0) (h StillHeld)
told_never (e ∷ events) p s h =
    omega (
      arith,
      ap (λ b. cond b (consumed_at s e) 0) (h (ConsumedAt 0)),
      ap (λ b. cond b (turned_away_at s e) 0) (h TurnedAway),
      ap (λ b. cond b (dropped_at s e) 0) (h (DroppedAt 0)),
      told_never events (λ f. p (later f)) (after_event s e) (λ f. h (later f)),
    )

-- where nothing is held before, the fates of those handed are all
none_before : (events : List Event) (p : Fate → Bool) (s : Standing) → IsWhole s → is_any_held s.held ≡ false → AreBytes events → count_by p (fates s events) ≡ told p s events
none_before events p s w none bytes =
    omega (arith, all_told events p s w bytes, with_none (λ x. is_held_as s x && p (fate_of_held s x events)) (λ x fits. and_left (is_held_as s x) (p (fate_of_held s x events)) (ap is_some (none_held s.held none (ahead x s.next)))))

same_place : (j k : ℕ) → eqb (suc j) (suc k) ≡ eqb j k
same_place j k = elim (cases_Bool (eqb j k)) [
  | inl e ↦ (let is : j ≡ k = eqb-true j k e in eq-eqb (suc j) (suc k) (ap suc is)) ∙ sym e
  | inr e ↦ ne_eqb (suc j) (suc k) (λ is. eqb-false j k e (omega arith)) ∙ sym e
]

-- consumed at one event: as many as it says
told_consumed : (events : List Event) (k : ℕ) (s : Standing) → told (is_consumed_at k) s events ≡ get_or (each consumed_at s events) k 0
told_consumed [] k s = let none : 0 ≡ get_or [] k 0 = sym (get_or_past [] k 0 (omega arith)) in none
told_consumed (e ∷ events) zero s =
    let none : told (λ f. is_consumed_at 0 (later f)) (after_event s e) events ≡ 0 = told_never events (λ f. is_consumed_at 0 (later f)) (after_event s e) not_first in
    omega (arith, none)
  where
    not_first : (f : Fate) → is_consumed_at 0 (later f) ≡ false
    not_first (ConsumedAt j) = ne_eqb (suc j) 0 (λ e. absurd (omega arith))
    not_first StillHeld = refl
    not_first TurnedAway = refl
    not_first (DroppedAt j) = refl
told_consumed (e ∷ events) (suc k) s =
    let other : eqb 0 (suc k) ≡ false = ne_eqb 0 (suc k) (λ e. absurd (omega arith)) in
    let rest : told (λ f. is_consumed_at (suc k) (later f)) (after_event s e) events ≡ told (is_consumed_at k) (after_event s e) events =
    told_same events (λ f. is_consumed_at (suc k) (later f)) (is_consumed_at k) (after_event s e) one_less in
    let here : told (is_consumed_at (suc k)) s (e ∷ events) ≡ told (λ f. is_consumed_at (suc k) (later f)) (after_event s e) events = omega (arith, ap (λ b. cond b (consumed_at s e) 0) other) in
    here ∙ rest ∙ told_consumed events k (after_event s e)
  where
    one_less : (f : Fate) → is_consumed_at (suc k) (later f) ≡ is_consumed_at k f
    one_less (ConsumedAt j) = same_place j k
    one_less StillHeld = refl
    one_less TurnedAway = refl
    one_less (DroppedAt j) = refl

-- dropped at one event: as many as its loss says
told_dropped : (events : List Event) (k : ℕ) (s : Standing) → told (is_dropped_at k) s events ≡ (get_or (each loss_at s events) k no_loss).held
told_dropped [] k s = let none : no_loss ≡ get_or [] k no_loss = sym (get_or_past [] k no_loss (omega arith)) in ap (λ (l : Loss). l.held) none
told_dropped (e ∷ events) zero s =
    let none : told (λ f. is_dropped_at 0 (later f)) (after_event s e) events ≡ 0 = told_never events (λ f. is_dropped_at 0 (later f)) (after_event s e) not_first in
    omega (arith, none, loss_held s e)
  where
    not_first : (f : Fate) → is_dropped_at 0 (later f) ≡ false
    not_first (ConsumedAt j) = refl
    not_first StillHeld = refl
    not_first TurnedAway = refl
    not_first (DroppedAt j) = ne_eqb (suc j) 0 (λ e. absurd (omega arith))
told_dropped (e ∷ events) (suc k) s =
    let other : eqb 0 (suc k) ≡ false = ne_eqb 0 (suc k) (λ e. absurd (omega arith)) in
    let rest : told (λ f. is_dropped_at (suc k) (later f)) (after_event s e) events ≡ told (is_dropped_at k) (after_event s e) events =
    told_same events (λ f. is_dropped_at (suc k) (later f)) (is_dropped_at k) (after_event s e) one_less in
    let here : told (is_dropped_at (suc k)) s (e ∷ events) ≡ told (λ f. is_dropped_at (suc k) (later f)) (after_event s e) events = omega (arith, ap (λ b. cond b (dropped_at s e) 0) other) in
    here ∙ rest ∙ told_dropped events k (after_event s e)
  where
    one_less : (f : Fate) → is_dropped_at (suc k) (later f) ≡ is_dropped_at k f
    one_less (ConsumedAt j) = refl
    one_less StillHeld = refl
    one_less TurnedAway = refl
    one_less (DroppedAt j) = same_place j k

told_held : (events : List Event) (s : Standing) → told is_still_held s events ≡ held_count (after_events s events).held
told_held [] s = refl
told_held (e ∷ events) s =
    told_same (e ∷ events) is_still_held (λ f. is_still_held f) s (λ f. refl)
    ∙ (let rest : told (λ f. is_still_held (later f)) (after_event s e) events ≡ told is_still_held (after_event s e) events = told_same events (λ f. is_still_held (later f)) is_still_held (after_event s e) same in
    omega (arith, rest)) ∙ told_held events (after_event s e)
  where
    same : (f : Fate) → is_still_held (later f) ≡ is_still_held f
    same (ConsumedAt j) = refl
    same StillHeld = refl
    same TurnedAway = refl
    same (DroppedAt j) = refl

pub sum-cons : (n : ℕ) (ns : List ℕ) → sum (n ∷ ns) ≡ n + sum ns
sum-cons n ns = sum_by-cons (λ x. x) n ns

told_away : (events : List Event) (s : Standing) → told is_turned_away s events ≡ sum (each turned_away_at s events)
told_away [] s = refl
told_away (e ∷ events) s =
    let rest : told (λ f. is_turned_away (later f)) (after_event s e) events ≡ told is_turned_away (after_event s e) events = told_same events (λ f. is_turned_away (later f)) is_turned_away (after_event s e) same in
    omega (arith, rest, told_away events (after_event s e), sum-cons (turned_away_at s e) (each turned_away_at (after_event s e) events))
  where
    same : (f : Fate) → is_turned_away (later f) ≡ is_turned_away f
    same (ConsumedAt j) = refl
    same StillHeld = refl
    same TurnedAway = refl
    same (DroppedAt j) = refl

-- ---- what the law says

pub consumed_fates : (s : Standing) (events : List Event) (k : ℕ) → IsWhole s → is_any_held s.held ≡ false → AreBytes events →
    count_by (is_consumed_at k) (fates s events) ≡ get_or (each consumed_at s events) k 0
consumed_fates s events k w none bytes = none_before events (is_consumed_at k) s w none bytes ∙ told_consumed events k s

pub dropped_fates : (s : Standing) (events : List Event) (k : ℕ) → IsWhole s → is_any_held s.held ≡ false → AreBytes events →
    count_by (is_dropped_at k) (fates s events) ≡ (get_or (each loss_at s events) k no_loss).held
dropped_fates s events k w none bytes = none_before events (is_dropped_at k) s w none bytes ∙ told_dropped events k s

pub held_at_end : (s : Standing) (events : List Event) → IsWhole s → is_any_held s.held ≡ false → AreBytes events →
    count_by is_still_held (fates s events) ≡ held_count (after_events s events).held
held_at_end s events w none bytes = none_before events is_still_held s w none bytes ∙ told_held events s

pub away_fates : (s : Standing) (events : List Event) → IsWhole s → is_any_held s.held ≡ false → AreBytes events →
    count_by is_turned_away (fates s events) ≡ sum (each turned_away_at s events)
away_fates s events w none bytes = none_before events is_turned_away s w none bytes ∙ told_away events s

more_fates : (s : Standing) (e : Event) (events : List Event) → length (fates (after_event s e) events) ≡ sum (each handed_at (after_event s e) events) →
    length (map later (fates (after_event s e) events)) ≡ sum (0 ∷ each handed_at (after_event s e) events)
more_fates s e events rest = omega (arith, length-map (fates (after_event s e) events) later, rest, sum-cons 0 (each handed_at (after_event s e) events))

pub one_fate_each : (s : Standing) (events : List Event) → length (fates s events) ≡ sum (each handed_at s events)
one_fate_each s [] = refl
one_fate_each s (Called (Hand number kind now) ∷ events) =
    let new : Standing = (hand s number kind now).1 in
    omega (arith, length-map (fates new events) later, one_fate_each new events, sum-cons 1 (each handed_at new events))
one_fate_each s (Called (Tick now) ∷ events) = more_fates s (Called (Tick now)) events (one_fate_each (after_event s (Called (Tick now))) events)
one_fate_each s (Called (Death bd) ∷ events) = more_fates s (Called (Death bd)) events (one_fate_each (after_event s (Called (Death bd))) events)
one_fate_each s (Reset ∷ events) = more_fates s Reset events (one_fate_each (after_event s Reset) events)

all_pass : (fs : List Fate) → count_by (λ f. true) fs ≡ length fs
all_pass [] = refl
all_pass (f ∷ fs) = omega (arith, counted_cons (λ g. true) f fs, all_pass fs)

told_all : (events : List Event) (s : Standing) → told (λ f. true) s events
    ≡ sum (each consumed_at s events) + held_count (after_events s events).held + sum (each turned_away_at s events) + lost_count s events
told_all [] s = omega arith
told_all (e ∷ events) s =
    omega (
      arith,
      told_all events (after_event s e),
      loss_held s e,
      sum-cons (consumed_at s e) (each consumed_at (after_event s e) events),
      sum-cons (turned_away_at s e) (each turned_away_at (after_event s e) events),
      sum_by-cons (λ (l : Loss). l.held) (loss_at s e) (each loss_at (after_event s e) events),
    )

pub balance : (s : Standing) (events : List Event) → IsWhole s → AreBytes events →
    held_count s.held + sum (each handed_at s events)
    ≡ sum (each consumed_at s events) + held_count (after_events s events).held + sum (each turned_away_at s events) + lost_count s events
balance s events w bytes =
    omega (arith, all_told events (λ f. true) s w bytes, told_all events s, with_and (is_held_as s) true, held_with s w, all_pass (fates s events), one_fate_each s events)

-- one message that is consumed
pub one_consumed : (s : Standing) (number now n : ℕ) (kind : Kind) → number < 256 → IsWhole s → (hand s number kind now).0 ≡ step.Consumed n →
    held_count s.held + 1 ≡ n + dropped_at s (Called (Hand number kind now)) + held_count (hand s number kind now).1.held
one_consumed s number now n kind byte w is =
    omega (
      arith,
      all_told (Called (Hand number kind now) ∷ []) (λ f. true) s w (byte, tt),
      with_and (is_held_as s) true,
      held_with s w,
      all_pass (fates s (Called (Hand number kind now) ∷ [])),
      ap consumed_by is,
      ap turned_away_by is,
    )
