-- The payloads at a step of the order, by what the step does to what is held (`spk_sequence`'s law on numbers).
use Rattle.std.proofs.Common.{◌⊎◌, ◌≡◌, ℕ, zero, suc, ◌+◌, ◌-◌, ◌%◌, ◌<◌, ◌≤◌, Bool, true, false, cond, List, [], ◌∷◌, length, map, set, Option, Some, None, is_some, inl, inr, refl, sym, ◌∙◌, ap, arith, get_or-set_other}
use Rattle.std.specs.List.{range_with_len}
use Rattle.std.proofs.lemmas.Bool.{cases_eq, cases_lt}
use Rattle.std.proofs.lemmas.List.{get_or-set_same, get_or_past, length-map}
use Rattle.std.proofs.lemmas.List.FromFn.{length-map-range_with_len}
use Rattle.spk_sequence.specs.declared.answer.Step.{Step}
use Rattle.spk_sequence.specs.declared.answer.Step.TheVariants as step
use Rattle.spk_sequence.specs.declared.message.Kind.{Kind}
use Rattle.spk_sequence.specs.Data.{Standing, IsWhole, held_at}
use Rattle.spk_sequence.specs.Numbers.{held_as, held_count, KeepsNumbers}
use Rattle.spk_sequence.specs.declared.phase.Phase.TheVariants as phase
use Rattle.spk_sequence.specs.Step.{after_stop, ahead, hand, is_any_held, is_over, tick}
use Rattle.spk_order.specs.Ordered.{Ordered, kept_at, IsKept}
use Rattle.spk_order.specs.Step.{left_by, placed, consumed_with, handed, stands_so, HasRun, IsAlone, IsBeyond}
use Rattle.spk_order.proofs.Left.{stands, left_still, left_same, left_kept, remains_full}

-- what a step consumes after the message handed has its payload
pub run_full : {T : Type 0} (old new : Standing) (kept : List (Option T)) (number : ℕ) (answer : Step) → IsKept old kept →
    KeepsNumbers old new number answer → HasRun kept number answer
run_full old new kept number answer are keeps n i is some below =
    are.exact ((number + i) % 256) (omega arith) ∙ (keeps.eaten n is).were_held i some below

-- where nothing is counted, nothing is held
none_counted : (places : List (Option (Option ℕ))) (i : ℕ) → held_count places ≡ 0 → held_at places i ≡ None
unfolding held_count
none_counted [] i e = refl
none_counted (None ∷ places) zero e = refl
none_counted (None ∷ places) (suc i) e = none_counted places i e
none_counted (Some own ∷ places) i e = absurd (omega arith)

-- where none is held, none is counted
pub none_any : (places : List (Option (Option ℕ))) → is_any_held places ≡ false → held_count places ≡ 0
unfolding held_count
none_any [] e = refl
none_any (None ∷ places) e = none_any places e
none_any (Some own ∷ places) e = absurd (cc)

pub or_none : (answer : Step) (places : List (Option (Option ℕ))) (any : Bool) → any ≡ is_any_held places → (answer ≡ step.Held) ⊎ (any ≡ false) →
    (answer ≡ step.Held) ⊎ (held_count places ≡ 0)
or_none answer places any e (inl held) = inl held
or_none answer places any e (inr none) = inr (none_any places (sym e ∙ none))

-- where nothing was held, all that is kept stays, however the order stands then
pub idle_left : {T : Type 0} (old new : Standing) (kept : List (Option T)) → IsKept old kept → is_any_held old.held ≡ false → left_by new kept ≡ kept
idle_left old new kept are none =
    left_still new kept are.sized
    (λ x fits there. absurd (let gone : is_some (held_as old x) ≡ false = ap is_some (none_counted old.held (ahead x old.next) (none_any old.held none)) in
    let empty : is_some (kept_at kept x) ≡ false = are.exact x fits ∙ gone in cc))

-- so many come out at most
pub few_eaten : (old new : Standing) (number n : ℕ) (answer : Step) → IsWhole old → KeepsNumbers old new number answer →
    answer ≡ step.Consumed n → n ≤ old.width
few_eaten old new number n answer whole keeps is = (keeps.eaten n is).few

pub one_eaten : (old new : Standing) (number n : ℕ) (answer : Step) → held_count old.held ≡ 0 → KeepsNumbers old new number answer →
    answer ≡ step.Consumed n → n ≤ 1
one_eaten old new number n answer idle keeps is = elim (cases_lt 1 n) [
  | inl more ↦ absurd (let there : is_some (held_as old ((number + 1) % 256)) ≡ true = (keeps.eaten n is).were_held 1 (omega arith) more in
      let gone : is_some (held_as old ((number + 1) % 256)) ≡ false = ap is_some (none_counted old.held (ahead ((number + 1) % 256) old.next) idle) in cc)
  | inr few ↦ few
]

-- what is there is within the list
within : (places : List (Option (Option ℕ))) (i : ℕ) → is_some (held_at places i) ≡ true → i < length places
within places i there = elim (cases_lt i (length places)) [
  | inl below ↦ below
  | inr past ↦ absurd (let gone : is_some (held_at places i) ≡ false = ap is_some (get_or_past places i None past) in cc)
]

-- numbers that are consumed are far behind the next one
behind : (x number next n : ℕ) → x < 256 → number < 256 → next ≡ (number + n) % 256 → n ≤ 96 → ahead x next < 96 → 0 < ahead x number → n ≤ ahead x number
behind x number next n fits byte is few near some = omega arith

pub beyond : (old new : Standing) (number : ℕ) (answer : Step) (x : ℕ) → number < 256 → IsWhole old → KeepsNumbers old new number answer →
    x < 256 → is_some (held_as new x) ≡ true → IsBeyond x number answer
beyond old new number answer x byte whole keeps fits there n is some =
    let low : ahead x new.next < length new.held = within new.held (ahead x new.next) there in
    let all : length new.held ≡ new.width = keeps.whole.all_places in
    let most : new.width ≤ 96 = keeps.whole.few_places in
    let bound : old.width ≤ 96 = whole.few_places in
    let few : n ≤ old.width = (keeps.eaten n is).few in
    behind x number new.next n fits byte (keeps.eaten n is).next (omega arith) (omega arith) some

-- the payloads that stay are those of the definition
pub left_placed : {T : Type 0} (old new : Standing) (kept slots : List (Option T)) (number : ℕ) (payload : T) (answer : Step) → number < 256 →
    IsWhole old → KeepsNumbers old new number answer →
    ((x : ℕ) → x < 256 → IsBeyond x number answer → kept_at slots x ≡ kept_at (placed kept number payload answer) x) →
    left_by new slots ≡ left_by new (placed kept number payload answer)
left_placed old new kept slots number payload answer byte whole keeps same =
    left_same new slots (placed kept number payload answer)
    (λ x fits there. same x fits (beyond old new number answer x byte whole keeps fits there))

-- where a message is held, its payload is there
placed_held : {T : Type 0} (old new : Standing) (kept : List (Option T)) (number : ℕ) (payload : T) → IsKept old kept →
    KeepsNumbers old new number step.Held → number < 256 → (x : ℕ) → x < 256 → is_some (held_as new x) ≡ true →
    is_some (kept_at (set kept number (Some payload)) x) ≡ true
placed_held old new kept number payload are keeps byte x fits there = elim (cases_eq x number) [
  | inl e ↦ let sized : number < length kept = omega (arith, are.sized) in
      ap (λ y. is_some (kept_at (set kept number (Some payload)) y)) e ∙ ap is_some (get_or-set_same kept number (Some payload) None sized)
  | inr other ↦ ap is_some (get_or-set_other kept number x (Some payload) None other) ∙ are.exact x fits
      ∙ ap is_some (sym ((keeps.added refl).others x fits other)) ∙ there
]

pub placed_full : {T : Type 0} (old new : Standing) (kept : List (Option T)) (number : ℕ) (payload : T) (answer : Step) → IsKept old kept →
    KeepsNumbers old new number answer → number < 256 → (x : ℕ) → x < 256 → is_some (held_as new x) ≡ true →
    is_some (kept_at (placed kept number payload answer) x) ≡ true
placed_full old new kept number payload step.Held are keeps byte = placed_held old new kept number payload are keeps byte
placed_full old new kept number payload (step.Consumed n) are keeps byte = remains_full old new kept are (keeps.remains (λ e. absurd (cc)))
placed_full old new kept number payload step.Old are keeps byte = remains_full old new kept are (keeps.remains (λ e. absurd (cc)))
placed_full old new kept number payload step.Gap are keeps byte = remains_full old new kept are (keeps.remains (λ e. absurd (cc)))
placed_full old new kept number payload step.OldBirth are keeps byte = remains_full old new kept are (keeps.remains (λ e. absurd (cc)))
placed_full old new kept number payload step.DeadSession are keeps byte = remains_full old new kept are (keeps.remains (λ e. absurd (cc)))
placed_full old new kept number payload step.NotLive are keeps byte = remains_full old new kept are (keeps.remains (λ e. absurd (cc)))

pub placed_kept : {T : Type 0} (old new : Standing) (kept : List (Option T)) (number : ℕ) (payload : T) (answer : Step) → IsKept old kept →
    KeepsNumbers old new number answer → number < 256 → IsKept new (left_by new (placed kept number payload answer))
placed_kept old new kept number payload answer are keeps byte =
    left_kept new (placed kept number payload answer) keeps.whole (placed_full old new kept number payload answer are keeps byte)

few_with : {T : Type 0} (kept : List (Option T)) (number : ℕ) (payload : T) (answer : Step) (w : ℕ) →
    ((n : ℕ) → answer ≡ step.Consumed n → n ≤ w) → 0 < w → length (consumed_with kept number payload answer) ≤ w
few_with kept number payload (step.Consumed n) w few some =
    let bound : n ≤ w = few n refl in
    let rest : length (map (λ i. kept_at kept ((number + i) % 256)) (range_with_len 1 (n - 1))) ≡ n - 1 =
    length-map-range_with_len (λ i. kept_at kept ((number + i) % 256)) 1 (n - 1) in omega arith
few_with kept number payload step.Held w few some = omega arith
few_with kept number payload step.Old w few some = omega arith
few_with kept number payload step.Gap w few some = omega arith
few_with kept number payload step.OldBirth w few some = omega arith
few_with kept number payload step.DeadSession w few some = omega arith
few_with kept number payload step.NotLive w few some = omega arith

-- how many come out
pub few_consumed : {T : Type 0} (kept : List (Option T)) (number : ℕ) (payload : T) (answer : Step) (consumed : List T) (w : ℕ) →
    map Some consumed ≡ consumed_with kept number payload answer → ((n : ℕ) → answer ≡ step.Consumed n → n ≤ w) → 0 < w → length consumed ≤ w
few_consumed kept number payload answer consumed w are few some =
    let same : length consumed ≡ length (consumed_with kept number payload answer) = sym (length-map consumed Some) ∙ ap length are in
    let bound : length (consumed_with kept number payload answer) ≤ w = few_with kept number payload answer w few some in omega arith

-- what a step does, of the step and the data that were answered, by the law
pub keeps_by : (old new : Standing) (number : ℕ) (kind : Kind) (now : ℕ) (answer : Step) → number < 256 → IsWhole old →
    new ≡ (hand old number kind now).1 → answer ≡ (hand old number kind now).0 →
    ((s : Standing) (number now : ℕ) (kind : Kind) → number < 256 → IsWhole s →
    KeepsNumbers s (hand s number kind now).1 number (hand s number kind now).0) → KeepsNumbers old new number answer
keeps_by old new number kind now answer byte whole e f law = rw (e, f) (law old number now kind byte whole)

-- the data after it are those of the definition
pub same_handed : {T : Type 0} (o : Ordered T) (new : Standing) (after : List (Option T)) (number : ℕ) (kind : Kind) (payload : T) (now : ℕ) (answer : Step) →
    new ≡ (hand o.standing number kind now).1 → answer ≡ (hand o.standing number kind now).0 →
    after ≡ left_by new (placed o.kept number payload answer) → stands new after ≡ handed o number kind payload now
same_handed o new after number kind payload now answer e f is = rw (is, e, f) refl

-- a message that is held drops nothing
held_still : {T : Type 0} (old new : Standing) (kept slots : List (Option T)) (number : ℕ) (payload : T) → IsKept old kept →
    KeepsNumbers old new number step.Held → length slots ≡ 256 →
    ((x : ℕ) → x < 256 → IsBeyond x number step.Held → kept_at slots x ≡ kept_at (set kept number (Some payload)) x) → left_by new slots ≡ slots
held_still old new kept slots number payload are keeps sized same =
    left_still new slots sized
    (λ x fits there. elim (cases_eq x number) [
      | inl e ↦ ap (λ y. is_some (held_as new y)) e ∙ (keeps.added refl).is_held
      | inr other ↦ ap is_some ((keeps.added refl).others x fits other) ∙ sym (are.exact x fits)
          ∙ ap is_some (sym (get_or-set_other kept number x (Some payload) None other)) ∙ ap is_some (sym (same x fits (λ n e. absurd (cc)))) ∙ there
    ])

-- where nothing was held, nothing is dropped
idle_still : {T : Type 0} (old new : Standing) (kept slots : List (Option T)) (number : ℕ) (answer : Step) → IsKept old kept →
    KeepsNumbers old new number answer → length slots ≡ 256 → held_count old.held ≡ 0 →
    ((x : ℕ) → x < 256 → IsBeyond x number answer → kept_at slots x ≡ kept_at kept x) → left_by new slots ≡ slots
idle_still old new kept slots number answer are keeps sized idle same =
    left_still new slots sized
    (λ x fits there. absurd (let past : kept_at slots x ≡ kept_at kept x = same x fits (λ n is some. let one : n ≤ 1 = one_eaten old new number n answer idle keeps is in omega arith) in
    let gone : is_some (held_as old x) ≡ false = ap is_some (none_counted old.held (ahead x old.next) idle) in
    let none : is_some (kept_at kept x) ≡ false = are.exact x fits ∙ gone in
    let e : is_some (kept_at slots x) ≡ false = ap is_some past ∙ none in cc))

idle_of : (answer : Step) (held : ℕ) → (answer ≡ step.Held → ⊥) → (answer ≡ step.Held) ⊎ (held ≡ 0) → held ≡ 0
idle_of answer held other (inl e) = absurd (other e)
idle_of answer held other (inr idle) = idle

pub placed_still : {T : Type 0} (old new : Standing) (kept slots : List (Option T)) (number : ℕ) (payload : T) (answer : Step) → IsKept old kept →
    KeepsNumbers old new number answer → length slots ≡ 256 → (answer ≡ step.Held) ⊎ (held_count old.held ≡ 0) →
    ((x : ℕ) → x < 256 → IsBeyond x number answer → kept_at slots x ≡ kept_at (placed kept number payload answer) x) → left_by new slots ≡ slots
placed_still old new kept slots number payload step.Held are keeps sized d = held_still old new kept slots number payload are keeps sized
placed_still old new kept slots number payload (step.Consumed n) are keeps sized d = idle_still old new kept slots number (step.Consumed n) are keeps sized (idle_of (step.Consumed n) (held_count old.held) (λ e. cc) d)
placed_still old new kept slots number payload step.Old are keeps sized d = idle_still old new kept slots number step.Old are keeps sized (idle_of step.Old (held_count old.held) (λ e. cc) d)
placed_still old new kept slots number payload step.Gap are keeps sized d = idle_still old new kept slots number step.Gap are keeps sized (idle_of step.Gap (held_count old.held) (λ e. cc) d)
placed_still old new kept slots number payload step.OldBirth are keeps sized d = idle_still old new kept slots number step.OldBirth are keeps sized (idle_of step.OldBirth (held_count old.held) (λ e. cc) d)
placed_still old new kept slots number payload step.DeadSession are keeps sized d = idle_still old new kept slots number step.DeadSession are keeps sized (idle_of step.DeadSession (held_count old.held) (λ e. cc) d)
placed_still old new kept slots number payload step.NotLive are keeps sized d = idle_still old new kept slots number step.NotLive are keeps sized (idle_of step.NotLive (held_count old.held) (λ e. cc) d)

-- ---- a message that is handed alone: its payload plays no part

not_held : (answer : Step) → IsAlone answer → answer ≡ step.Held → ⊥
not_held step.Held alone e = alone
not_held (step.Consumed n) alone e = absurd (cc)
not_held step.Old alone e = absurd (cc)
not_held step.Gap alone e = absurd (cc)
not_held step.OldBirth alone e = absurd (cc)
not_held step.DeadSession alone e = absurd (cc)
not_held step.NotLive alone e = absurd (cc)

alone_placed : {T : Type 0} (kept : List (Option T)) (number : ℕ) (payload : T) (answer : Step) → IsAlone answer → placed kept number payload answer ≡ kept
alone_placed kept number payload step.Held alone = absurd alone
alone_placed kept number payload (step.Consumed n) alone = refl
alone_placed kept number payload step.Old alone = refl
alone_placed kept number payload step.Gap alone = refl
alone_placed kept number payload step.OldBirth alone = refl
alone_placed kept number payload step.DeadSession alone = refl
alone_placed kept number payload step.NotLive alone = refl

pub passed_kept : {T : Type 0} (old new : Standing) (kept : List (Option T)) (number : ℕ) (answer : Step) → IsKept old kept →
    KeepsNumbers old new number answer → IsAlone answer → IsKept new (left_by new kept)
passed_kept old new kept number answer are keeps alone =
    left_kept new kept keeps.whole (remains_full old new kept are (keeps.remains (not_held answer alone)))

pub passed_still : {T : Type 0} (old new : Standing) (kept : List (Option T)) (number : ℕ) (answer : Step) → IsKept old kept →
    KeepsNumbers old new number answer → IsAlone answer → (answer ≡ step.Held) ⊎ (held_count old.held ≡ 0) → left_by new kept ≡ kept
passed_still old new kept number answer are keeps alone d =
    idle_still old new kept kept number answer are keeps are.sized (idle_of answer (held_count old.held) (not_held answer alone) d) (λ x fits far. refl)

pub passed_handed : {T : Type 0} (o : Ordered T) (new : Standing) (after : List (Option T)) (number : ℕ) (kind : Kind) (now : ℕ) (answer : Step) →
    new ≡ (hand o.standing number kind now).1 → answer ≡ (hand o.standing number kind now).0 → IsAlone answer →
    after ≡ left_by new o.kept → (payload : T) → stands new after ≡ handed o number kind payload now
passed_handed o new after number kind now answer e f alone left payload =
    same_handed o new after number kind payload now answer e f
    (left ∙ sym (ap (left_by new) (alone_placed o.kept number payload answer alone)))

-- ---- at a moment that is no gap

pub still_at : {T : Type 0} (o : Ordered T) (now : ℕ) → IsKept o.standing o.kept → is_over o.standing now ≡ false → stands_so (tick o.standing now) o.kept ≡ o
still_at o now are still =
    let same : tick o.standing now ≡ o.standing = ap (λ b. cond b (after_stop o.standing phase.Gap) o.standing) still in
    ap (λ s. stands s (left_by s o.kept)) same ∙ ap (stands o.standing) (left_still o.standing o.kept are.sized (λ x byte there. sym (are.exact x byte) ∙ there))
