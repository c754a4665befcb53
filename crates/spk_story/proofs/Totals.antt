-- What the losses said is what the holes have.
use Rattle.std.proofs.Common.{◌≡◌, ◌∙◌, sym, ap, refl, ℕ, ◌+◌, Bool, true, false, List, [], ◌∷◌, Option, Some, None, if◌then◌else◌, arith}
use Rattle.std.specs.List.{cons_option, list_any, sum_by}
use Rattle.std.specs.Option.{option_map}
use Rattle.spk_story.specs.declared.hole.Hole.{Hole}
use Rattle.spk_story.specs.Events.{Event, Born, is_loss, missing_by, since_birth, unused_by}
use Rattle.spk_story.specs.Gaps.{ended_at, holes, is_open, open_hole, open_now, over}
use Rattle.spk_story.proofs.Opening.{none_missing, none_unused, sum_step}

-- of an amount that events and holes have
record Amount : Type 0 where
  by : Event → ℕ
  of : Hole → ℕ
  opened : (es : List Event) → of (open_hole es) ≡ sum_by by (since_birth es)
  over : (now : ℕ) (h : Hole) → of (ended_at now h) ≡ of h
  birth : (now : ℕ) → by (Born now) ≡ 0
  none : (es : List Event) → list_any is_loss es ≡ false → sum_by by es ≡ 0

abbrev open_if : List Event → Bool → Option Hole
open_if es b = if b then Some (open_hole es) else None

-- with the hole that is open, or without one
with_open : (a : Amount) (es : List Event) (hs : List Hole) → sum_by a.of (cons_option (open_now es) hs) ≡ sum_by a.by (since_birth es) + sum_by a.of hs
with_open a es hs = at (is_open es) refl
  where
    at : (b : Bool) → is_open es ≡ b → sum_by a.of (cons_option (open_if es b) hs) ≡ sum_by a.by (since_birth es) + sum_by a.of hs
    at true is = sum_step a.of (open_hole es) hs ∙ ap (λ n. n + sum_by a.of hs) (a.opened es)
    at false is = let zero = a.none (since_birth es) is in omega (arith, zero)

with_over : (a : Amount) (now : ℕ) (es : List Event) (hs : List Hole)
    → sum_by a.of (cons_option (option_map (ended_at now) (open_now es)) hs) ≡ sum_by a.of (cons_option (open_now es) hs)
with_over a now es hs = at (is_open es)
  where
    at : (b : Bool) → sum_by a.of (cons_option (option_map (ended_at now) (open_if es b)) hs) ≡ sum_by a.of (cons_option (open_if es b) hs)
    at true = sum_step a.of (ended_at now (open_hole es)) hs ∙ ap (λ n. n + sum_by a.of hs) (a.over now (open_hole es)) ∙ sym (sum_step a.of (open_hole es) hs)
    at false = refl

-- the events since the last birth, and the holes that are over
split : (a : Amount) (es : List Event) → sum_by a.by (since_birth es) + sum_by a.of (over es) ≡ sum_by a.by es
split a [] = refl
split a (Born now ∷ es) =
    let more = with_over a now es (over es) in
    let opened = with_open a es (over es) in
    let step = sum_step a.by (Born now) es in
    let nothing = a.birth now in
    let before = split a es in
    omega (arith, more, opened, step, nothing, before)
split a (e ∷ es) =
    let step = sum_step a.by e es in
    let since = sum_step a.by e (since_birth es) in
    let before = split a es in
    omega (arith, step, since, before)

total : (a : Amount) (es : List Event) → sum_by a.of (holes es) ≡ sum_by a.by es
total a es = with_open a es (over es) ∙ split a es

pub missing_is : (es : List Event) → sum_by (λ h. h.missing) (holes es) ≡ sum_by missing_by es
missing_is es = total (record { by = missing_by; of = λ h. h.missing; opened = λ es. refl; over = λ now h. refl; birth = λ now. refl; none = none_missing }) es

pub unused_is : (es : List Event) → sum_by (λ h. h.unused) (holes es) ≡ sum_by unused_by es
unused_is es = total (record { by = unused_by; of = λ h. h.unused; opened = λ es. refl; over = λ now h. refl; birth = λ now. refl; none = none_unused }) es
