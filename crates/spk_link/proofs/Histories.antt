-- A link stands as the list of its events asks.
use Rattle.std.proofs.Common.{◌≡◌, ◌∙◌, ap, refl, ℕ, ◌+◌, ◌-◌, ◌*◌, ◌^◌, min, Bool, true, false, ◌&&◌, cond, List, [], ◌∷◌, add-one, arith}
use Rattle.std.proofs.Math.Nat.{pow-succ'}
use Rattle.spk_link.specs.declared.stand.Moments.{Moments}
use Rattle.spk_link.specs.declared.stand.Stand.TheVariants.{Off, On}
use Rattle.spk_link.specs.Data.{Link}
use Rattle.spk_link.specs.Past.{Event, Opened, Sent, Heard, Asked, Over, after, began, due_in, is_open, lasted, last_asked, last_heard, last_sent, moments, pause_of, row, stand_in}
use Rattle.spk_link.specs.Step.{due_behind, is_over, lasting, longest, opened, pause_behind, shortest, with_moments}

pub keep_is : (keep spread : ℕ) (es : List Event) → (after keep spread es).keep ≡ 1000 * keep
keep_is keep spread [] = refl
keep_is keep spread (Opened now ∷ es) = keep_is keep spread es
keep_is keep spread (Sent now ∷ es) = keep_is keep spread es
keep_is keep spread (Heard now ∷ es) = keep_is keep spread es
keep_is keep spread (Asked now ∷ es) = keep_is keep spread es
keep_is keep spread (Over now ∷ es) = keep_is keep spread es

pub spread_is : (keep spread : ℕ) (es : List Event) → (after keep spread es).spread ≡ spread
spread_is keep spread [] = refl
spread_is keep spread (Opened now ∷ es) = spread_is keep spread es
spread_is keep spread (Sent now ∷ es) = spread_is keep spread es
spread_is keep spread (Heard now ∷ es) = spread_is keep spread es
spread_is keep spread (Asked now ∷ es) = spread_is keep spread es
spread_is keep spread (Over now ∷ es) = spread_is keep spread es

-- ---- pauses

doubled : (r : ℕ) → min (2 * pause_of r) longest ≡ pause_of (r + 1)
doubled r = twice (2 ^ r) (2 ^ (r + 1)) (ap (λ k. 2 ^ k) (add-one r) ∙ pow-succ' 2 r)
  where
    twice : (x y : ℕ) → y ≡ 2 * x → min (2 * min (500 * x) 30000) 30000 ≡ min (500 * y) 30000
    twice x y e = omega (arith, e)

behind : (now : ℕ) (m : Moments) (d r : ℕ) (b : Bool) → pause_behind (cond b (On m) (Off d)) (pause_of r) now ≡ pause_of (cond (b && is_over now m.since lasting) 1 (r + 1) - 1)
behind now m d r false = ap pause_of (omega arith)
behind now m d r true = go (is_over now m.since lasting)
  where
    go : (o : Bool) → cond o shortest (pause_of r) ≡ pause_of (cond o 1 (r + 1) - 1)
    go true = refl
    go false = ap pause_of (omega arith)

some_ends : (b : Bool) (r : ℕ) → cond b 1 (r + 1) - 1 + 1 ≡ cond b 1 (r + 1)
some_ends true r = refl
some_ends false r = omega arith

-- ---- both, over the list

record Stands (keep spread : ℕ) (es : List Event) : Type 0 where
  stand : (after keep spread es).stand ≡ stand_in spread es
  pause : (after keep spread es).pause ≡ pause_of (row es)

pushed : (f : Moments → Moments) (b : Bool) (m : Moments) (d : ℕ) → with_moments f (cond b (On m) (Off d)) ≡ cond b (On (f m)) (Off d)
pushed f true m d = refl
pushed f false m d = refl

begun : (now : ℕ) (b : Bool) (since sent heard asked d : ℕ)
    → opened now (cond b (On (record { since = since; sent = sent; heard = heard; asked = asked })) (Off d))
    ≡ On (record { since = cond b since now; sent = cond b sent now; heard = cond b heard now; asked = cond b asked now })
begun now true since sent heard asked d = refl
begun now false since sent heard asked d = refl

stands : (keep spread : ℕ) (es : List Event) → Stands keep spread es
stands keep spread [] = record { stand = refl; pause = refl }
stands keep spread (Opened now ∷ es) =
    let s = stands keep spread es in
    record { stand = ap (opened now) s.stand ∙ begun now (is_open es) (began es) (last_sent es) (last_heard es) (last_asked es) (due_in spread es); pause = s.pause }
stands keep spread (Sent now ∷ es) =
    let s = stands keep spread es in
    let f : Moments → Moments = λ m. record m { sent = now } in
    record { stand = ap (with_moments f) s.stand ∙ pushed f (is_open es) (moments es) (due_in spread es); pause = s.pause }
stands keep spread (Heard now ∷ es) =
    let s = stands keep spread es in
    let f : Moments → Moments = λ m. record m { heard = now } in
    record { stand = ap (with_moments f) s.stand ∙ pushed f (is_open es) (moments es) (due_in spread es); pause = s.pause }
stands keep spread (Asked now ∷ es) =
    let s = stands keep spread es in
    let f : Moments → Moments = λ m. record m { sent = now; asked = now } in
    record { stand = ap (with_moments f) s.stand ∙ pushed f (is_open es) (moments es) (due_in spread es); pause = s.pause }
stands keep spread (Over now ∷ es) =
    let s = stands keep spread es in
    let l : Link = after keep spread es in
    let pause : pause_behind l.stand l.pause now ≡ pause_of (row (Over now ∷ es) - 1) =
    ap (λ x. pause_behind x l.pause now) s.stand ∙ ap (λ x. pause_behind (stand_in spread es) x now) s.pause ∙ behind now (moments es) (due_in spread es) (row es) (is_open es) in
    record {
      stand = ap (λ x. Off (due_behind x (pause_behind l.stand l.pause now) now)) (spread_is keep spread es) ∙ ap (λ x. Off (due_behind spread x now)) pause;
      pause = ap (λ x. min (2 * x) longest) pause ∙ doubled (row (Over now ∷ es) - 1) ∙ ap pause_of (some_ends (lasted now es) (row es));
    }

pub stand_is : (keep spread : ℕ) (es : List Event) → (after keep spread es).stand ≡ stand_in spread es
stand_is keep spread es = (stands keep spread es).stand

pub pause_is : (keep spread : ℕ) (es : List Event) → (after keep spread es).pause ≡ pause_of (row es)
pause_is keep spread es = (stands keep spread es).pause
