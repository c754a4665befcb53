-- A node that has no gap at a moment loses nothing at it.
use Rattle.std.proofs.Common.{◌≡◌, ◌∙◌, sym, ap, refl, ℕ, ◌+◌, ◌<◌, ◌&&◌, not, Bool, true, false, cond, List, [], ◌∷◌, suc, Some, arith}
use Rattle.std.specs.Prelude.{slice_get}
use Rattle.std.specs.List.{count_by, range_with_len, sum_by}
use Rattle.std.proofs.lemmas.Bool.{eq-eqb}
use Rattle.std.proofs.lemmas.List.Sums.{sum_by-cons}
use Rattle.spk_sequence.specs.declared.phase.Phase.TheVariants as phase
use Rattle.spk_sequence.specs.declared.answer.Loss.{Loss}
use Rattle.spk_sequence.specs.Data.{Standing}
use Rattle.spk_sequence.specs.Step.{after_stop, is_over}
use Rattle.spk_sequence.specs.Calls.{Tick}
use Rattle.spk_sequence.specs.Losses.{Called, is_held_as, drops, numbers_with, dropped_at, missing_in, no_loss, loss_at}
use Rattle.spk_host.specs.Data.{Entry}
use Rattle.spk_host.specs.Idle.{AreStillUntil}
use Rattle.spk_host.specs.Losses.{is_lost, losing}

abbrev one : Bool → ℕ
one b = cond b 1 0

count_none : (p : ℕ → Bool) → ((x : ℕ) → p x ≡ false) → (xs : List ℕ) → count_by p xs ≡ 0
count_none p none [] = refl
count_none p none (x ∷ xs) =
    let first : one (p x) ≡ 0 = ap one (none x) in
    let all : count_by p (x ∷ xs) ≡ one (p x) + count_by p xs = sum_by-cons (λ y. one (p y)) x xs in
    let rest : count_by p xs ≡ 0 = count_none p none xs in
    omega (arith, first, all, rest)

kept : (h : Bool) → (h && not false && not h) ≡ false
kept true = refl
kept false = refl

no_drops : (s : Standing) (now : ℕ) → is_over s now ≡ false → (x : ℕ) → drops s (Called (Tick now)) x ≡ false
no_drops s now idle x =
    ap (λ b. is_held_as s x && not false && not (is_held_as (cond b (after_stop s phase.Gap) s) x)) idle ∙ kept (is_held_as s x)

none_dropped : (s : Standing) (now : ℕ) → is_over s now ≡ false → dropped_at s (Called (Tick now)) ≡ 0
unfolding numbers_with
none_dropped s now idle = count_none (drops s (Called (Tick now))) (no_drops s now idle) (range_with_len 0 256)

unlost : (s : Standing) (now : ℕ) → is_over s now ≡ false → loss_at s (Called (Tick now)) ≡ no_loss
unlost s now idle =
    ap (λ b. cond b no_loss (let l : Loss = record { held = dropped_at s (Called (Tick now)); missing = missing_in s.held } in l))
    (eq-eqb (dropped_at s (Called (Tick now))) 0 (none_dropped s now idle))

none_losing : (now : ℕ) (nodes : List Entry) → ((k : ℕ) (e : Entry) → slice_get nodes k ≡ Some e → is_over e.kept.order.standing now ≡ false) → losing now nodes ≡ []
none_losing now [] idle = refl
none_losing now (e ∷ nodes) idle =
    ap (λ (l : Loss). cond (is_lost l) (e ∷ losing now nodes) (losing now nodes)) (unlost e.kept.order.standing now (idle 0 e refl))
    ∙ none_losing now nodes (λ k x at. idle (suc k) x at)

pub still_losing : (nodes : List Entry) (now due : ℕ) → now < due → AreStillUntil due nodes → [] ≡ losing now nodes
still_losing nodes now due low still = sym (none_losing now nodes (λ k e at. (still k e at now low).0))
