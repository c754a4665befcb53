-- Messages of a session, one after another.
use Rattle.std.proofs.Common.{◌≡◌, ◌∙◌, sym, ap, refl, ℕ, ◌+◌, ◌-◌, Bool, true, false, cond, List, [], ◌∷◌, ◌++◌, length, map, Option, Some, None, append_assoc, arith}
use Rattle.std.proofs.lemmas.List.Sums.{sum_by-cons}
use Rattle.std.specs.List.{count_by, last_or}
use Rattle.spk_edge.specs.View.{MessageData}
use Rattle.spk_world_run.specs.Data.{PublishedData}
use Rattle.spk_world_run.specs.Step.{or_zero, posts_from, starts_from}
use Rattle.spk_world.proofs.Lists.{last-append}

abbrev opens_one : MessageData → ℕ
opens_one m = cond m.opens 1 0

count-one : (b : ℕ) (m : MessageData) (o : Bool) → m.opens ≡ o → b + count_by (λ m. m.opens) (m ∷ []) ≡ cond m.opens (b + 1) b
count-one b m true e =
    let h : count_by (λ (m : MessageData). m.opens) (m ∷ []) ≡ cond m.opens 1 0 + 0 = sum_by-cons opens_one m [] in
    let k : opens_one m ≡ 1 = ap (λ x. cond x 1 0) e in
    let l : cond m.opens (b + 1) b ≡ b + 1 = ap (λ x. cond x (b + 1) b) e in
    omega (arith, h, k, l)
count-one b m false e =
    let h : count_by (λ (m : MessageData). m.opens) (m ∷ []) ≡ cond m.opens 1 0 + 0 = sum_by-cons opens_one m [] in
    let k : opens_one m ≡ 0 = ap (λ x. cond x 1 0) e in
    let l : cond m.opens (b + 1) b ≡ b = ap (λ x. cond x (b + 1) b) e in
    omega (arith, h, k, l)

pub posts-step : (s b b' : ℕ) (m : MessageData) (ms : List MessageData) (old new : List PublishedData) → new ≡ old ++ posts_from s b (m ∷ []) → b' ≡ b + count_by (λ m. m.opens) (m ∷ [])
    → new ++ posts_from s b' ms ≡ old ++ posts_from s b (m ∷ ms)
posts-step s b b' m ms old new is counted =
    let same : b' ≡ cond m.opens (b + 1) b = counted ∙ count-one b m m.opens refl in
    ap (λ l. l ++ posts_from s b' ms) is
    ∙ append_assoc old (posts_from s b (m ∷ [])) (posts_from s b' ms)
    ∙ ap (λ k. old ++ (posts_from s b (m ∷ []) ++ posts_from s k ms)) same

pub starts-step : (p p' : ℕ) (m : MessageData) (ms : List MessageData) (old new : List ℕ) → new ≡ old ++ starts_from p (or_zero (last_or None old)) (m ∷ []) → p' ≡ p + 1
    → new ++ starts_from p' (or_zero (last_or None new)) ms ≡ old ++ starts_from p (or_zero (last_or None old)) (m ∷ ms)
starts-step p p' m ms old new is one =
    let start = cond m.opens p (or_zero (last_or None old)) in
    let last : last_or None new ≡ Some start = ap (last_or None) is ∙ last-append None old start in
    ap (λ o. new ++ starts_from p' (or_zero o) ms) last
    ∙ ap (λ l. l ++ starts_from p' start ms) is
    ∙ append_assoc old (start ∷ []) (starts_from p' start ms)
    ∙ ap (λ k. old ++ (start ∷ starts_from k start ms)) one

pub count-step : (b b' : ℕ) (m : MessageData) (ms : List MessageData) → b' ≡ b + count_by (λ m. m.opens) (m ∷ [])
    → b' + count_by (λ m. m.opens) ms ≡ b + count_by (λ m. m.opens) (m ∷ ms)
count-step b b' m ms is =
    let one : count_by (λ (m : MessageData). m.opens) (m ∷ []) ≡ cond m.opens 1 0 + 0 = sum_by-cons opens_one m [] in
    let all : count_by (λ (m : MessageData). m.opens) (m ∷ ms) ≡ cond m.opens 1 0 + count_by (λ (m : MessageData). m.opens) ms = sum_by-cons opens_one m ms in
    omega (arith, is, one, all)
