use Rattle.std.proofs.Common.{◌≡◌, ℕ, ◌+◌, ◌-◌, ◌<◌, List, ◌++◌, length, take, drop, ap, subst, ◌∙◌, arith, append_assoc}
use Rattle.std.proofs.lemmas.List.{drop-take, length-take-le}
use Rattle.std.proofs.Math.Seq.{take-add, take-append_seam}
use Rattle.spk_refusals.specs.Wrong.{brought}
use Rattle.spk_refusals.proofs.broker.bring.Goals as goal

-- a front, turned round by one, and what stands behind it
brought-rotated : {X : Type 0} (place : ℕ) (xs new : List X) → place < length xs
    → new ≡ drop (length (take (place + 1) xs) - 1) (take (place + 1) xs) ++ take (length (take (place + 1) xs) - 1) (take (place + 1) xs)
    → new ++ drop (place + 1) xs ≡ brought place xs
brought-rotated {X} place xs new lt is =
    let size : length (take place xs) ≡ place = length-take-le place xs (omega arith) in
    let last : length (take (place + 1) xs) - 1 ≡ place = omega (arith, length-take-le (place + 1) xs (omega arith)) in
    let rest : take place (take (place + 1) xs) ≡ take place xs =
    ap (λ (l : List X). take place l) (take-add place 1 xs)
    ∙ subst (λ (k : ℕ). take k (take place xs ++ take 1 (drop place xs)) ≡ take place xs) size (take-append_seam (take place xs) (take 1 (drop place xs))) in
    let whole : new ≡ take 1 (drop place xs) ++ take place xs =
    is ∙ ap (λ (k : ℕ). drop k (take (place + 1) xs) ++ take k (take (place + 1) xs)) last
    ∙ ap (λ (l : List X). l ++ take place (take (place + 1) xs)) (drop-take place 1 xs)
    ∙ ap (λ (l : List X). take 1 (drop place xs) ++ l) rest in
    ap (λ (l : List X). l ++ drop (place + 1) xs) whole ∙ append_assoc (take 1 (drop place xs)) (take place xs) (drop (place + 1) xs)

pub returns : goal.returns
returns c = brought-rotated c.args.place c.args.sends.now c.rotate_right.new.self (omega arith) c.rotate_right.ensures.after
