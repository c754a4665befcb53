use Rattle.std.proofs.Common.{◌≡◌, ◌++◌, ◌∷◌, ◌∙◌, ◌-◌, [], List, ℕ, Option, Bor, Some, ap, arith, length, sym, take}
use Rattle.std.specs.Option.{option_map}
use Rattle.spk_topics.specs.Levels.{joined, levels, levels_left}
use Rattle.spk_topics.proofs.LevelLemmas.{in_front, levels-slash, not_empty_is, seam_cut, seam_front, seam_len}
use Rattle.spk_topics.proofs.levels.before.Goals as goal

-- what is in front of a text that is left
seam : (text : List ℕ) (left : Option (Bor (List ℕ))) (rest : Bor (List ℕ)) (h : (front : List (List ℕ)) × (front ≡ [] → ⊥) × (levels text ≡ front ++ levels_left (option_map (λ rest. rest.now) left))) → left ≡ Some rest → text ≡ joined h.0 ++ 47 ∷ rest.now
seam text left rest h is = in_front text rest.now h.0 (not_empty_is h.0 h.1) (h.2 ∙ ap (λ o. h.0 ++ levels_left (option_map (λ r. r.now) o)) is)

pub overflow_sub-text : goal.overflow_sub-text
overflow_sub-text c =
    let e = seam c.args.text.now c.args.left c.in-Some.left c.requires c.in-Some.is in
    omega (arith, seam_len c.args.text.now (joined c.requires.0) c.in-Some.left.now e)

pub overflow_sub-text-in-Some : goal.overflow_sub-text-in-Some
overflow_sub-text-in-Some c =
    let e = seam c.args.text.now c.args.left c.in-Some.left c.requires c.in-Some.is in
    omega (arith, seam_len c.args.text.now (joined c.requires.0) c.in-Some.left.now e)

pub range-requires-clause-end_boundary : goal.range-requires-clause-end_boundary
range-requires-clause-end_boundary c =
    let e = seam c.args.text.now c.args.left c.in-Some.left c.requires c.in-Some.is in
    let len = seam_len c.args.text.now (joined c.requires.0) c.in-Some.left.now e in
    seam_cut c.args.text.now (joined c.requires.0) c.in-Some.left.now _ e (omega (arith, len))

pub returns-in-Some : goal.returns-in-Some
returns-in-Some c =
    let front = joined c.requires.0 in
    let left = c.in-Some.left.now in
    let e = seam c.args.text.now c.args.left c.in-Some.left c.requires c.in-Some.is in
    let len = seam_len c.args.text.now front left e in
    let at : length c.args.text.now - length left - 1 - 0 ≡ length front = omega (arith, len) in
    let cut : c.range.result.now ≡ front = c.range.ensures.value ∙ ap (λ k. take k c.args.text.now) at ∙ ap (take (length front)) e ∙ seam_front front (47 ∷ left) in
    ap levels e ∙ levels-slash front left ∙ ap (λ s. levels s ++ levels left) (sym cut) ∙ ap (λ o. levels c.range.result.now ++ levels_left (option_map (λ r. r.now) o)) (sym c.in-Some.is)
