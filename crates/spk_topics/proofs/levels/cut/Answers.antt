use Rattle.std.proofs.Common.{◌≡◌, ◌<◌, ◌+◌, ◌-◌, ◌∷◌, ◌∙◌, List, ℕ, ap, arith, drop, get_or, length, nat_eq, subst, sym, take}
use Rattle.std.specs.List.{position_or_len}
use Rattle.std.specs.Str.{IsCharBoundary}
use Rattle.std.proofs.lemmas.Str.{IsCharBoundary-after_ascii, IsCharBoundary-before_ascii}
use Rattle.spk_topics.specs.Levels.{levels}
use Rattle.spk_topics.proofs.LevelLemmas.{is_empty-levels, levels-cut, levels-whole, slash_there}
use Rattle.spk_topics.proofs.levels.cut.Goals as goal

abbrev first_slash : List ℕ → ℕ
first_slash text = position_or_len (λ b. nat_eq b 47) text

-- the byte where the loop ended
slash_at : (text : List ℕ) (end : ℕ) → end ≡ first_slash text → end < length text → get_or text end 0 ≡ 47
slash_at text end e within =
    let inside : first_slash text < length text = omega (arith, e, within) in
    ap (λ k. get_or text k 0) e ∙ slash_there text inside

pub overflow_add-end : goal.overflow_add-end
overflow_add-end c = let off = c.if-end-text.false in omega (arith, off, c.end_of_level-end.ensures.within)

pub range-requires-clause-end_boundary : goal.range-requires-clause-end_boundary
range-requires-clause-end_boundary c =
    let text = c.args.text.now in
    let end = c.end_of_level-end.result in
    let off = c.if-end-text.false in
    let within : end < length text = omega (arith, off, c.end_of_level-end.ensures.within) in
    let slash = slash_at text end c.end_of_level-end.ensures.first within in
    IsCharBoundary-before_ascii text end within (omega (arith, slash))

pub range_from-requires : goal.range_from-requires
range_from-requires c = λ _.
    let text = c.args.text.now in
    let end = c.end_of_level-end.result in
    let off = c.if-end-text.false in
    let within : end < length text = omega (arith, off, c.end_of_level-end.ensures.within) in
    let slash = slash_at text end c.end_of_level-end.ensures.first within in
    IsCharBoundary-after_ascii text end c.utf8.text within (omega (arith, slash))

pub returns-clause-levels : goal.returns-clause-levels
returns-clause-levels c =
    let text = c.args.text.now in
    let end = c.end_of_level-end.result in
    let off = c.if-end-text.false in
    let first = c.end_of_level-end.ensures.first in
    let inside : first_slash text < length text = omega (arith, off, c.end_of_level-end.ensures.within, first) in
    let whole : end - 0 ≡ first_slash text = omega (arith, first) in
    let front : take (first_slash text) text ≡ c.range.result.now = sym (c.range.ensures.value ∙ ap (λ k. take k text) whole) in
    let back : drop (first_slash text + 1) text ≡ c.range_from.result.now = sym (c.range_from.ensures.value ∙ ap (λ k. drop (k + 1) text) first) in
    levels-cut text inside ∙ ap (λ l. l ∷ levels (drop (first_slash text + 1) text)) front ∙ ap (λ t. c.range.result.now ∷ levels t) back

pub returns-clause-last : goal.returns-clause-last
returns-clause-last c = sym (is_empty-levels c.range_from.result.now)

pub returns-then-end-text-clause-levels : goal.returns-then-end-text-clause-levels
returns-then-end-text-clause-levels c = levels-whole c.args.text.now (sym c.end_of_level-end.ensures.first ∙ c.if-end-text.true)
