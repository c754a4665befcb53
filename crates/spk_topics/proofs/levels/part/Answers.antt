use Rattle.std.proofs.Common.{◌≡◌, ◌<◌, ◌≤◌, ◌++◌, ◌∷◌, ◌∙◌, [], List, ℕ, Option, Bor, Some, None, ap, arith, length, sym, append_assoc}
use Rattle.std.specs.Prelude.{IfSome}
use Rattle.std.specs.Option.{option_map}
use Rattle.spk_topics.specs.Levels.{left_size, levels, levels_left}
use Rattle.spk_topics.proofs.BoolLemmas.{not_false}
use Rattle.spk_topics.proofs.FitLemmas.{bytes_same}
use Rattle.spk_topics.proofs.levels.part.Goals as goal

-- one level of both is cut off
one_less : (all common : List (List ℕ)) (left : Option (Bor (List ℕ))) (text : Bor (List ℕ)) (level : List ℕ) (rest : List (List ℕ)) → all ≡ common ++ levels_left (option_map (λ t. t.now) left) → left ≡ Some text → levels text.now ≡ level ∷ rest → all ≡ (common ++ level ∷ []) ++ rest
one_less all common left text level rest e is cut =
    e ∙ ap (λ o. common ++ levels_left (option_map (λ t. t.now) o)) is ∙ ap (λ ls. common ++ ls) cut ∙ sym (append_assoc common (level ∷ []) rest)

smaller : (o left : Option (Bor (List ℕ))) (text : Bor (List ℕ)) → IfSome o (λ r. length r.now < length text.now) → left ≡ Some text → left_size (option_map (λ t. t.now) o) ≤ left_size (option_map (λ t. t.now) left)
smaller None left text h is = omega arith
smaller (Some r) left text h is = omega (arith, h, ap (λ p. left_size (option_map (λ t. t.now) p)) is)

pub loop-one-preserved : goal.loop-one-preserved
loop-one-preserved c =
    let common = c.loop-one.invariant.common in
    let level = c.cut.result.0.now in
    let rest = levels_left (option_map (λ t. t.now) c.cut-in-Some.result.1) in
    let same : level ≡ c.cut-in-Some.result.0.now = bytes_same level c.cut-in-Some.result.0.now (not_false _ (sym c.ne.ensures ∙ c.if-ne.false)) in
    let less = smaller c.cut-in-Some.result.1 c.loop-one.other c.in-Some-other.beside c.cut-in-Some.ensures.shorter c.in-Some-other.is in
    record {
      common = common ++ level ∷ [];
      one_is = one_less (levels_left (option_map (λ t. t.now) c.args.one)) common c.loop-one.one c.in-Some.text level (levels_left (option_map (λ t. t.now) c.cut.result.1)) c.loop-one.invariant.one_is c.in-Some.is c.cut.ensures.levels;
      other_is =
          one_less (levels_left (option_map (λ t. t.now) c.args.other)) common c.loop-one.other c.in-Some-other.beside level rest c.loop-one.invariant.other_is c.in-Some-other.is
          (c.cut-in-Some.ensures.levels ∙ ap (λ l. l ∷ rest) (sym same));
      no_longer = omega (arith, less, c.loop-one.invariant.no_longer);
    }
