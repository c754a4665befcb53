use Rattle.std.proofs.Common.{◌≡◌, ◌++◌, ◌∙◌, List, ℕ, Option, Bor, Some, None, false, true, ap, inr, sym}
use Rattle.std.specs.Prelude.{is_some}
use Rattle.std.specs.Option.{option_map}
use Rattle.spk_topics.specs.Levels.{is_empty, levels_left}
use Rattle.spk_topics.specs.Nodes.{child_of, rows_of}
use Rattle.spk_topics.specs.Paths.{Child, path}
use Rattle.spk_topics.proofs.LevelLemmas.{is_empty-levels}
use Rattle.spk_topics.proofs.PathLemmas.{one, parted_stops, same_first}
use Rattle.spk_topics.proofs.nodes.Nodes.follow.Goals as goal

something : (o : Option (Bor (List ℕ))) → is_some o ≡ true → is_empty (levels_left (option_map (λ t. t.now) o)) ≡ false
something None h = cc
something (Some t) h = is_empty-levels t.now

same_child : (child : Child) (n : ℕ) (a b : List ℕ) (x y : ℕ) → a ≡ b → child n a ≡ Some x → child n b ≡ Some y → x ≡ y
same_child child n a b x y same e f = one x y (sym e ∙ ap (child n) same ∙ f)

pub returns-clause-on : goal.returns-clause-on
returns-clause-on c = inr ((c.args.number, c.cut.result.0.now), c.requires.above c.args.number c.cut.result.0.now c.in_ok-child.child (sym c.in_ok-child.ensures))

pub returns-then-is_some-clause-stops : goal.returns-then-is_some-clause-stops
returns-then-is_some-clause-stops c = λ level rest more m e edge h.
    let rows = rows_of c.args.self.now in
    let own_all = levels_left (option_map (λ t. t.now) c.left_of.result) in
    let text_rest = levels_left (option_map (λ t. t.now) c.cut.result.1) in
    let first : level ≡ c.cut.result.0.now = same_first level c.cut.result.0.now rest text_rest (sym e ∙ c.cut.ensures.levels) in
    let at : m ≡ c.in_ok-child.child = same_child (child_of c.args.self.now) c.args.number level c.cut.result.0.now m c.in_ok-child.child first edge (sym c.in_ok-child.ensures) in
    parted_stops (path rows c.args.number) c.cut.result.0.now own_all text_rest (levels_left (option_map (λ t. t.now) c.part.result.0)) (levels_left (option_map (λ t. t.now) c.part.result.1)) more c.part.ensures.parted
    (something c.part.result.0 (sym c.is_some.ensures ∙ c.if-is_some.true))
    (ap (λ p. p ++ more) (sym c.left_of.ensures) ∙ ap (λ x. path rows x ++ more) (sym at) ∙ h ∙ ap (λ ls. path rows c.args.number ++ ls) c.cut.ensures.levels)
