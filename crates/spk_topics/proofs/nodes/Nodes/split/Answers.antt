use Rattle.std.proofs.Common.{◌++◌, ◌∷◌, ◌∙◌, ℕ, Ok, Err, Result, ap, sym}
use Rattle.std.specs.Prelude.{OnErr}
use Rattle.std.specs.String.{string_bytes}
use Rattle.spk_topics.specs.declared.nodes.Nodes.{Nodes}
use Rattle.spk_topics.specs.Levels.{levels}
use Rattle.spk_topics.specs.Nodes.{IsWhole, IsWholeBut, child_of, next_unused_of, rows_of, up_of}
use Rattle.spk_topics.specs.Paths.{Child}
use Rattle.spk_topics.proofs.ChangeLemmas.{keeps_more}
use Rattle.spk_topics.proofs.WholeChanges.{keeps_with, path_more, whole_at_root, whole_but}
use Rattle.spk_topics.proofs.nodes.Nodes.split.Goals as goal

either_way : {A E : Type 0} (r : Result A E) (P : Type 0) → P → OnErr r P
either_way (Ok a) P p = tt
either_way (Err e) P p = p

-- a whole tree stays whole where one but a node does
still : (old new : Nodes) → IsWhole old → ((at : ℕ) → IsWholeBut old at → IsWholeBut new at) → IsWhole new
still old new w h = whole_at_root (rows_of new) (child_of new) (up_of new) (next_unused_of new) new.unused (h 0 (whole_but (rows_of old) (child_of old) (up_of old) (next_unused_of old) old.unused 0 w))

pub returns-in_err-place-clause-err : goal.returns-in_err-place-clause-err
returns-in_err-place-clause-err c = either_way c.from_residual.result _ (still c.args.self.now c.unused_node.new.self c.requires.whole c.unused_node.ensures.whole)

pub returns-in_err-place-clause-keeps : goal.returns-in_err-place-clause-keeps
returns-in_err-place-clause-keeps c = keeps_with (rows_of c.args.self.now) (rows_of c.unused_node.new.self) c.unused_node.ensures.rows

pub returns-in_err-path-clause-err : goal.returns-in_err-path-clause-err
returns-in_err-path-clause-err c = either_way c.from_residual-in_err-path.result _ (still c.args.self.now c.unused_node.new.self c.requires.whole c.unused_node.ensures.whole)

pub returns-in_err-path-clause-keeps : goal.returns-in_err-path-clause-keeps
returns-in_err-path-clause-keeps c = keeps_with (rows_of c.args.self.now) (rows_of c.unused_node.new.self) c.unused_node.ensures.rows

pub returns-in_err-text-clause-err : goal.returns-in_err-text-clause-err
returns-in_err-text-clause-err c = either_way c.from_residual-in_err-text.result _ (still c.args.self.now c.unused_node.new.self c.requires.whole c.unused_node.ensures.whole)

pub returns-in_err-text-clause-keeps : goal.returns-in_err-text-clause-keeps
returns-in_err-text-clause-keeps c = keeps_with (rows_of c.args.self.now) (rows_of c.unused_node.new.self) c.unused_node.ensures.rows

pub set_between-requires-clause-whole : goal.set_between-requires-clause-whole
set_between-requires-clause-whole c = still c.args.self.now c.unused_node.new.self c.requires.whole c.unused_node.ensures.whole

pub set_between-requires-clause-leads : goal.set_between-requires-clause-leads
set_between-requires-clause-leads c = ap (λ (y : Child). y c.args.number c.args.level.now) c.unused_node.ensures.child ∙ c.requires.leads

pub set_between-requires-clause-inside : goal.set_between-requires-clause-inside
set_between-requires-clause-inside c =
    let old = c.args.self.now in
    let u = c.unused_node.new.self in
    let i = c.requires.inside in
    record {
      common = i.common;
      more = i.more;
      between_is = ap levels c.in_ok-path.ensures.ok ∙ i.between_is ∙ ap (λ p. p ++ c.args.level.now ∷ i.common) (sym (path_more (rows_of old) (rows_of u) c.args.number c.unused_node.ensures.rows));
      below_is = path_more (rows_of old) (rows_of u) c.args.child c.unused_node.ensures.rows ∙ i.below_is ∙ ap (λ t. levels t ++ string_bytes c.args.key ∷ i.more) (sym c.in_ok-path.ensures.ok);
    }

pub returns-clause-keeps : goal.returns-clause-keeps
returns-clause-keeps c =
    keeps_more (rows_of c.args.self.now) (rows_of c.unused_node.new.self) (rows_of c.set_between.new.self) (keeps_with (rows_of c.args.self.now) (rows_of c.unused_node.new.self) c.unused_node.ensures.rows) c.set_between.ensures.keeps
