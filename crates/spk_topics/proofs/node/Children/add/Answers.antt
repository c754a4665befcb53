use Rattle.std.proofs.Common.{◌∙◌, List, ℕ, Some, ap, cond, sym}
use Rattle.std.specs.Str.{bytes_eq}
use Rattle.std.specs.String.{string_bytes}
use Rattle.std.specs.BTreeMap.{get_by_text}
use Rattle.std.proofs.lemmas.Map.Text.{btree_map_updates_text}
use Rattle.spk_topics.specs.Nodes.{ways_of}
use Rattle.spk_topics.proofs.node.Children.add.Goals as goal

pub returns-in_ok-insert-in-Many-clause-ok : goal.returns-in_ok-insert-in-Many-clause-ok
returns-in_ok-insert-in-Many-clause-ok c = λ l.
    btree_map_updates_text (string_bytes c.in_ok-text.text) c.in-Many.branches c.insert.new.self (Some c.args.number) c.in_ok-insert-in-Many.ensures.updates l
    ∙ ap (λ (bs : List ℕ). cond (bytes_eq bs l) (Some c.args.number) (get_by_text c.in-Many.branches l)) c.in_ok-text.ensures.ok
    ∙ ap (λ k. cond (bytes_eq c.args.level.now l) (Some c.args.number) (ways_of k l)) (sym c.in-Many.is)
