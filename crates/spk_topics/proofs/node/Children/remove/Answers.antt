use Rattle.std.proofs.Common.{None, ◌∙◌, ap, sym, cond}
use Rattle.std.specs.Str.{bytes_eq}
use Rattle.std.proofs.lemmas.Map.Text.{btree_map_updates_text}
use Rattle.spk_topics.specs.Nodes.{ways_of}
use Rattle.spk_topics.proofs.node.Children.remove.Goals as goal

pub returns-in-Many : goal.returns-in-Many
returns-in-Many c = λ l.
    btree_map_updates_text c.args.level.now c.in-Many.branches c.remove.new.self None c.remove.ensures.updates l
    ∙ ap (λ k. cond (bytes_eq c.args.level.now l) None (ways_of k l)) (sym c.in-Many.is)
