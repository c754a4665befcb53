use Rattle.spk_topics.specs.Nodes.{rows_of, child_of, next_unused_of, up_of}
use Rattle.spk_topics.proofs.WholeChanges.{whole_but}
use Rattle.spk_topics.proofs.tree.place_for.Goals as goal

pub returns-in-Some-clause-whole : goal.returns-in-Some-clause-whole
returns-in-Some-clause-whole c =
    let n = c.args.nodes.now in
    whole_but (rows_of n) (child_of n) (up_of n) (next_unused_of n) n.unused c.in-Some.place c.requires
