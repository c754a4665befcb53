use Rattle.std.proofs.Common.{Some, rules}
use Rattle.std.proofs.lemmas.Map.Text.{btree_map_updates_text}
use Rattle.spk_topics.proofs.node.turn_in.Goals as goal

pub returns-in-Some : goal.returns-in-Some
returns-in-Some c = λ l.
    btree_map_updates_text c.args.level.now c.args.branches.now (c.get_mut.follows.lender c.args.number) (Some c.args.number) ((c.get_mut.follows.holds c.args.number).3 (search rules)) l
