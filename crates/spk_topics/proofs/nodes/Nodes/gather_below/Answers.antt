use Rattle.std.proofs.Common.{subst}
use Rattle.std.specs.Prelude.{OnOk}
use Rattle.std.specs.Ordering.{nat_cmp}
use Rattle.std.specs.BTreeMap.{get}
use Rattle.spk_topics.specs.Nodes.{rows_of}
use Rattle.spk_topics.specs.Walk.{Taken}
use Rattle.spk_topics.proofs.nodes.Nodes.gather_below.Goals as goal

pub returns-in-Some-clause-taken : goal.returns-in-Some-clause-taken
returns-in-Some-clause-taken c =
    subst (λ o. OnOk c.gather_at.result (Taken (rows_of c.args.self.now) c.args.topic.now (get nat_cmp c.gather_at.new.found) o)) c.in-Some.ensures c.gather_at.ensures.taken
