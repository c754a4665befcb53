use Rattle.std.proofs.Common.{subst}
use Rattle.spk_topics.specs.Grants.{Finds}
use Rattle.spk_broker.specs.Filing.{IsIndex}
use Rattle.spk_broker.proofs.Passing.{passed-all}
use Rattle.spk_broker.proofs.index.reach.Goals as goal

pub returns-in-Ok-find-clause-passed : goal.returns-in-Ok-find-clause-passed
returns-in-Ok-find-clause-passed c ss i =
    passed-all c.in-Some.tree c.args.topic.now c.in-Ok-find.found (subst (λ t. Finds c.in-Some.tree t c.in-Ok-find.found.items) c.in-Ok.ensures.0 c.in-Ok-find.ensures.ok) c.matching.ensures ss
    (subst (λ t. IsIndex t ss) c.in-Some.is i)
