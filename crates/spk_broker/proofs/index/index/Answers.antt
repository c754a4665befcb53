use Rattle.std.proofs.Common.{sym, subst}
use Rattle.std.specs.List.{flat_map}
use Rattle.spk_topics.specs.Grants.{Grants}
use Rattle.spk_broker.specs.Filing.{AreFiled, HasNoOther}
use Rattle.spk_broker.specs.View.{session_now}
use Rattle.spk_broker.proofs.Indexing.{index-filed, index-only}
use Rattle.spk_broker.proofs.index.index.Goals as goal

pub returns-clause-index : goal.returns-clause-index
returns-clause-index c =
    let ss = flat_map session_now c.args.sessions.now in
    subst (λ (t : Grants). AreFiled t ss) (sym c.in_ok-filed.ensures) (index-filed (record { one = c.granted.ensures.one; others = c.granted.ensures.others }) ss)

pub returns-clause-only : goal.returns-clause-only
returns-clause-only c =
    let ss = flat_map session_now c.args.sessions.now in
    subst (λ (t : Grants). HasNoOther t ss) (sym c.in_ok-filed.ensures) (index-only ss)
