use Rattle.spk_access.specs.Covering.{covers}
use Rattle.spk_access.proofs.Covered.{match-covered}
use Rattle.spk_access.proofs.Lists.{found}
use Rattle.spk_access.proofs.laws.subscribing.Goals as goal

pub returns : goal.returns
returns c r filters filter topic is may matches =
    let (own, among, covered) = found (λ f. covers f filter) filters (rw is at may) in
    (own, among, match-covered own filter topic covered matches)
