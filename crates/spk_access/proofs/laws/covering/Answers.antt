use Rattle.spk_access.proofs.Covered.{covers-itself, match-covered}
use Rattle.spk_access.proofs.laws.covering.Goals as goal

pub returns-clause-matches : goal.returns-clause-matches
returns-clause-matches c = match-covered

pub returns-clause-itself : goal.returns-clause-itself
returns-clause-itself c = covers-itself
