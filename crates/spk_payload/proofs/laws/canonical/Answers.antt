use Rattle.spk_payload.proofs.Canonical.{canonical_means, canonical_only}
use Rattle.spk_payload.proofs.laws.canonical.Goals as goal

pub returns-clause-means : goal.returns-clause-means
returns-clause-means c = λ p h. canonical_means p h

pub returns-clause-only : goal.returns-clause-only
returns-clause-only c = λ p q h k. canonical_only p q h k
