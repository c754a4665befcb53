use Rattle.std.proofs.Common.{ℕ, ◌<◌, get_or}
use Rattle.spk_broker.specs.Both.{Both}
use Rattle.spk_broker.specs.Filing.{IsAlike}
use Rattle.spk_broker.proofs.index_update.is_any_turned.Given as goal

abbrev pub invariant-loop-place : goal.invariant-loop-place
invariant-loop-place l = (k : ℕ) (d : Both) → k < l.place-index → IsAlike (get_or l.sessions (get_or l.places k 0) d)
