use Rattle.std.proofs.Common.{◌≡◌, ℕ, List, cond, map, take, Some, None}
use Rattle.spk_broker_rules.specs.Table.{has}
use Rattle.spk_broker.specs.Parts.{grant_view}
use Rattle.spk_broker.specs.Tables.{found}
use Rattle.spk_broker.proofs.filters.granted_filters.Given as goal

abbrev pub invariant-loop-grant : goal.invariant-loop-grant
invariant-loop-grant l = (q : List ℕ) → found l.table q ≡ cond (has q (map grant_view (take l.grant-index l.grants))) (Some None) None
