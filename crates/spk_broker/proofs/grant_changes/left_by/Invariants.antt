use Rattle.std.proofs.Common.{◌≡◌, not, is_some, map, take}
use Rattle.std.specs.List.{filter}
use Rattle.spk_broker.specs.Parts.{grant_view}
use Rattle.spk_broker.specs.Tables.{found}
use Rattle.spk_broker.proofs.grant_changes.left_by.Given as goal

abbrev pub invariant-loop-grant : goal.invariant-loop-grant
invariant-loop-grant l = map grant_view l.left.items ≡ filter (λ g. not (is_some (found l.taken g.0))) (map grant_view (take l.grant-index l.grants))
