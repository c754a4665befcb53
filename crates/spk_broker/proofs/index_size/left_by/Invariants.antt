use Rattle.std.proofs.Common.{◌≡◌, ◌+◌, map, take}
use Rattle.spk_broker.specs.Parts.{grant_view}
use Rattle.spk_broker.specs.Sizes.{size_of_grants}
use Rattle.spk_broker.proofs.index_size.left_by.Given as goal

abbrev pub invariant-loop-grant : goal.invariant-loop-grant
invariant-loop-grant l = l.rest + size_of_grants (map grant_view (take l.grant-index l.grants)) ≡ l.left
