use Rattle.std.proofs.Common.{◌≡◌, map, take}
use Rattle.spk_broker.specs.Parts.{grant_view}
use Rattle.spk_broker.proofs.grant_changes.copied.Given as goal

abbrev pub invariant-loop-grant : goal.invariant-loop-grant
invariant-loop-grant l = map grant_view l.same.items ≡ map grant_view (take l.grant-index l.grants)
