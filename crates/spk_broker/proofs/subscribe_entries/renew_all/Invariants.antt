use Rattle.std.proofs.Common.{◌≡◌, ◌++◌, map, take, drop}
use Rattle.spk_broker.specs.Tables.{found, renewed}
use Rattle.spk_broker.proofs.subscribe_entries.renew_all.Given as goal

abbrev pub invariant-loop-grant : goal.invariant-loop-grant
invariant-loop-grant l = l.grants ≡ map (renewed (found l.standing)) (take l.grant-index l.initial.grants) ++ drop l.grant-index l.initial.grants
