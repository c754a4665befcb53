use Rattle.std.proofs.Common.{◌≡◌, map, take}
use Rattle.spk_packets.specs.View.{request_view}
use Rattle.spk_access.specs.Rights.{rights_view}
use Rattle.spk_door.specs.Rules.{allowed}
use Rattle.spk_door.proofs.door.allowed.Given as goal

abbrev pub invariant-loop-entry : goal.invariant-loop-entry
invariant-loop-entry l = l.each.items ≡ allowed (rights_view l.rights) (map request_view (take l.entry-index l.entries))
