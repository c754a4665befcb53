use Rattle.std.proofs.Common.{◌≡◌, ◌++◌, map, take}
use Rattle.std.specs.List.{flat_map}
use Rattle.spk_packets.specs.Spelling.{request}
use Rattle.spk_packets.specs.View.{request_view}
use Rattle.spk_packets.proofs.write.put_requests.Given as goal

abbrev pub invariant-loop-entry : goal.invariant-loop-entry
invariant-loop-entry l = l.out.items ≡ l.fn.out.items ++ flat_map request (map request_view (take l.entry-index l.requests))
