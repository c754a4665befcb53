use Rattle.std.proofs.Common.{◌≡◌, ◌-◌, ◌^◌, min, length, map, take}
use Rattle.std.specs.List.{flat_map}
use Rattle.spk_packets.specs.Spelling.{request}
use Rattle.spk_packets.specs.View.{request_view}
use Rattle.spk_packets.proofs.size.requests_size.Given as goal

abbrev pub invariant-loop-entry : goal.invariant-loop-entry
invariant-loop-entry l = l.sum ≡ min (length (flat_map request (map request_view (take l.entry-index l.requests)))) (2 ^ 64 - 1)
