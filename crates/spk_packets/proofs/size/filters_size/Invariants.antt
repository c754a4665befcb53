use Rattle.std.proofs.Common.{◌≡◌, ◌-◌, ◌^◌, min, length, map, take, string_bytes}
use Rattle.std.specs.List.{flat_map}
use Rattle.spk_packets.specs.Spelling.{counted}
use Rattle.spk_packets.proofs.size.filters_size.Given as goal

abbrev pub invariant-loop-filter : goal.invariant-loop-filter
invariant-loop-filter l = l.sum ≡ min (length (flat_map counted (map (λ filter. string_bytes filter) (take l.filter-index l.filters)))) (2 ^ 64 - 1)
