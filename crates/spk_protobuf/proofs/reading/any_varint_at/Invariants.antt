use Rattle.std.proofs.Common.{◌≡◌, ◌-◌}
use Rattle.spk_protobuf.specs.Reading.{groups_at, varint_at}
use Rattle.spk_protobuf.proofs.Loops.{with_low}
use Rattle.spk_protobuf.proofs.reading.any_varint_at.Given as goal

-- what was read, with the groups that are still to come, is the whole
abbrev pub invariant-loop : goal.invariant-loop
invariant-loop l = with_low l.value l.weight (groups_at (10 - l.counter) l.rest) ≡ varint_at l.bytes
