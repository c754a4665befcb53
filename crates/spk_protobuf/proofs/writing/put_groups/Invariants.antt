use Rattle.std.proofs.Common.{◌≡◌, [], length, take}
use Rattle.spk_protobuf.proofs.Shortest.{Put}
use Rattle.spk_protobuf.proofs.writing.put_groups.Given as goal

-- nothing is appended yet; the bytes so far, with the groups of what is left, are the whole
abbrev pub invariant-loop-i : goal.invariant-loop-i
invariant-loop-i l = record {
  same : l.out.items ≡ l.fn.out.items;
  size : length l.groups ≡ 10;
  put : Put [] (take l.i l.groups) l.i l.rest l.number;
}
