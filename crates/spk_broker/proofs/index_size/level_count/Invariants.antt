use Rattle.std.proofs.Common.{◌≡◌, ◌≤◌, count_by, take}
use Rattle.spk_broker.proofs.Sizes.{is_slash}
use Rattle.spk_broker.proofs.index_size.level_count.Given as goal

abbrev pub invariant-loop-byte : goal.invariant-loop-byte
invariant-loop-byte l = (l.slashes ≡ count_by is_slash (take l.byte-index l.filter)) × (l.slashes ≤ l.byte-index)
