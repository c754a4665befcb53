use Rattle.std.proofs.Common.{◌≡◌, ◌++◌}
use Rattle.std.specs.List.{range_with_len}
use Rattle.spk_plant_given.proofs.book.add_run.Given as goal

-- so many behind those that were there
abbrev pub invariant-loop-more : goal.invariant-loop-more
invariant-loop-more l = l.positions.items ≡ l.initial.positions.items ++ range_with_len l.first l.more
