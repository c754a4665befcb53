use Rattle.std.proofs.Common.{length, ◌≡◌, true}
use Rattle.std.specs.List.{list_all}
use Rattle.spk_files.specs.Users.{is_filter}
use Rattle.spk_files.proofs.users.filters_of.Given as goal

-- one for each number, each a topic filter
abbrev pub invariant-loop-index : goal.invariant-loop-index
invariant-loop-index l = record {
  sized : length l.filters.items ≡ l.index;
  all : list_all is_filter l.filters.items ≡ true;
}
