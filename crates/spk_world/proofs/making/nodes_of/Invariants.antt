use Rattle.std.proofs.Common.{◌≡◌, ◌+◌, ◌++◌, ◌≤◌, map, length, true}
use Rattle.std.specs.Prelude.{vec_len, vec_capacity}
use Rattle.std.specs.List.{AllByRecursion, list_all}
use Rattle.spk_world.specs.Fresh.{are_apart}
use Rattle.spk_world.specs.Setups.{HasLawful, fresh_node, is_good_setup}
use Rattle.spk_world.proofs.making.nodes_of.Given as goal

-- what is there and the rest is all; what is there is good, apart and lawful; and there is room for the rest
abbrev pub invariant-loop-config : goal.invariant-loop-config
invariant-loop-config l = record {
  made : l.nodes.items ++ map fresh_node l.config-iterator.rest.items ≡ map fresh_node l.fn.setups.items;
  good : list_all is_good_setup l.fn.setups.items ≡ list_all is_good_setup l.config-iterator.rest.items;
  apart : are_apart l.nodes.items ≡ true;
  lawful : AllByRecursion HasLawful l.config-iterator.rest.items → AllByRecursion HasLawful l.fn.setups.items;
  room : vec_len l.nodes + length l.config-iterator.rest.items ≤ vec_capacity l.nodes;
}
