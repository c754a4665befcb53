use Rattle.std.proofs.Common.{◌≡◌, ◌+◌, ◌++◌, ◌≤◌, map, length}
use Rattle.std.specs.Prelude.{vec_len, vec_capacity}
use Rattle.std.specs.List.{list_all}
use Rattle.spk_world.specs.Setups.{fresh_member, is_good_host}
use Rattle.spk_world.proofs.making.hosts_of.Given as goal

-- what is there and the rest is all; what is there is good; and there is room for the rest
abbrev pub invariant-loop-config : goal.invariant-loop-config
invariant-loop-config l = record {
  made : l.hosts.items ++ map (fresh_member l.nodes) l.config-iterator.rest.items ≡ map (fresh_member l.nodes) l.fn.configs.items;
  good : list_all is_good_host l.fn.configs.items ≡ list_all is_good_host l.config-iterator.rest.items;
  room : vec_len l.hosts + length l.config-iterator.rest.items ≤ vec_capacity l.hosts;
}
