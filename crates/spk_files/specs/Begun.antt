-- What a world's file gives.
use Rattle.std.specs.Prelude.{List, [], ◌≤◌, length}
use Rattle.spk_device.specs.Book.{Book}
use Rattle.spk_edge.specs.declared.config.EdgeConfig.{EdgeConfig}
use Rattle.spk_host_session.specs.declared.config.HostConfig.{HostConfig}
use Rattle.spk_world_run.specs.Data.{WorldData}
use Rattle.spk_world_run.specs.Run.{IsRun}
use Rattle.spk_world.specs.Listed.{world_of}

-- A world of some nodes, at most 16, and of some hosts, at most 4 (own limits), in which nothing was done.
pub record IsBegun (d : WorldData) : Type 0 where
  pub nodes : List (EdgeConfig × Book)
  pub hosts : List HostConfig
  pub begins : IsRun (world_of nodes hosts) [] d
  pub few_nodes : length nodes ≤ 16
  pub few_hosts : length hosts ≤ 4
