-- What a world is made of.
use Rattle.std.specs.Prelude.{◌≡◌, ◌⊎◌, ℕ, Bool, false, List, map}
use Rattle.std.specs.List.{list_all}
use Rattle.spk_device.specs.Book.{Book}
use Rattle.spk_device.specs.Lawful.{IsLawful}
use Rattle.spk_edge.specs.Patch as edge
use Rattle.spk_edge.specs.View as edge_view
use Rattle.spk_edge.specs.declared.config.EdgeConfig.{EdgeConfig}
use Rattle.spk_host_session.specs.Data as session
use Rattle.spk_host_session.specs.View as host_view
use Rattle.spk_host_session.specs.declared.config.HostConfig.{HostConfig}
use Rattle.spk_world_rules.specs.Events.{HasWidth}
use Rattle.spk_world_run.specs.Data.{HostPart, NodePart}
use Rattle.spk_world_run.specs.Fresh.{host_of}
use Rattle.spk_world.specs.Fresh.{are_apart, fresh_host, fresh_part}

abbrev pub fresh_node : EdgeConfig × Book → NodePart
fresh_node p = fresh_part (edge_view.config_view p.0) p.0.capacity p.1

abbrev pub fresh_member : ℕ → HostConfig → HostPart
fresh_member nodes c = fresh_host nodes (host_view.config_view c)

-- a node and a host that their crates take
abbrev pub is_good_setup : EdgeConfig × Book → Bool
is_good_setup p = edge.is_good (edge_view.config_view p.0) p.0.capacity

abbrev pub is_good_host : HostConfig → Bool
is_good_host c = session.is_good (host_view.config_view c)

abbrev pub HasLawful : EdgeConfig × Book → Type 0
HasLawful p = IsLawful p.1

-- its window has 1 to 96 places
abbrev pub HasWide : HostConfig → Type 0
HasWide c = HasWidth (host_of (host_view.config_view c))

-- one isn't taken, or two have one group and one name
abbrev pub AreBadNodes : List (EdgeConfig × Book) → Type 0
AreBadNodes setups = (list_all is_good_setup setups ≡ false) ⊎ (are_apart (map fresh_node setups) ≡ false)
