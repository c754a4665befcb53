-- What is asked of a world.
use Rattle.std.specs.Prelude.{ℕ, List, slice_get, Option, option_and_then}
use Rattle.std.specs.Option.{option_map}
use Rattle.spk_host.specs.Data.{HostData}
use Rattle.spk_world_run.specs.Data.{ConsumedData, PublishedData, HostPart, WorldData}

-- what a host consumed of a node in its present session
abbrev pub consumed_in : ℕ → HostPart → Option (List ConsumedData)
consumed_in n m = option_map (λ t. t.consumed) (slice_get m.tracks n)

abbrev pub consumed_at : WorldData → ℕ → ℕ → Option (List ConsumedData)
consumed_at d h n = option_and_then (consumed_in n) (slice_get d.hosts h)

-- what a node published
abbrev pub published_at : WorldData → ℕ → Option (List PublishedData)
published_at d n = option_map (λ part. part.published) (slice_get d.nodes n)

abbrev pub host_at : WorldData → ℕ → Option HostData
host_at d h = option_map (λ m. m.host) (slice_get d.hosts h)
