-- What contracts see of the crate's types.
use Rattle.std.specs.String.{string_bytes}
use Rattle.spk_host_session.specs.Data.{Config}
use Rattle.spk_host_session.specs.declared.config.HostConfig.{HostConfig}

abbrev pub config_view : HostConfig → Config
config_view c = record { name = string_bytes c.name; group = string_bytes c.group; wait = c.wait; keep = c.keep; width = c.width }
