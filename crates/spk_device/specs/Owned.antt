-- An owner's metrics, one at a time.
use Rattle.std.specs.Prelude.{ℕ, ◌+◌, slice_get, Option}
use Rattle.std.specs.Option.{option_map}
use Rattle.spk_device.specs.declared.owner.Owner.{Owner}
use Rattle.spk_device.specs.Book.{Book, GaugeData, owned}

-- a metric at its place among all, with its alias
abbrev pub with_alias : ℕ × GaugeData → ℕ × GaugeData
with_alias e = (e.0 + 1, e.1)

-- an owner's metric by its place among the owner's
abbrev pub owned_at : Book → Owner → ℕ → Option (ℕ × GaugeData)
owned_at b owner place = option_map with_alias (slice_get (owned owner b.gauges) place)
