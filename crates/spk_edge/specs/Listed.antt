-- The births of devices, one after the other.
use Rattle.std.specs.Prelude.{ℕ, List, [], ◌∷◌, map, filter, Option, Some, None, if◌then◌else◌}
use Rattle.std.specs.List.{enumerate_from}
use Rattle.spk_device.specs.Book.{Book, DeviceData}
use Rattle.spk_edge_rules.specs.Births.{device_birth}
use Rattle.spk_edge_rules.specs.Config.{Config}
use Rattle.spk_edge.specs.View.{MessageData, unnumbered}

abbrev pub device_message : Config → Book → ℕ → ℕ × DeviceData → MessageData
device_message c b stamp e = unnumbered c (device_birth b stamp e)

-- the birth of a device that is up, by its place
abbrev pub birth_if_up : Config → Book → ℕ → ℕ → Option DeviceData → List MessageData
birth_if_up c b stamp n None = []
birth_if_up c b stamp n (Some d) = if d.up then device_message c b stamp (n, d) ∷ [] else []

-- the births of devices that count from n
abbrev pub births_from : Config → Book → ℕ → ℕ → List DeviceData → List MessageData
births_from c b stamp n devices = map (device_message c b stamp) (filter (λ e. e.1.up) (enumerate_from n devices))
