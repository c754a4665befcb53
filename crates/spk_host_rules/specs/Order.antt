-- The devices that a host names, by the messages alone, newest first.
use Rattle.std.specs.Prelude.{ℕ, List, [], ◌∷◌, Some, is_some, if◌then◌else◌}
use Rattle.spk_host_rules.specs.Births.{and_name}
use Rattle.spk_host_rules.specs.Data.{Message, DeviceBirth}
use Rattle.spk_host_rules.specs.Values.{last_part}

-- those with a DBIRTH after a first NBIRTH, each once, in the order of their first ones
abbrev pub device_names : List Message → List (List ℕ)
device_names [] = []
device_names (DeviceBirth name ms ∷ before) =
    if is_some (last_part before) then and_name (Some name) (device_names before) else device_names before
device_names (_ ∷ before) = device_names before
