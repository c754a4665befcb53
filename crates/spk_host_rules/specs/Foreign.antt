-- What a message names that the births didn't give, by the messages alone.
use Rattle.std.specs.Prelude.{Bool, true, false, List, [], Option, Some, None}
use Rattle.spk_payload.specs.Meaning.{MetricData}
use Rattle.spk_host_rules.specs.Data.{Message, NodeBirth, NodeData, DeviceBirth, DeviceData, DeviceDeath}
use Rattle.spk_host_rules.specs.Table.{table_of, is_lacking}
use Rattle.spk_host_rules.specs.Values.{Part, device_birth}

-- of an owner whose birth, if it was born, had these metrics: without a birth all of it, or else an alias that the birth lacks
abbrev pub is_foreign_to : Option (List MetricData) → List MetricData → Bool
is_foreign_to None ms = true
is_foreign_to (Some birth) ms = is_lacking (table_of birth) ms

-- behind an NBIRTH: of the node what its birth lacks, of a device what its birth lacks, or all where it had none
abbrev pub is_foreign_in : Part → Message → Bool
is_foreign_in part (NodeBirth ms) = false
is_foreign_in part (NodeData ms) = is_lacking (table_of part.birth) ms
is_foreign_in part (DeviceBirth name ms) = false
is_foreign_in part (DeviceData name ms) = is_foreign_to (device_birth name part.since) ms
is_foreign_in part (DeviceDeath name) = is_foreign_to (device_birth name part.since) []

-- before the first birth no alias and no device is known
abbrev pub is_foreign : Option Part → Message → Bool
is_foreign None (NodeBirth ms) = false
is_foreign None (NodeData ms) = is_lacking [] ms
is_foreign None (DeviceBirth name ms) = false
is_foreign None (DeviceData name ms) = true
is_foreign None (DeviceDeath name) = true
is_foreign (Some part) m = is_foreign_in part m
