-- What an item of a plant's host says of one edge node (Sparkplug 3.0.0, chapter 4).
use Rattle.std.specs.Prelude.{ℕ, Bool, false, List, Option, Some, if◌then◌else◌}
use Rattle.spk_reading.specs.Data as said
use Rattle.spk_reading.specs.Data.{HeardData}
use Rattle.spk_host.specs.Inputs.{is_same}
use Rattle.spk_plant_given.specs.declared.part.Part.{Part}
use Rattle.spk_plant_given.specs.declared.part.Part.TheVariants as part

-- the host reads a numbered message of the node of these names
abbrev pub is_message_of : (group name : List ℕ) → Option HeardData → Bool
is_message_of group name (Some (said.Published ack (said.Message m))) = is_same group name m.group m.node
is_message_of group name _ = false

-- what the host reads of it: a numbered message, or its NDEATH with this bdSeq
abbrev pub part_of : (group name : List ℕ) → Option HeardData → Part
part_of group name (Some (said.Published ack (said.Message m))) = if is_same group name m.group m.node then part.Message else part.Nothing
part_of group name (Some (said.Published ack (said.Death other_group other_name bd))) =
    if is_same group name other_group other_name then part.Death bd else part.Nothing
part_of group name _ = part.Nothing
