-- What the items of the host's ring say to the host, newest first, and which calls that makes.
use Rattle.std.specs.Prelude.{◌≡◌, ℕ, ◌+◌, ◌==◌, true, List, [], ◌∷◌, ◌++◌, length, map, reverse, Option, Some, None, if◌then◌else◌}
use Rattle.std.specs.Option.{option_map}
use Rattle.spk_rings.specs.declared.item.Item.{Item}
use Rattle.spk_reading.specs.Data as said
use Rattle.spk_reading.specs.Data.{HeardData, NumberedData}
use Rattle.spk_reading.specs.Meaning.{IsReadFault, Says}
use Rattle.spk_reading.specs.View.{heard_view, numbered_view}
use Rattle.spk_reading.specs.declared.fault.ReadFault.{ReadFault}
use Rattle.spk_host_session.specs.Data.{Config}
use Rattle.spk_host.specs.Inputs.{Call, Heard, Ticked, Connected, host_after, is_same}
use Rattle.spk_plant_host.specs.Calls.{answer_at, done}
use Rattle.spk_plant_host.specs.declared.ends.Given.{Given}

-- What an item says is what its bytes say to a host; nothing, where a host refuses them.
abbrev pub IsToldBy : Item → Option HeardData → Type 0
IsToldBy item (Some heard) = Says item.bytes heard
IsToldBy item None = (fault : ReadFault) × IsReadFault item.bytes fault

-- one by one
abbrev pub AreToldBy : List Item → List (Option HeardData) → Type 0
AreToldBy [] [] = Unit {0}
AreToldBy (item ∷ items) (told ∷ later) = IsToldBy item told × AreToldBy items later
AreToldBy _ _ = ⊥

-- ---- what is kept of items

abbrev pub heard_in : Given → Option HeardData
heard_in g = option_map heard_view g.heard

abbrev pub consumed_in : Given → List NumberedData
consumed_in g = map numbered_view g.consumed.items

-- newest first
abbrev pub told_in : List Given → List (Option HeardData)
told_in gs = reverse (map heard_in gs)

abbrev pub consumed_by : List Given → List (List NumberedData)
consumed_by gs = reverse (map consumed_in gs)

-- ---- the calls

-- The host is asked to begin a session at moment 0. Of each item it is asked to hear what the item says, and then that a moment
-- passed: the moment is the number of items so far.
abbrev pub asked : List (Option HeardData) → List Call
asked [] = Connected 0 ∷ []
asked (Some heard ∷ before) = Ticked (length before + 1) ∷ Heard heard (length before + 1) ∷ asked before
asked (None ∷ before) = Ticked (length before + 1) ∷ asked before

-- those that it does
abbrev pub calls_of : Config → List (Option HeardData) → List Call
calls_of config told = done config (asked told)

-- what the host consumes at an item, after those before it
abbrev pub consumed_at : Config → List (Option HeardData) → Option HeardData → List NumberedData
consumed_at config before (Some heard) = (answer_at (host_after config (calls_of config before)) (Heard heard (length before + 1))).consumed
consumed_at config before None = []

-- at each of them, newest first
abbrev pub consumptions : Config → List (Option HeardData) → List (List NumberedData)
consumptions config [] = []
consumptions config (told ∷ before) = consumed_at config before told ∷ consumptions config before

-- ---- of one node

-- a numbered message of the node of these names at the time it is handed: what the host consumes then is that node's
abbrev pub of_node : (group name : List ℕ) → Option HeardData → List NumberedData → List NumberedData
of_node group name (Some (said.Published ack (said.Message m))) consumed = if is_same group name m.group m.node then consumed else []
of_node group name _ consumed = []

-- all that the host consumes of the node, oldest first
abbrev pub consumed_of : Config → (group name : List ℕ) → List (Option HeardData) → List NumberedData
consumed_of config group name [] = []
consumed_of config group name (told ∷ before) =
    consumed_of config group name before ++ of_node group name told (consumed_at config before told)

-- what the host consumed of the node at an item that was kept
abbrev pub consumed_for : (group name : List ℕ) → Given → List NumberedData
consumed_for group name g = of_node group name (heard_in g) (consumed_in g)

-- no CONNACK turns the host away: each of them has code 0
abbrev pub IsWelcome : Option HeardData → Type 0
IsWelcome (Some (said.Answered code)) = (code == 0) ≡ true
IsWelcome _ = Unit {0}

abbrev pub AreWelcome : List (Option HeardData) → Type 0
AreWelcome [] = Unit {0}
AreWelcome (told ∷ before) = IsWelcome told × AreWelcome before
