-- What an edge node was told, as the rules have it.
use Rattle.std.specs.Prelude.{List, map, reverse}
use Rattle.std.specs.Option.{option_map}
use Rattle.std.specs.String.{string_bytes}
use Rattle.spk_payload.specs.Typing.{typed_view}
use Rattle.spk_edge_rules.specs.Inputs as inputs
use Rattle.spk_plant_edge.specs.declared.told.Told.{Told}
use Rattle.spk_plant_edge.specs.declared.told.ToldAct.{ToldAct}
use Rattle.spk_plant_edge.specs.declared.told.ToldAct.TheVariants.{Open, Accepted, Change, Device, Command, State, Drain, Stop, Cut, TurnedAway, Pass}

abbrev pub told_act : ToldAct → inputs.Act
told_act Open = inputs.Open
told_act Accepted = inputs.Accepted
told_act (Change alias value) = inputs.Change alias (option_map typed_view value)
told_act (Device name up) = inputs.Turn (string_bytes name) up
told_act (Command topic payload) = inputs.Command (string_bytes topic) payload.items
told_act (State payload) = inputs.State payload.items
told_act Drain = inputs.Drain
told_act Stop = inputs.Stop
told_act Cut = inputs.Cut
told_act TurnedAway = inputs.TurnedAway
told_act Pass = inputs.Pass

abbrev pub told_view : Told → inputs.Input
told_view t = record { now = t.now; ack = t.ack; act = told_act t.act }

-- the newest first, as the rules have a list of inputs
abbrev pub newest_first : List Told → List inputs.Input
newest_first told = reverse (map told_view told)
