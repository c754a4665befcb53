-- Single definitions, each at the cases that tell it from a near one.
use Rattle.std.proofs.Common.{◌≡◌, ℕ, ◌-◌, ◌^◌, Bool, true, false, List, [], ◌∷◌, map, Option, Some, None, Ok, Err, refl, pos, codes}
use Rattle.spk_packets.specs.Message as packets
use Rattle.spk_payload.specs.Meaning.{Content, Int, Flag, Float, Double, MetricData}
use Rattle.spk_payload.specs.Typing.{Signed, Truth, Binary32, Binary64}
use Rattle.spk_payload.specs.declared.values.Values.TheVariants as choice
use Rattle.spk_device.specs.Book.{Book, GaugeData}
use Rattle.spk_device.specs.declared.fault.Refusal.TheVariants.{NoSuch}
use Rattle.spk_device.specs.declared.owner.Owner.TheVariants.{Node, Device}
use Rattle.spk_sequence.specs.NodeRecord.{RunsOn}
use Rattle.spk_state.specs.declared.primary.Heard.TheVariants.{Online, Offline, Ignored}
use Rattle.spk_store.specs.Calls.{Push}
use Rattle.spk_topics.specs.Spark.Named.{of_node, of_device, of_state}
use Rattle.spk_topics.specs.declared.spark.Verb.TheVariants as verb
use Rattle.spk_edge_rules.specs.declared.fault.EdgeFault.TheVariants as fault
use Rattle.spk_edge_rules.specs.declared.phase.Phase.{Phase}
use Rattle.spk_edge_rules.specs.declared.phase.Phase.TheVariants.{Idle, Connecting, Waiting, Born}
use Rattle.spk_edge_rules.specs.Arriving.{input_of}
use Rattle.spk_edge_rules.specs.Births.{birth_stamp, births_at, data_metric, later_stamp}
use Rattle.spk_edge_rules.specs.Commands.{Rebirth, ToDevice, ToNode, Writing, alias_in, content_in, is_control, order_of, orders_of, owned_gauge, target_in, target_owner, wants_rebirth, writes_in}
use Rattle.spk_edge_rules.specs.Config.{Config}
use Rattle.spk_edge_rules.specs.Inputs.{Act, Input, Open, Accepted, Change, Changes, Turn, Command, State, Drain, Stop, Cut, TurnedAway, Pass, WriteData}
use Rattle.spk_edge_rules.specs.Rules.{Asked, changing, fits, hearing, leaving, nothing, obeying, others_in, refused_first, rules, stating, telling, turned_away, turning}

abbrev at_moment : ℕ → Act → Input
at_moment now act = record { now = now; ack = None; act = act }

-- the node N of the group G, alone, and with the primary host H
abbrev alone : Config
alone = record { group = codes "G"; node = codes "N"; primary = None; keep = 60; numbering = RunsOn }

abbrev hosted : Config
hosted = record alone { primary = Some (codes "H") }

-- a metric `t` of the node, an Int32 with the value 7, and a metric `u` of a device `D` that is down, a Boolean without a value
abbrev gauge_u : GaugeData
gauge_u = record { owner = Device 0; name = codes "u"; datatype = 11; value = None }

abbrev small : Book
small = record {
  devices = (record { name = codes "D"; up = false }) ∷ [];
  gauges = (record { owner = Node; name = codes "t"; datatype = 3; value = Some (Signed (pos 7)) }) ∷ gauge_u ∷ [];
  values = choice.Whole;
}

abbrev d_up : Book
d_up = record small { devices = (record { name = codes "D"; up = true }) ∷ [] }

-- ---- phases: Idle, Connecting, Waiting, Born

abbrev taken : Act → List Bool
taken act = map (λ p. fits p act) (Idle ∷ Connecting ∷ Waiting ∷ Born ∷ [])

pub phases : (taken Open ≡ true ∷ false ∷ false ∷ false ∷ []) × (taken Accepted ≡ false ∷ true ∷ false ∷ false ∷ [])
    × (taken (Change 1 None) ≡ true ∷ true ∷ true ∷ true ∷ []) × (taken (Changes []) ≡ false ∷ false ∷ false ∷ true ∷ []) × (taken (Turn [] true) ≡ true ∷ true ∷ true ∷ true ∷ [])
    × (taken (Command [] []) ≡ false ∷ false ∷ true ∷ true ∷ []) × (taken (State []) ≡ false ∷ false ∷ true ∷ true ∷ [])
    × (taken Drain ≡ false ∷ false ∷ false ∷ true ∷ []) × (taken Stop ≡ false ∷ false ∷ true ∷ true ∷ [])
    × (taken Cut ≡ true ∷ true ∷ true ∷ true ∷ []) × (taken TurnedAway ≡ true ∷ true ∷ true ∷ true ∷ []) × (taken Pass ≡ true ∷ true ∷ true ∷ true ∷ [])
phases = (refl, refl, refl, refl, refl, refl, refl, refl, refl, refl, refl, refl)

abbrev in_phase : Phase → Asked → Asked
in_phase p a = record a { phase = p }

-- the phase is asked first, then the clock; the last moment is taken
pub phase_before_clock : (a : Asked) → rules alone 0 (in_phase Idle a) (at_moment (2 ^ 63) Stop) ≡ Err fault.WrongPhase
phase_before_clock a = refl

pub clock_ends : (a : Asked) → rules alone 0 (in_phase Idle a) (at_moment (2 ^ 63) Pass) ≡ Err fault.ClockEnd
clock_ends a = refl

pub last_moment : (a : Asked) → rules alone 0 (in_phase Idle a) (at_moment (2 ^ 63 - 1) Pass) ≡ Ok (nothing (in_phase Idle a))
last_moment a = refl

-- a birth behind the last stamp there is
pub no_stamp_left : (a : Asked) → rules alone 0 (record a { phase = Connecting; stamp = Some (2 ^ 63 - 1) }) (at_moment 5 Accepted) ≡ Err fault.ClockEnd
no_stamp_left a = refl

pub stamps : (later_stamp (Some 9) 5 ≡ 9) × (later_stamp (Some 9) 12 ≡ 12) × (birth_stamp (Some 9) 5 ≡ 10) × (birth_stamp (Some 9) 10 ≡ 10) × (birth_stamp (Some 9) 12 ≡ 12) × (birth_stamp None 5 ≡ 5)
stamps = (refl, refl, refl, refl, refl, refl)

-- ---- STATE, and turned away

pub heard_online : (a : Asked) → ((hearing hosted (in_phase Waiting a) 9 Online).phase ≡ Born)
    × ((hearing hosted (in_phase Waiting a) 9 Online).drafts ≡ births_at a.book a.will_bd (birth_stamp a.stamp 9))
    × (hearing hosted (in_phase Born a) 9 Online ≡ nothing (in_phase Born a))
heard_online a = (refl, refl, refl)

pub heard_offline : (a : Asked) → (hearing hosted (in_phase Born a) 9 Offline ≡ leaving hosted (in_phase Born a)) × (hearing hosted (in_phase Waiting a) 9 Offline ≡ nothing (in_phase Waiting a))
heard_offline a = (refl, refl)

pub heard_before : (a : Asked) → (hearing hosted (in_phase Born a) 9 Ignored ≡ nothing (in_phase Born a)) × (hearing hosted (in_phase Waiting a) 9 Ignored ≡ nothing (in_phase Waiting a))
heard_before a = (refl, refl)

-- a node without a primary host hears none, readable or not
pub hears_none : (a : Asked) → stating alone a 9 [] ≡ Ok (nothing a)
hears_none a = refl

pub leaves_whole : (a : Asked) → ((leaving hosted a).close ≡ true) × ((leaving hosted a).phase ≡ Idle) × ((leaving hosted a).drafts ≡ []) × ((leaving hosted a).store ≡ None)
leaves_whole a = (refl, refl, refl, refl)

pub is_turned_away : (a : Asked) → ((turned_away (in_phase Connecting a)).close ≡ true) × ((turned_away (in_phase Connecting a)).phase ≡ Idle)
    × (turned_away (in_phase Idle a) ≡ nothing (in_phase Idle a)) × (turned_away (in_phase Waiting a) ≡ nothing (in_phase Waiting a)) × (turned_away (in_phase Born a) ≡ nothing (in_phase Born a))
is_turned_away a = (refl, refl, refl, refl, refl)

-- ---- changes and devices

-- a kept change has its own moment, whatever the last stamp is; one that is sent has the stamp, in the message and in its metric
pub keeps_the_moment : (a : Asked) → ((telling (record a { phase = Waiting; stamp = Some 9; book = small }) 5 1 None).store ≡ Some (Push (record { owner = Node; alias = 1; value = None; time = 5 })))
    × ((telling (record a { phase = Waiting; stamp = Some 9; book = small }) 5 1 None).drafts ≡ [])
keeps_the_moment a = (refl, refl)

pub sends_the_stamp : (a : Asked) → (map (λ d. d.stamp) (telling (record a { phase = Born; stamp = Some 9; book = small }) 5 1 None).drafts ≡ 9 ∷ [])
    × (map (λ d. map (λ m. m.timestamp) d.metrics) (telling (record a { phase = Born; stamp = Some 9; book = small }) 5 1 None).drafts ≡ (Some 9 ∷ []) ∷ [])
    × (map (λ d. d.device) (telling (record a { phase = Born; stamp = Some 9; book = d_up }) 5 2 None).drafts ≡ Some (codes "D") ∷ [])
sends_the_stamp a = (refl, refl, refl)

-- no value is null, and a value is written by the metric's datatype
pub null_or_value : ((data_metric small 1 5 None None).null ≡ Some true) × ((data_metric small 1 5 None None).value ≡ None)
    × ((data_metric small 1 5 None (Some (Signed (pos 8)))).null ≡ None) × ((data_metric small 1 5 None (Some (Signed (pos 8)))).value ≡ Some (Int 8))
    × ((data_metric small 2 5 (Some true) (Some (Truth true))).value ≡ Some (Flag true))
null_or_value = (refl, refl, refl, refl, refl)

-- an equal value, and a device that is down, give nothing; a new value does
pub quiet_changes : (a : Asked) → (changing (record a { phase = Born; book = small }) 5 1 (Some (Signed (pos 7))) ≡ nothing (record a { phase = Born; book = small }))
    × (changing (record a { phase = Idle; book = small }) 5 2 (Some (Truth true)) ≡ nothing (record a { phase = Idle; book = small }))
    × (changing (record a { phase = Born; book = small }) 5 1 None ≡ telling (record a { phase = Born; book = small }) 5 1 None)
    × (changing (record a { phase = Idle; book = d_up }) 5 2 (Some (Truth true)) ≡ telling (record a { phase = Idle; book = d_up }) 5 2 (Some (Truth true)))
quiet_changes a = (refl, refl, refl, refl)

-- the place of the first one that is refused
pub first_refused : (refused_first small ((1, None) ∷ (3, None) ∷ (2, None) ∷ []) ≡ Some (1, fault.Device NoSuch))
    × (refused_first small ((1, None) ∷ (1, None) ∷ (2, None) ∷ (3, None) ∷ []) ≡ Some (2, fault.TwoOwners))
    × (refused_first small ((3, None) ∷ (2, None) ∷ []) ≡ Some (0, fault.Device NoSuch))
    × (refused_first small ((2, None) ∷ (2, Some (Truth true)) ∷ []) ≡ None) × (refused_first small [] ≡ None)
first_refused = (refl, refl, refl, refl, refl)

-- what is equal to the value by then is left out; an alias may stand again
pub left_out : others_in small ((1, Some (Signed (pos 7))) ∷ (1, None) ∷ (1, None) ∷ (1, Some (Signed (pos 7))) ∷ []) ≡ (1, None) ∷ (1, Some (Signed (pos 7))) ∷ []
left_out = refl

pub quiet_turns : (a : Asked) → (turning (record a { phase = Born; book = small }) 5 (codes "D") false ≡ nothing (record a { phase = Born; book = small }))
    × (turning (record a { phase = Waiting; book = small }) 5 (codes "D") true ≡ nothing (record a { phase = Waiting; book = small }))
    × (map (λ d. d.verb) (turning (record a { phase = Born; book = small }) 5 (codes "D") true).drafts ≡ verb.Birth ∷ [])
    × (map (λ d. d.verb) (turning (record a { phase = Born; book = d_up }) 5 (codes "D") false).drafts ≡ verb.Death ∷ [])
quiet_turns a = (refl, refl, refl, refl)

-- ---- commands

pub targets : (target_in alone (of_node (codes "G") verb.Command (codes "N")) ≡ Some ToNode)
    × (target_in alone (of_device (codes "G") verb.Command (codes "N") (codes "D")) ≡ Some (ToDevice (codes "D")))
    × (target_in alone (of_node (codes "H") verb.Command (codes "N")) ≡ None) × (target_in alone (of_node (codes "G") verb.Command (codes "M")) ≡ None)
    × (target_in alone (of_device (codes "H") verb.Command (codes "N") (codes "D")) ≡ None) × (target_in alone (of_device (codes "G") verb.Command (codes "M") (codes "D")) ≡ None)
    × (target_in alone (of_node (codes "G") verb.Data (codes "N")) ≡ None) × (target_in alone (of_device (codes "G") verb.Birth (codes "N") (codes "D")) ≡ None)
    × (target_in alone (of_state (codes "N")) ≡ None)
targets = (refl, refl, refl, refl, refl, refl, refl, refl, refl)

pub owners : (target_owner small ToNode ≡ Some Node) × (target_owner small (ToDevice (codes "D")) ≡ Some (Device 0)) × (target_owner small (ToDevice (codes "E")) ≡ None)
owners = (refl, refl, refl)

-- a metric of a command: a name, an alias, and a value
abbrev asks : Option (List ℕ) → Option ℕ → Option Content → MetricData
asks name alias value = record { name = name; alias = alias; timestamp = None; datatype = None; historical = None; transient = None; null = None; value = value }

-- the alias counts before the name, and is of the owner
pub aliases : (alias_in small Node (asks (Some (codes "u")) (Some 1) None) ≡ Some 1) × (alias_in small Node (asks (Some (codes "t")) None None) ≡ Some 1)
    × (alias_in small Node (asks (Some (codes "u")) None None) ≡ None) × (alias_in small (Device 0) (asks (Some (codes "u")) None None) ≡ Some 2)
    × (alias_in small Node (asks None None None) ≡ None)
aliases = (refl, refl, refl, refl, refl)

pub owned : (owned_gauge small Node 2 ≡ None) × (owned_gauge small (Device 0) 2 ≡ Some gauge_u) × (owned_gauge small (Device 0) 1 ≡ None) × (owned_gauge small Node 3 ≡ None)
owned = (refl, refl, refl, refl)

-- what is null has no value
pub contents : (content_in (record (asks None (Some 1) (Some (Int 5))) { null = Some true }) ≡ None) × (content_in (record (asks None (Some 1) (Some (Int 5))) { null = Some false }) ≡ Some (Int 5))
    × (content_in (asks None (Some 1) (Some (Int 5))) ≡ Some (Int 5))
contents = (refl, refl, refl)

abbrev control : Option Content → MetricData
control value = asks (Some (codes "Node Control/Rebirth")) (Some 1) value

-- the rebirth control, before its alias, in a command to the node alone; a Flag says it
pub controls : (is_control ToNode (control None) ≡ true) × (is_control (ToDevice (codes "D")) (control None) ≡ false) × (is_control ToNode (asks (Some (codes "t")) None None) ≡ false)
    × (order_of small ToNode (control (Some (Flag true))) ≡ Some (Rebirth true)) × (order_of small ToNode (control (Some (Flag false))) ≡ Some (Rebirth false))
    × (order_of small ToNode (control (Some (Int 1))) ≡ None) × (order_of small ToNode (control None) ≡ None)
    × (order_of small (ToDevice (codes "D")) (control (Some (Flag true))) ≡ None)
controls = (refl, refl, refl, refl, refl, refl, refl, refl)

abbrev t_is_5 : WriteData
t_is_5 = record { alias = 1; value = Signed (pos 5) }

-- a value is read by its metric's datatype
pub writings : (order_of small ToNode (asks (Some (codes "t")) None (Some (Int 5))) ≡ Some (Writing t_is_5)) × (order_of small ToNode (asks None (Some 1) (Some (Int 5))) ≡ Some (Writing t_is_5))
    × (order_of small ToNode (asks None (Some 1) (Some (Flag true))) ≡ None) × (order_of small ToNode (asks None (Some 2) (Some (Flag true))) ≡ None)
    × (order_of small (ToDevice (codes "D")) (asks None (Some 2) (Some (Flag true))) ≡ Some (Writing (record { alias = 2; value = Truth true })))
    × (order_of small (ToDevice (codes "E")) (asks None (Some 2) (Some (Flag true))) ≡ None) × (order_of small ToNode (asks None (Some 1) None) ≡ None)
writings = (refl, refl, refl, refl, refl, refl, refl)

-- done whole, in order, or not at all
pub whole_orders : (orders_of small ToNode [] ≡ Some []) × (orders_of small ToNode (asks None (Some 1) (Some (Int 5)) ∷ control (Some (Flag true)) ∷ []) ≡ Some (Writing t_is_5 ∷ Rebirth true ∷ []))
    × (orders_of small ToNode (asks None (Some 1) (Some (Int 5)) ∷ asks None (Some 9) (Some (Int 5)) ∷ []) ≡ None)
    × (orders_of small ToNode (asks None (Some 9) (Some (Int 5)) ∷ asks None (Some 1) (Some (Int 5)) ∷ []) ≡ None)
whole_orders = (refl, refl, refl, refl)

pub come_to : (writes_in (Writing t_is_5 ∷ Rebirth true ∷ Writing (record t_is_5 { alias = 2 }) ∷ []) ≡ t_is_5 ∷ (record t_is_5 { alias = 2 }) ∷ [])
    × (wants_rebirth (Rebirth false ∷ Writing t_is_5 ∷ Rebirth true ∷ []) ≡ true) × (wants_rebirth (Rebirth false ∷ Writing t_is_5 ∷ []) ≡ false) × (wants_rebirth [] ≡ false)
come_to = (refl, refl, refl, refl)

-- a rebirth of a node that isn't born gives nothing; writes are given in each case
pub rebirths : (a : Asked) → (obeying (in_phase Waiting a) 9 (Rebirth true ∷ []) ≡ nothing (in_phase Waiting a)) × (obeying (in_phase Born a) 9 (Rebirth false ∷ []) ≡ nothing (in_phase Born a))
    × ((obeying (in_phase Born a) 9 (Writing t_is_5 ∷ Rebirth true ∷ [])).drafts ≡ births_at a.book a.will_bd (birth_stamp a.stamp 9))
    × ((obeying (in_phase Born a) 9 (Writing t_is_5 ∷ Rebirth true ∷ [])).writes ≡ t_is_5 ∷ []) × ((obeying (in_phase Waiting a) 9 (Writing t_is_5 ∷ [])).writes ≡ t_is_5 ∷ [])
rebirths a = (refl, refl, refl, refl, refl)

-- ---- packets of the server

pub answers : (input_of alone 5 (packets.ConnAck false 0) ≡ at_moment 5 Accepted) × (input_of alone 5 (packets.ConnAck true 0) ≡ at_moment 5 Accepted) × (input_of alone 5 (packets.ConnAck false 5) ≡ at_moment 5 TurnedAway)
    × (input_of alone 5 (packets.PubAck 2) ≡ at_moment 5 Pass) × (input_of alone 5 packets.PingResp ≡ at_moment 5 Pass) × (input_of alone 5 packets.Disconnect ≡ at_moment 5 Pass)
answers = (refl, refl, refl, refl, refl, refl)

abbrev ncmd : List ℕ
ncmd = codes "spBv1.0/G/NCMD/N"

abbrev state_h : List ℕ
state_h = codes "spBv1.0/STATE/H"

-- at QoS 1 it is to be acknowledged; a STATE is the primary host's alone
pub publishes : (input_of hosted 5 (packets.Publish false 1 false ncmd (Some 7) []) ≡ record { now = 5; ack = Some 7; act = Command ncmd [] })
    × (input_of hosted 5 (packets.Publish false 0 false ncmd (Some 7) []) ≡ at_moment 5 (Command ncmd []))
    × (input_of hosted 5 (packets.Publish false 1 true state_h (Some 8) []) ≡ record { now = 5; ack = Some 8; act = State [] })
    × (input_of hosted 5 (packets.Publish false 0 true (codes "spBv1.0/STATE/I") None []) ≡ at_moment 5 (Command (codes "spBv1.0/STATE/I") []))
    × (input_of alone 5 (packets.Publish false 0 true state_h None []) ≡ at_moment 5 (Command state_h []))
publishes = (refl, refl, refl, refl, refl)

-- a Float and a Double of the node, 1 and 2: each is written from its own field alone, and no number takes either
abbrev floats : Book
floats = record {
  devices = [];
  gauges = (record { owner = Node; name = codes "f"; datatype = 9; value = None }) ∷ (record { owner = Node; name = codes "d"; datatype = 10; value = None }) ∷ [];
  values = choice.All;
}

pub float_writings : (order_of floats ToNode (asks None (Some 1) (Some (Float 1069547520))) ≡ Some (Writing (record { alias = 1; value = Binary32 1069547520 })))
    × (order_of floats ToNode (asks (Some (codes "d")) None (Some (Double 13835058055282163712))) ≡ Some (Writing (record { alias = 2; value = Binary64 13835058055282163712 })))
    × (order_of floats ToNode (asks None (Some 1) (Some (Double 0))) ≡ None) × (order_of floats ToNode (asks None (Some 2) (Some (Float 0))) ≡ None)
    × (order_of floats ToNode (asks None (Some 1) (Some (Int 1))) ≡ None) × (order_of small ToNode (asks None (Some 1) (Some (Float 0))) ≡ None)
float_writings = (refl, refl, refl, refl, refl, refl)
