-- What a command asks (Sparkplug 3.0.0, chapter 6, NCMD and DCMD).
use Rattle.std.specs.Prelude.{ℕ, Bool, true, false, ◌&&◌, List, [], ◌∷◌, Option, Some, None, Result, Ok, Err, codes, if◌then◌else◌}
use Rattle.std.specs.List.{filter_map, list_any}
use Rattle.std.specs.Option.{option_map, option_map_or, option_and_then}
use Rattle.std.specs.Str.{bytes_eq}
use Rattle.spk_payload.specs.declared.fault.PayloadFault.{PayloadFault}
use Rattle.spk_payload.specs.declared.values.Values.TheVariants as choice
use Rattle.spk_payload.specs.Meaning.{Content, Flag, MetricData, PayloadData}
use Rattle.spk_payload.specs.Reading.{payload_at}
use Rattle.spk_payload.specs.Typing.{typed_of}
use Rattle.spk_device.specs.Book.{Book, GaugeData, alias_of, gauge_at, is_owner, number_of}
use Rattle.spk_device.specs.declared.owner.Owner.{Owner}
use Rattle.spk_device.specs.declared.owner.Owner.TheVariants.{Node, Device}
use Rattle.spk_topics.specs.Spark.{Named, named_at}
use Rattle.spk_topics.specs.Spark.Named.{of_node, of_device, of_state}
use Rattle.spk_topics.specs.declared.spark.Verb.{Verb}
use Rattle.spk_topics.specs.declared.spark.Verb.TheVariants.{Command}
use Rattle.spk_edge_rules.specs.Config.{Config}
use Rattle.spk_edge_rules.specs.Inputs.{WriteData}

-- to whom a command is: the node, or a device by its name
pub data Target : Type 0 where
  ToNode : Target
  ToDevice : (name : List ℕ) → Target

-- it is an NCMD or a DCMD
abbrev pub is_command : Verb → Bool
is_command Command = true
is_command _ = false

-- NCMD or DCMD of this node
abbrev pub target_in : Config → Named → Option Target
target_in c (of_node group verb node) =
    if is_command verb && bytes_eq group c.group && bytes_eq node c.node then Some ToNode else None
target_in c (of_device group verb node device) =
    if is_command verb && bytes_eq group c.group && bytes_eq node c.node then Some (ToDevice device) else None
target_in c (of_state host) = None

-- to whom a message on this topic is a command, where it is one to this node
abbrev pub target_of : Config → List ℕ → Option Target
target_of c topic = option_and_then (target_in c) (named_at topic)

-- whose metrics it may write: a device that isn't there has none
abbrev pub target_owner : Book → Target → Option Owner
target_owner b ToNode = Some Node
target_owner b (ToDevice name) = option_map (λ n. Device n) (number_of b name)

-- what a metric of a command asks: a rebirth or none, or a write
pub data Order : Type 0 where
  Rebirth : Bool → Order
  Writing : WriteData → Order

-- the rebirth control, which acts in a command to the node alone
abbrev pub is_control : Target → MetricData → Bool
is_control ToNode m = option_map_or (λ name. bytes_eq name (codes "Node Control/Rebirth")) m.name false
is_control (ToDevice name) m = false

-- the value, which isn't looked at where the metric is null
abbrev pub content_in : MetricData → Option Content
content_in m = if option_map_or (λ b. b) m.null false then None else m.value

-- the truth value, where it is one
abbrev pub flag_in : Content → Option Bool
flag_in (Flag b) = Some b
flag_in _ = None

-- the alias that the metric names: its alias where it has one, else the alias of its name
abbrev pub alias_in : Book → Owner → MetricData → Option ℕ
alias_in b owner m = by_alias m.alias
  where
    by_alias : Option ℕ → Option ℕ
    by_alias (Some alias) = Some alias
    by_alias None = option_and_then (λ name. alias_of b owner name) m.name

-- the metric of an alias, if it is the owner's
abbrev pub owned_gauge : Book → Owner → ℕ → Option GaugeData
owned_gauge b owner alias = option_and_then (λ g. if is_owner owner g.owner then Some g else None) (gauge_at b alias)

-- a write of the metric's value, by the metric's datatype
abbrev pub writing_of : Book → MetricData → Owner → Option Order
writing_of b m owner =
    option_and_then (λ alias.
    option_and_then (λ g.
    option_map (λ value. Writing (record { alias = alias; value = value }))
    (option_and_then (typed_of g.datatype) (content_in m))) (owned_gauge b owner alias)) (alias_in b owner m)

-- nothing where the metric names nothing known, or has no value, or one that can't be typed
abbrev pub order_of : Book → Target → MetricData → Option Order
order_of b target m =
    if is_control target m then option_map Rebirth (option_and_then flag_in (content_in m))
    else option_and_then (writing_of b m) (target_owner b target)

-- each metric in order, or nothing where one of them asks for nothing that can be done
abbrev pub orders_of : Book → Target → List MetricData → Option (List Order)
orders_of b target [] = Some []
orders_of b target (m ∷ ms) =
    option_and_then (λ order. option_map (λ orders. order ∷ orders) (orders_of b target ms)) (order_of b target m)

-- the same of a payload that could be read
abbrev pub orders_in : Book → Target → Result PayloadData PayloadFault → Option (List Order)
orders_in b target (Ok p) = orders_of b target p.metrics
orders_in b target (Err fault) = None

-- The orders of a command; nothing where it isn't one of this node or can't be done whole. Floats and doubles are read too: a
-- metric of another datatype takes none.
abbrev pub command_of : Config → Book → List ℕ → List ℕ → Option (List Order)
command_of c b topic payload = option_and_then (λ target. orders_in b target (payload_at choice.All payload)) (target_of c topic)

-- ---- what they come to

-- the write that an order is, where it is one
abbrev pub write_in : Order → Option WriteData
write_in (Rebirth asked) = None
write_in (Writing w) = Some w

-- the writes among orders, in order
abbrev pub writes_in : List Order → List WriteData
writes_in orders = filter_map write_in orders

-- it asks for a rebirth
abbrev pub asks_rebirth : Order → Bool
asks_rebirth (Rebirth asked) = asked
asks_rebirth (Writing w) = false

-- one of them is a rebirth
abbrev pub wants_rebirth : List Order → Bool
wants_rebirth orders = list_any asks_rebirth orders
