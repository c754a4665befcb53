-- What births say (Sparkplug 3.0.0, chapter 6, NBIRTH and DBIRTH), and the metrics of data messages.
use Rattle.std.specs.Prelude.{ℕ, ◌+◌, max, Bool, true, false, List, [], ◌∷◌, map, filter, Option, Some, None, is_none, codes, if◌then◌else◌}
use Rattle.std.specs.List.{enumerate_from}
use Rattle.std.specs.Option.{option_map, option_map_or, option_and_then}
use Rattle.spk_payload.specs.Meaning.{MetricData, Flag}
use Rattle.spk_payload.specs.Typing.{Typed, written_of}
use Rattle.spk_device.specs.Book.{Book, DeviceData, births_of, device_at, gauge_at, number_of}
use Rattle.spk_device.specs.declared.owner.Owner.{Owner}
use Rattle.spk_device.specs.declared.owner.Owner.TheVariants.{Node, Device}
use Rattle.spk_topics.specs.declared.spark.Verb.TheVariants.{Birth, Death, Data}
use Rattle.spk_edge_rules.specs.Inputs.{ChangeData}
use Rattle.spk_edge_rules.specs.Messages.{Draft}
use Rattle.spk_edge_rules.specs.Packets.{session_metric}

-- ---- stamps (own rule)

-- a message's stamp: the greater of the moment and the last stamp
abbrev pub later_stamp : Option ℕ → ℕ → ℕ
later_stamp None now = now
later_stamp (Some last) now = max now last

-- an NBIRTH's stamp: the greater of the moment and one more than the last stamp
abbrev pub birth_stamp : Option ℕ → ℕ → ℕ
birth_stamp None now = now
birth_stamp (Some last) now = max now (last + 1)

-- ---- owners

-- the node is up as long as it runs, a device by its turns
abbrev pub owner_is_up : Book → Owner → Bool
owner_is_up b Node = true
owner_is_up b (Device n) = option_map_or (λ d. d.up) (device_at b n) false

-- the name of the device that owns it; none is the node
abbrev pub device_of : Book → Owner → Option (List ℕ)
device_of b Node = None
device_of b (Device n) = option_map (λ d. d.name) (device_at b n)

-- the owner of the metric of this alias
abbrev pub owner_at : Book → ℕ → Owner
owner_at b alias = option_map_or (λ g. g.owner) (gauge_at b alias) Node

-- ---- births

-- a metric of a birth carries the birth's stamp
abbrev pub stamped : ℕ → MetricData → MetricData
stamped stamp m = record m { timestamp = Some stamp }

-- the metrics of an owner as a birth of this stamp lists them, in order of adding
abbrev pub own_metrics : Book → ℕ → Owner → List MetricData
own_metrics b stamp owner = map (stamped stamp) (births_of b owner)

-- the metric `Node Control/Rebirth`, a Boolean, false
abbrev pub rebirth_metric : ℕ → MetricData
rebirth_metric stamp = record {
  name = Some (codes "Node Control/Rebirth");
  alias = None;
  timestamp = Some stamp;
  datatype = Some 11;
  historical = None;
  transient = None;
  null = None;
  value = Some (Flag false);
}

-- NBIRTH: the bdSeq of the session, the rebirth control, and the node's own metrics
abbrev pub node_birth : Book → ℕ → ℕ → Draft
node_birth b bd stamp = record {
  verb = Birth;
  device = None;
  stamp = stamp;
  metrics = session_metric bd (Some stamp) ∷ rebirth_metric stamp ∷ own_metrics b stamp Node;
}

-- DBIRTH: the device's metrics
abbrev pub device_birth : Book → ℕ → ℕ × DeviceData → Draft
device_birth b stamp e = record {
  verb = Birth;
  device = Some e.1.name;
  stamp = stamp;
  metrics = own_metrics b stamp (Device e.0);
}

-- one NBIRTH, then a DBIRTH for each device that is up, in order of adding
abbrev pub births_at : Book → ℕ → ℕ → List Draft
births_at b bd stamp = node_birth b bd stamp
    ∷ map (device_birth b stamp) (filter (λ e. e.1.up) (enumerate_from 0 b.devices))

-- a device that comes up or goes down
abbrev pub turn_draft : Book → ℕ → List ℕ → Bool → Draft
turn_draft b stamp name true = record {
  verb = Birth;
  device = Some name;
  stamp = stamp;
  metrics = option_map_or (λ n. own_metrics b stamp (Device n)) (number_of b name) [];
}
turn_draft b stamp name false = record { verb = Death; device = Some name; stamp = stamp; metrics = [] }

-- ---- data

-- A metric of a data message: its alias, a time, whether it is historical, and its value as its datatype writes it, or null.
abbrev pub data_metric : Book → ℕ → ℕ → Option Bool → Option Typed → MetricData
data_metric b alias time historical value = record {
  name = None;
  alias = Some alias;
  timestamp = Some time;
  datatype = None;
  historical = historical;
  transient = None;
  null = if is_none value then Some true else None;
  value = option_and_then (written_of (option_map_or (λ g. g.datatype) (gauge_at b alias) 0)) value;
}

-- a kept change carries the time at which it came
abbrev pub kept_metric : Book → ChangeData → MetricData
kept_metric b change = data_metric b change.alias change.time (Some true) change.value

-- the NDATA or DDATA of an owner with these metrics
abbrev pub data_draft : Book → Owner → ℕ → List MetricData → Draft
data_draft b owner stamp metrics = record { verb = Data; device = device_of b owner; stamp = stamp; metrics = metrics }
