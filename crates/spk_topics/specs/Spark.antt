-- The topics of Sparkplug 3.0.0 (chapter 4): `spBv1.0/group/TYPE/node`, `spBv1.0/group/TYPE/node/device`
-- and `spBv1.0/STATE/host`. The names are bytes in UTF-8.
use Rattle.std.specs.Prelude.{◌≢◌, ℕ, List, [], ◌∷◌, ◌&&◌, Bool, not, codes, IsTrue, Option, Some, None, option_and_then, if◌then◌else◌}
use Rattle.std.specs.List.{find}
use Rattle.std.specs.Option.{option_map}
use Rattle.std.specs.Str.{bytes_eq}
use Rattle.std.specs.String.{string_bytes}
use Rattle.spk_topics.specs.Levels.{joined, is_empty, levels}
use Rattle.spk_topics.specs.Text.{holds, is_plain}
use Rattle.spk_topics.specs.declared.fault.TopicFault.{TopicFault}
use Rattle.spk_topics.specs.declared.fault.TopicFault.TheVariants.{NoMemory, NotSparkplug}
use Rattle.spk_topics.specs.declared.spark.Verb.{Verb}
use Rattle.spk_topics.specs.declared.spark.Verb.TheVariants.{Birth, Death, Data, Command}
use Rattle.spk_topics.specs.declared.spark.Spark.{Spark}
use Rattle.spk_topics.specs.declared.spark.Spark.TheVariants.{Node, Device, State}

-- what a topic names
pub data Named : Type 0 where
  of_node : (group : List ℕ) (kind : Verb) (node : List ℕ) → Named
  of_device : (group : List ℕ) (kind : Verb) (node device : List ℕ) → Named
  of_state : (host : List ℕ) → Named

-- what a value names
abbrev pub named : Spark → Named
named (Node group kind node) = of_node (string_bytes group) kind (string_bytes node)
named (Device group kind node device) = of_device (string_bytes group) kind (string_bytes node) (string_bytes device)
named (State host) = of_state (string_bytes host)

abbrev pub node_type : Verb → List ℕ
node_type Birth = codes "NBIRTH"
node_type Death = codes "NDEATH"
node_type Data = codes "NDATA"
node_type Command = codes "NCMD"

abbrev pub device_type : Verb → List ℕ
device_type Birth = codes "DBIRTH"
device_type Death = codes "DDEATH"
device_type Data = codes "DDATA"
device_type Command = codes "DCMD"

abbrev pub named_levels : Named → List (List ℕ)
named_levels (of_node group kind node) = codes "spBv1.0" ∷ group ∷ node_type kind ∷ node ∷ []
named_levels (of_device group kind node device) = codes "spBv1.0" ∷ group ∷ device_type kind ∷ node ∷ device ∷ []
named_levels (of_state host) = codes "spBv1.0" ∷ codes "STATE" ∷ host ∷ []

-- the topic's text
abbrev pub topic_of : Named → List ℕ
topic_of n = joined (named_levels n)

-- a name has a byte, and none of `/`, `+`, `#` and U+0000
abbrev pub is_name : List ℕ → Bool
is_name text = not (is_empty text) && not (holds 47 text) && is_plain text && not (holds 0 text)

abbrev pub has_names : Named → Bool
has_names (of_node group kind node) = is_name group && is_name node
has_names (of_device group kind node device) = is_name group && is_name node && is_name device
has_names (of_state host) = is_name host

-- ---- the same as a function (`laws::reading`)

-- the first of the four whose name this is
abbrev pub verb_in : (Verb → List ℕ) → List ℕ → Option Verb
verb_in type level = find (λ verb. bytes_eq (type verb) level) (Birth ∷ Death ∷ Data ∷ Command ∷ [])

-- what levels behind `spBv1.0` name, by how many there are
abbrev pub named_behind : List (List ℕ) → Option Named
named_behind (state ∷ host ∷ []) = if bytes_eq state (codes "STATE") then Some (of_state host) else None
named_behind (group ∷ kind ∷ node ∷ []) = option_map (λ verb. of_node group verb node) (verb_in node_type kind)
named_behind (group ∷ kind ∷ node ∷ device ∷ []) = option_map (λ verb. of_device group verb node device) (verb_in device_type kind)
named_behind _ = None

abbrev pub named_by : List (List ℕ) → Option Named
named_by [] = None
named_by (prefix ∷ rest) = if bytes_eq prefix (codes "spBv1.0") then named_behind rest else None

abbrev pub if_names : Named → Option Named
if_names n = if has_names n then Some n else None

-- what a text names, or None where it is no topic of Sparkplug
abbrev pub named_at : List ℕ → Option Named
named_at text = option_and_then if_names (named_by (levels text))

-- a text is refused exactly where it is no topic of Sparkplug, but for want of memory
abbrev pub RefusesText : List ℕ → TopicFault → Type 0
RefusesText text NoMemory = Unit {0}
RefusesText text NotSparkplug = (n : Named) → IsTrue (has_names n) → topic_of n ≢ text
RefusesText text _ = ⊥

-- names are refused exactly where one of them is no name, but for want of memory
abbrev pub RefusesNames : Named → TopicFault → Type 0
RefusesNames n NoMemory = Unit {0}
RefusesNames n NotSparkplug = ¬ IsTrue (has_names n)
RefusesNames n _ = ⊥
