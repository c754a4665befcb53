-- What a client may do (own rule).
use Rattle.std.specs.Prelude.{ℕ, List, [], ◌∷◌, Bool, true, false, Vec, String, not, ◌||◌, ◌&&◌, map, Option, Some, None, is_some, if◌then◌else◌}
use Rattle.std.specs.List.{list_any}
use Rattle.std.specs.Option.{option_map, option_map_or}
use Rattle.std.specs.Str.{bytes_eq}
use Rattle.std.specs.String.{string_bytes}
use Rattle.std.specs.declared.alloc.Global.{Global}
use Rattle.spk_topics.specs.Fitting.{is_match}
use Rattle.spk_topics.specs.Levels.{levels, is_empty}
use Rattle.spk_topics.specs.Spark.{Named, of_node, of_device, of_state, named_at}
use Rattle.spk_topics.specs.declared.spark.Verb.{Verb}
use Rattle.spk_topics.specs.declared.spark.Verb.TheVariants.{Command}
use Rattle.spk_access.specs.Covering.{covers}
use Rattle.spk_access.specs.declared.rights.NodeName.{NodeName}
use Rattle.spk_access.specs.declared.rights.Rights as declared

pub record NodeId : Type 0 where
  pub group : List ℕ
  pub node : List ℕ

pub record RightsData : Type 0 where
  -- the edge node that it is
  pub node : Option NodeId
  -- the host application that it is
  pub host : Option (List ℕ)
  -- the filters of the topics on which it may publish; none where each will do
  pub publish : Option (List (List ℕ))
  -- the filters that cover those to which it may subscribe; none where each will do
  pub subscribe : Option (List (List ℕ))

abbrev pub node_view : NodeName → NodeId
node_view n = record { group = string_bytes n.group; node = string_bytes n.node }

abbrev pub texts_view : Option (Vec (String Global) Global) → Option (List (List ℕ))
texts_view texts = option_map (λ v. map string_bytes v.items) texts

abbrev pub rights_view : declared.Rights → RightsData
rights_view r = record {
  node = option_map node_view r.node;
  host = option_map string_bytes r.host;
  publish = texts_view r.publish;
  subscribe = texts_view r.subscribe;
}

-- ---- the guard: each topic of Sparkplug belongs to a node, to a host or to all hosts

abbrev pub is_command : Verb → Bool
is_command Command = true
is_command _ = false

abbrev pub is_node : Option NodeId → List ℕ → List ℕ → Bool
is_node own group node = option_map_or (λ n. bytes_eq n.group group && bytes_eq n.node node) own false

-- commands come of a host, births, data and deaths of their node
abbrev pub owns : RightsData → Verb → List ℕ → List ℕ → Bool
owns r kind group node = if is_command kind then is_some r.host else is_node r.node group node

abbrev pub owns_named : RightsData → Named → Bool
owns_named r (of_node group kind node) = owns r kind group node
owns_named r (of_device group kind node device) = owns r kind group node
owns_named r (of_state host) = option_map_or (λ own. bytes_eq own host) r.host false

-- other topics belong to nobody
abbrev pub owns_topic : RightsData → List ℕ → Bool
owns_topic r topic = option_map_or (owns_named r) (named_at topic) true

-- ---- publishing and subscribing

abbrev pub some_matches : Option (List (List ℕ)) → List ℕ → Bool
some_matches filters topic = option_map_or (list_any (λ f. is_match f topic)) filters true

abbrev pub some_covers : Option (List (List ℕ)) → List ℕ → Bool
some_covers filters filter = option_map_or (list_any (λ f. covers f filter)) filters true

abbrev pub may_publish : RightsData → (guard : Bool) → List ℕ → Bool
may_publish r guard topic = some_matches r.publish topic && (not guard || owns_topic r topic)

abbrev pub may_subscribe : RightsData → List ℕ → Bool
may_subscribe r filter = some_covers r.subscribe filter

-- ---- a client without a user: its identifier is `group/node`, or the name of a host; an empty one names nobody

abbrev pub named_rights : Option NodeId → Option (List ℕ) → RightsData
named_rights node host = record { node = node; host = host; publish = None; subscribe = None }

abbrev pub rights_by : List (List ℕ) → RightsData
rights_by (host ∷ []) = named_rights None (if is_empty host then None else Some host)
rights_by (group ∷ node ∷ []) = named_rights (Some (record { group = group; node = node })) None
rights_by _ = named_rights None None

abbrev pub client_rights : List ℕ → RightsData
client_rights client = rights_by (levels client)

-- it is a node or a host
abbrev pub is_somebody : RightsData → Bool
is_somebody r = is_some r.node || is_some r.host
