-- What a users' file gives (own rules).
use Rattle.std.specs.Prelude.{◌≡◌, ◌≤◌, ℕ, List, [], ◌∷◌, Bool, true, not, ◌&&◌, ◌==◌, Option, Vec, String, is_none, length}
use Rattle.std.specs.List.{list_all, list_any}
use Rattle.std.specs.Option.{option_map_or}
use Rattle.std.specs.Str.{bytes_eq}
use Rattle.std.specs.String.{string_bytes}
use Rattle.std.specs.declared.alloc.Global.{Global}
use Rattle.spk_access.specs.declared.rights.NodeName.{NodeName}
use Rattle.spk_door.specs.declared.door.User.{User}
use Rattle.spk_files.specs.declared.users.Listed.{Listed}
use Rattle.spk_quota.specs.declared.limits.Limits.{Limits}
use Rattle.spk_host_session.specs.Data.{is_short_name}
use Rattle.spk_topics.specs.Spark.{is_name}
use Rattle.spk_topics.specs.Text.{filter_refusal}

-- a topic filter (MQTT 3.1.1, section 4.7)
abbrev pub is_filter : String Global → Bool
is_filter text = is_none (filter_refusal (string_bytes text))

abbrev pub are_filters : Vec (String Global) Global → Bool
are_filters texts = list_all is_filter texts.items

-- filters, or nothing is said
abbrev pub some_are_filters : Option (Vec (String Global) Global) → Bool
some_are_filters texts = option_map_or are_filters texts true

-- a node's group and name are names
abbrev pub is_node : NodeName → Bool
is_node n = is_name (string_bytes n.group) && is_name (string_bytes n.node)

-- that, or nothing is said
abbrev pub some_is_node : Option NodeName → Bool
some_is_node node = option_map_or is_node node true

-- the name of a host, or nothing is said
abbrev pub some_is_host : Option (String Global) → Bool
some_is_host host = option_map_or (λ h. is_short_name (string_bytes h)) host true

-- no colon is in it: what stands before the first colon of a text tells the name
abbrev pub is_plain : List ℕ → Bool
is_plain name = not (list_any (λ c. c == 58) name)

abbrev pub are_plain : List User → Bool
are_plain users = list_all (λ (u : User). is_plain (string_bytes u.name)) users

abbrev pub has_name : List ℕ → User → Bool
has_name name u = bytes_eq (string_bytes u.name) name

-- no two users have one name
abbrev pub are_apart : List User → Bool
are_apart [] = true
are_apart (u ∷ us) = not (list_any (has_name (string_bytes u.name)) us) && are_apart us

-- ---- what a user may hold

-- no more than a broker holds: 1,000 clients at once, 1,000 kept sessions, 10,000 filters, 10,000 retained messages; and a tebibyte
pub record IsBounded (l : Limits) : Type 0 where
  pub connections : l.connections ≤ 1000
  pub sessions : l.sessions ≤ 1000
  pub filters : l.filters ≤ 10000
  pub retained : l.retained ≤ 10000
  pub bytes : l.bytes ≤ 1099511627776
  pub waiting : l.waiting ≤ 1099511627776

abbrev pub AreBounded : List Limits → Type 0
AreBounded [] = Unit {0}
AreBounded (l ∷ ls) = IsBounded l × AreBounded ls

-- the users of a file: names apart and without a colon, and limits for each
pub record IsListed (l : Listed) : Type 0 where
  pub apart : are_apart l.users.items ≡ true
  pub plain : are_plain l.users.items ≡ true
  pub each : length l.limits.items ≡ length l.users.items
  pub bounded : AreBounded l.limits.items
