-- The rules of the door (own rules over MQTT 3.1.1, chapter 3): who comes in, and what becomes of a packet.
use Rattle.std.specs.Prelude.{ℕ, Bool, true, false, List, map, Option, Some, None, if◌then◌else◌}
use Rattle.std.specs.List.{find, list_all}
use Rattle.std.specs.Option.{option_map_or}
use Rattle.std.specs.Str.{bytes_eq}
use Rattle.spk_packets.specs.Message.{Message, WillData, Connect, Publish, Subscribe}
use Rattle.spk_password.specs.Pbkdf2.{derived}
use Rattle.spk_access.specs.Rights.{RightsData, client_rights, may_publish, may_subscribe}
use Rattle.spk_door.specs.Data.{DoorData, EntryData, UserData, VerdictData, Comes, Refused, Passes, Cuts, Closes}

-- ---- CONNECT

abbrev pub knows : UserData → List ℕ → Bool
knows user password = bytes_eq (derived password user.salt user.rounds) user.key

-- the first user of this name, if there is one
abbrev pub user_in : List UserData → List ℕ → Option UserData
user_in users name = find (λ (u : UserData). bytes_eq u.name name) users

-- a user name that isn't known, or a wrong password, is answered 4, no user name 5 (3.2.2.3)
abbrev pub entry_by : List UserData → Option (List ℕ × List ℕ) → EntryData
entry_by users None = Refused 5
entry_by users (Some login) =
    option_map_or (λ (u : UserData). if knows u login.1 then Comes (Some u.name) u.rights else Refused 4) (user_in users login.0) (Refused 4)

-- of a client identifier, and of a user name and a password, if they are there
abbrev pub entry : DoorData → List ℕ → Option (List ℕ × List ℕ) → EntryData
entry door client login = option_map_or (λ (users : List UserData). entry_by users login) door.users (Comes None (client_rights client))

-- ---- packets

-- a will is judged as the message that it may become
abbrev pub lets_will : RightsData → Bool → Option WillData → Bool
lets_will r guard will = option_map_or (λ (w : WillData). may_publish r guard w.topic) will true

-- what a client may send
abbrev pub lets : RightsData → Bool → Message → Bool
lets r guard (Connect client clean keep will) = lets_will r guard will
lets r guard (Publish dup qos retain topic id payload) = may_publish r guard topic
lets r guard _ = true

-- what is judged of a packet by a copy of its topic's names, or by a list: these alone take memory
abbrev pub is_weighed : Bool → Message → Bool
is_weighed guard (Publish dup qos retain topic id payload) = guard
is_weighed guard (Subscribe id entries) = true
is_weighed guard _ = false

abbrev pub allowed : RightsData → List (List ℕ × ℕ) → List Bool
allowed r entries = map (λ (e : List ℕ × ℕ). may_subscribe r e.0) entries

abbrev pub cut : List Bool → VerdictData
cut each = if list_all (λ a. a) each then Passes else Cuts each

-- what becomes of a packet behind the CONNECT; a second CONNECT closes (3.1.0-2)
abbrev pub judged : RightsData → Bool → Message → VerdictData
judged r guard (Connect client clean keep will) = Closes
judged r guard (Publish dup qos retain topic id payload) = if may_publish r guard topic then Passes else Closes
judged r guard (Subscribe id entries) = cut (allowed r entries)
judged r guard _ = Passes
