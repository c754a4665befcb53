-- What becomes of each packet of a client, and of bytes that are none (own rules over MQTT 3.1.1, chapter 3).
use Rattle.std.specs.Prelude.{ℕ, Bool, false, is_some, List, [], ◌∷◌, ◌++◌, Option, Some, None, length, nat_le, unwrap_or, if◌then◌else◌}
use Rattle.std.specs.List.{filter}
use Rattle.std.specs.Option.{option_map}
use Rattle.spk_packets.specs.Message.{Message, WillData, Connect, Subscribe}
use Rattle.spk_packets.specs.declared.fault.PacketFault.{PacketFault}
use Rattle.spk_broker_rules.specs.Plan.{is_bad_level}
use Rattle.spk_access.specs.Rights.{RightsData, may_subscribe}
use Rattle.spk_credentials.specs.Credentials.{password_of, user_of}
use Rattle.spk_door.specs.Data as door
use Rattle.spk_door.specs.Data.{DoorData, EntryData, VerdictData}
use Rattle.spk_door.specs.Rules.{entry, judged, lets_will}
use Rattle.spk_visitor.specs.Data.{AnswerData, Outcome, StageData, Closes, Cuts, Goes, Inside, Outside, Over, Refuses}

-- its end
abbrev pub ends : AnswerData → Outcome
ends answer = record { stage = Over; passes = None; answer = answer }

-- ---- the first packet

-- the user name and the password in the bytes of a CONNECT; one that isn't there is empty beside a user name
abbrev pub login_of : List ℕ → Option (List ℕ × List ℕ)
login_of packet = option_map (λ user. (user, unwrap_or (password_of packet) [])) (user_of packet)

-- the client identifier under which the broker knows somebody: behind the name of its user, if it is one, and a colon, so that each user has sessions of its
-- own; an empty one stays empty: the broker makes one (3.1.3.1)
abbrev pub client_of : Option (List ℕ) → List ℕ → List ℕ
client_of None client = client
client_of (Some user) [] = []
client_of (Some user) (c ∷ cs) = user ++ 58 ∷ c ∷ cs

-- a CONNECT whose will isn't allowed closes its connection
abbrev pub admitted : RightsData → Bool → (client : List ℕ) → Bool → ℕ → Option WillData → Outcome
admitted r guard client clean keep will =
    if lets_will r guard will then record { stage = Inside r; passes = Some (Connect client clean keep will); answer = Goes } else ends Closes

-- a client identifier that would be longer than a text may be is refused with code 2 (1.5.3, 3.2.2.3)
abbrev pub named : RightsData → Bool → (client : List ℕ) → Bool → ℕ → Option WillData → Outcome
named r guard client clean keep will = if nat_le (length client) 65535 then admitted r guard client clean keep will else ends (Refuses 2)

abbrev pub entered : DoorData → (client : List ℕ) → Bool → ℕ → Option WillData → EntryData → Outcome
entered d client clean keep will (door.Comes user r) = named r d.guard (client_of user client) clean keep will
entered d client clean keep will (door.Refused code) = ends (Refuses code)

-- by its bytes; any other first packet closes (3.1.0-1)
abbrev pub first : DoorData → List ℕ → Message → Outcome
first d packet (Connect client clean keep will) = entered d client clean keep will (entry d client (login_of packet))
first d packet _ = ends Closes

-- ---- the others

-- a SUBSCRIBE of these, if there are some
abbrev pub subscribe_of : ℕ → List (List ℕ × ℕ) → Option Message
subscribe_of id [] = None
subscribe_of id (e ∷ es) = Some (Subscribe id (e ∷ es))

-- the entries of a SUBSCRIBE that are allowed go on
abbrev pub cut_off : RightsData → List Bool → Message → Outcome
cut_off r allowed (Subscribe id entries) =
    record { stage = Inside r; passes = subscribe_of id (filter (λ (e : List ℕ × ℕ). may_subscribe r e.0) entries); answer = Cuts id allowed }
cut_off r allowed _ = ends Closes

abbrev pub further : RightsData → Message → VerdictData → Outcome
further r p door.Passes = record { stage = Inside r; passes = Some p; answer = Goes }
further r p (door.Cuts allowed) = cut_off r allowed p
further r p door.Closes = ends Closes

-- whether a filter of a SUBSCRIBE may be refused
abbrev pub is_bounded : StageData → Bool
is_bounded Outside = false
is_bounded (Inside r) = is_some r.subscribe
is_bounded Over = false

-- ---- a packet, whose bytes these are

abbrev pub outcome : DoorData → StageData → List ℕ → Message → Outcome
outcome d Outside packet p = first d packet p
outcome d (Inside r) packet p = further r p (judged r d.guard p)
outcome d Over packet p = ends Closes

-- bytes that are no packet: a first packet of another protocol level is refused with code 1 (3.1.2.2), any others close
abbrev pub spoiled : StageData → PacketFault → Outcome
spoiled Outside f = if is_bad_level f then ends (Refuses 1) else ends Closes
spoiled (Inside r) f = ends Closes
spoiled Over f = ends Closes
