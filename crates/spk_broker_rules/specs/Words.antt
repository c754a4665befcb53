-- Words in which both explanations of the broker speak, on tables and on the past. None of them looks at a table.
use Rattle.std.specs.Prelude.{ℕ, ◌+◌, ◌-◌, ◌*◌, min, max, ◌==◌, nat_lt, Bool, true, false, not, ◌&&◌, ◌||◌, List, [], ◌∷◌, ◌++◌, map, length, Option, Some, None, unwrap_or, if◌then◌else◌}
use Rattle.std.specs.List.{filter, flat_map, sum_by}
use Rattle.spk_packets.specs.Message.{Message, Publish, WillData}
use Rattle.spk_topics.specs.Fitting.{is_match}
use Rattle.spk_broker_rules.specs.Data.{AppMessage, InFlight, Stored, Send}
use Rattle.spk_broker_rules.specs.Table.{Table, has, put}

-- ---- routing

-- the greatest grant by the filters that match a topic
abbrev pub best : List ℕ → Table ℕ → Option ℕ
best topic [] = None
best topic (g ∷ gs) = if is_match g.0 topic then Some (max g.1 (unwrap_or (best topic gs) 0)) else best topic gs

-- the QoS with which a message goes to who has this grant: the lesser one (3.8.4)
abbrev pub level : ℕ → Option ℕ → Option ℕ
level qos None = None
level qos (Some grant) = Some (min qos grant)

-- a message as it is sent, with a QoS and RETAIN
abbrev pub sent_as : AppMessage → ℕ → Bool → AppMessage
sent_as m qos retain = record { topic = m.topic; payload = m.payload; qos = qos; retain = retain }

-- the PUBLISH of a message at QoS 0: without DUP and identifier (3.3)
abbrev pub plain_packet : AppMessage → Message
plain_packet m = Publish false 0 m.retain m.topic None m.payload

-- the PUBLISH of a message at QoS 1, under an identifier (3.3)
abbrev pub numbered_packet : Bool → ℕ → AppMessage → Message
numbered_packet dup id m = Publish dup 1 m.retain m.topic (Some id) m.payload

-- to the connection, where there is one
abbrev pub to_connection : Option ℕ → Message → List Send
to_connection None packet = []
to_connection (Some conn) packet = record { conn = conn; packet = packet } ∷ []

-- the message that a will becomes (3.1.2.5)
abbrev pub will_message : WillData → AppMessage
will_message will = record { topic = will.topic; payload = will.message; qos = will.qos; retain = will.retain }

-- a list of what is there: one, or none
abbrev pub option_list : {X : Type 0} → Option X → List X
option_list None = []
option_list (Some x) = x ∷ []

-- ---- what a session keeps

-- sent again with its identifier, DUP where it was handed out before (3.3.1.1, 4.4)
abbrev pub resent : ℕ → List InFlight → List Send
resent conn in_flight = map (λ c. record { conn = conn; packet = numbered_packet c.handed c.id c.app_message }) in_flight

-- the same message, handed out
abbrev pub handed_out : InFlight → InFlight
handed_out c = record c { handed = true }

-- the messages in flight but those of this identifier
abbrev pub without_id : ℕ → List InFlight → List InFlight
without_id id in_flight = filter (λ c. not (c.id == id)) in_flight

-- ---- retained messages

-- the most topics with a retained message, the most pairs of session and filter, and the most kept sessions (own rules)
abbrev pub most_topics : ℕ
most_topics = 10000

-- the same of pairs of a session and a filter
abbrev pub most_grants : ℕ
most_grants = 10000

-- the same of kept sessions
abbrev pub most_kept : ℕ
most_kept = 1000

-- the most connections at once, and the greatest number of one (own rules)
abbrev pub most_open : ℕ
most_open = 1000

-- the greatest number of a connection: that of 64 bits
abbrev pub last_number : ℕ
last_number = 18446744073709551615

-- what is kept of a message that is retained
abbrev pub stored : AppMessage → Stored
stored m = record { payload = m.payload; qos = m.qos }

-- a stored message for a new grant: RETAIN, and the lesser of both QoS (3.3.1.3)
abbrev pub offered : ℕ → List ℕ × Stored → AppMessage
offered grant e = record { topic = e.0; payload = e.1.payload; qos = min e.1.qos grant; retain = true }

-- what the granted entry of a SUBSCRIBE is offered: each matching message, in the table's order
abbrev pub offers_to : Table Stored → List ℕ × ℕ → List AppMessage
offers_to retained entry = map (offered entry.1) (filter (λ e. is_match entry.0 e.0) retained)

-- ---- SUBSCRIBE

-- An entry is granted where its filter stands, or where there are fewer grants than there may be.
abbrev pub is_granted : ℕ → Table ℕ → List ℕ × ℕ → Bool
is_granted others grants entry = has entry.0 grants || nat_lt (others + length grants) most_grants

-- QoS 2 is granted as 1 (3.8.4: the server may grant less)
abbrev pub granted : List ℕ × ℕ → List ℕ × ℕ
granted entry = (entry.0, min 1 entry.1)

-- the grants after an entry
abbrev pub with_entry : ℕ → Table ℕ → List ℕ × ℕ → Table ℕ
with_entry others grants entry = if is_granted others grants entry then put entry.0 (min 1 entry.1) grants else grants

-- the entries that are granted, in their order, where `others` are the grants of the other sessions
abbrev pub granted_of : ℕ → Table ℕ → List (List ℕ × ℕ) → List (List ℕ × ℕ)
granted_of others grants [] = []
granted_of others grants (e ∷ es) =
    (if is_granted others grants e then granted e ∷ [] else []) ++ granted_of others (with_entry others grants e) es

-- the codes of SUBACK: the granted QoS, or 128 (3.9.3)
abbrev pub codes_of : ℕ → Table ℕ → List (List ℕ × ℕ) → List ℕ
codes_of others grants [] = []
codes_of others grants (e ∷ es) =
    (if is_granted others grants e then min 1 e.1 else 128) ∷ codes_of others (with_entry others grants e) es

-- What a retained message weighs: topic, payload, and the 9 bytes that a PUBLISH takes beside them at most (3.3): its type, four of
-- length, two of the topic's length, two of the identifier.
abbrev pub weight : AppMessage → ℕ
weight m = length m.topic + length m.payload + 9

-- what several messages weigh together
abbrev pub weight_of : List AppMessage → ℕ
weight_of ms = sum_by weight ms

-- the most that the entries of one SUBSCRIBE are given of retained messages, together: 64 MB (own rule)
abbrev pub most_given : ℕ
most_given = 67108864

-- What these granted entries are given passes it. Each entry counts by itself, also where a later one names its filter again.
abbrev pub is_heavy : Table Stored → List (List ℕ × ℕ) → Bool
is_heavy retained given = nat_lt most_given (weight_of (flat_map (offers_to retained) given))

-- ---- time

-- silent for more than one and a half times its keep alive, in seconds; 0 switches this off (3.1.2.10)
abbrev pub is_silent : ℕ → ℕ → ℕ → Bool
is_silent clock alive heard = not (alive == 0) && nat_lt (alive * 1500) (clock - heard)
