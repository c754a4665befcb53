-- Which fault is answered: for each part of a packet the conditions under which it is refused, each with its fault,
-- in the order in which they are tried. The first that holds is the answer. A condition is only asked where none
-- before it holds. Bodies are tried by position, front to back (own rule; the standard asks for a closed connection).
use Rattle.std.specs.Prelude.{ℕ, zero, suc, ◌+◌, ◌*◌, ◌/◌, ◌%◌, Bool, true, false, not, ◌&&◌, ◌||◌, List, [], ◌∷◌, ◌++◌, length, take, drop, nat_lt, nat_le, ◌==◌, if◌then◌else◌, bytes_eq, codes}
use Rattle.std.specs.List.{list_all}
use Rattle.std.specs.Str.{is_utf8}
use Rattle.spk_packets.specs.declared.fault.PacketFault.{PacketFault}
use Rattle.spk_packets.specs.declared.fault.PacketFault.TheVariants.{More, BadLength, BadFlags, BadType, BadText, BadBody, TooLarge, QosTwo, BadLevel}
use Rattle.spk_packets.specs.Grammar.{has_zero, is_grant, largest}

abbrev pub Refusals : Type 0
Refusals = List (Bool × PacketFault)

abbrev pub is_nothing : List ℕ → Bool
is_nothing [] = true
is_nothing (b ∷ bs) = false

-- ---- parts: what stands at the front, what comes after it, and how it is refused

-- fewer than two bytes
abbrev pub number_is_cut : List ℕ → Bool
number_is_cut [] = true
number_is_cut (b ∷ []) = true
number_is_cut (high ∷ low ∷ rest) = false

-- the two bytes, the most significant first
abbrev pub front_number : List ℕ → ℕ
front_number [] = 0
front_number (b ∷ []) = 0
front_number (high ∷ low ∷ rest) = 256 * high + low

abbrev pub after_number : List ℕ → List ℕ
after_number [] = []
after_number (b ∷ []) = []
after_number (high ∷ low ∷ rest) = rest

abbrev pub number_refusals : List ℕ → Refusals
number_refusals bytes = (number_is_cut bytes, BadBody) ∷ []

-- a packet identifier: missing bytes, or 0
abbrev pub id_refusals : List ℕ → Refusals
id_refusals bytes = (number_is_cut bytes, BadBody) ∷ (front_number bytes == 0, BadBody) ∷ []

-- fewer bytes than the length in front of them says
abbrev pub counted_is_cut : List ℕ → Bool
counted_is_cut bytes = nat_lt (length (after_number bytes)) (front_number bytes)

abbrev pub front_counted : List ℕ → List ℕ
front_counted bytes = take (front_number bytes) (after_number bytes)

abbrev pub after_counted : List ℕ → List ℕ
after_counted bytes = drop (front_number bytes) (after_number bytes)

abbrev pub counted_refusals : List ℕ → Refusals
counted_refusals bytes = (number_is_cut bytes, BadBody) ∷ (counted_is_cut bytes, BadBody) ∷ []

-- a text: missing bytes, then what isn't UTF-8, then U+0000
abbrev pub text_refusals : List ℕ → Refusals
text_refusals bytes = counted_refusals bytes ++ (not (is_utf8 (front_counted bytes)), BadText) ∷ (has_zero (front_counted bytes), BadText) ∷ []

-- bytes after the end
abbrev pub end_refusals : List ℕ → Refusals
end_refusals rest = (not (is_nothing rest), BadBody) ∷ []

-- an empty list
abbrev pub none_refusals : List ℕ → Refusals
none_refusals rest = (is_nothing rest, BadBody) ∷ []

-- a QoS byte that is missing or over 2
abbrev pub qos_refusals : List ℕ → Refusals
qos_refusals [] = (true, BadBody) ∷ []
qos_refusals (qos ∷ rest) = (nat_lt 2 qos, BadBody) ∷ []

-- an entry of SUBSCRIBE
abbrev pub request_refusals : List ℕ → Refusals
request_refusals bytes = text_refusals bytes ++ qos_refusals (after_counted bytes)

abbrev pub after_request : List ℕ → List ℕ
after_request bytes = drop 1 (after_counted bytes)

-- entry by entry, to the end of the bytes, but at most this many
abbrev pub each_refusals : (List ℕ → Refusals) → (List ℕ → List ℕ) → ℕ → List ℕ → Refusals
each_refusals refusals after zero bytes = []
each_refusals refusals after (suc n) [] = []
each_refusals refusals after (suc n) (b ∷ bs) = refusals (b ∷ bs) ++ each_refusals refusals after n (after (b ∷ bs))

-- ---- CONNECT

abbrev pub flag : ℕ → ℕ → Bool
flag weight b = b / weight % 2 == 1

-- bits 4 and 3
abbrev pub will_qos : ℕ → ℕ
will_qos b = b / 8 % 4

-- bit 0, which is reserved (MQTT-3.1.2-3)
abbrev pub has_reserved_bit : ℕ → Bool
has_reserved_bit b = flag 1 b

-- will QoS or will retain without a will (MQTT-3.1.2-13, MQTT-3.1.2-15)
abbrev pub has_will_bits_alone : ℕ → Bool
has_will_bits_alone b = not (flag 4 b) && (not (will_qos b == 0) || flag 32 b)

-- a password without a user name (MQTT-3.1.2-22)
abbrev pub has_password_alone : ℕ → Bool
has_password_alone b = flag 64 b && not (flag 128 b)

abbrev pub flags_refusals : ℕ → Refusals
flags_refusals b = (has_reserved_bit b, BadBody) ∷ (will_qos b == 3, BadBody) ∷ (has_will_bits_alone b, BadBody)
    ∷ (has_password_alone b, BadBody) ∷ (will_qos b == 2, QosTwo) ∷ []

-- where the flag is set
abbrev pub only_if : Bool → Refusals → Refusals
only_if b refusals = if b then refusals else []

abbrev pub after_if : Bool → (List ℕ → List ℕ) → List ℕ → List ℕ
after_if b after bytes = if b then after bytes else bytes

-- behind the flags: keep alive, client id, will topic, will message, user name, password, and no more
abbrev pub after_client : List ℕ → List ℕ
after_client bytes = after_counted (after_number bytes)

abbrev pub after_will : ℕ → List ℕ → List ℕ
after_will flags bytes = after_if (flag 4 flags) (λ rest. after_counted (after_counted rest)) bytes

abbrev pub after_user : ℕ → List ℕ → List ℕ
after_user flags bytes = after_if (flag 128 flags) after_counted bytes

abbrev pub after_password : ℕ → List ℕ → List ℕ
after_password flags bytes = after_if (flag 64 flags) after_counted bytes

abbrev pub will_refusals : ℕ → List ℕ → Refusals
will_refusals flags bytes = only_if (flag 4 flags) (text_refusals bytes ++ counted_refusals (after_counted bytes))

abbrev pub login_refusals : ℕ → List ℕ → Refusals
login_refusals flags bytes = only_if (flag 128 flags) (text_refusals bytes)
    ++ (only_if (flag 64 flags) (counted_refusals (after_user flags bytes))
    ++ end_refusals (after_password flags (after_user flags bytes)))

abbrev pub flagged_refusals : List ℕ → Refusals
flagged_refusals [] = (true, BadBody) ∷ []
flagged_refusals (flags ∷ rest) = flags_refusals flags
    ++ (number_refusals rest
    ++ (text_refusals (after_number rest)
    ++ (will_refusals flags (after_client rest)
    ++ login_refusals flags (after_will flags (after_client rest)))))

-- a level other than 4, whatever follows (MQTT-3.1.2-2)
abbrev pub level_refusals : List ℕ → Refusals
level_refusals [] = (true, BadBody) ∷ []
level_refusals (level ∷ rest) = (not (level == 4), BadLevel) ∷ flagged_refusals rest

abbrev pub connect_refusals : List ℕ → Refusals
connect_refusals body = text_refusals body
    ++ ((not (bytes_eq (front_counted body) (codes "MQTT")), BadBody) ∷ level_refusals (after_counted body))

-- ---- the other bodies

abbrev pub connack_refusals : List ℕ → Refusals
connack_refusals [] = (true, BadBody) ∷ []
connack_refusals (present ∷ []) = (true, BadBody) ∷ []
connack_refusals (present ∷ code ∷ rest) = (nat_lt 1 present, BadBody) ∷ (nat_lt 5 code, BadBody) ∷ end_refusals rest

abbrev pub publish_refusals : ℕ → List ℕ → Refusals
publish_refusals qos body = text_refusals body ++ only_if (qos == 1) (id_refusals (after_counted body))

abbrev pub id_alone_refusals : List ℕ → Refusals
id_alone_refusals body = id_refusals body ++ end_refusals (after_number body)

abbrev pub subscribe_refusals : List ℕ → Refusals
subscribe_refusals body = id_refusals body ++ (none_refusals (after_number body)
    ++ each_refusals request_refusals after_request (length (after_number body)) (after_number body))

abbrev pub suback_refusals : List ℕ → Refusals
suback_refusals body = id_refusals body ++ (none_refusals (after_number body)
    ++ (not (list_all is_grant (after_number body)), BadBody) ∷ [])

abbrev pub unsubscribe_refusals : List ℕ → Refusals
unsubscribe_refusals body = id_refusals body ++ (none_refusals (after_number body)
    ++ each_refusals text_refusals after_counted (length (after_number body)) (after_number body))

-- ---- the first byte

-- the packet's type, bits 7 to 4
abbrev pub type_of : ℕ → ℕ
type_of first = first / 16

-- its flags, bits 3 to 0
abbrev pub flags_of : ℕ → ℕ
flags_of first = first % 16

-- the QoS of a PUBLISH, bits 2 and 1
abbrev pub qos_of : ℕ → ℕ
qos_of first = first / 2 % 4

-- 0 and 15 are reserved
abbrev pub has_reserved_type : ℕ → Bool
has_reserved_type first = type_of first == 0 || nat_le 15 (type_of first)

-- The flags of each type but PUBLISH: 2 for PUBREL, SUBSCRIBE and UNSUBSCRIBE, else 0 (table 2.2).
abbrev pub asked_flags : ℕ → ℕ
asked_flags type = if type == 6 || type == 8 || type == 10 then 2 else 0

-- Flags other than the table's; for PUBLISH QoS 3, or DUP with QoS 0 (MQTT-2.2.2-2, MQTT-3.3.1-2, MQTT-3.3.1-4).
abbrev pub has_wrong_flags : ℕ → Bool
has_wrong_flags first = if type_of first == 3
    then qos_of first == 3 || (flag 8 first && qos_of first == 0)
    else not (flags_of first == asked_flags (type_of first))

-- QoS 2, or PUBREC, PUBREL, PUBCOMP (own rule)
abbrev pub is_of_qos_two : ℕ → Bool
is_of_qos_two first = (type_of first == 3 && qos_of first == 2) || (nat_le 5 (type_of first) && nat_le (type_of first) 7)

abbrev pub first_refusals : ℕ → Refusals
first_refusals first = (has_reserved_type first, BadType) ∷ (has_wrong_flags first, BadFlags) ∷ (is_of_qos_two first, QosTwo) ∷ []

-- ---- the remaining length

-- each byte has bit 7, and there are fewer than this many
abbrev pub length_is_cut : ℕ → List ℕ → Bool
length_is_cut zero bytes = false
length_is_cut (suc n) [] = true
length_is_cut (suc n) (b ∷ bs) = not (nat_lt b 128) && length_is_cut n bs

-- each of this many bytes has bit 7
abbrev pub length_is_long : ℕ → List ℕ → Bool
length_is_long zero bytes = true
length_is_long (suc n) [] = false
length_is_long (suc n) (b ∷ bs) = not (nat_lt b 128) && length_is_long n bs

abbrev pub length_refusals : List ℕ → Refusals
length_refusals bytes = (length_is_cut 4 bytes, More) ∷ (length_is_long 4 bytes, BadLength) ∷ []

-- the bytes up to the first without bit 7
abbrev pub length_len : List ℕ → ℕ
length_len [] = 0
length_len (b ∷ bs) = if nat_lt b 128 then 1 else 1 + length_len bs

-- their number, seven bits a byte, the lowest first
abbrev pub length_value : List ℕ → ℕ
length_value [] = 0
length_value (b ∷ bs) = if nat_lt b 128 then b else b % 128 + 128 * length_value bs

-- ---- the whole

-- how many bytes the packet has, by its remaining length as it stands
abbrev pub whole_len : List ℕ → ℕ
whole_len rest = 1 + length_len rest + length_value rest

abbrev pub body_of : List ℕ → List ℕ
body_of rest = take (length_value rest) (drop (length_len rest) rest)

abbrev pub body_refusals : ℕ → List ℕ → Refusals
body_refusals first body = if type_of first == 1 then connect_refusals body
    else if type_of first == 2 then connack_refusals body
    else if type_of first == 3 then publish_refusals (qos_of first) body
    else if type_of first == 4 then id_alone_refusals body
    else if type_of first == 8 then subscribe_refusals body
    else if type_of first == 9 then suback_refusals body
    else if type_of first == 10 then unsubscribe_refusals body
    else if type_of first == 11 then id_alone_refusals body
    else end_refusals body

-- the first byte, the remaining length, more than the greatest packet, less than the whole packet
abbrev pub head_refusals : List ℕ → Refusals
head_refusals [] = (true, More) ∷ []
head_refusals (first ∷ rest) = first_refusals first
    ++ (length_refusals rest
    ++ ((nat_lt largest (whole_len rest), TooLarge) ∷ (nat_lt (1 + length rest) (whole_len rest), More) ∷ []))

abbrev pub rest_refusals : List ℕ → Refusals
rest_refusals [] = []
rest_refusals (first ∷ rest) = body_refusals first (body_of rest)

-- The order of faults of a packet at the front of the bytes: its head, then its body.
unfoldable pub refusals : List ℕ → Refusals
refusals bytes = head_refusals bytes ++ rest_refusals bytes
