-- The canonical spelling of a packet: the shortest remaining length, and no user name or password. And why a packet
-- has none, in the order in which the causes are tried (own rule).
use Rattle.std.specs.Prelude.{ℕ, ◌+◌, ◌/◌, ◌%◌, ◌<◌, Bool, true, false, not, ◌&&◌, ◌||◌, List, [], ◌∷◌, ◌++◌, length, Option, Some, None, nat_lt, ◌==◌, if◌then◌else◌}
use Rattle.std.specs.List.{list_any, list_all, flat_map}
use Rattle.std.specs.Str.{IsUtf8}
use Rattle.spk_packets.specs.declared.fault.PacketFault.TheVariants.{BadText, BadBody, TooLarge, QosTwo}
use Rattle.spk_packets.specs.Message.{WillData, Message, Connect, ConnAck, Publish, PubAck, Subscribe, SubAck, Unsubscribe, UnsubAck}
use Rattle.spk_packets.specs.Grammar.{bit, has_zero, is_grant, connect_flags, protocol, first_byte, largest}
use Rattle.spk_packets.specs.Refusals.{Refusals}

-- Bytes are the low eight bits of what they stand for, and lengths and numbers the low sixteen, so that each packet
-- has one. Where a packet is not refused, nothing is cut off.

-- two bytes, the most significant first
abbrev pub number : ℕ → List ℕ
number n = n / 256 % 256 ∷ n % 256 ∷ []

abbrev pub counted : List ℕ → List ℕ
counted bytes = number (length bytes) ++ bytes

abbrev pub request : List ℕ × ℕ → List ℕ
request entry = counted entry.0 ++ entry.1 ∷ []

abbrev pub id_part : Option ℕ → List ℕ
id_part None = []
id_part (Some id) = number id

abbrev pub will_part : Option WillData → List ℕ
will_part None = []
will_part (Some will) = counted will.topic ++ counted will.message

unfoldable pub body : Message → List ℕ
body (Connect client clean keep will) = protocol ++ (connect_flags false false will clean % 256 ∷ (number keep ++ (counted client ++ will_part will)))
body (ConnAck present code) = bit present ∷ code ∷ []
body (Publish dup qos retain topic id payload) = counted topic ++ (id_part id ++ payload)
body (PubAck id) = number id
body (Subscribe id filters) = number id ++ flat_map request filters
body (SubAck id codes) = number id ++ codes
body (Unsubscribe id filters) = number id ++ flat_map counted filters
body (UnsubAck id) = number id
body _ = []

-- the remaining length in as few bytes as it has groups of seven bits
unfoldable pub shortest : ℕ → List ℕ
shortest n = if nat_lt n 128 then n ∷ []
    else if nat_lt n 16384 then (n % 128 + 128) ∷ n / 128 ∷ []
    else if nat_lt n 2097152 then (n % 128 + 128) ∷ (n / 128 % 128 + 128) ∷ n / 16384 ∷ []
    else (n % 128 + 128) ∷ (n / 128 % 128 + 128) ∷ (n / 16384 % 128 + 128) ∷ n / 2097152 ∷ []

unfoldable pub spelling : Message → List ℕ
spelling p = first_byte p % 256 ∷ (shortest (length (body p)) ++ body p)

-- ---- what has no spelling

-- over 65,535 bytes, or U+0000 is there
abbrev pub is_bad_text : List ℕ → Bool
is_bad_text text = nat_lt 65535 (length text) || has_zero text

abbrev pub has_bad_topic : Option WillData → Bool
has_bad_topic None = false
has_bad_topic (Some will) = is_bad_text will.topic

unfoldable pub has_bad_text : Message → Bool
has_bad_text (Connect client clean keep will) = is_bad_text client || has_bad_topic will
has_bad_text (Publish dup qos retain topic id payload) = is_bad_text topic
has_bad_text (Subscribe id filters) = list_any (λ entry. is_bad_text entry.0) filters
has_bad_text (Unsubscribe id filters) = list_any is_bad_text filters
has_bad_text _ = false

abbrev pub is_empty : {X : Type 0} → List X → Bool
is_empty [] = true
is_empty (x ∷ xs) = false

-- a message over 65,535 bytes, or QoS 3 and more
abbrev pub has_bad_will : Option WillData → Bool
has_bad_will None = false
has_bad_will (Some will) = nat_lt 65535 (length will.message) || nat_lt 2 will.qos

-- an identifier without QoS 1, QoS 1 without an identifier, or 0
abbrev pub has_bad_id : ℕ → Option ℕ → Bool
has_bad_id qos None = qos == 1
has_bad_id qos (Some id) = not (qos == 1) || id == 0

unfoldable pub has_bad_body : Message → Bool
has_bad_body (Connect client clean keep will) = has_bad_will will
has_bad_body (ConnAck present code) = nat_lt 5 code
has_bad_body (Publish dup qos retain topic id payload) = nat_lt 2 qos || (dup && qos == 0) || has_bad_id qos id
has_bad_body (PubAck id) = id == 0
has_bad_body (Subscribe id filters) = id == 0 || is_empty filters || list_any (λ entry. nat_lt 2 entry.1) filters
has_bad_body (SubAck id codes) = id == 0 || is_empty codes || not (list_all is_grant codes)
has_bad_body (Unsubscribe id filters) = id == 0 || is_empty filters
has_bad_body (UnsubAck id) = id == 0
has_bad_body _ = false

abbrev pub will_is_of_qos_two : Option WillData → Bool
will_is_of_qos_two None = false
will_is_of_qos_two (Some will) = will.qos == 2

-- a publish or a will of QoS 2
unfoldable pub is_qos_two : Message → Bool
is_qos_two (Connect client clean keep will) = will_is_of_qos_two will
is_qos_two (Publish dup qos retain topic id payload) = qos == 2
is_qos_two _ = false

abbrev pub content_refusals : Message → Refusals
content_refusals p = (has_bad_text p, BadText) ∷ (has_bad_body p, BadBody) ∷ (is_qos_two p, QosTwo) ∷ []

-- The order of refusals in writing.
abbrev pub unwritable : Message → Refusals
unwritable p = content_refusals p ++ (nat_lt largest (length (spelling p)), TooLarge) ∷ []

-- ---- what a packet of the code keeps of itself

abbrev pub IsWord : Option ℕ → Type 0
IsWord None = Unit {0}
IsWord (Some id) = id < 65536

-- Its numbers have two bytes.
unfoldable pub HasWords : Message → Type 0
HasWords (Connect client clean keep will) = keep < 65536
HasWords (Publish dup qos retain topic id payload) = IsWord id
HasWords (PubAck id) = id < 65536
HasWords (Subscribe id filters) = id < 65536
HasWords (SubAck id codes) = id < 65536
HasWords (Unsubscribe id filters) = id < 65536
HasWords (UnsubAck id) = id < 65536
HasWords _ = Unit {0}

-- ---- texts are UTF-8, as they are in each packet of the code

abbrev pub AreUtf8 : List (List ℕ) → Type 0
AreUtf8 [] = Unit {0}
AreUtf8 (x ∷ xs) = IsUtf8 x × AreUtf8 xs

abbrev pub AreRequestsUtf8 : List (List ℕ × ℕ) → Type 0
AreRequestsUtf8 [] = Unit {0}
AreRequestsUtf8 (x ∷ xs) = IsUtf8 x.0 × AreRequestsUtf8 xs

abbrev pub WillIsUtf8 : Option WillData → Type 0
WillIsUtf8 None = Unit {0}
WillIsUtf8 (Some will) = IsUtf8 will.topic

abbrev pub TextsAreUtf8 : Message → Type 0
TextsAreUtf8 (Connect client clean keep will) = IsUtf8 client × WillIsUtf8 will
TextsAreUtf8 (Publish dup qos retain topic id payload) = IsUtf8 topic
TextsAreUtf8 (Subscribe id filters) = AreRequestsUtf8 filters
TextsAreUtf8 (Unsubscribe id filters) = AreUtf8 filters
TextsAreUtf8 _ = Unit {0}

-- its numbers have 16 bits and its texts are UTF-8
abbrev pub PacketFits : Message → Type 0
PacketFits p = HasWords p × TextsAreUtf8 p
