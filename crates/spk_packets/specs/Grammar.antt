-- Which bytes spell which control packet: MQTT 3.1.1 (OASIS, 2014), chapters 2 and 3, at QoS 0 and 1.
use Rattle.std.specs.Prelude.{◌≡◌, ℕ, ◌+◌, ◌*◌, ◌%◌, ◌/◌, ◌<◌, ◌≤◌, Bool, true, false, List, [], ◌∷◌, ◌++◌, length, Option, Some, None, ◌==◌, ◌||◌, nat_le}
use Rattle.std.specs.List.{list_any, list_all}
use Rattle.std.specs.Str.{IsUtf8}
use Rattle.spk_packets.specs.Message.{WillData, Message, Connect, ConnAck, Publish, PubAck, Subscribe, SubAck, Unsubscribe, UnsubAck, PingReq, PingResp, Disconnect}

-- 1 or 0
abbrev pub bit : Bool → ℕ
bit true = 1
bit false = 0

-- Two bytes, the most significant first (section 1.5.2).
abbrev pub IsNumber : List ℕ → ℕ → Type 0
IsNumber text n = (high low : ℕ) × (text ≡ high ∷ low ∷ []) × (n ≡ 256 * high + low)

-- A packet identifier, which isn't 0 (section 2.3.1).
abbrev pub IsId : List ℕ → ℕ → Type 0
IsId text id = IsNumber text id × (0 < id)

-- Bytes behind their length in two bytes.
abbrev pub IsCounted : List ℕ → List ℕ → Type 0
IsCounted text bytes = (front : List ℕ) × IsNumber front (length bytes) × (text ≡ front ++ bytes)

-- whether U+0000 is there
abbrev pub has_zero : List ℕ → Bool
has_zero bytes = list_any (λ b. b == 0) bytes

-- A text: counted, UTF-8, and without U+0000 (section 1.5.3).
abbrev pub IsText : List ℕ → List ℕ → Type 0
IsText text bytes = IsCounted text bytes × IsUtf8 bytes × (has_zero bytes ≡ false)

-- The remaining length (section 2.2.3): seven bits a byte, the lowest first, and bit 7 where a byte follows.
abbrev pub AreSevens : List ℕ → ℕ → Type 0
AreSevens [] n = ⊥
AreSevens (b ∷ []) n = (b < 128) × (n ≡ b)
AreSevens (b ∷ c ∷ bs) n = (128 ≤ b) × ((high : ℕ) × (n ≡ b % 128 + 128 * high) × AreSevens (c ∷ bs) high)

-- At most four bytes. A longer form than needed spells it too (own rule).
abbrev pub IsLength : List ℕ → ℕ → Type 0
IsLength text n = (length text ≤ 4) × AreSevens text n

-- The types of packets that keep texts, a payload or a list: CONNECT, PUBLISH, SUBSCRIBE, SUBACK, UNSUBSCRIBE (section 2.2.1).
abbrev pub is_keeping : ℕ → Bool
is_keeping type = type == 1 || type == 3 || type == 8 || type == 9 || type == 10

-- whether bytes begin a packet of such a type: no other takes memory to be read
abbrev pub keeps : List ℕ → Bool
keeps [] = false
keeps (first ∷ rest) = is_keeping (first / 16)

-- whether bytes begin a PUBLISH (section 2.2.1), whole or not
abbrev pub begins_publish : List ℕ → Bool
begins_publish [] = false
begins_publish (first ∷ rest) = first / 16 == 3

-- One after the other, each spelled.
abbrev pub AreEach : {X : Type 0} → (List ℕ → X → Type 0) → List ℕ → List X → Type 0
AreEach Is text [] = text ≡ []
AreEach Is text (x ∷ xs) = (front rest : List ℕ) × Is front x × AreEach Is rest xs × (text ≡ front ++ rest)

-- A topic filter and its requested QoS (section 3.8.3).
abbrev pub IsRequest : List ℕ → List ℕ × ℕ → Type 0
IsRequest text request = (name : List ℕ) × IsText name request.0 × (request.1 ≤ 2) × (text ≡ name ++ request.1 ∷ [])

-- a return code of SUBACK (section 3.9.3)
abbrev pub is_grant : ℕ → Bool
is_grant code = nat_le code 2 || code == 128

-- The packet identifier of a PUBLISH, which is there exactly at QoS 1 (section 3.3.2.2).
abbrev pub IsIdPart : List ℕ → ℕ → Option ℕ → Type 0
IsIdPart text qos None = (qos ≡ 0) × (text ≡ [])
IsIdPart text qos (Some id) = (qos ≡ 1) × IsId text id

-- The will of a CONNECT in its payload (sections 3.1.3.2 and 3.1.3.3).
abbrev pub IsWillPart : List ℕ → Option WillData → Type 0
IsWillPart text None = text ≡ []
IsWillPart text (Some will) = (topic message : List ℕ) × IsText topic will.topic × IsCounted message will.message × (will.qos ≤ 1) × (text ≡ topic ++ message)

-- The user name, a text, and the password, any bytes, where they are there (sections 3.1.3.4 and 3.1.3.5).
abbrev pub IsUserPart : List ℕ → Option (List ℕ) → Type 0
IsUserPart text None = text ≡ []
IsUserPart text (Some user) = IsText text user

abbrev pub IsPasswordPart : List ℕ → Option (List ℕ) → Type 0
IsPasswordPart text None = text ≡ []
IsPasswordPart text (Some password) = IsCounted text password

-- whether there is one
abbrev pub is_there : {X : Type 0} → Option X → Bool
is_there None = false
is_there (Some x) = true

-- Bits 5 to 2 of the connect flags: will retain, will QoS, will (sections 3.1.2.5 to 3.1.2.7).
abbrev pub will_bits : Option WillData → ℕ
will_bits None = 0
will_bits (Some will) = 32 * bit will.retain + 8 * will.qos + 4

-- The connect flags (section 3.1.2.3): user name, password, the will's bits, clean session, and 0.
abbrev pub connect_flags : (user password : Bool) → Option WillData → (clean : Bool) → ℕ
connect_flags user password will clean = 128 * bit user + 64 * bit password + will_bits will + 2 * bit clean

-- the protocol name `MQTT` behind its length, and level 4 (sections 3.1.2.1 and 3.1.2.2)
abbrev pub protocol : List ℕ
protocol = 0 ∷ 4 ∷ 77 ∷ 81 ∷ 84 ∷ 84 ∷ 4 ∷ []

-- What a CONNECT holds beside what it says: a user name and a password, which are read and left out.
pub record IsConnect (body : List ℕ) (client : List ℕ) (clean : Bool) (keep : ℕ) (will : Option WillData) : Type 0 where
  pub user : Option (List ℕ)
  pub password : Option (List ℕ)
  pub keep_text : List ℕ
  pub client_text : List ℕ
  pub will_text : List ℕ
  pub user_text : List ℕ
  pub password_text : List ℕ
  pub is_keep : IsNumber keep_text keep
  pub is_client : IsText client_text client
  pub is_will : IsWillPart will_text will
  pub is_user : IsUserPart user_text user
  pub is_password : IsPasswordPart password_text password
  pub no_password_alone : is_there password ≡ true → is_there user ≡ true
  pub parts : body ≡ protocol ++ (connect_flags (is_there user) (is_there password) will clean ∷ (keep_text ++ (client_text ++ (will_text ++ (user_text ++ password_text)))))

-- The body of each packet (sections 3.1 to 3.14).
abbrev pub IsBody : Message → List ℕ → Type 0
IsBody (Connect client clean keep will) body = IsConnect body client clean keep will
IsBody (ConnAck present code) body = (code ≤ 5) × (body ≡ bit present ∷ code ∷ [])
IsBody (Publish dup qos retain topic id payload) body = (name part : List ℕ) × IsText name topic × IsIdPart part qos id × (dup ≡ true → qos ≡ 1) × (body ≡ name ++ (part ++ payload))
IsBody (PubAck id) body = IsId body id
IsBody (Subscribe id filters) body = (front rest : List ℕ) × IsId front id × (0 < length filters) × AreEach IsRequest rest filters × (body ≡ front ++ rest)
IsBody (SubAck id codes) body = (front : List ℕ) × IsId front id × (0 < length codes) × (list_all is_grant codes ≡ true) × (body ≡ front ++ codes)
IsBody (Unsubscribe id filters) body = (front rest : List ℕ) × IsId front id × (0 < length filters) × AreEach IsText rest filters × (body ≡ front ++ rest)
IsBody (UnsubAck id) body = IsId body id
IsBody _ body = body ≡ []

-- The first byte: the type in bits 7 to 4, the flags in bits 3 to 0 (sections 2.2.1 and 2.2.2).
abbrev pub first_byte : Message → ℕ
first_byte (Connect client clean keep will) = 16
first_byte (ConnAck present code) = 32
first_byte (Publish dup qos retain topic id payload) = 48 + 8 * bit dup + 2 * qos + bit retain
first_byte (PubAck id) = 64
first_byte (Subscribe id filters) = 130
first_byte (SubAck id codes) = 144
first_byte (Unsubscribe id filters) = 162
first_byte (UnsubAck id) = 176
first_byte PingReq = 192
first_byte PingResp = 208
first_byte Disconnect = 224

-- the greatest packet, in bytes (own rule)
abbrev pub largest : ℕ
largest = 1048576

-- The bytes are the packet, whole and alone: first byte, remaining length, body.
pub record Spells (bytes : List ℕ) (p : Message) : Type 0 where
  pub size : List ℕ
  pub body : List ℕ
  pub is_size : IsLength size (length body)
  pub is_body : IsBody p body
  pub parts : bytes ≡ first_byte p ∷ (size ++ body)
  pub small : length bytes ≤ largest
