-- What the private readers give, one definition for each: a value and the bytes after it, or the first fault. The
-- public contracts cite the grammar and the order of faults; these serve their proof.
use Rattle.std.specs.Prelude.{ℕ, zero, suc, ◌+◌, ◌*◌, ◌%◌, Bool, true, false, not, List, [], ◌∷◌, length, take, drop, Option, Some, None, Result, Ok, Err, nat_lt, nat_le, ◌==◌, if◌then◌else◌, bytes_eq, codes}
use Rattle.std.specs.List.{list_all}
use Rattle.std.specs.Str.{is_utf8}
use Rattle.spk_packets.specs.declared.fault.PacketFault.{PacketFault}
use Rattle.spk_packets.specs.declared.fault.PacketFault.TheVariants.{More, BadLength, BadFlags, BadType, BadText, BadBody, TooLarge, QosTwo, BadLevel}
use Rattle.spk_packets.specs.Message.{WillData, Message, Connect, ConnAck, Publish, PubAck, Subscribe, SubAck, Unsubscribe, UnsubAck, PingReq, PingResp, Disconnect}
use Rattle.spk_packets.specs.Grammar.{has_zero, is_grant, largest}
use Rattle.spk_packets.specs.Refusals.{flag, will_qos, has_reserved_bit, has_will_bits_alone, has_password_alone}
use Rattle.spk_packets.specs.declared.table.Kind.{Kind}
use Rattle.spk_packets.specs.declared.table.Kind.TheVariants as kinds

infixl 10 ◌>>=◌
abbrev pub ◌>>=◌ : {A B : Type 0} → Result A PacketFault → (A → Result B PacketFault) → Result B PacketFault
(Ok x) >>= f = f x
(Err e) >>= f = Err e

-- ---- the first byte

unfoldable pub kind_of : ℕ → Result Kind PacketFault
kind_of b = if nat_lt b 16 then Err BadType else if nat_le 240 b then Err BadType
    else if b == 16 then Ok kinds.Connect
    else if b == 32 then Ok kinds.ConnAck
    else if b == 48 then Ok (kinds.Publish false 0 false)
    else if b == 49 then Ok (kinds.Publish false 0 true)
    else if b == 50 then Ok (kinds.Publish false 1 false)
    else if b == 51 then Ok (kinds.Publish false 1 true)
    else if b == 58 then Ok (kinds.Publish true 1 false)
    else if b == 59 then Ok (kinds.Publish true 1 true)
    else if b == 64 then Ok kinds.PubAck
    else if b == 130 then Ok kinds.Subscribe
    else if b == 144 then Ok kinds.SubAck
    else if b == 162 then Ok kinds.Unsubscribe
    else if b == 176 then Ok kinds.UnsubAck
    else if b == 192 then Ok kinds.PingReq
    else if b == 208 then Ok kinds.PingResp
    else if b == 224 then Ok kinds.Disconnect
    else if b == 52 then Err QosTwo
    else if b == 53 then Err QosTwo
    else if b == 60 then Err QosTwo
    else if b == 61 then Err QosTwo
    else if b == 80 then Err QosTwo
    else if b == 98 then Err QosTwo
    else if b == 112 then Err QosTwo
    else Err BadFlags

-- whether a packet of this kind keeps a text, a payload or a list
abbrev pub keeps_kind : Kind → Bool
keeps_kind kinds.Connect = true
keeps_kind (kinds.Publish dup qos retain) = true
keeps_kind kinds.Subscribe = true
keeps_kind kinds.SubAck = true
keeps_kind kinds.Unsubscribe = true
keeps_kind _ = false

-- whether a packet of this kind is a PUBLISH
abbrev pub is_publish_kind : Kind → Bool
is_publish_kind (kinds.Publish dup qos retain) = true
is_publish_kind _ = false

-- ---- the remaining length

-- the number and how many bytes it takes, of at most this many
unfoldable pub length_within : ℕ → List ℕ → Result (ℕ × ℕ) PacketFault
length_within zero bytes = Err BadLength
length_within (suc n) [] = Err More
length_within (suc n) (b ∷ bs) = if nat_lt b 128 then Ok (b, 1) else (length_within n bs >>= λ x. Ok (b % 128 + 128 * x.0, 1 + x.1))

abbrev pub length_at : List ℕ → Result (ℕ × ℕ) PacketFault
length_at bytes = length_within 4 bytes

-- ---- parts

unfoldable pub number_at : List ℕ → Result (ℕ × List ℕ) PacketFault
number_at [] = Err BadBody
number_at (b ∷ []) = Err BadBody
number_at (high ∷ low ∷ rest) = Ok (256 * high + low, rest)

unfoldable pub id_at : List ℕ → Result (ℕ × List ℕ) PacketFault
id_at bytes = do
  id ← number_at bytes
  if id.0 == 0 then Err BadBody else Ok id

unfoldable pub counted_at : List ℕ → Result (List ℕ × List ℕ) PacketFault
counted_at bytes = do
  n ← number_at bytes
  if nat_lt (length n.1) n.0 then Err BadBody else Ok (take n.0 n.1, drop n.0 n.1)

unfoldable pub text_at : List ℕ → Result (List ℕ × List ℕ) PacketFault
text_at bytes = do
  text ← counted_at bytes
  if not (is_utf8 text.0) then Err BadText else if has_zero text.0 then Err BadText else Ok text

-- nothing is left
unfoldable pub ended : {X : Type 0} → X → List ℕ → Result X PacketFault
ended x [] = Ok x
ended x (b ∷ bs) = Err BadBody

-- one after the other to the end, at most this many
unfoldable pub each_within : {X : Type 0} → (List ℕ → Result (X × List ℕ) PacketFault) → ℕ → List ℕ → Result (List X) PacketFault
each_within at zero bytes = Ok []
each_within at (suc n) [] = Ok []
each_within at (suc n) (b ∷ bs) = do
  first ← at (b ∷ bs)
  others ← each_within at n first.1
  Ok (first.0 ∷ others)

abbrev pub each_at : {X : Type 0} → (List ℕ → Result (X × List ℕ) PacketFault) → List ℕ → Result (List X) PacketFault
each_at at bytes = each_within at (length bytes) bytes

-- ---- bodies

unfoldable pub connack_at : List ℕ → Result Message PacketFault
connack_at [] = Err BadBody
connack_at (present ∷ []) = Err BadBody
connack_at (present ∷ code ∷ rest) = if nat_lt 1 present then Err BadBody else if nat_lt 5 code then Err BadBody else ended (ConnAck (present == 1) code) rest

-- the packet identifier, which is there at QoS 1
unfoldable pub identified_at : ℕ → List ℕ → Result (Option ℕ × List ℕ) PacketFault
identified_at qos bytes = if qos == 1 then (id_at bytes >>= λ id. Ok (Some id.0, id.1)) else Ok (None, bytes)

unfoldable pub publish_at : Bool → ℕ → Bool → List ℕ → Result Message PacketFault
publish_at dup qos retain body = do
  topic ← text_at body
  id ← identified_at qos topic.1
  Ok (Publish dup qos retain topic.0 id.0 id.1)

-- an identifier and no more
unfoldable pub id_alone_at : List ℕ → Result ℕ PacketFault
id_alone_at body = do
  id ← id_at body
  ended id.0 id.1

unfoldable pub qos_at : List ℕ → List ℕ → Result ((List ℕ × ℕ) × List ℕ) PacketFault
qos_at filter [] = Err BadBody
qos_at filter (qos ∷ rest) = if nat_lt 2 qos then Err BadBody else Ok ((filter, qos), rest)

unfoldable pub request_at : List ℕ → Result ((List ℕ × ℕ) × List ℕ) PacketFault
request_at bytes = do
  filter ← text_at bytes
  qos_at filter.0 filter.1

-- something is left
unfoldable pub some_at : List ℕ → Result (Unit {0}) PacketFault
some_at [] = Err BadBody
some_at (b ∷ bs) = Ok tt

unfoldable pub subscribe_at : List ℕ → Result Message PacketFault
subscribe_at body = do
  id ← id_at body
  some ← some_at id.1
  filters ← each_at request_at id.1
  Ok (Subscribe id.0 filters)

unfoldable pub unsubscribe_at : List ℕ → Result Message PacketFault
unsubscribe_at body = do
  id ← id_at body
  some ← some_at id.1
  filters ← each_at text_at id.1
  Ok (Unsubscribe id.0 filters)

unfoldable pub suback_at : List ℕ → Result Message PacketFault
suback_at body = do
  id ← id_at body
  some ← some_at id.1
  if list_all is_grant id.1 then Ok (SubAck id.0 id.1) else Err BadBody

-- ---- CONNECT

-- what the connect flags say; a will is its QoS and whether it is retained
pub record FlagsData : Type 0 where
  pub user : Bool
  pub password : Bool
  pub will : Option (ℕ × Bool)
  pub clean : Bool

-- what stands behind the name and the level
unfoldable pub flags_at : ℕ → Result FlagsData PacketFault
flags_at b = if has_reserved_bit b then Err BadBody
    else if will_qos b == 3 then Err BadBody
    else if has_will_bits_alone b then Err BadBody
    else if has_password_alone b then Err BadBody
    else if will_qos b == 2 then Err QosTwo
    else Ok (record { user = flag 128 b; password = flag 64 b; will = if flag 4 b then Some (will_qos b, flag 32 b) else None; clean = flag 2 b })

unfoldable pub will_at : Option (ℕ × Bool) → List ℕ → Result (Option WillData × List ℕ) PacketFault
will_at None bytes = Ok (None, bytes)
will_at (Some will) bytes = do
  topic ← text_at bytes
  message ← counted_at topic.1
  Ok (Some (record { topic = topic.0; message = message.0; qos = will.0; retain = will.1 }), message.1)

-- the bytes after the user name and the password
unfoldable pub user_at : Bool → List ℕ → Result (List ℕ) PacketFault
user_at false bytes = Ok bytes
user_at true bytes = do
  user ← text_at bytes
  Ok user.1

unfoldable pub password_at : Bool → List ℕ → Result (List ℕ) PacketFault
password_at false bytes = Ok bytes
password_at true bytes = do
  password ← counted_at bytes
  Ok password.1

-- the user name and the password where they are there, and no more
unfoldable pub login_at : Bool → Bool → List ℕ → Result (Unit {0}) PacketFault
login_at user password bytes = do
  named ← user_at user bytes
  rest ← password_at password named
  ended tt rest

unfoldable pub flagged_at : List ℕ → Result Message PacketFault
flagged_at [] = Err BadBody
flagged_at (b ∷ rest) = do
  flags ← flags_at b
  keep ← number_at rest
  client ← text_at keep.1
  will ← will_at flags.will client.1
  login ← login_at flags.user flags.password will.1
  Ok (Connect client.0 flags.clean keep.0 will.0)

unfoldable pub level_at : List ℕ → Result Message PacketFault
level_at [] = Err BadBody
level_at (level ∷ rest) = if level == 4 then flagged_at rest else Err BadLevel

unfoldable pub connect_at : List ℕ → Result Message PacketFault
connect_at body = do
  name ← text_at body
  if bytes_eq name.0 (codes "MQTT") then level_at name.1 else Err BadBody

-- ---- the whole

unfoldable pub body_at : Kind → List ℕ → Result Message PacketFault
body_at kinds.Connect body = connect_at body
body_at kinds.ConnAck body = connack_at body
body_at (kinds.Publish dup qos retain) body = publish_at dup qos retain body
body_at kinds.PubAck body = id_alone_at body >>= λ id. Ok (PubAck id)
body_at kinds.Subscribe body = subscribe_at body
body_at kinds.SubAck body = suback_at body
body_at kinds.Unsubscribe body = unsubscribe_at body
body_at kinds.UnsubAck body = id_alone_at body >>= λ id. Ok (UnsubAck id)
body_at kinds.PingReq body = ended PingReq body
body_at kinds.PingResp body = ended PingResp body
body_at kinds.Disconnect body = ended Disconnect body

-- The kind, the body, and how many bytes the packet takes.
unfoldable pub cut_at : List ℕ → Result (Kind × (List ℕ × ℕ)) PacketFault
cut_at [] = Err More
cut_at (first ∷ rest) = do
  kind ← kind_of first
  size ← length_at rest
  if nat_lt largest (1 + size.1 + size.0) then Err TooLarge else if nat_lt (1 + length rest) (1 + size.1 + size.0) then Err More else Ok (kind, (take size.0 (drop size.1 rest), 1 + size.1 + size.0))

unfoldable pub packet_at : List ℕ → Result (Message × ℕ) PacketFault
packet_at bytes = do
  cut ← cut_at bytes
  message ← body_at cut.0 cut.1.0
  Ok (message, cut.1.1)
