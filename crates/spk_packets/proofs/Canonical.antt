-- The canonical spelling of a packet that is not refused spells it.
use Rattle.std.proofs.Common.{◌≡◌, ℕ, zero, suc, ◌+◌, ◌*◌, ◌/◌, ◌%◌, ◌<◌, ◌≤◌, eqb, Bool, true, false, not, List, [], ◌∷◌, ◌++◌, length, map, Option, Some, None, Result, Ok, Err, Vec, refl, sym, ap, subst, ◌∙◌, inl, inr, ◌⊎◌, arith, string_bytes, String, Global}
use Rattle.std.specs.Prelude.{◌&&◌, ◌||◌, nat_lt, IfOk, OnOk}
use Rattle.std.specs.Option.{option_map}
use Rattle.std.specs.List.{list_any, list_all, flat_map}
use Rattle.std.specs.Str.{IsUtf8}
use Rattle.std.proofs.lemmas.List.{append-nil}
use Rattle.std.proofs.lemmas.Str.{IsUtf8-had}
use Rattle.std.proofs.lemmas.Bool.{eqb-true, ltb-false, ltb-true, lt-ltb}
use Rattle.spk_packets.specs.declared.packet.Packet.{Packet}
use Rattle.spk_packets.specs.declared.packet.Packet.TheVariants as packets
use Rattle.spk_packets.specs.declared.packet.Request.{Request}
use Rattle.spk_packets.specs.declared.packet.Will.{Will}
use Rattle.spk_packets.specs.declared.fault.PacketFault.{PacketFault}
use Rattle.spk_packets.specs.declared.fault.PacketFault.TheVariants.{BadText, BadBody, QosTwo, TooLarge}
use Rattle.spk_packets.specs.Fault.{first_of}
use Rattle.spk_packets.specs.Message.{WillData, Message, Connect, ConnAck, Publish, PubAck, Subscribe, SubAck, Unsubscribe, UnsubAck, PingReq, PingResp, Disconnect}
use Rattle.spk_packets.specs.Grammar.{bit, has_zero, is_grant, connect_flags, protocol, first_byte, largest, IsNumber, IsId, IsCounted, IsText, IsRequest, IsIdPart, IsWillPart, IsBody, AreEach, AreSevens, IsLength, Spells}
use Rattle.spk_packets.specs.Refusals.{Refusals}
use Rattle.spk_packets.specs.Spelling.{number, counted, request, id_part, will_part, body, shortest, spelling, is_bad_text, has_bad_topic, has_bad_text, is_empty, has_bad_will, has_bad_id, has_bad_body, will_is_of_qos_two, is_qos_two, unwritable, IsWord, HasWords, AreUtf8, AreRequestsUtf8, WillIsUtf8, TextsAreUtf8}
use Rattle.spk_packets.specs.View.{view, will_view, request_view}
use Rattle.spk_packets.proofs.Written.{length-spelling}

-- ---- tests

no_left : (a b : Bool) → (a || b) ≡ false → a ≡ false
no_left true b e = absurd cc
no_left false b e = refl

no_right : (a b : Bool) → (a || b) ≡ false → b ≡ false
no_right true b e = absurd cc
no_right false b e = e

not_none : (b : Bool) → not b ≡ false → b ≡ true
not_none true e = refl
not_none false e = absurd cc

first_none : (b : Bool) (d : PacketFault) (rest : Refusals) → first_of ((b, d) ∷ rest) ≡ None → (b ≡ false) × (first_of rest ≡ None)
first_none true d rest e = absurd cc
first_none false d rest e = (refl, e)

-- ---- parts

low_byte : (k : ℕ) → k < 256 → k % 256 ≡ k
low_byte k lt = omega arith

word_is : (n : ℕ) → n < 65536 → n ≡ 256 * (n / 256 % 256) + n % 256
word_is n lt =
    let high : n / 256 < 256 = omega arith in
    let same : n / 256 % 256 ≡ n / 256 = low_byte (n / 256) high in
    omega arith

number_spells : (n : ℕ) → n < 65536 → IsNumber (number n) n
number_spells n lt = (n / 256 % 256, n % 256, refl, word_is n lt)

above_zero : (n : ℕ) → eqb n 0 ≡ false → 0 < n
above_zero zero e = absurd cc
above_zero (suc n) e = omega arith

id_spells : (n : ℕ) → n < 65536 → eqb n 0 ≡ false → IsId (number n) n
id_spells n lt e = (number_spells n lt, above_zero n e)

counted_spells : (bytes : List ℕ) → nat_lt 65535 (length bytes) ≡ false → IsCounted (counted bytes) bytes
counted_spells bytes e =
    let le : length bytes ≤ 65535 = ltb-false _ _ e in
    (number (length bytes), number_spells (length bytes) (omega arith), refl)

text_spells : (bytes : List ℕ) → is_bad_text bytes ≡ false → IsUtf8 bytes → IsText (counted bytes) bytes
text_spells bytes e u = (counted_spells bytes (no_left (nat_lt 65535 (length bytes)) (has_zero bytes) e), u, no_right (nat_lt 65535 (length bytes)) (has_zero bytes) e)

-- each text of the list is UTF-8
texts_spell : (texts : List (List ℕ)) → list_any is_bad_text texts ≡ false → AreUtf8 texts → AreEach IsText (flat_map counted texts) texts
texts_spell [] e u = refl
texts_spell (x ∷ xs) e u =
    (counted x, flat_map counted xs, text_spells x (no_left (is_bad_text x) (list_any is_bad_text xs) e) u.0, texts_spell xs (no_right (is_bad_text x) (list_any is_bad_text xs) e) u.1, refl)

request_spells : (entry : List ℕ × ℕ) → is_bad_text entry.0 ≡ false → nat_lt 2 entry.1 ≡ false → IsUtf8 entry.0 → IsRequest (request entry) entry
request_spells entry e low u = (counted entry.0, text_spells entry.0 e u, ltb-false _ _ low, refl)

requests_spell : (entries : List (List ℕ × ℕ)) → list_any (λ entry. is_bad_text entry.0) entries ≡ false → list_any (λ entry. nat_lt 2 entry.1) entries ≡ false → AreRequestsUtf8 entries
    → AreEach IsRequest (flat_map request entries) entries
requests_spell [] e low u = refl
requests_spell (x ∷ xs) e low u = (
  request x,
  flat_map request xs,
  request_spells x (no_left (is_bad_text x.0) (list_any (λ entry. is_bad_text entry.0) xs) e) (no_left (nat_lt 2 x.1) (list_any (λ entry. nat_lt 2 entry.1) xs) low) u.0,
  requests_spell xs (no_right (is_bad_text x.0) (list_any (λ entry. is_bad_text entry.0) xs) e) (no_right (nat_lt 2 x.1) (list_any (λ entry. nat_lt 2 entry.1) xs) low) u.1,
  refl,
)

some_items : {X : Type 0} (xs : List X) → is_empty xs ≡ false → 0 < length xs
some_items [] e = absurd cc
some_items (x ∷ xs) e = omega arith

-- QoS 3 and more and QoS 2 are refused
low_qos : (qos : ℕ) → nat_lt 2 qos ≡ false → eqb qos 2 ≡ false → qos ≤ 1
low_qos zero low two = omega arith
low_qos (suc zero) low two = omega arith
low_qos (suc (suc zero)) low two = absurd cc
low_qos (suc (suc (suc n))) low two = let le : suc (suc (suc n)) ≤ 2 = ltb-false _ _ low in absurd (omega arith)

-- ---- the texts of a packet of the code

string_utf8 : (s : String Global) → IsUtf8 (string_bytes s)
string_utf8 s = IsUtf8-had (string_bytes s) s.ok

strings_utf8 : (xs : List (String Global)) → AreUtf8 (map (λ filter. string_bytes filter) xs)
strings_utf8 [] = tt
strings_utf8 (x ∷ xs) = (string_utf8 x, strings_utf8 xs)

requests_utf8 : (xs : List Request) → AreRequestsUtf8 (map request_view xs)
requests_utf8 [] = tt
requests_utf8 (x ∷ xs) = (string_utf8 x.filter, requests_utf8 xs)

will_utf8 : (will : Option Will) → WillIsUtf8 (option_map will_view will)
will_utf8 None = tt
will_utf8 (Some will) = string_utf8 will.topic

pub packet_utf8 : (packet : Packet) → TextsAreUtf8 (view packet)
packet_utf8 (packets.Connect client clean keep will) = (string_utf8 client, will_utf8 will)
packet_utf8 (packets.ConnAck present code) = tt
packet_utf8 (packets.Publish dup qos retain topic id payload) = string_utf8 topic
packet_utf8 (packets.PubAck id) = tt
packet_utf8 (packets.Subscribe id filters) = requests_utf8 filters.items
packet_utf8 (packets.SubAck id codes) = tt
packet_utf8 (packets.Unsubscribe id filters) = strings_utf8 filters.items
packet_utf8 (packets.UnsubAck id) = tt
packet_utf8 packets.PingReq = tt
packet_utf8 packets.PingResp = tt
packet_utf8 packets.Disconnect = tt

-- ---- bodies

will_spells : (will : Option WillData) → has_bad_topic will ≡ false → has_bad_will will ≡ false → will_is_of_qos_two will ≡ false → WillIsUtf8 will → IsWillPart (will_part will) will
will_spells None t b two u = refl
will_spells (Some will) t b two u = (
  counted will.topic,
  counted will.message,
  text_spells will.topic t u,
  counted_spells will.message (no_left (nat_lt 65535 (length will.message)) (nat_lt 2 will.qos) b),
  low_qos will.qos (no_right (nat_lt 65535 (length will.message)) (nat_lt 2 will.qos) b) two,
  refl,
)

bit_low : (b : Bool) → bit b ≤ 1
bit_low true = omega arith
bit_low false = omega arith

flags_low : (will : Option WillData) (clean : Bool) (text : List ℕ) → IsWillPart text will → connect_flags false false will clean % 256 ≡ connect_flags false false will clean
flags_low None clean text is = low_byte _ (omega (arith, bit_low clean))
flags_low (Some will) clean text is = low_byte _ (omega (arith, bit_low clean, bit_low will.retain, is.4))

id_part_spells : (qos : ℕ) (id : Option ℕ) → qos ≤ 1 → has_bad_id qos id ≡ false → IsWord id → IsIdPart (id_part id) qos id
id_part_spells zero None le bad word = (refl, refl)
id_part_spells (suc zero) None le bad word = absurd cc
id_part_spells (suc (suc n)) None le bad word = absurd (omega arith)
id_part_spells qos (Some id) le bad word =
    (eqb-true _ _ (not_none (eqb qos 1) (no_left (not (eqb qos 1)) (eqb id 0) bad)), id_spells id word (no_right (not (eqb qos 1)) (eqb id 0) bad))

dup_one : (dup : Bool) (qos : ℕ) → qos ≤ 1 → (dup && eqb qos 0) ≡ false → dup ≡ true → qos ≡ 1
dup_one true zero le e t = absurd cc
dup_one true (suc zero) le e t = refl
dup_one true (suc (suc n)) le e t = absurd (omega arith)
dup_one false qos le e t = absurd cc

connect_parts : (client : List ℕ) (clean : Bool) (keep : ℕ) (will : Option WillData) → IsWillPart (will_part will) will
    → protocol ++ (connect_flags false false will clean % 256 ∷ (number keep ++ (counted client ++ will_part will))) ≡ protocol ++ (connect_flags false false will clean ∷ (number keep ++ (counted client ++ (will_part will ++ []))))
connect_parts client clean keep will part =
    let flags = flags_low will clean (will_part will) part in
    let tail : will_part will ≡ will_part will ++ [] = sym (append-nil (will_part will)) in
    ap (λ (x : ℕ). protocol ++ (x ∷ (number keep ++ (counted client ++ will_part will)))) flags
    ∙ ap (λ (r : List ℕ). protocol ++ (connect_flags false false will clean ∷ (number keep ++ (counted client ++ r)))) tail

body_spells : (p : Message) → has_bad_text p ≡ false → has_bad_body p ≡ false → is_qos_two p ≡ false → HasWords p → TextsAreUtf8 p → IsBody p (body p)
unfolding body has_bad_text has_bad_body is_qos_two HasWords
body_spells (Connect client clean keep will) t b two words u =
    let part = will_spells will (no_right (is_bad_text client) (has_bad_topic will) t) b two u.1 in
    record {
      user = None;
      password = None;
      keep_text = number keep;
      client_text = counted client;
      will_text = will_part will;
      user_text = [];
      password_text = [];
      is_keep = number_spells keep words;
      is_client = text_spells client (no_left (is_bad_text client) (has_bad_topic will) t) u.0;
      is_will = part;
      is_user = refl;
      is_password = refl;
      no_password_alone = λ e. e;
      parts = connect_parts client clean keep will part;
    }
body_spells (ConnAck present code) t b two words u = (ltb-false _ _ b, refl)
body_spells (Publish dup qos retain topic id payload) t b two words u =
    let high = no_left (nat_lt 2 qos) (dup && eqb qos 0) (no_left (nat_lt 2 qos || (dup && eqb qos 0)) (has_bad_id qos id) b) in
    let low : qos ≤ 1 = low_qos qos high two in (
      counted topic,
      id_part id,
      text_spells topic t u,
      id_part_spells qos id low (no_right (nat_lt 2 qos || (dup && eqb qos 0)) (has_bad_id qos id) b) words,
      dup_one dup qos low (no_right (nat_lt 2 qos) (dup && eqb qos 0) (no_left (nat_lt 2 qos || (dup && eqb qos 0)) (has_bad_id qos id) b)),
      refl,
    )
body_spells (PubAck id) t b two words u = id_spells id words b
body_spells (Subscribe id filters) t b two words u =
    let first = no_left (eqb id 0 || is_empty filters) (list_any (λ entry. nat_lt 2 entry.1) filters) b in (
      number id,
      flat_map request filters,
      id_spells id words (no_left (eqb id 0) (is_empty filters) first),
      some_items filters (no_right (eqb id 0) (is_empty filters) first),
      requests_spell filters t (no_right (eqb id 0 || is_empty filters) (list_any (λ entry. nat_lt 2 entry.1) filters) b) u,
      refl,
    )
body_spells (SubAck id given) t b two words u =
    let first = no_left (eqb id 0 || is_empty given) (not (list_all is_grant given)) b in (
      number id,
      id_spells id words (no_left (eqb id 0) (is_empty given) first),
      some_items given (no_right (eqb id 0) (is_empty given) first),
      not_none (list_all is_grant given) (no_right (eqb id 0 || is_empty given) (not (list_all is_grant given)) b),
      refl,
    )
body_spells (Unsubscribe id filters) t b two words u =
    (number id, flat_map counted filters, id_spells id words (no_left (eqb id 0) (is_empty filters) b), some_items filters (no_right (eqb id 0) (is_empty filters) b), texts_spell filters t u, refl)
body_spells (UnsubAck id) t b two words u = id_spells id words b
body_spells PingReq t b two words u = refl
body_spells PingResp t b two words u = refl
body_spells Disconnect t b two words u = refl

-- ---- the remaining length and the whole

pub split : (b : Bool) → (b ≡ true) ⊎ (b ≡ false)
split true = inl refl
split false = inr refl

top_seven : (k : ℕ) → k < 128 → (k + 128) % 128 ≡ k
top_seven k lt = omega arith

two_sevens : (n : ℕ) → 128 ≤ n → n < 16384 → AreSevens ((n % 128 + 128) ∷ n / 128 ∷ []) n
two_sevens n le lt =
    let low : (n % 128 + 128) % 128 ≡ n % 128 = top_seven (n % 128) (omega arith) in
    (omega arith, (n / 128, omega arith, (omega arith, refl)))

seven_steps : (n : ℕ) → n / 128 / 128 ≡ n / 16384
seven_steps n = omega arith

three_sevens : (n : ℕ) → 16384 ≤ n → n < 2097152 → AreSevens ((n % 128 + 128) ∷ (n / 128 % 128 + 128) ∷ n / 16384 ∷ []) n
three_sevens n le lt =
    let low : (n % 128 + 128) % 128 ≡ n % 128 = top_seven (n % 128) (omega arith) in
    let mid : (n / 128 % 128 + 128) % 128 ≡ n / 128 % 128 = top_seven (n / 128 % 128) (omega arith) in
    let steps : n / 128 / 128 ≡ n / 16384 = seven_steps n in
    (omega arith, (n / 128, omega arith, (omega arith, (n / 16384, omega arith, (omega arith, refl)))))

shortest_spells : (n : ℕ) → n ≤ largest → IsLength (shortest n) n
unfolding shortest
shortest_spells n small =
    elim (split (nat_lt n 128)) [
      | inl a ↦ rw a (omega arith, (ltb-true _ _ a, refl))
      | inr a ↦ elim (split (nat_lt n 16384)) [
        | inl b ↦ rw (a, b) (omega arith, two_sevens n (ltb-false _ _ a) (ltb-true _ _ b))
        | inr b ↦ let c : nat_lt n 2097152 ≡ true = lt-ltb _ _ (omega arith) in rw (a, b, c) (omega arith, three_sevens n (ltb-false _ _ b) (omega arith))
      ]
    ]

first_low : (p : Message) → is_qos_two p ≡ false → has_bad_body p ≡ false → first_byte p % 256 ≡ first_byte p
unfolding has_bad_body is_qos_two
first_low (Connect client clean keep will) two b = refl
first_low (ConnAck present code) two b = refl
first_low (Publish dup qos retain topic id payload) two b =
    let high = no_left (nat_lt 2 qos) (dup && eqb qos 0) (no_left (nat_lt 2 qos || (dup && eqb qos 0)) (has_bad_id qos id) b) in
    let low : qos ≤ 1 = low_qos qos high two in
    low_byte _ (omega (arith, bit_low dup, bit_low retain))
first_low (PubAck id) two b = refl
first_low (Subscribe id filters) two b = refl
first_low (SubAck id given) two b = refl
first_low (Unsubscribe id filters) two b = refl
first_low (UnsubAck id) two b = refl
first_low PingReq two b = refl
first_low PingResp two b = refl
first_low Disconnect two b = refl

pub spelling_spells : (p : Message) → first_of (unwritable p) ≡ None → HasWords p → TextsAreUtf8 p → Spells (spelling p) p
unfolding spelling
spelling_spells p none words u =
    let t = first_none (has_bad_text p) BadText ((has_bad_body p, BadBody) ∷ (is_qos_two p, QosTwo) ∷ (nat_lt largest (length (spelling p)), TooLarge) ∷ []) none in
    let b = first_none (has_bad_body p) BadBody ((is_qos_two p, QosTwo) ∷ (nat_lt largest (length (spelling p)), TooLarge) ∷ []) t.1 in
    let q = first_none (is_qos_two p) QosTwo ((nat_lt largest (length (spelling p)), TooLarge) ∷ []) b.1 in
    let l = first_none (nat_lt largest (length (spelling p))) TooLarge [] q.1 in
    let small : length (spelling p) ≤ largest = ltb-false _ _ l.0 in
    let len = length-spelling p in
    record {
      size = shortest (length (body p));
      body = body p;
      is_size = shortest_spells (length (body p)) (omega arith);
      is_body = body_spells p t.0 b.0 q.0 words u;
      parts = ap (λ (x : ℕ). x ∷ (shortest (length (body p)) ++ body p)) (first_low p q.0 b.0);
      small = small;
    }

-- the same for what a call answered
pub if_spells : (packet : Packet) (r : Result (Vec ℕ Global) PacketFault) → IfOk r (λ v. v.items ≡ spelling (view packet)) → OnOk r (first_of (unwritable (view packet)) ≡ None) → OnOk r (HasWords (view packet))
    → IfOk r (λ v. Spells v.items (view packet))
if_spells packet (Ok v) is none words = subst (λ (b : List ℕ). Spells b (view packet)) (sym is) (spelling_spells (view packet) none words (packet_utf8 packet))
if_spells packet (Err e) is none words = tt
