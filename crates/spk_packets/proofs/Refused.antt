-- What bytes spell is not refused in writing: nothing that it holds is, and its canonical spelling is the shortest.
use Rattle.std.proofs.Common.{◌≡◌, ℕ, zero, suc, ◌+◌, ◌<◌, ◌≤◌, eqb, Bool, true, false, not, List, [], ◌∷◌, ◌++◌, length, Option, Some, None, refl, sym, ap, subst, ◌∙◌, inl, inr, arith}
use Rattle.std.specs.Prelude.{◌&&◌, ◌||◌, nat_lt}
use Rattle.std.specs.List.{All, list_any, list_all, flat_map}
use Rattle.std.proofs.lemmas.Bool.{ltb-false, le-ltb}
use Rattle.std.proofs.lemmas.List.{length-append}
use Rattle.std.proofs.lemmas.List.Elements.{All-head, All-tail}
use Rattle.spk_packets.specs.declared.fault.PacketFault.{PacketFault}
use Rattle.spk_packets.specs.Fault.{first_of}
use Rattle.spk_packets.specs.Message.{WillData, Message, Connect, ConnAck, Publish, PubAck, Subscribe, SubAck, Unsubscribe, UnsubAck, PingReq, PingResp, Disconnect}
use Rattle.spk_packets.specs.Grammar.{is_there, connect_flags, protocol, first_byte, has_zero, is_grant, IsNumber, IsCounted, IsText, IsRequest, IsIdPart, IsWillPart, IsConnect, IsBody, AreEach, AreSevens, Spells}
use Rattle.spk_packets.specs.Spelling.{counted, request, id_part, will_part, body, shortest, spelling, is_bad_text, has_bad_topic, has_bad_text, is_empty, has_bad_will, has_bad_id, has_bad_body, will_is_of_qos_two, is_qos_two, content_refusals, unwritable}
use Rattle.spk_packets.proofs.Bytes.{IsBytes, IsBytes-rest, IsBytes-after, IsBytes-before}
use Rattle.spk_packets.proofs.PartLaws.{not_zero}
use Rattle.spk_packets.proofs.Canonical.{split}
use Rattle.spk_packets.proofs.Written.{is_writable}

neither : (a b : Bool) → a ≡ false → b ≡ false → (a || b) ≡ false
neither true b e f = absurd cc
neither false b e f = f

IsBytes-from_all : (bytes : List ℕ) → All (λ b. b < 256) bytes → IsBytes bytes
IsBytes-from_all [] all i = omega arith
IsBytes-from_all (b ∷ bs) all zero = All-head (λ b. b < 256) b bs all
IsBytes-from_all (b ∷ bs) all (suc i) = IsBytes-from_all bs (All-tail (λ b. b < 256) b bs all) i

-- bytes that stand in bytes, behind others or before others
behind : (text front rest : List ℕ) → IsBytes text → text ≡ front ++ rest → IsBytes rest
behind text front rest fits e = IsBytes-after front rest (subst (λ (t : List ℕ). IsBytes t) e fits)

before : (text front rest : List ℕ) → IsBytes text → text ≡ front ++ rest → IsBytes front
before text front rest fits e = IsBytes-before front rest (subst (λ (t : List ℕ). IsBytes t) e fits)

-- ---- parts

number_low : (text : List ℕ) (n : ℕ) → IsBytes text → IsNumber text n → n ≤ 65535
number_low text n fits is =
    let here : IsBytes (is.0 ∷ is.1 ∷ []) = subst (λ (t : List ℕ). IsBytes t) is.2 fits in
    let high : is.0 < 256 = here 0 in
    let low : is.1 < 256 = here 1 in
    omega (arith, is.3)

number_length : (text : List ℕ) (n : ℕ) → IsNumber text n → length text ≡ 2
number_length text n is = ap length is.2

counted_low : (text bytes : List ℕ) → IsBytes text → IsCounted text bytes → length bytes ≤ 65535
counted_low text bytes fits is = number_low is.0 (length bytes) (before text is.0 bytes fits is.2) is.1

counted_length : (text bytes : List ℕ) → IsCounted text bytes → length (counted bytes) ≡ length text
counted_length text bytes is =
    let whole : length text ≡ length (is.0 ++ bytes) = ap length is.2 in
    omega (arith, length-append is.0 bytes, number_length is.0 (length bytes) is.1)

text_good : (text bytes : List ℕ) → IsBytes text → IsText text bytes → is_bad_text bytes ≡ false
text_good text bytes fits is = neither (nat_lt 65535 (length bytes)) (has_zero bytes) (le-ltb _ _ (counted_low text bytes fits is.0)) is.2

text_length : (text bytes : List ℕ) → IsText text bytes → length (counted bytes) ≡ length text
text_length text bytes is = counted_length text bytes is.0

request_good : (text : List ℕ) (entry : List ℕ × ℕ) → IsBytes text → IsRequest text entry → is_bad_text entry.0 ≡ false
request_good text entry fits is = text_good is.0 entry.0 (before text is.0 (entry.1 ∷ []) fits is.3) is.1

request_low : (text : List ℕ) (entry : List ℕ × ℕ) → IsBytes text → IsRequest text entry → nat_lt 2 entry.1 ≡ false
request_low text entry fits is = le-ltb _ _ is.2

request_length : (text : List ℕ) (entry : List ℕ × ℕ) → IsRequest text entry → length (request entry) ≡ length text
request_length text entry is =
    let whole : length text ≡ length (is.0 ++ entry.1 ∷ []) = ap length is.3 in
    omega (arith, length-append is.0 (entry.1 ∷ []), length-append (counted entry.0) (entry.1 ∷ []), text_length is.0 entry.0 is.1)

module _ {X : Type 0} (Is : List ℕ → X → Type 0) where
  each_none : (bad : X → Bool) → ((text : List ℕ) (x : X) → IsBytes text → Is text x → bad x ≡ false) → (text : List ℕ) (xs : List X) → IsBytes text → AreEach Is text xs → list_any bad xs ≡ false
  each_none bad good text [] fits is = refl
  each_none bad good text (x ∷ xs) fits is =
      neither (bad x) (list_any bad xs) (good is.0 x (before text is.0 is.1 fits is.4) is.2) (each_none bad good is.1 xs (behind text is.0 is.1 fits is.4) is.3)

  each_length : (spelled : X → List ℕ) → ((text : List ℕ) (x : X) → Is text x → length (spelled x) ≡ length text) → (text : List ℕ) (xs : List X) → AreEach Is text xs → length (flat_map spelled xs) ≡ length text
  each_length spelled same text [] is = sym (ap length is)
  each_length spelled same text (x ∷ xs) is =
      let whole : length text ≡ length (is.0 ++ is.1) = ap length is.4 in
      omega (arith, length-append is.0 is.1, length-append (spelled x) (flat_map spelled xs), same is.0 x is.2, each_length spelled same is.1 xs is.3)

not_empty : {X : Type 0} (xs : List X) → 0 < length xs → is_empty xs ≡ false
not_empty [] some = absurd (omega arith)
not_empty (x ∷ xs) some = refl

-- ---- the will

low_is_not_two : (qos : ℕ) → qos ≤ 1 → eqb qos 2 ≡ false
low_is_not_two zero low = refl
low_is_not_two (suc zero) low = refl
low_is_not_two (suc (suc n)) low = absurd (omega arith)

will_topic_good : (text : List ℕ) (will : Option WillData) → IsBytes text → IsWillPart text will → has_bad_topic will ≡ false
will_topic_good text None fits is = refl
will_topic_good text (Some will) fits is = text_good is.0 will.topic (before text is.0 is.1 fits is.5) is.2

will_good : (text : List ℕ) (will : Option WillData) → IsBytes text → IsWillPart text will → has_bad_will will ≡ false
will_good text None fits is = refl
will_good text (Some will) fits is =
    let short = counted_low is.1 will.message (behind text is.0 is.1 fits is.5) is.3 in
    neither (nat_lt 65535 (length will.message)) (nat_lt 2 will.qos) (le-ltb _ _ short) (le-ltb _ _ (omega (arith, is.4)))

will_not_two : (text : List ℕ) (will : Option WillData) → IsWillPart text will → will_is_of_qos_two will ≡ false
will_not_two text None is = refl
will_not_two text (Some will) is = low_is_not_two will.qos is.4

will_length : (text : List ℕ) (will : Option WillData) → IsWillPart text will → length (will_part will) ≡ length text
will_length text None is = sym (ap length is)
will_length text (Some will) is =
    let whole : length text ≡ length (is.0 ++ is.1) = ap length is.5 in
    omega (arith, length-append is.0 is.1, length-append (counted will.topic) (counted will.message), text_length is.0 will.topic is.2, counted_length is.1 will.message is.3)

-- ---- bodies

-- Nothing of the packet is refused but its length, and its canonical body is no longer than these bytes.
record IsGood (p : Message) (text : List ℕ) : Type 0 where
  no_bad_text : has_bad_text p ≡ false
  no_bad_body : has_bad_body p ≡ false
  no_qos_two : is_qos_two p ≡ false
  no_longer : length (body p) ≤ length text

connect_length : (keep client will login : List ℕ) (flags : ℕ) → length (protocol ++ (flags ∷ (keep ++ (client ++ (will ++ login))))) ≡ 8 + length keep + length client + length will + length login
connect_length keep client will login flags =
    omega (arith, length-append keep (client ++ (will ++ login)), length-append client (will ++ login), length-append will login)

connect_good : (client : List ℕ) (clean : Bool) (keep : ℕ) (will : Option WillData) (text : List ℕ) → IsBytes text → IsConnect text client clean keep will → IsGood (Connect client clean keep will) text
unfolding body has_bad_text has_bad_body is_qos_two
connect_good client clean keep will text fits is =
    let login = is.user_text ++ is.password_text in
    let flags = connect_flags (is_there is.user) (is_there is.password) will clean in
    let from_flags = behind text protocol (flags ∷ (is.keep_text ++ (is.client_text ++ (is.will_text ++ login)))) fits is.parts in
    let from_keep = IsBytes-rest flags (is.keep_text ++ (is.client_text ++ (is.will_text ++ login))) from_flags in
    let from_client = IsBytes-after is.keep_text (is.client_text ++ (is.will_text ++ login)) from_keep in
    let client_fits = IsBytes-before is.client_text (is.will_text ++ login) from_client in
    let will_fits = IsBytes-before is.will_text login (IsBytes-after is.client_text (is.will_text ++ login) from_client) in
    let whole : length text ≡ 8 + length is.keep_text + length is.client_text + length is.will_text + length login =
    ap length is.parts ∙ connect_length is.keep_text is.client_text is.will_text login flags in
    record {
      no_bad_text = neither (is_bad_text client) (has_bad_topic will) (text_good is.client_text client client_fits is.is_client) (will_topic_good is.will_text will will_fits is.is_will);
      no_bad_body = will_good is.will_text will will_fits is.is_will;
      no_qos_two = will_not_two is.will_text will is.is_will;
      no_longer = omega (arith, length-append (counted client) (will_part will), number_length is.keep_text keep is.is_keep, text_length is.client_text client is.is_client, will_length is.will_text will is.is_will);
    }

id_part_good : (dup : Bool) (qos : ℕ) (id : Option ℕ) (part : List ℕ) → IsIdPart part qos id → (dup ≡ true → qos ≡ 1) → ((nat_lt 2 qos || (dup && eqb qos 0)) || has_bad_id qos id) ≡ false
id_part_good true zero None part is dup_one = let one : zero ≡ suc zero = dup_one refl in absurd (omega arith)
id_part_good false zero None part is dup_one = refl
id_part_good dup (suc n) None part is dup_one = absurd (omega (arith, is.0))
id_part_good dup zero (Some id) part is dup_one = absurd (omega (arith, is.0))
id_part_good true (suc zero) (Some id) part is dup_one = not_zero id is.1.1
id_part_good false (suc zero) (Some id) part is dup_one = not_zero id is.1.1
id_part_good dup (suc (suc n)) (Some id) part is dup_one = absurd (omega (arith, is.0))

id_part_low : (qos : ℕ) (id : Option ℕ) (part : List ℕ) → IsIdPart part qos id → qos ≤ 1
id_part_low qos None part is = omega (arith, is.0)
id_part_low qos (Some id) part is = omega (arith, is.0)

id_part_length : (qos : ℕ) (id : Option ℕ) (part : List ℕ) → IsIdPart part qos id → length (id_part id) ≡ length part
id_part_length qos None part is = sym (ap length is.1)
id_part_length qos (Some id) part is = sym (number_length part id is.1.0)

body_good : (p : Message) (text : List ℕ) → IsBytes text → IsBody p text → IsGood p text
unfolding body has_bad_text has_bad_body is_qos_two
body_good (Connect client clean keep will) text fits is = connect_good client clean keep will text fits is
body_good (ConnAck present code) text fits is = record {
  no_bad_text = refl;
  no_bad_body = le-ltb _ _ is.0;
  no_qos_two = refl;
  no_longer = let whole : length text ≡ 2 = ap length is.1 in omega arith;
}
body_good (Publish dup qos retain topic id payload) text fits is =
    let whole : length text ≡ length (is.0 ++ (is.1 ++ payload)) = ap length is.5 in
    record {
      no_bad_text = text_good is.0 topic (before text is.0 (is.1 ++ payload) fits is.5) is.2;
      no_bad_body = id_part_good dup qos id is.1 is.3 is.4;
      no_qos_two = low_is_not_two qos (id_part_low qos id is.1 is.3);
      no_longer = omega (arith, length-append is.0 (is.1 ++ payload), length-append is.1 payload, length-append (counted topic) (id_part id ++ payload), length-append (id_part id) payload, text_length is.0 topic is.2, id_part_length qos id is.1 is.3);
    }
body_good (PubAck id) text fits is = record { no_bad_text = refl; no_bad_body = not_zero id is.1; no_qos_two = refl; no_longer = omega (arith, number_length text id is.0) }
body_good (Subscribe id filters) text fits is =
    let whole : length text ≡ length (is.0 ++ is.1) = ap length is.5 in
    let rest_fits = behind text is.0 is.1 fits is.5 in
    let low = each_none IsRequest (λ entry. nat_lt 2 entry.1) request_low is.1 filters rest_fits is.4 in
    record {
      no_bad_text = each_none IsRequest (λ entry. is_bad_text entry.0) request_good is.1 filters rest_fits is.4;
      no_bad_body = neither (eqb id 0 || is_empty filters) (list_any (λ entry. nat_lt 2 entry.1) filters) (neither (eqb id 0) (is_empty filters) (not_zero id is.2.1) (not_empty filters is.3)) low;
      no_qos_two = refl;
      no_longer = omega (arith, length-append is.0 is.1, number_length is.0 id is.2.0, each_length IsRequest request request_length is.1 filters is.4);
    }
body_good (SubAck id given) text fits is =
    let whole : length text ≡ length (is.0 ++ given) = ap length is.4 in
    let granted : not (list_all is_grant given) ≡ false = ap not is.3 in
    record {
      no_bad_text = refl;
      no_bad_body = neither (eqb id 0 || is_empty given) (not (list_all is_grant given)) (neither (eqb id 0) (is_empty given) (not_zero id is.1.1) (not_empty given is.2)) granted;
      no_qos_two = refl;
      no_longer = omega (arith, length-append is.0 given, number_length is.0 id is.1.0);
    }
body_good (Unsubscribe id filters) text fits is =
    let whole : length text ≡ length (is.0 ++ is.1) = ap length is.5 in
    record {
      no_bad_text = each_none IsText is_bad_text text_good is.1 filters (behind text is.0 is.1 fits is.5) is.4;
      no_bad_body = neither (eqb id 0) (is_empty filters) (not_zero id is.2.1) (not_empty filters is.3);
      no_qos_two = refl;
      no_longer = omega (arith, length-append is.0 is.1, number_length is.0 id is.2.0, each_length IsText counted text_length is.1 filters is.4);
    }
body_good (UnsubAck id) text fits is = record { no_bad_text = refl; no_bad_body = not_zero id is.1; no_qos_two = refl; no_longer = omega (arith, number_length text id is.0) }
body_good PingReq text fits is = record { no_bad_text = refl; no_bad_body = refl; no_qos_two = refl; no_longer = omega arith }
body_good PingResp text fits is = record { no_bad_text = refl; no_bad_body = refl; no_qos_two = refl; no_longer = omega arith }
body_good Disconnect text fits is = record { no_bad_text = refl; no_bad_body = refl; no_qos_two = refl; no_longer = omega arith }

-- ---- the remaining length: no form of a number is shorter than the shortest of that number or a smaller one

one_byte : (text : List ℕ) (n : ℕ) → AreSevens text n → 1 ≤ length text
one_byte [] n is = absurd is
one_byte (b ∷ bs) n is = omega arith

two_bytes : (text : List ℕ) (n : ℕ) → 128 ≤ n → AreSevens text n → 2 ≤ length text
two_bytes [] n over is = absurd is
two_bytes (b ∷ []) n over is = absurd (omega (arith, is.0, is.1))
two_bytes (b ∷ c ∷ bs) n over is = omega arith

three_bytes : (text : List ℕ) (n : ℕ) → 16384 ≤ n → AreSevens text n → 3 ≤ length text
three_bytes [] n over is = absurd is
three_bytes (b ∷ []) n over is = absurd (omega (arith, is.0, is.1))
three_bytes (b ∷ c ∷ bs) n over is =
    let high : 128 ≤ is.1.0 = omega (arith, is.1.1) in
    let rest : 2 ≤ length (c ∷ bs) = two_bytes (c ∷ bs) is.1.0 high is.1.2 in
    omega arith

four_bytes : (text : List ℕ) (n : ℕ) → 2097152 ≤ n → AreSevens text n → 4 ≤ length text
four_bytes [] n over is = absurd is
four_bytes (b ∷ []) n over is = absurd (omega (arith, is.0, is.1))
four_bytes (b ∷ c ∷ bs) n over is =
    let high : 16384 ≤ is.1.0 = omega (arith, is.1.1) in
    let rest : 3 ≤ length (c ∷ bs) = three_bytes (c ∷ bs) is.1.0 high is.1.2 in
    omega arith

shortest_no_longer : (text : List ℕ) (m n : ℕ) → m ≤ n → AreSevens text n → length (shortest m) ≤ length text
unfolding shortest
shortest_no_longer text m n le is =
    elim (split (nat_lt m 128)) [
      | inl a ↦ rw a (one_byte text n is)
      | inr a ↦ elim (split (nat_lt m 16384)) [
        | inl b ↦ rw (a, b) (two_bytes text n (omega (arith, ltb-false _ _ a)) is)
        | inr b ↦ elim (split (nat_lt m 2097152)) [
          | inl c ↦ rw (a, b, c) (three_bytes text n (omega (arith, ltb-false _ _ b)) is)
          | inr c ↦ rw (a, b, c) (four_bytes text n (omega (arith, ltb-false _ _ c)) is)
        ]
      ]
    ]

-- ---- the whole

none_so_far : (b : Bool) (d : PacketFault) (rest : List (Bool × PacketFault)) → b ≡ false → first_of rest ≡ None → first_of ((b, d) ∷ rest) ≡ None
none_so_far true d rest e none = absurd cc
none_so_far false d rest e none = none

contents_good : (p : Message) (text : List ℕ) → IsGood p text → first_of (content_refusals p) ≡ None
contents_good p text good = rw (good.no_bad_text, good.no_bad_body, good.no_qos_two) refl

pub spelled_is_writable : (text : List ℕ) (p : Message) → All (λ b. b < 256) text → Spells text p → first_of (unwritable p) ≡ None
spelled_is_writable text p all is =
    let from_size = behind text (first_byte p ∷ []) (is.size ++ is.body) (IsBytes-from_all text all) is.parts in
    let good = body_good p is.body (IsBytes-after is.size is.body from_size) is.is_body in
    let whole : length text ≡ length (first_byte p ∷ (is.size ++ is.body)) = ap length is.parts in
    let shorter = shortest_no_longer is.size (length (body p)) (length is.body) good.no_longer is.is_size.1 in
    is_writable p (contents_good p is.body good) (omega (arith, good.no_longer, shorter, is.small, length-append is.size is.body))

pub spelled_is_no_shorter : (text : List ℕ) (p : Message) → All (λ b. b < 256) text → Spells text p → length (spelling p) ≤ length text
unfolding spelling
spelled_is_no_shorter text p all is =
    let from_size = behind text (first_byte p ∷ []) (is.size ++ is.body) (IsBytes-from_all text all) is.parts in
    let good = body_good p is.body (IsBytes-after is.size is.body from_size) is.is_body in
    let whole : length text ≡ length (first_byte p ∷ (is.size ++ is.body)) = ap length is.parts in
    let shorter = shortest_no_longer is.size (length (body p)) (length is.body) good.no_longer is.is_size.1 in
    omega (arith, good.no_longer, shorter, length-append is.size is.body, length-append (shortest (length (body p))) (body p))
