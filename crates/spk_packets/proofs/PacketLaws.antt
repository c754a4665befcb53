-- The whole packet: what is read spells the packet that was given, and what spells a packet is read as it, whatever follows.
use Rattle.std.proofs.Common.{◌≡◌, ℕ, zero, suc, ◌+◌, ◌*◌, ◌%◌, ◌<◌, ◌≤◌, ltb, Bool, true, false, cond, List, [], ◌∷◌, ◌++◌, length, take, drop, Option, Some, None, Result, Ok, Err, refl, sym, ap, subst, ◌∙◌, append_assoc, inl, inr, arith}
use Rattle.std.specs.Prelude.{◌&&◌, nat_le, ◌==◌}
use Rattle.std.proofs.lemmas.Bool.{eqb-true, ltb-false, ltb-true, leb-true, le-ltb, lt-ltb}
use Rattle.std.proofs.lemmas.List.{take_at, drop_at, take-append-drop, length-append, length-take}
use Rattle.spk_packets.specs.declared.fault.PacketFault.{PacketFault}
use Rattle.spk_packets.specs.declared.fault.PacketFault.TheVariants.{More, TooLarge}
use Rattle.spk_packets.specs.declared.table.Kind.{Kind}
use Rattle.spk_packets.specs.declared.table.Kind.TheVariants as kinds
use Rattle.spk_packets.specs.Message.{Message, Connect, ConnAck, Publish, PubAck, Subscribe, SubAck, Unsubscribe, UnsubAck, PingReq, PingResp, Disconnect}
use Rattle.spk_packets.specs.Grammar.{bit, IsIdPart, AreSevens, IsLength, IsBody, first_byte, largest, Spells}
use Rattle.spk_packets.specs.Reading.{◌>>=◌, kind_of, length_within, length_at, body_at, cut_at, packet_at, id_alone_at, ended}
use Rattle.spk_packets.proofs.Faults.{bind_ok, guard_ok, ok_is, chosen}
use Rattle.spk_packets.proofs.Bytes.{all_below, at_each_below, left_of, right_of, IsBytes, IsBytes-rest, IsBytes-after, IsBytes-before}
use Rattle.spk_packets.proofs.BodyLaws.{ended_takes, connack_takes, connack_again, IsPublishFlags, publish_takes, publish_again, id_alone_takes, id_alone_again, subscribe_takes, subscribe_again, suback_takes, suback_again, unsubscribe_takes, unsubscribe_again}
use Rattle.spk_packets.proofs.ConnectLaws.{connect_takes, connect_again}

-- ---- the first byte

abbrev pub byte_of : Kind → ℕ
byte_of kinds.Connect = 16
byte_of kinds.ConnAck = 32
byte_of (kinds.Publish dup qos retain) = 48 + 8 * bit dup + 2 * qos + bit retain
byte_of kinds.PubAck = 64
byte_of kinds.Subscribe = 130
byte_of kinds.SubAck = 144
byte_of kinds.Unsubscribe = 162
byte_of kinds.UnsubAck = 176
byte_of kinds.PingReq = 192
byte_of kinds.PingResp = 208
byte_of kinds.Disconnect = 224

abbrev pub dup_fits : Bool → ℕ → Bool
dup_fits true qos = qos == 1
dup_fits false qos = true

abbrev pub flags_fit : Kind → Bool
flags_fit kinds.Connect = true
flags_fit kinds.ConnAck = true
flags_fit (kinds.Publish dup qos retain) = nat_le qos 1 && dup_fits dup qos
flags_fit kinds.PubAck = true
flags_fit kinds.Subscribe = true
flags_fit kinds.SubAck = true
flags_fit kinds.Unsubscribe = true
flags_fit kinds.UnsubAck = true
flags_fit kinds.PingReq = true
flags_fit kinds.PingResp = true
flags_fit kinds.Disconnect = true

abbrev kind_holds : ℕ → Result Kind PacketFault → Bool
kind_holds b (Ok kind) = (byte_of kind == b) && flags_fit kind
kind_holds b (Err e) = true

all_kinds_hold : all_below 256 (λ b. kind_holds b (kind_of b)) ≡ true
unfolding kind_of
all_kinds_hold = refl

pub kind_takes : (b : ℕ) (kind : Kind) → b < 256 → kind_of b ≡ Ok kind → (b ≡ byte_of kind) × (flags_fit kind ≡ true)
kind_takes b kind lt e =
    let holds : kind_holds b (Ok kind) ≡ true = subst (λ (r : Result Kind PacketFault). kind_holds b r ≡ true) e (at_each_below 256 (λ k. kind_holds k (kind_of k)) all_kinds_hold b lt) in
    (sym (eqb-true _ _ (left_of (byte_of kind == b) (flags_fit kind) holds)), right_of (byte_of kind == b) (flags_fit kind) holds)

dup_where : (dup : Bool) (qos : ℕ) → dup_fits dup qos ≡ true → dup ≡ true → qos ≡ 1
dup_where true qos h e = eqb-true _ _ h
dup_where false qos h e = absurd cc

-- ---- the bodies

pub body_takes : (kind : Kind) (body : List ℕ) (p : Message) → IsBytes body → flags_fit kind ≡ true → body_at kind body ≡ Ok p → (byte_of kind ≡ first_byte p) × IsBody p body
unfolding body_at
body_takes kinds.Connect body p fits flags e = let t = connect_takes body p fits e in subst (λ (q : Message). (16 ≡ first_byte q) × IsBody q body) (sym t.4) (refl, t.5)
body_takes kinds.ConnAck body p fits flags e = let t = connack_takes body p e in subst (λ (q : Message). (32 ≡ first_byte q) × IsBody q body) (sym t.2) (refl, t.3)
body_takes (kinds.Publish dup qos retain) body p fits flags e =
    let f : IsPublishFlags dup qos = (leb-true _ _ (left_of (nat_le qos 1) (dup_fits dup qos) flags), dup_where dup qos (right_of (nat_le qos 1) (dup_fits dup qos) flags)) in
    let t = publish_takes dup qos retain body p f e in
    subst (λ (q : Message). (48 + 8 * bit dup + 2 * qos + bit retain ≡ first_byte q) × IsBody q body) (sym t.3) (refl, t.4)
body_takes kinds.PubAck body p fits flags e =
    let a = bind_ok (id_alone_at body) (λ id. Ok (PubAck id)) p e in
    subst (λ (q : Message). (64 ≡ first_byte q) × IsBody q body) (ok_is (PubAck a.0) p a.2) (refl, id_alone_takes body a.0 a.1)
body_takes kinds.Subscribe body p fits flags e = let t = subscribe_takes body p e in subst (λ (q : Message). (130 ≡ first_byte q) × IsBody q body) (sym t.2) (refl, t.3)
body_takes kinds.SubAck body p fits flags e = let t = suback_takes body p e in subst (λ (q : Message). (144 ≡ first_byte q) × IsBody q body) (sym t.2) (refl, t.3)
body_takes kinds.Unsubscribe body p fits flags e = let t = unsubscribe_takes body p e in subst (λ (q : Message). (162 ≡ first_byte q) × IsBody q body) (sym t.2) (refl, t.3)
body_takes kinds.UnsubAck body p fits flags e =
    let a = bind_ok (id_alone_at body) (λ id. Ok (UnsubAck id)) p e in
    subst (λ (q : Message). (176 ≡ first_byte q) × IsBody q body) (ok_is (UnsubAck a.0) p a.2) (refl, id_alone_takes body a.0 a.1)
body_takes kinds.PingReq body p fits flags e = let t = ended_takes PingReq p body e in subst (λ (q : Message). (192 ≡ first_byte q) × IsBody q body) t.1 (refl, t.0)
body_takes kinds.PingResp body p fits flags e = let t = ended_takes PingResp p body e in subst (λ (q : Message). (208 ≡ first_byte q) × IsBody q body) t.1 (refl, t.0)
body_takes kinds.Disconnect body p fits flags e = let t = ended_takes Disconnect p body e in subst (λ (q : Message). (224 ≡ first_byte q) × IsBody q body) t.1 (refl, t.0)

abbrev pub kind_named : Message → Kind
kind_named (Connect client clean keep will) = kinds.Connect
kind_named (ConnAck present code) = kinds.ConnAck
kind_named (Publish dup qos retain topic id payload) = kinds.Publish dup qos retain
kind_named (PubAck id) = kinds.PubAck
kind_named (Subscribe id filters) = kinds.Subscribe
kind_named (SubAck id given) = kinds.SubAck
kind_named (Unsubscribe id filters) = kinds.Unsubscribe
kind_named (UnsubAck id) = kinds.UnsubAck
kind_named PingReq = kinds.PingReq
kind_named PingResp = kinds.PingResp
kind_named Disconnect = kinds.Disconnect

not_both : (n : ℕ) → n ≡ 0 → n ≡ 1 → ⊥
not_both n a b = absurd (omega arith)

publish_first : (dup : Bool) (qos : ℕ) (retain : Bool) → qos ≤ 1 → (dup ≡ true → qos ≡ 1) → kind_of (48 + 8 * bit dup + 2 * qos + bit retain) ≡ Ok (kinds.Publish dup qos retain)
unfolding kind_of
publish_first true zero true le h = absurd (not_both 0 refl (h refl))
publish_first true zero false le h = absurd (not_both 0 refl (h refl))
publish_first false zero true le h = refl
publish_first false zero false le h = refl
publish_first true (suc zero) true le h = refl
publish_first true (suc zero) false le h = refl
publish_first false (suc zero) true le h = refl
publish_first false (suc zero) false le h = refl
publish_first dup (suc (suc n)) retain le h = absurd (omega arith)

id_part_low : (part : List ℕ) (qos : ℕ) (id : Option ℕ) → IsIdPart part qos id → qos ≤ 1
id_part_low part qos None is = omega (arith, is.0)
id_part_low part qos (Some id) is = omega (arith, is.0)

kind_again : (p : Message) (body : List ℕ) → IsBody p body → kind_of (first_byte p) ≡ Ok (kind_named p)
unfolding kind_of
kind_again (Connect client clean keep will) body is = refl
kind_again (ConnAck present code) body is = refl
kind_again (Publish dup qos retain topic id payload) body is = publish_first dup qos retain (id_part_low is.1 qos id is.3) is.4
kind_again (PubAck id) body is = refl
kind_again (Subscribe id filters) body is = refl
kind_again (SubAck id given) body is = refl
kind_again (Unsubscribe id filters) body is = refl
kind_again (UnsubAck id) body is = refl
kind_again PingReq body is = refl
kind_again PingResp body is = refl
kind_again Disconnect body is = refl

body_again : (p : Message) (body : List ℕ) → IsBody p body → body_at (kind_named p) body ≡ Ok p
unfolding body_at ended
body_again (Connect client clean keep will) body is = connect_again client clean keep will body is
body_again (ConnAck present code) body is = rw is.1 (connack_again present code is.0)
body_again (Publish dup qos retain topic id payload) body is = publish_again dup qos retain topic id payload body is
body_again (PubAck id) body is = rw (id_alone_again body id is) refl
body_again (Subscribe id filters) body is = subscribe_again id filters body is
body_again (SubAck id given) body is = suback_again id given body is
body_again (Unsubscribe id filters) body is = unsubscribe_again id filters body is
body_again (UnsubAck id) body is = rw (id_alone_again body id is) refl
body_again PingReq body is = rw is refl
body_again PingResp body is = rw is refl
body_again Disconnect body is = rw is refl

-- ---- the remaining length

abbrev okay : ℕ × ℕ → Result (ℕ × ℕ) PacketFault
okay x = Ok x

sevens_more : (b high : ℕ) (text : List ℕ) → 128 ≤ b → AreSevens text high → AreSevens (b ∷ text) (b % 128 + 128 * high)
sevens_more b high [] le are = absurd are
sevens_more b high (c ∷ cs) le are = (le, (high, refl, are))

-- the text of a remaining length, and what follows it
pub record TakesLength (n : ℕ) (bytes : List ℕ) (value size : ℕ) : Type 0 where
  pub text : List ℕ
  pub rest : List ℕ
  pub short : length text ≤ n
  pub are : AreSevens text value
  pub size_is : length text ≡ size
  pub parts : bytes ≡ text ++ rest

pub length_takes : (n : ℕ) (bytes : List ℕ) (x : ℕ × ℕ) → length_within n bytes ≡ Ok x → TakesLength n bytes x.0 x.1
unfolding length_within
length_takes zero bytes x e = absurd cc
length_takes (suc n) [] x e = absurd cc
length_takes (suc n) (b ∷ bs) x e =
    elim (chosen (ltb b 128) (Ok (b, 1)) (length_within n bs >>= λ y. Ok (b % 128 + 128 * y.0, 1 + y.1)) (Ok x) e) [
      | inl c ↦
          let given : ℕ × ℕ = (b, 1) in
          subst (λ (y : ℕ × ℕ). TakesLength (suc n) (b ∷ bs) y.0 y.1) (ok_is given x c.1)
          (record { text = b ∷ []; rest = bs; short = omega arith; are = (ltb-true _ _ c.0, refl); size_is = refl; parts = refl })
      | inr c ↦
          let a = bind_ok (length_within n bs) (λ y. Ok (b % 128 + 128 * y.0, 1 + y.1)) x c.1 in
          let t = length_takes n bs a.0 a.1 in
          let given : ℕ × ℕ = (b % 128 + 128 * a.0.0, 1 + a.0.1) in
          let short : length (b ∷ t.text) ≤ suc n = omega (arith, t.short) in
          let size : length (b ∷ t.text) ≡ 1 + a.0.1 = omega (arith, t.size_is) in
          subst (λ (y : ℕ × ℕ). TakesLength (suc n) (b ∷ bs) y.0 y.1) (ok_is given x a.2)
          (record { text = b ∷ t.text; rest = t.rest; short = short; are = sevens_more b a.0.0 t.text (ltb-false _ _ c.0) t.are; size_is = size; parts = ap (λ (r : List ℕ). b ∷ r) t.parts })
    ]

pair_is : (a b c d : ℕ) → a ≡ b → c ≡ d → okay (a, c) ≡ okay (b, d)
pair_is a b c d e f = cc

pub length_again : (n : ℕ) (text : List ℕ) (value : ℕ) (rest : List ℕ) → length text ≤ n → AreSevens text value → length_within n (text ++ rest) ≡ Ok (value, length text)
unfolding length_within
length_again n [] value rest le are = absurd are
length_again zero (b ∷ text) value rest le are = absurd (omega arith)
length_again (suc n) (b ∷ []) value rest le are = let low : ltb b 128 ≡ true = lt-ltb _ _ are.0 in rw (low, are.1) refl
length_again (suc n) (b ∷ c ∷ cs) value rest le are =
    let high : ltb b 128 ≡ false = le-ltb _ _ are.0 in
    let inner = length_again n (c ∷ cs) are.1.0 rest (omega arith) are.1.2 in
    let size : 1 + length (c ∷ cs) ≡ length (b ∷ c ∷ cs) = omega arith in
    ap (λ (t : Bool). cond t (Ok (b, 1)) (length_within n (c ∷ cs ++ rest) >>= λ y. Ok (b % 128 + 128 * y.0, 1 + y.1))) high
    ∙ ap (λ (r : Result (ℕ × ℕ) PacketFault). r >>= λ y. Ok (b % 128 + 128 * y.0, 1 + y.1)) inner
    ∙ pair_is (b % 128 + 128 * are.1.0) value (1 + length (c ∷ cs)) (length (b ∷ c ∷ cs)) (sym are.1.1) size

-- ---- the whole

abbrev cut_of : Kind → List ℕ → ℕ → Kind × (List ℕ × ℕ)
cut_of kind body whole = (kind, (body, whole))

front_len : (first : ℕ) (size body : List ℕ) → length (first ∷ (size ++ body)) ≡ 1 + length size + length body
front_len first size body = omega (arith, length-append size body)

-- a packet cut at the front: its first byte, its size, its body, and what follows
pub record Cuts (bytes : List ℕ) (kind : Kind) (body : List ℕ) (whole : ℕ) : Type 0 where
  pub first : ℕ
  pub size : List ℕ
  pub rest : List ℕ
  pub is_kind : kind_of first ≡ Ok kind
  pub is_size : IsLength size (length body)
  pub small : whole ≤ largest
  pub len : length (first ∷ (size ++ body)) ≡ whole
  pub parts : bytes ≡ (first ∷ (size ++ body)) ++ rest

cut_from : (first : ℕ) (rest : List ℕ) (found : Kind) (n m : ℕ) (kind : Kind) (body : List ℕ) (whole : ℕ)
    → kind_of first ≡ Ok found → TakesLength 4 rest n m → 1 + m + n ≤ largest → 1 + m + n ≤ 1 + length rest
    → cut_of found (take n (drop m rest)) (1 + m + n) ≡ cut_of kind body whole → Cuts (first ∷ rest) kind body whole
cut_from first rest found n m kind body whole is_kind t small long e =
    let tail : drop m rest ≡ t.rest = ap (drop m) t.parts ∙ drop_at t.text t.rest m t.size_is in
    let lens : length rest ≡ length t.text + length t.rest = ap (λ (r : List ℕ). length r) t.parts ∙ length-append t.text t.rest in
    let len : length (take n t.rest) ≡ n = omega (arith, length-take n t.rest, lens, t.size_is, long) in
    let size_len : length t.text ≡ m = t.size_is in
    let is_body : take n (drop m rest) ≡ take n t.rest = ap (take n) tail in
    let head : length (first ∷ (t.text ++ take n t.rest)) ≡ 1 + m + n = omega (arith, length-append t.text (take n t.rest)) in
    let is : IsLength t.text (length (take n t.rest)) = (t.short, subst (λ (k : ℕ). AreSevens t.text k) (sym len) t.are) in
    let joined : first ∷ rest ≡ (first ∷ (t.text ++ take n t.rest)) ++ drop n t.rest =
    ap (λ (r : List ℕ). first ∷ r) (t.parts ∙ ap (λ (r : List ℕ). t.text ++ r) (sym (take-append-drop n t.rest)) ∙ sym (append_assoc t.text (take n t.rest) (drop n t.rest))) in
    let made : Cuts (first ∷ rest) found (take n t.rest) (1 + m + n) =
    record { first = first; size = t.text; rest = drop n t.rest; is_kind = is_kind; is_size = is; small = small; len = head; parts = joined } in
    subst (λ (c : Kind × (List ℕ × ℕ)). Cuts (first ∷ rest) c.0 c.1.0 c.1.1) (sym (ap (λ (b : List ℕ). cut_of found b (1 + m + n)) is_body) ∙ e) made

pub cut_takes : (bytes : List ℕ) (kind : Kind) (body : List ℕ) (whole : ℕ) → cut_at bytes ≡ Ok (kind, (body, whole)) → Cuts bytes kind body whole
unfolding cut_at
cut_takes [] kind body whole e = absurd cc
cut_takes (first ∷ rest) kind body whole e =
    let k = bind_ok (kind_of first) (λ kind. length_at rest >>= λ size. cond (ltb largest (1 + size.1 + size.0)) (Err TooLarge) (cond (ltb (1 + length rest) (1 + size.1 + size.0)) (Err More) (Ok (kind, (take size.0 (drop size.1 rest), 1 + size.1 + size.0))))) (kind, (body, whole)) e in
    let s = bind_ok (length_at rest) (λ size. cond (ltb largest (1 + size.1 + size.0)) (Err TooLarge) (cond (ltb (1 + length rest) (1 + size.1 + size.0)) (Err More) (Ok (k.0, (take size.0 (drop size.1 rest), 1 + size.1 + size.0))))) (kind, (body, whole)) k.2 in
    let n = s.0.0 in
    let m = s.0.1 in
    let g = guard_ok (ltb largest (1 + m + n)) TooLarge (cond (ltb (1 + length rest) (1 + m + n)) (Err More) (Ok (k.0, (take n (drop m rest), 1 + m + n)))) (kind, (body, whole)) s.2 in
    let h = guard_ok (ltb (1 + length rest) (1 + m + n)) More (Ok (k.0, (take n (drop m rest), 1 + m + n))) (kind, (body, whole)) g.1 in
    let t = length_takes 4 rest s.0 s.1 in
    cut_from first rest k.0 n m kind body whole k.1 t (ltb-false _ _ g.0) (ltb-false _ _ h.0) (ok_is (k.0, (take n (drop m rest), 1 + m + n)) (kind, (body, whole)) h.1)

-- the bytes that a packet takes, and that it spells
pub record TakesPacket (bytes : List ℕ) (p : Message) (n : ℕ) : Type 0 where
  pub front : List ℕ
  pub rest : List ℕ
  pub spells : Spells front p
  pub len : length front ≡ n
  pub parts : bytes ≡ front ++ rest

abbrev read_of : Message → ℕ → Message × ℕ
read_of p n = (p, n)

packet_from : (bytes : List ℕ) (kind : Kind) (body : List ℕ) (whole : ℕ) (found p : Message) (n : ℕ) → IsBytes bytes → Cuts bytes kind body whole
    → body_at kind body ≡ Ok found → read_of found whole ≡ read_of p n → TakesPacket bytes p n
packet_from bytes kind body whole found p n fits c b e =
    let whole_fits : IsBytes (c.first ∷ (c.size ++ body)) = IsBytes-before (c.first ∷ (c.size ++ body)) c.rest (subst (λ (r : List ℕ). IsBytes r) c.parts fits) in
    let k = kind_takes c.first kind (whole_fits 0) c.is_kind in
    let body_fits : IsBytes body = IsBytes-after c.size body (IsBytes-rest c.first (c.size ++ body) whole_fits) in
    let t = body_takes kind body found body_fits k.1 b in
    let byte : c.first ≡ first_byte found = k.0 ∙ t.0 in
    let small : length (c.first ∷ (c.size ++ body)) ≤ largest = omega (arith, c.len, c.small) in
    let spells : Spells (c.first ∷ (c.size ++ body)) found = record { size = c.size; body = body; is_size = c.is_size; is_body = t.1; parts = ap (λ (x : ℕ). x ∷ (c.size ++ body)) byte; small = small } in
    let made : TakesPacket bytes found whole = record { front = c.first ∷ (c.size ++ body); rest = c.rest; spells = spells; len = c.len; parts = c.parts } in
    subst (λ (x : Message × ℕ). TakesPacket bytes x.0 x.1) e made

pub packet_takes : (bytes : List ℕ) (p : Message) (n : ℕ) → IsBytes bytes → packet_at bytes ≡ Ok (p, n) → TakesPacket bytes p n
unfolding packet_at
packet_takes bytes p n fits e =
    let c = bind_ok (cut_at bytes) (λ cut. body_at cut.0 cut.1.0 >>= λ message. Ok (message, cut.1.1)) (p, n) e in
    let b = bind_ok (body_at c.0.0 c.0.1.0) (λ message. Ok (message, c.0.1.1)) (p, n) c.2 in
    packet_from bytes c.0.0 c.0.1.0 c.0.1.1 b.0 p n fits (cut_takes bytes c.0.0 c.0.1.0 c.0.1.1 c.1) b.1 (ok_is (b.0, c.0.1.1) (p, n) b.2)

cut_again : (front : List ℕ) (p : Message) (rest : List ℕ) (is : Spells front p) → cut_at (front ++ rest) ≡ Ok (kind_named p, (is.body, length front))
unfolding cut_at
cut_again front p rest is =
    let n = length is.body in
    let m = length is.size in
    let lens : length front ≡ 1 + m + n = ap (λ (r : List ℕ). length r) is.parts ∙ front_len (first_byte p) is.size is.body in
    let tail : front ++ rest ≡ first_byte p ∷ (is.size ++ (is.body ++ rest)) = ap (λ (r : List ℕ). r ++ rest) is.parts ∙ ap (λ (r : List ℕ). first_byte p ∷ r) (append_assoc is.size is.body rest) in
    let small : ltb largest (1 + m + n) ≡ false = le-ltb _ _ (omega (arith, is.small, lens)) in
    let long : ltb (1 + length (is.size ++ (is.body ++ rest))) (1 + m + n) ≡ false = le-ltb _ _ (omega (arith, length-append is.size (is.body ++ rest), length-append is.body rest)) in
    let cut : take n (drop m (is.size ++ (is.body ++ rest))) ≡ is.body = ap (take n) (drop_at is.size (is.body ++ rest) m refl) ∙ take_at is.body rest n refl in
    ap cut_at tail ∙ rw (kind_again p is.body is.is_body, length_again 4 is.size n (is.body ++ rest) is.is_size.0 is.is_size.1, small, long, cut, lens) refl

pub packet_again : (front : List ℕ) (p : Message) (rest : List ℕ) → Spells front p → packet_at (front ++ rest) ≡ Ok (p, length front)
unfolding packet_at
packet_again front p rest is =
    rw (cut_again front p rest is, body_again p is.body is.is_body) refl
