-- A message that can be written with its QoS can be written with a lesser one, as a copy, and as a retained message; and what is answered to a packet can be written.
use Rattle.std.proofs.Common.{◌≡◌, ℕ, zero, suc, ◌+◌, ◌≤◌, min, Bool, true, false, not, ◌&&◌, ◌||◌, List, [], ◌∷◌, ◌++◌, length, Option, Some, None, refl, sym, ap, subst, ◌∙◌, arith, true≢false}
use Rattle.std.specs.Prelude.{nat_lt, ◌==◌, IfSome, is_none, unwrap_or}
use Rattle.std.specs.List.{flat_map, list_all, list_any}
use Rattle.std.proofs.lemmas.Bool.{le-ltb, ltb-false, eqb-true}
use Rattle.std.proofs.lemmas.List.{length-append}
use Rattle.spk_packets.specs.Grammar.{has_zero, is_grant}
use Rattle.spk_packets.specs.Message.{WillData, Connect, ConnAck, Publish, PubAck, Subscribe, SubAck, Unsubscribe, UnsubAck, PingResp}
use Rattle.spk_packets.specs.Spelling.{body, counted, has_bad_body, has_bad_id, has_bad_text, id_part, is_bad_text, is_empty, is_qos_two, number, request, shortest, spelling}
use Rattle.spk_packets.specs.declared.fault.PacketFault.{PacketFault}
use Rattle.spk_broker_rules.specs.Words.{level}
use Rattle.spk_broker.specs.Sendable.{IsWritable, id_at, is_numbered, is_sendable}
use Rattle.spk_broker.proofs.Fits.{Fits, fits, writable, no-larger, not-large}

none-of : (o : Option PacketFault) → is_none o ≡ true → o ≡ None
none-of None e = refl
none-of (Some x) e = absurd (true≢false (sym e))

is-none-of : (o : Option PacketFault) → o ≡ None → is_none o ≡ true
is-none-of o e = ap is_none e

or-left : (a b : Bool) → (a || b) ≡ false → a ≡ false
or-left false b e = refl
or-left true b e = e

or-right : (a b : Bool) → (a || b) ≡ false → b ≡ false
or-right false b e = e
or-right true b e = absurd (true≢false e)

first-of : (a b c : Bool) → (a || b || c) ≡ false → a ≡ false
first-of false b c e = refl
first-of true b c e = absurd (true≢false e)

second-of : (a b c : Bool) → (a || b || c) ≡ false → b ≡ false
second-of false false c e = refl
second-of false true c e = absurd (true≢false e)
second-of true b c e = absurd (true≢false e)

third-of : (a b c : Bool) → (a || b || c) ≡ false → c ≡ false
third-of false false c e = e
third-of false true c e = absurd (true≢false e)
third-of true b c e = absurd (true≢false e)

-- ---- PUBLISH

publish-body : (dup retain : Bool) (qos : ℕ) (topic payload : List ℕ) (id : Option ℕ) → length (body (Publish dup qos retain topic id payload)) ≡ 2 + length topic + (length (id_part id) + length payload)
unfolding body
publish-body dup retain qos topic payload id =
    let two : length (number (length topic)) ≡ 2 = refl in
    omega (arith, length-append (counted topic) (id_part id ++ payload), length-append (number (length topic)) topic, two, length-append (id_part id) payload)

low-qos : (qos : ℕ) → nat_lt 2 qos ≡ false → (qos == 2) ≡ false → qos ≤ 1
low-qos zero a b = omega arith
low-qos (suc zero) a b = omega arith
low-qos (suc (suc zero)) a b = absurd (true≢false b)
low-qos (suc (suc (suc n))) a b = absurd (omega (arith, ltb-false 2 (suc (suc (suc n))) a))

-- its QoS is 0 or 1
publish-low : (dup retain : Bool) (qos : ℕ) (topic payload : List ℕ) (id : Option ℕ) → Fits (Publish dup qos retain topic id payload) → qos ≤ 1
unfolding has_bad_body is_qos_two
publish-low dup retain qos topic payload id f = low-qos qos (first-of (nat_lt 2 qos) (dup && qos == 0) (has_bad_id qos id) f.whole) f.qos

sent : (topic payload : List ℕ) (qos : ℕ) → is_sendable topic payload qos ≡ true → Fits (Publish false qos false topic (id_at qos) payload)
unfolding is_sendable
sent topic payload qos h = fits _ (none-of _ h)

pub sendable-low : (topic payload : List ℕ) (qos : ℕ) → is_sendable topic payload qos ≡ true → qos ≤ 1
sendable-low topic payload qos h = publish-low false false qos topic payload (id_at qos) (sent topic payload qos h)

pub plain-writable : (topic payload : List ℕ) (qos : ℕ) (retain : Bool) → is_sendable topic payload qos ≡ true → IsWritable (Publish false 0 retain topic None payload)
unfolding has_bad_text has_bad_body is_qos_two
plain-writable topic payload qos retain h =
    let f : Fits (Publish false qos false topic (id_at qos) payload) = sent topic payload qos h in
    writable (Publish false 0 retain topic None payload)
    (record {
      text = f.text;
      whole = refl;
      qos = refl;
      size = no-larger (Publish false 0 retain topic None payload) (Publish false qos false topic (id_at qos) payload)
          (omega (arith, publish-body false retain 0 topic payload None, publish-body false false qos topic payload (id_at qos))) f.size;
    })

numbered-whole : (dup : Bool) (id : ℕ) → (id == 0) ≡ false → (nat_lt 2 1 || (dup && 1 == 0) || has_bad_id 1 (Some id)) ≡ false
numbered-whole false id e = e
numbered-whole true id e = e

pub numbered-writable : (topic payload : List ℕ) (dup retain : Bool) (id : ℕ) → is_sendable topic payload 1 ≡ true → (id == 0) ≡ false → IsWritable (Publish dup 1 retain topic (Some id) payload)
unfolding has_bad_text has_bad_body is_qos_two
numbered-writable topic payload dup retain id h e =
    let f : Fits (Publish false 1 false topic (Some 1) payload) = sent topic payload 1 h in
    writable (Publish dup 1 retain topic (Some id) payload)
    (record {
      text = f.text;
      whole = numbered-whole dup id e;
      qos = refl;
      size = no-larger (Publish dup 1 retain topic (Some id) payload) (Publish false 1 false topic (Some 1) payload)
          (omega (arith, publish-body dup retain 1 topic payload (Some id), publish-body false false 1 topic payload (Some 1))) f.size;
    })

pub lower : (topic payload : List ℕ) (qos q : ℕ) → is_sendable topic payload qos ≡ true → q ≤ qos → is_sendable topic payload q ≡ true
unfolding is_sendable
lower topic payload qos zero h l = is-none-of _ (plain-writable topic payload qos false h)
lower topic payload qos (suc q) h l = by qos q (sendable-low topic payload qos h) l h
  where
    by : (qos q : ℕ) → qos ≤ 1 → suc q ≤ qos → is_sendable topic payload qos ≡ true → is_sendable topic payload (suc q) ≡ true
    by zero q a b h = absurd (omega (arith, b))
    by (suc zero) zero a b h = h
    by (suc zero) (suc q) a b h = absurd (omega (arith, b))
    by (suc (suc n)) q a b h = absurd (omega (arith, a))

-- the same text and payload
pub same-lower : (t u p r : List ℕ) (qos q : ℕ) → u ≡ t → r ≡ p → is_sendable t p qos ≡ true → q ≤ qos → is_sendable u r q ≡ true
same-lower t u p r qos q a b h l =
    subst (λ x. is_sendable x r q ≡ true) (sym a) (subst (λ x. is_sendable t x q ≡ true) (sym b) (lower t p qos q h l))

-- what came can be sent on
pub publish-sendable : (dup retain : Bool) (qos : ℕ) (topic payload : List ℕ) (id : Option ℕ) → IsWritable (Publish dup qos retain topic id payload) → is_sendable topic payload qos ≡ true
unfolding is_sendable has_bad_text has_bad_body is_qos_two
publish-sendable dup retain qos topic payload id w = by qos id (publish-low dup retain qos topic payload id f) f
  where
    f : Fits (Publish dup qos retain topic id payload)
    f = fits (Publish dup qos retain topic id payload) w

    id-there : (o : Option ℕ) → has_bad_id 1 o ≡ false → 2 ≤ length (id_part o)
    id-there None e = absurd (true≢false e)
    id-there (Some n) e = omega arith

    by : (qos : ℕ) (id : Option ℕ) → qos ≤ 1 → Fits (Publish dup qos retain topic id payload) → is_sendable topic payload qos ≡ true
    by zero id l g = is-none-of _ (writable (Publish false 0 false topic None payload)
        (record {
          text = g.text;
          whole = refl;
          qos = refl;
          size = no-larger (Publish false 0 false topic None payload) (Publish dup 0 retain topic id payload)
              (omega (arith, publish-body false false 0 topic payload None, publish-body dup retain 0 topic payload id)) g.size;
        }))
    by (suc zero) id l g = is-none-of _ (writable (Publish false 1 false topic (Some 1) payload)
        (record {
          text = g.text;
          whole = refl;
          qos = refl;
          size = no-larger (Publish false 1 false topic (Some 1) payload) (Publish dup 1 retain topic id payload)
              (omega (arith, publish-body false false 1 topic payload (Some 1), publish-body dup retain 1 topic payload id, id-there id (third-of (nat_lt 2 1) (dup && 1 == 0) (has_bad_id 1 id) g.whole))) g.size;
        }))
    by (suc (suc n)) id l g = absurd (omega (arith, l))

-- its identifier isn't 0
pub id-of : (dup retain : Bool) (qos id : ℕ) (topic payload : List ℕ) → IsWritable (Publish dup qos retain topic (Some id) payload) → (id == 0) ≡ false
unfolding has_bad_body
id-of dup retain qos id topic payload w =
    or-right (not (qos == 1)) (id == 0) (third-of (nat_lt 2 qos) (dup && qos == 0) (not (qos == 1) || id == 0) (fits (Publish dup qos retain topic (Some id) payload) w).whole)

pub ids-of : (dup retain : Bool) (qos : ℕ) (id : Option ℕ) (topic payload : List ℕ) → IsWritable (Publish dup qos retain topic id payload) → IfSome id (λ n. (n == 0) ≡ false)
ids-of dup retain qos None topic payload w = tt
ids-of dup retain qos (Some id) topic payload w = id-of dup retain qos id topic payload w

-- ---- the will of a CONNECT

pub will-sendable : (client : List ℕ) (clean : Bool) (keep : ℕ) (will : WillData) → IsWritable (Connect client clean keep (Some will)) → is_sendable will.topic will.message will.qos ≡ true
unfolding is_sendable has_bad_text has_bad_body is_qos_two
will-sendable client clean keep will w = by will.qos (low-qos will.qos (or-right (nat_lt 65535 (length will.message)) (nat_lt 2 will.qos) f.whole) f.qos)
  where
    f : Fits (Connect client clean keep (Some will))
    f = fits (Connect client clean keep (Some will)) w

    text : is_bad_text will.topic ≡ false
    text = or-right (is_bad_text client) (is_bad_text will.topic) f.text

    short-topic : length will.topic ≤ 65535
    short-topic = ltb-false 65535 (length will.topic) (or-left (nat_lt 65535 (length will.topic)) (has_zero will.topic) text)

    short-message : length will.message ≤ 65535
    short-message = ltb-false 65535 (length will.message) (or-left (nat_lt 65535 (length will.message)) (nat_lt 2 will.qos) f.whole)

    by : (qos : ℕ) → qos ≤ 1 → is_sendable will.topic will.message qos ≡ true
    by zero l = is-none-of _ (writable (Publish false 0 false will.topic None will.message)
        (record {
          text = text;
          whole = refl;
          qos = refl;
          size = not-large (Publish false 0 false will.topic None will.message) (omega (arith, publish-body false false 0 will.topic will.message None, short-topic, short-message));
        }))
    by (suc zero) l = is-none-of _ (writable (Publish false 1 false will.topic (Some 1) will.message)
        (record {
          text = text;
          whole = refl;
          qos = refl;
          size = not-large (Publish false 1 false will.topic (Some 1) will.message) (omega (arith, publish-body false false 1 will.topic will.message (Some 1), short-topic, short-message));
        }))
    by (suc (suc n)) l = absurd (omega (arith, l))

pub wills-sendable : (client : List ℕ) (clean : Bool) (keep : ℕ) (will : Option WillData) → IsWritable (Connect client clean keep will) → IfSome will (λ w. is_sendable w.topic w.message w.qos ≡ true)
wills-sendable client clean keep None w = tt
wills-sendable client clean keep (Some will) w = will-sendable client clean keep will w

-- ---- answers

pub connack-writable : (present : Bool) (code : ℕ) → code ≤ 5 → IsWritable (ConnAck present code)
unfolding has_bad_text has_bad_body is_qos_two spelling body shortest
connack-writable present code l = writable (ConnAck present code) (record { text = refl; whole = le-ltb 5 code l; qos = refl; size = refl })

pub puback-writable : (id : ℕ) → (id == 0) ≡ false → IsWritable (PubAck id)
unfolding has_bad_text has_bad_body is_qos_two spelling body shortest
puback-writable id e = writable (PubAck id) (record { text = refl; whole = e; qos = refl; size = refl })

pub unsuback-writable : (id : ℕ) (filters : List (List ℕ)) → IsWritable (Unsubscribe id filters) → IsWritable (UnsubAck id)
unfolding has_bad_text has_bad_body is_qos_two spelling body shortest
unsuback-writable id filters w = writable (UnsubAck id) (record { text = refl; whole = or-left (id == 0) (is_empty filters) (fits (Unsubscribe id filters) w).whole; qos = refl; size = refl })

pub pingresp-writable : IsWritable PingResp
unfolding has_bad_text has_bad_body is_qos_two spelling body shortest
pingresp-writable = refl

-- as many codes as entries
more-bytes : (filters : List (List ℕ × ℕ)) → length filters ≤ length (flat_map request filters)
more-bytes [] = omega arith
more-bytes (e ∷ es) = omega (arith, length-append (request e) (flat_map request es), length-append (counted e.0) (e.1 ∷ []), more-bytes es)

some-codes : (filters : List (List ℕ × ℕ)) (codes : List ℕ) → length codes ≡ length filters → is_empty filters ≡ false → is_empty codes ≡ false
some-codes [] codes e f = absurd (true≢false f)
some-codes (x ∷ xs) [] e f = absurd (omega (arith, e))
some-codes (x ∷ xs) (c ∷ cs) e f = refl

subscribe-size : (id : ℕ) (filters : List (List ℕ × ℕ)) (codes : List ℕ) → length codes ≡ length filters → length (body (SubAck id codes)) ≤ length (body (Subscribe id filters))
unfolding body
subscribe-size id filters codes e = omega (arith, e, more-bytes filters)

pub suback-writable : (id : ℕ) (filters : List (List ℕ × ℕ)) (codes : List ℕ) → length codes ≡ length filters → list_all is_grant codes ≡ true → IsWritable (Subscribe id filters) → IsWritable (SubAck id codes)
unfolding has_bad_text has_bad_body is_qos_two
suback-writable id filters codes same grants w =
    let f : Fits (Subscribe id filters) = fits (Subscribe id filters) w in
    writable (SubAck id codes)
    (record {
      text = refl;
      whole = three (id == 0) (is_empty codes) (list_all is_grant codes) (first-of (id == 0) (is_empty filters) (list_any high filters) f.whole)
          (some-codes filters codes same (second-of (id == 0) (is_empty filters) (list_any high filters) f.whole)) grants;
      qos = refl;
      size = no-larger (SubAck id codes) (Subscribe id filters) (subscribe-size id filters codes same) f.size;
    })
  where
    high : List ℕ × ℕ → Bool
    high entry = nat_lt 2 entry.1

    three : (a b c : Bool) → a ≡ false → b ≡ false → c ≡ true → (a || b || not c) ≡ false
    three false false true p q r = refl
    three false false false p q r = absurd (true≢false (sym r))
    three false true c p q r = absurd (true≢false q)
    three true b c p q r = absurd (true≢false p)

-- ---- what the number of a message in flight says

pub numbered-parts : (qos id : ℕ) → is_numbered qos id ≡ true → (qos ≡ 1) × ((id == 0) ≡ false)
numbered-parts qos id e = by (qos == 1) (id == 0) refl refl e
  where
    by : (a b : Bool) → (qos == 1) ≡ a → (id == 0) ≡ b → (a && not b) ≡ true → (qos ≡ 1) × ((id == 0) ≡ false)
    by true false p q e = (eqb-true qos 1 p, q)
    by true true p q e = absurd (true≢false (sym e))
    by false b p q e = absurd (true≢false (sym e))

pub message-writable : (topic payload : List ℕ) (qos id : ℕ) (dup retain : Bool) → is_sendable topic payload qos ≡ true → is_numbered qos id ≡ true → IsWritable (Publish dup 1 retain topic (Some id) payload)
message-writable topic payload qos id dup retain h e =
    let (one, some) = numbered-parts qos id e in
    numbered-writable topic payload dup retain id (subst (λ q. is_sendable topic payload q ≡ true) one h) some

-- an identifier that was given
pub id-some : (id : ℕ) → 1 ≤ id → (id == 0) ≡ false
id-some id low = by (id == 0) refl
  where
    by : (b : Bool) → (id == 0) ≡ b → b ≡ false
    by false e = refl
    by true e = absurd (omega (arith, low, eqb-true id 0 e))

pub numbered-is : (qos id : ℕ) → qos ≡ 1 → 1 ≤ id → is_numbered qos id ≡ true
numbered-is qos id one low = ap (λ q. is_numbered q id) one ∙ ap not (id-some id low)

-- a level that isn't 0 is 1, and so is the message's QoS
pub level-one : (qos q : ℕ) (best : Option ℕ) → qos ≤ 1 → level qos best ≡ Some q → (q ≡ 0 → ⊥) → (q ≡ 1) × (qos ≡ 1)
level-one qos q None low e other = absurd cc
level-one qos zero (Some g) low e other = absurd (other refl)
level-one qos (suc n) (Some g) low e other =
    let is : min qos g ≡ suc n = ap (λ o. unwrap_or o 0) e in
    (omega (arith, low, is), omega (arith, low, is))

pub one-of : (topic payload : List ℕ) (qos : ℕ) → is_sendable topic payload qos ≡ true → (qos ≡ 0 → ⊥) → qos ≡ 1
one-of topic payload zero h other = absurd (other refl)
one-of topic payload (suc n) h other = omega (arith, sendable-low topic payload (suc n) h)
