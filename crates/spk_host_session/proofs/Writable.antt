-- Each packet of a host can be written.
use Rattle.std.proofs.Common.{◌≡◌, ◌<◌, ◌≤◌, ◌+◌, ◌-◌, if◌then◌else◌, ◌/◌, ◌%◌, ◌^◌, ◌&&◌, ◌||◌, ◌==◌, not, Bool, true, false, ℕ, zero, suc, ◌*◌, List, [], ◌∷◌, ◌++◌, Some, None, refl, sym, length, arith, nat_le, nat_lt, codes}
use Rattle.std.proofs.lemmas.List.{length-append}
use Rattle.std.proofs.lemmas.Fmt.{length-decimal-le}
use Rattle.std.proofs.lemmas.Bool.Decides.{nat_tests}
use Rattle.std.proofs.lemmas.Bool.{leb-true, le-ltb}
use Rattle.std.specs.List.{list_any}
use Rattle.spk_packets.specs.Grammar.{Spells, has_zero, largest}
use Rattle.spk_packets.specs.Message.{Message, Connect, Publish, Subscribe, Disconnect, PubAck}
use Rattle.spk_packets.specs.Spelling.{body, shortest, spelling, has_bad_text, has_bad_body, is_qos_two, is_bad_text}
use Rattle.spk_state.specs.Text.{state_text}
use Rattle.spk_state.specs.declared.state.State.{State}
use Rattle.spk_topics.specs.Spark.{is_name, topic_of}
use Rattle.spk_topics.specs.Spark.Named.{of_node, of_state}
use Rattle.spk_topics.specs.declared.spark.Verb.TheVariants.{Command}
use Rattle.spk_topics.specs.Levels.{is_empty}
use Rattle.spk_topics.specs.Text.{holds, is_plain}
use Rattle.spk_protobuf.specs.Spelling.{varint, groups_of}
use Rattle.spk_protobuf.specs.Spelling as fields
use Rattle.spk_payload.specs.Spelling as spelled
use Rattle.spk_host_session.specs.Data.{Config, is_address, is_good, is_short_name}
use Rattle.spk_host_session.specs.Packets.{IsWritable, connect_of, subscribe_of, state_of, filter_of, rebirth_metric, rebirth_of, rebirth_payload, offline}

and_left : (a b : Bool) → (a && b) ≡ true → a ≡ true
and_left true b e = refl
and_left false b e = e

and_right : (a b : Bool) → (a && b) ≡ true → b ≡ true
and_right true b e = e
and_right false b e = cc

not_true : (b : Bool) → not b ≡ true → b ≡ false
not_true true e = sym e
not_true false e = refl

-- ---- lengths

short_prefix : (n : ℕ) → length (shortest n) ≤ 4
unfolding shortest
short_prefix n = grind (arith, nat_tests)

whole : (p : Message) → length (spelling p) ≤ 5 + length (body p)
unfolding spelling
whole p = simp length-append (omega (arith, short_prefix (length (body p))))

not_too_large : (p : Message) → length (body p) ≤ 1000000 → nat_lt largest (length (spelling p)) ≡ false
not_too_large p h = let k = whole p in grind (arith, nat_tests)

pub writable : (p : Message) → has_bad_text p ≡ false → has_bad_body p ≡ false → is_qos_two p ≡ false →
    length (body p) ≤ 1000000 → IsWritable p
unfolding IsWritable
writable p t b q h = rw (t, b, q, not_too_large p h) refl

-- ---- texts

pub record IsShort (text : List ℕ) : Type 0 where
  pub short : length text ≤ 60000
  pub plain : has_zero text ≡ false

name_plain : (text : List ℕ) → is_name text ≡ true → has_zero text ≡ false
name_plain text e = not_true (has_zero text) (and_right (not (is_empty text) && not (holds 47 text) && is_plain text) (not (holds 0 text)) e)

short_name : (text : List ℕ) → is_short_name text ≡ true → IsShort text
short_name text e = record {
  short = leb-true (length text) 60000 (and_right (is_name text) (nat_le (length text) 60000) e);
  plain = name_plain text (and_left (is_name text) (nat_le (length text) 60000) e);
}

pub host_name : (c : Config) → is_good c ≡ true → IsShort c.name
host_name c e = short_name c.name (and_left (is_short_name c.name) (is_short_name c.group) e)

pub host_group : (c : Config) → is_good c ≡ true → IsShort c.group
host_group c e = short_name c.group (and_right (is_short_name c.name) (is_short_name c.group) e)

not_bad : (text : List ℕ) → length text ≤ 65535 → has_zero text ≡ false → is_bad_text text ≡ false
not_bad text h z = rw (le-ltb 65535 (length text) h) z

topic_not_bad : (name : List ℕ) → IsShort name → is_bad_text (topic_of (of_state name)) ≡ false
topic_not_bad name s = not_bad (topic_of (of_state name)) (omega (arith, s.short)) s.plain

topic_length : (name : List ℕ) → length (topic_of (of_state name)) ≡ 14 + length name
topic_length name = omega arith

text_length_of : (b : Bool) (time : ℕ) → time < 2 ^ 64 → length (state_text (record { online = b; timestamp = time })) ≤ 100
text_length_of true time h = let k = length-decimal-le 20 time (omega arith) (omega arith) h in simp length-append (omega (arith, k))
text_length_of false time h = let k = length-decimal-le 20 time (omega arith) (omega arith) h in simp length-append (omega (arith, k))

or_false : (a b : Bool) → a ≡ false → b ≡ false → (a || b) ≡ false
or_false true b e f = e
or_false false b e f = f

or_left : (a b : Bool) → (a || b) ≡ false → a ≡ false
or_left true b e = e
or_left false b e = refl

or_right : (a b : Bool) → (a || b) ≡ false → b ≡ false
or_right true b e = cc
or_right false b e = e

-- ---- packets

connect_length : (client topic message : List ℕ) (keep : ℕ) →
    length (body (Connect client true keep (Some (record { topic = topic; message = message; qos = 1; retain = true }))))
    ≤ 16 + length client + length topic + length message
unfolding body
connect_length client topic message keep = simp length-append (omega arith)

pub connect_writable : (c : Config) (now : ℕ) → is_good c ≡ true → now < 2 ^ 64 → IsWritable (connect_of c now)
unfolding has_bad_text has_bad_body is_qos_two
connect_writable c now e h =
    let name = host_name c e in
    let text = text_length_of false now h in
    let topic = topic_length c.name in
    let size = connect_length c.name (topic_of (of_state c.name)) (offline now) c.keep in
    writable (connect_of c now)
    (or_false (is_bad_text c.name) (is_bad_text (topic_of (of_state c.name))) (not_bad c.name (omega (arith, name.short)) name.plain) (topic_not_bad c.name name))
    (or_false (nat_lt 65535 (length (offline now))) (nat_lt 2 1) (le-ltb 65535 (length (offline now)) (omega (arith, text))) refl)
    refl
    (omega (arith, name.short, text, topic, size))

state_length : (topic text : List ℕ) (id : ℕ) → length (body (Publish false 1 true topic (Some id) text)) ≤ 4 + length topic + length text
unfolding body
state_length topic text id = simp length-append (omega arith)

pub state_writable : (c : Config) (id : ℕ) (s : State) → is_good c ≡ true → s.timestamp < 2 ^ 64 → (id == 0) ≡ false →
    IsWritable (state_of c id (state_text s))
unfolding has_bad_text has_bad_body is_qos_two
state_writable c id s e h z =
    let name = host_name c e in
    let text = text_length_of s.online s.timestamp h in
    let topic = topic_length c.name in
    let size = state_length (topic_of (of_state c.name)) (state_text s) id in
    writable (state_of c id (state_text s)) (topic_not_bad c.name name) z refl (omega (arith, name.short, text, topic, size))

any_more : (f : ℕ → Bool) (xs ys : List ℕ) → list_any f xs ≡ false → list_any f ys ≡ false → list_any f (xs ++ ys) ≡ false
any_more f [] ys e g = g
any_more f (x ∷ xs) ys e g =
    or_false (f x) (list_any f (xs ++ ys)) (or_left (f x) (list_any f xs) e) (any_more f xs ys (or_right (f x) (list_any f xs) e) g)

filter_length : (c : Config) → length (filter_of c) ≡ 10 + length c.group
filter_length c = simp length-append (omega arith)

subscribe_length : (filter : List ℕ) → length (body (Subscribe 1 ((filter, 1) ∷ []))) ≤ 5 + length filter
unfolding body
subscribe_length filter = simp length-append (omega arith)

pub subscribe_writable : (c : Config) → is_good c ≡ true → IsWritable (subscribe_of c)
unfolding has_bad_text has_bad_body is_qos_two
subscribe_writable c e =
    let group = host_group c e in
    let many = filter_length c in
    let size = subscribe_length (filter_of c) in
    writable (subscribe_of c)
    (or_false (is_bad_text (filter_of c)) false (not_bad (filter_of c) (omega (arith, group.short, many)) (any_more (λ b. b == 0) c.group (codes "/#") group.plain refl)) refl)
    refl refl (omega (arith, group.short, many, size))

pub disconnect_writable : IsWritable Disconnect
unfolding has_bad_text has_bad_body is_qos_two body
disconnect_writable = writable Disconnect refl refl refl (omega arith)

low_part : (id : ℕ) → id < 65536 → id ≡ 256 * (id / 256 % 256) + id % 256
low_part id lt = omega arith

pub puback_spells : (id : ℕ) → id < 65536 → 0 < id → Spells (64 ∷ 2 ∷ id / 256 % 256 ∷ id % 256 ∷ []) (PubAck id)
puback_spells id lt above = record {
  size = 2 ∷ [];
  body = id / 256 % 256 ∷ id % 256 ∷ [];
  is_size = (omega arith, (omega arith, refl));
  is_body = ((id / 256 % 256, id % 256, refl, low_part id lt), above);
  parts = refl;
  small = omega arith;
}

pub puback_spelling : (id : ℕ) → spelling (PubAck id) ≡ 64 ∷ 2 ∷ id / 256 % 256 ∷ id % 256 ∷ []
unfolding spelling shortest body
puback_spelling id = refl

-- ---- a rebirth request

either_short : (b : Bool) (xs ys : List ℕ) (m : ℕ) → length xs ≤ m → length ys ≤ m → length (if b then xs else ys) ≤ m
either_short true xs ys m h k = h
either_short false xs ys m h k = k

groups_short : (k n : ℕ) → length (groups_of k n) ≤ k + 1
unfolding groups_of
groups_short zero n = omega arith
groups_short (suc k) n = either_short (nat_lt n 128) (n ∷ []) ((n % 128 + 128) ∷ groups_of k (n / 128)) (suc k + 1) (omega arith) (omega (arith, groups_short k (n / 128)))

varint_short : (n : ℕ) → length (varint n) ≤ 10
unfolding varint
varint_short n = groups_short 9 n

field_length : (n : ℕ) (bytes : List ℕ) → length (fields.bytes_field n bytes) ≤ 20 + length bytes
unfolding fields.bytes_field
field_length n bytes = simp length-append (omega (arith, varint_short ((n * 8 + 2) % 2 ^ 64), varint_short (length bytes)))

metric_length : (time : ℕ) → length (spelled.metric_spelling (rebirth_metric time)) ≤ 200
unfolding spelled.metric_spelling
metric_length time =
    let name = field_length 1 (codes "Node Control/Rebirth") in
    simp length-append (omega (arith, name, varint_short 24, varint_short time, varint_short 32, varint_short 11, varint_short 112, varint_short 1))

request_length : (time : ℕ) → length (spelled.spelling (rebirth_payload time)) ≤ 400
unfolding spelled.spelling
request_length time =
    let metric = field_length 2 (spelled.metric_spelling (rebirth_metric time)) in
    let size = metric_length time in
    simp length-append (omega (arith, metric, size, varint_short 8, varint_short time))

publish_length : (topic text : List ℕ) → length (body (Publish false 0 false topic None text)) ≤ 4 + length topic + length text
unfolding body
publish_length topic text = simp length-append (omega arith)

topic_parts : (group node : List ℕ) → length (topic_of (of_node group Command node)) ≡ 14 + length group + length node
topic_parts group node = simp length-append (omega arith)

pub rebirth_writable : (group node : List ℕ) (time : ℕ) → is_address group node ≡ true → IsWritable (rebirth_of group node time)
unfolding has_bad_text has_bad_body is_qos_two
rebirth_writable group node time e =
    let first = is_name group && is_name node && nat_le (length group) 65521 in
    let names = and_left (is_name group && is_name node) (nat_le (length group) 65521) (and_left first (nat_le (length node) (65521 - length group)) e) in
    let g = name_plain group (and_left (is_name group) (is_name node) names) in
    let n = name_plain node (and_right (is_name group) (is_name node) names) in
    let a = leb-true (length group) 65521 (and_right (is_name group && is_name node) (nat_le (length group) 65521) (and_left first (nat_le (length node) (65521 - length group)) e)) in
    let b = leb-true (length node) (65521 - length group) (and_right first (nat_le (length node) (65521 - length group)) e) in
    let topic = topic_of (of_node group Command node) in
    let parts = topic_parts group node in
    let text = request_length time in
    let size = publish_length topic (spelled.spelling (rebirth_payload time)) in
    writable (rebirth_of group node time)
    (not_bad topic (omega (arith, a, b, parts)) (any_more (λ b. b == 0) group (codes "/NCMD/" ++ node) g n))
    refl refl (omega (arith, a, b, parts, text, size))
