-- The packet of one change, and whether it can be written.
use Rattle.std.proofs.Common.{◌≡◌, ◌∙◌, ap, sym, refl, subst, cond, Result, Ok, Err, ℕ, ◌+◌, ◌*◌, ◌-◌, ◌<◌, ◌≤◌, ◌%◌, ◌^◌, min, Bool, true, false, List, [], ◌∷◌, ◌++◌, length, Option, Some, None, is_none, arith, append_assoc}
use Rattle.std.specs.Prelude.{IfSome, All, OnOk, nat_lt, ◌||◌, codes}
use Rattle.std.specs.Option.{option_and_then, option_map, option_map_or}
use Rattle.std.specs.List.{list_all}
use Rattle.std.specs.Str.{IsUtf8}
use Rattle.std.proofs.lemmas.Str.{IsUtf8-append, IsUtf8-from_ascii}
use Rattle.std.proofs.lemmas.Str.Ascii.{IsAscii-from_all}
use Rattle.std.proofs.lemmas.Bool.{and_parts, lt-ltb, le-ltb, ltb-true}
use Rattle.std.proofs.lemmas.List.{length-append}
use Rattle.std.proofs.lemmas.List.Elements.{All-nil, All-cons}
use Rattle.spk_protobuf.specs.Spelling.{bytes_field, varint}
use Rattle.spk_payload.specs.Spelling as payload
use Rattle.spk_payload.specs.Meaning.{Content, PayloadData}
use Rattle.spk_payload.specs.Typing.{Typed, written_of}
use Rattle.spk_payload.specs.View.{content_of}
use Rattle.spk_device.specs.Book.{gauge_at}
use Rattle.spk_topics.specs.Spark.{topic_of}
use Rattle.spk_packets.specs.Message.{Publish}
use Rattle.spk_packets.specs.Fault.{first_of}
use Rattle.spk_packets.specs.Grammar.{has_zero, largest}
use Rattle.spk_packets.specs.Spelling as packet
use Rattle.spk_packets.proofs.Written as written
use Rattle.spk_edge_rules.specs.Writable.{is_writable}
use Rattle.spk_topics.specs.declared.spark.Verb.TheVariants.{Data}
use Rattle.spk_edge_rules.specs.Births.{later_stamp}
use Rattle.spk_edge_rules.specs.Config.{Config}
use Rattle.spk_edge_rules.specs.Messages.{spark_of}
use Rattle.spk_edge.specs.Changing.{change_message}
use Rattle.spk_edge.specs.Saying.{metric_said, named_of, null_said, payload_said, said, topic_said}
use Rattle.spk_edge.specs.Sealing.{IsWhole, wire_of}
use Rattle.spk_edge.specs.View.{NodeData}
use Rattle.spk_edge.specs.declared.packet.Saying.{Saying}
use Rattle.spk_edge.proofs.Written.{SpelledAll, written-whole}

-- ---- its bytes

pub joined : (s : Saying) (a b c d : List ℕ) → a ≡ 48 ∷ [] → b ≡ a ++ packet.shortest (length (packet.body (said s))) → c ≡ b ++ packet.counted (topic_said s)
    → d ≡ c ++ payload.spelling (payload_said s) → d ≡ packet.spelling (said s)
unfolding packet.spelling packet.body
joined s a b c d first size topic rest =
    let head = packet.shortest (length (packet.body (said s))) in
    let front = packet.counted (topic_said s) in
    let back = payload.spelling (payload_said s) in
    rest ∙ ap (λ (l : List ℕ). l ++ back) (topic ∙ ap (λ (l : List ℕ). l ++ front) (size ∙ ap (λ (l : List ℕ). l ++ head) first))
    ∙ append_assoc (48 ∷ head) front back ∙ append_assoc (48 ∷ []) head (front ++ back)

-- ---- how long it is

pub body-length : (s : Saying) → length (packet.body (said s)) ≡ length (topic_said s) + length (payload.spelling (payload_said s)) + 2
unfolding packet.body
body-length s = omega (arith, length-append (topic_said s) (payload.spelling (payload_said s)))

-- a metric is no longer than its field, and that no longer than its payload
within-field : (ms : List ℕ) → length ms ≤ length (bytes_field 2 ms)
unfolding bytes_field
within-field ms =
    let tag = varint ((2 * 8 + 2) % 2 ^ 64) in
    let size = varint (length ms) in
    let same : bytes_field 2 ms ≡ (tag ++ size) ++ ms = refl in
    let long : length (bytes_field 2 ms) ≡ length ((tag ++ size) ++ ms) = ap (λ (l : List ℕ). length l) same in
    omega (arith, long, length-append (tag ++ size) ms)

metric-within : (s : Saying) → length (payload.metric_spelling (metric_said s)) ≤ length (payload.spelling (payload_said s))
unfolding payload.spelling
metric-within s =
    let field = bytes_field 2 (payload.metric_spelling (metric_said s)) in
    let front = payload.number_field (1 * 8) s.stamp in
    let back = payload.number_field (3 * 8) s.seq in
    let same : payload.spelling (payload_said s) ≡ (front ++ (field ++ [])) ++ back = refl in
    let long : length (payload.spelling (payload_said s)) ≡ length ((front ++ (field ++ [])) ++ back) = ap (λ (l : List ℕ). length l) same in
    omega (arith, long, within-field (payload.metric_spelling (metric_said s)), length-append (front ++ (field ++ [])) back, length-append front (field ++ []), length-append field [])

-- ---- whether it can be written

-- a topic that is long, one with U+0000, and one that is neither
pub long-text : (text : List ℕ) (n : ℕ) → n ≡ min (length text) (2 ^ 64 - 1) → 65535 < n → packet.is_bad_text text ≡ true
long-text text n size over =
    let long : nat_lt 65535 (length text) ≡ true = lt-ltb 65535 (length text) (omega (arith, size, over)) in
    ap (λ b. b || has_zero text) long

or-true : (b : Bool) → (b || true) ≡ true
or-true true = refl
or-true false = refl

pub zero-text : (text : List ℕ) → has_zero text ≡ true → packet.is_bad_text text ≡ true
zero-text text zero = ap (λ b. nat_lt 65535 (length text) || b) zero ∙ or-true (nat_lt 65535 (length text))

pub good-text : (text : List ℕ) (n : ℕ) → n ≡ min (length text) (2 ^ 64 - 1) → n ≤ 65535 → has_zero text ≡ false → (n ≡ length text) × (packet.is_bad_text text ≡ false)
good-text text n size few none =
    let short : nat_lt 65535 (length text) ≡ false = le-ltb 65535 (length text) (omega (arith, size, few)) in
    (omega (arith, size, few), ap (λ b. b || has_zero text) short ∙ none)

content : (s : Saying) → packet.is_bad_text (topic_said s) ≡ false → first_of (packet.content_refusals (said s)) ≡ None
unfolding packet.has_bad_text packet.has_bad_body packet.is_qos_two
content s good = rw good refl

pub bad-text : (s : Saying) → packet.is_bad_text (topic_said s) ≡ true → is_writable (said s) ≡ false
unfolding packet.has_bad_text
bad-text s bad = rw bad refl

too_large : (s : Saying) → packet.is_bad_text (topic_said s) ≡ false → largest < 1 + length (packet.shortest (length (packet.body (said s)))) + length (packet.body (said s)) → is_writable (said s) ≡ false
too_large s good over = ap (λ o. is_none o) (written.is_too_large (said s) (content s good) over)

pub metric-large : (s : Saying) (n : ℕ) → packet.is_bad_text (topic_said s) ≡ false → n ≡ min (length (payload.metric_spelling (metric_said s))) (2 ^ 64 - 1) → largest < n → is_writable (said s) ≡ false
metric-large s n good size over =
    let within = metric-within s in
    let body = body-length s in
    too_large s good (omega (arith, size, over, within, body))

pub whole-large : (s : Saying) (size len : ℕ) → packet.is_bad_text (topic_said s) ≡ false → size ≡ length (packet.shortest len) → len ≡ length (packet.body (said s)) → largest < 1 + size + len → is_writable (said s) ≡ false
whole-large s size len good is same over =
    let size-is : size ≡ length (packet.shortest (length (packet.body (said s)))) = is ∙ ap (λ n. length (packet.shortest n)) same in
    too_large s good (omega (arith, size-is, same, over))

pub can-write : (s : Saying) (size len : ℕ) → packet.is_bad_text (topic_said s) ≡ false → size ≡ length (packet.shortest len) → len ≡ length (packet.body (said s)) → 1 + size + len ≤ largest → is_writable (said s) ≡ true
can-write s size len good is same within =
    let size-is : size ≡ length (packet.shortest (length (packet.body (said s)))) = is ∙ ap (λ n. length (packet.shortest n)) same in
    ap (λ o. is_none o) (written.is_writable (said s) (content s good) (omega (arith, size-is, same, within)))

-- ---- its payload fits

pub payload-fits : (s : Saying) → s.alias < 2 ^ 64 → s.stamp < 2 ^ 64 → s.seq < 2 ^ 64 → IfSome (metric_said s).value payload.ContentFits
    → length (payload.metric_spelling (metric_said s)) < 2 ^ 64 → payload.PayloadFits (payload_said s)
payload-fits s alias stamp seq value short = record {
  timestamp = stamp;
  metrics = All-cons payload.MetricFits (metric_said s) [] (record { name = tt; alias = alias; timestamp = stamp; datatype = tt; value = value; short = short }) (All-nil payload.MetricFits);
  seq = seq;
}

-- ---- its topic is a text

below : (bs : List ℕ) → list_all (λ b. nat_lt b 128) bs ≡ true → All (λ b. b < 128) bs
below [] e = All-nil (λ b. b < 128)
below (b ∷ bs) e =
    let p = and_parts (nat_lt b 128) (list_all (λ b. nat_lt b 128) bs) e in
    All-cons (λ b. b < 128) b bs (ltb-true b 128 p.0) (below bs p.1)

plain : (bs : List ℕ) → list_all (λ b. nat_lt b 128) bs ≡ true → IsUtf8 bs
plain bs e = IsUtf8-from_ascii bs (IsAscii-from_all bs (below bs e))

pub topic-text : (g n : List ℕ) (d : Option (List ℕ)) → IsUtf8 g → IsUtf8 n → IfSome d IsUtf8 → IsUtf8 (topic_of (named_of g n d))
topic-text g n None group node device =
    IsUtf8-append (codes "spBv1.0/") (g ++ (codes "/NDATA/" ++ n)) (plain (codes "spBv1.0/") refl)
    (IsUtf8-append g (codes "/NDATA/" ++ n) group (IsUtf8-append (codes "/NDATA/") n (plain (codes "/NDATA/") refl) node))
topic-text g n (Some d) group node device =
    IsUtf8-append (codes "spBv1.0/") (g ++ (codes "/DDATA/" ++ (n ++ 47 ∷ d))) (plain (codes "spBv1.0/") refl)
    (IsUtf8-append g (codes "/DDATA/" ++ (n ++ 47 ∷ d)) group (IsUtf8-append (codes "/DDATA/") (n ++ 47 ∷ d) (plain (codes "/DDATA/") refl)
    (IsUtf8-append n (47 ∷ d) node (IsUtf8-append (47 ∷ []) d (plain (47 ∷ []) refl) device))))

-- ---- what it says is the message of a change

pub null-same : (b : Bool) → null_said b ≡ cond b (Some true) None
null-same true = refl
null-same false = refl

abbrev payload_so : ℕ → ℕ → Option Bool → Option Content → ℕ → PayloadData
payload_so alias stamp null value seq = record {
  timestamp = Some stamp;
  metrics = (record { name = None; alias = Some alias; timestamp = Some stamp; datatype = None; historical = None; transient = None; null = null; value = value }) ∷ [];
  seq = Some seq;
}

pub said-whole : SpelledAll → (n : NodeData) (now alias : ℕ) (v : Option Typed) (s : Saying) → (topic_said s) ≡ (change_message n now alias v).topic → IsUtf8 (topic_said s)
    → s.alias ≡ alias → s.stamp ≡ later_stamp n.standing.asked.stamp now → s.seq ≡ n.standing.seq → s.null ≡ is_none v
    → option_map content_of s.value.now ≡ option_and_then (written_of (option_map_or (λ g. g.datatype) (gauge_at n.standing.asked.book alias) 0)) v
    → payload.PayloadFits (payload_said s) → is_writable (said s) ≡ true → IsWhole (change_message n now alias v)
said-whole spells n now alias v s topic text alias-is stamp seq null value fits writable =
    let m = change_message n now alias v in
    let same : payload_said s ≡ m.payload =
    ap (λ k. payload_so k s.stamp (null_said s.null) (option_map content_of s.value.now) s.seq) alias-is
    ∙ ap (λ k. payload_so alias k (null_said s.null) (option_map content_of s.value.now) s.seq) stamp
    ∙ ap (λ o. payload_so alias (later_stamp n.standing.asked.stamp now) o (option_map content_of s.value.now) s.seq) (ap null_said null ∙ null-same (is_none v))
    ∙ ap (λ o. payload_so alias (later_stamp n.standing.asked.stamp now) (cond (is_none v) (Some true) None) o s.seq) value
    ∙ ap (λ k. payload_so alias (later_stamp n.standing.asked.stamp now) (cond (is_none v) (Some true) None) (option_and_then (written_of (option_map_or (λ g. g.datatype) (gauge_at n.standing.asked.book alias) 0)) v) k) seq in
    let wire : said s ≡ wire_of m =
    ap (λ (t : List ℕ). Publish false 0 false t None (payload.spelling (payload_said s))) topic
    ∙ ap (λ (p : PayloadData). Publish false 0 false m.topic None (payload.spelling p)) same in
    written-whole spells m (subst IsUtf8 topic text) (subst payload.PayloadFits same fits) (ap is_writable (sym wire) ∙ writable)

pub on-three : {X E A B C D : Type 0} (r : Result X E) → (A → B → C → D) → OnOk r A → OnOk r B → OnOk r C → OnOk r D
on-three (Ok x) f a b c = f a b c
on-three (Err e) f a b c = tt

pub named-spark : (c : Config) (d : Option (List ℕ)) → named_of c.group c.node d ≡ spark_of c Data d
named-spark c None = refl
named-spark c (Some device) = refl

pub any-ok : {X E P : Type 0} (r : Result X E) → P → OnOk r P
any-ok (Ok x) p = p
any-ok (Err e) p = tt
