-- Whatever the spelling of a PUBLISH spells has its topic, and bytes of another topic are no numbered message of a node.
use Rattle.std.proofs.Common.{◌≡◌, sym, ap, refl, subst, ◌∙◌, ℕ, ◌+◌, ◌*◌, ◌/◌, ◌%◌, ◌<◌, ◌≤◌, Bool, true, false, ◌&&◌, cond, ltb, List, [], ◌∷◌, ◌++◌, length, Option, Some, None, Result, Ok, Err, bytes_eq, arith, true≢false, length-append}
use Rattle.std.specs.Option.{option_map_or}
use Rattle.std.proofs.lemmas.Bool.{and_from, and_parts, ltb-true, ltb-false, or_parts}
use Rattle.std.proofs.lemmas.Slice.Eq.{bytes_eq-Decides}
use Rattle.spk_packets.specs.Grammar.{AreSevens, IsNumber, Spells, first_byte, largest}
use Rattle.spk_packets.specs.Message.{Message as Packet, Connect, ConnAck, Publish, PubAck, Subscribe, SubAck, Unsubscribe, UnsubAck, PingReq, PingResp, Disconnect}
use Rattle.spk_packets.specs.Spelling.{body, id_part, shortest, spelling}
use Rattle.spk_topics.specs.Spark.{Named, named_at}
use Rattle.spk_topics.specs.Spark.Named.{of_node, of_device, of_state}
use Rattle.spk_topics.specs.declared.spark.Verb.TheVariants as verb
use Rattle.spk_payload.specs.Meaning.{PayloadData}
use Rattle.spk_reading.specs.Data.{ContentData, Message, Death, Nothing, HeardData, NumberedData, Published, Answered, Granted, Other, SubjectData}
use Rattle.spk_reading.specs.Meaning.{◌>>=◌, birth_in, content_at, content_in, death_in, heard, or_fault, other_in, payload_in, seq_of, session_of}
use Rattle.spk_reading.specs.declared.fault.ReadFault.{ReadFault}
use Rattle.spk_reading.specs.declared.fault.ReadFault.TheVariants as fault
use Rattle.spk_host.specs.Inputs.{is_same}
use Rattle.spk_broker_rules.specs.Topics.{IsOff, TopicIn}
use Rattle.spk_plant_relay.specs.Given.{IsNoMessageOf}
use Rattle.spk_plant_relay.specs.Topics.{is_numbered_name, is_numbered_topic}
use Rattle.spk_plant_relay.proofs.Topics.{barred}
use Rattle.spk_plant_relay.proofs.Tells.{first-of-spelled, low-qos, publish-first}

-- ---- lists

pub head-is : (x y : ℕ) (xs ys : List ℕ) → x ∷ xs ≡ y ∷ ys → x ≡ y
head-is x y xs ys e = cc

pub tail-is : (x y : ℕ) (xs ys : List ℕ) → x ∷ xs ≡ y ∷ ys → xs ≡ ys
tail-is x y xs ys e = cc

same-front : (xs ys us vs : List ℕ) → length xs ≡ length ys → xs ++ us ≡ ys ++ vs → xs ≡ ys
same-front [] [] us vs size e = refl
same-front [] (y ∷ ys) us vs size e = absurd (omega (arith, size))
same-front (x ∷ xs) [] us vs size e = absurd (omega (arith, size))
same-front (x ∷ xs) (y ∷ ys) us vs size e =
    let h = head-is x y (xs ++ us) (ys ++ vs) e in
    let t = same-front xs ys us vs (omega (arith, size)) (tail-is x y (xs ++ us) (ys ++ vs) e) in
    ap (λ z. z ∷ xs) h ∙ ap (λ zs. y ∷ zs) t

-- ---- the remaining length

pub sevens-rest : (a b xs ys : List ℕ) (x y : ℕ) → AreSevens a x → AreSevens b y → a ++ xs ≡ b ++ ys → xs ≡ ys
sevens-rest [] b xs ys x y s t e = absurd s
sevens-rest (u ∷ []) [] xs ys x y s t e = absurd t
sevens-rest (u ∷ c ∷ a) [] xs ys x y s t e = absurd t
sevens-rest (u ∷ []) (v ∷ []) xs ys x y s t e = tail-is u v xs ys e
sevens-rest (u ∷ []) (v ∷ d ∷ b) xs ys x y s t e = absurd (let h = head-is u v xs (d ∷ (b ++ ys)) e in let l = s.0 in let m = t.0 in omega (arith, h, l, m))
sevens-rest (u ∷ c ∷ a) (v ∷ []) xs ys x y s t e = absurd (let h = head-is u v (c ∷ (a ++ xs)) ys e in let l = s.0 in let m = t.0 in omega (arith, h, l, m))
sevens-rest (u ∷ c ∷ a) (v ∷ d ∷ b) xs ys x y s t e = sevens-rest (c ∷ a) (d ∷ b) xs ys s.1.0 t.1.0 s.1.2 t.1.2 (tail-is u v (c ∷ (a ++ xs)) (d ∷ (b ++ ys)) e)

pub shortest-sevens : (n : ℕ) → n < 2097152 → AreSevens (shortest n) n
unfolding shortest
shortest-sevens n low = by (ltb n 128) (ltb n 16384) (ltb n 2097152) refl refl refl
  where
    by : (a b c : Bool) → ltb n 128 ≡ a → ltb n 16384 ≡ b → ltb n 2097152 ≡ c →
        AreSevens (cond a (n ∷ []) (cond b ((n % 128 + 128) ∷ n / 128 ∷ [])
        (cond c ((n % 128 + 128) ∷ (n / 128 % 128 + 128) ∷ n / 16384 ∷ [])
        ((n % 128 + 128) ∷ (n / 128 % 128 + 128) ∷ (n / 16384 % 128 + 128) ∷ n / 2097152 ∷ [])))) n
    by true b c p q r = (ltb-true n 128 p, refl)
    by false true c p q r = let h = ltb-true n 16384 q in (omega arith, (n / 128, omega arith, (omega (arith, h), refl)))
    by false false true p q r = let h = ltb-true n 2097152 r in (omega arith, (n / 128, omega arith, (omega arith, (n / 16384, omega arith, (omega (arith, h), refl)))))
    by false false false p q r = absurd (let h = ltb-false n 2097152 r in omega (arith, h, low))

-- ---- topics

pub same-topic : (dup : Bool) (qos : ℕ) (retain : Bool) (topic : List ℕ) (id : Option ℕ) (payload : List ℕ) (dup' : Bool) (qos' : ℕ) (retain' : Bool) (topic' : List ℕ) (id' : Option ℕ) (payload' : List ℕ) →
    length topic < 65536 → Spells (spelling (Publish dup qos retain topic id payload)) (Publish dup' qos' retain' topic' id' payload') → topic ≡ topic'
unfolding spelling body
same-topic dup qos retain topic id payload dup' qos' retain' topic' id' payload' short s =
    same-front topic topic' (id_part id ++ payload) (s.is_body.1 ++ payload') (omega (arith, size, high, low, short)) rest
  where
    own : List ℕ
    own = body (Publish dup qos retain topic id payload)

    few : length own < 2097152
    few = let a = length-append (shortest (length own)) own in let b = s.small in omega (arith, a, b)

    bodies : own ≡ s.body
    bodies = sevens-rest (shortest (length own)) s.size own s.body (length own) (length s.body) (shortest-sevens (length own) few) s.is_size.1 (tail-is _ _ _ _ s.parts)

    number : IsNumber s.is_body.2.0.0 (length topic')
    number = s.is_body.2.0.1

    parts : length topic / 256 % 256 ∷ length topic % 256 ∷ (topic ++ (id_part id ++ payload)) ≡ number.0 ∷ number.1 ∷ (topic' ++ (s.is_body.1 ++ payload'))
    parts = bodies ∙ s.is_body.5 ∙ ap (λ name. name ++ (s.is_body.1 ++ payload')) (s.is_body.2.0.2 ∙ ap (λ front. front ++ topic') number.2)

    high : length topic / 256 % 256 ≡ number.0
    high = head-is _ _ _ _ parts

    low : length topic % 256 ≡ number.1
    low = head-is _ _ _ _ (tail-is _ _ _ _ parts)

    size : length topic' ≡ 256 * number.0 + number.1
    size = number.3

    rest : topic ++ (id_part id ++ payload) ≡ topic' ++ (s.is_body.1 ++ payload')
    rest = tail-is _ _ _ _ (tail-is _ _ _ _ parts)

-- ---- what is read

abbrev NamedIn : Named → Result ContentData ReadFault → Type 0
NamedIn n (Ok (Message m)) = is_numbered_name m.group m.node n ≡ true
NamedIn n (Ok (Death group node bd)) = Unit {0}
NamedIn n (Ok Nothing) = Unit {0}
NamedIn n (Err e) = Unit {0}

named-bind : {A : Type 0} (n : Named) (r : Result A ReadFault) (f : A → Result ContentData ReadFault) → ((x : A) → NamedIn n (f x)) → NamedIn n (r >>= f)
named-bind n (Ok x) f each = each x
named-bind n (Err e) f each = tt

both-same : (g n : List ℕ) → (bytes_eq g g && bytes_eq n n) ≡ true
both-same g n = and_from _ _ ((bytes_eq-Decides g g).1 refl) ((bytes_eq-Decides n n).1 refl)

named-birth : (topic group node : List ℕ) (p : PayloadData) → NamedIn (of_node group verb.Birth node) (birth_in topic group node p)
named-birth topic group node p =
    named-bind (of_node group verb.Birth node) (or_fault fault.NoSeq (seq_of p)) _ (λ n. named-bind (of_node group verb.Birth node) (or_fault fault.NoStamp p.timestamp) _
    (λ t. named-bind (of_node group verb.Birth node) (or_fault fault.NoBdSeq (session_of p.metrics)) _ (λ bd. both-same group node)))

named-other : (name : Named) (topic group node : List ℕ) (subject : SubjectData) (p : PayloadData) → is_numbered_name group node name ≡ true → NamedIn name (other_in topic group node subject p)
named-other name topic group node subject p is = named-bind name (or_fault fault.NoSeq (seq_of p)) _ (λ n. is)

named-death : (name : Named) (group node : List ℕ) (p : PayloadData) → NamedIn name (death_in group node p)
named-death name group node p = named-bind name (or_fault fault.NoBdSeq (session_of p.metrics)) _ (λ bd. tt)

named-content : (topic bytes : List ℕ) (n : Named) → NamedIn n (content_in topic bytes n)
named-content topic bytes (of_node group verb.Birth node) = named-bind (of_node group verb.Birth node) (payload_in bytes) (birth_in topic group node) (named-birth topic group node)
named-content topic bytes (of_node group verb.Death node) = named-bind (of_node group verb.Death node) (payload_in bytes) (death_in group node) (named-death (of_node group verb.Death node) group node)
named-content topic bytes (of_node group verb.Data node) = named-bind (of_node group verb.Data node) (payload_in bytes) _ (λ p. named-other (of_node group verb.Data node) topic group node _ p (both-same group node))
named-content topic bytes (of_node group verb.Command node) = tt
named-content topic bytes (of_device group verb.Birth node device) = named-bind (of_device group verb.Birth node device) (payload_in bytes) _ (λ p. named-other (of_device group verb.Birth node device) topic group node _ p (both-same group node))
named-content topic bytes (of_device group verb.Death node device) = named-bind (of_device group verb.Death node device) (payload_in bytes) _ (λ p. named-other (of_device group verb.Death node device) topic group node _ p (both-same group node))
named-content topic bytes (of_device group verb.Data node device) = named-bind (of_device group verb.Data node device) (payload_in bytes) _ (λ p. named-other (of_device group verb.Data node device) topic group node _ p (both-same group node))
named-content topic bytes (of_device group verb.Command node device) = tt
named-content topic bytes (of_state host) = tt

-- a numbered message is read on one of its node's numbered topics
abbrev TopicOk : List ℕ → Result ContentData ReadFault → Type 0
TopicOk topic (Ok (Message m)) = is_numbered_topic m.group m.node topic ≡ true
TopicOk topic (Ok (Death group node bd)) = Unit {0}
TopicOk topic (Ok Nothing) = Unit {0}
TopicOk topic (Err e) = Unit {0}

topic-ok : (topic : List ℕ) (n : Named) (r : Result ContentData ReadFault) → named_at topic ≡ Some n → NamedIn n r → TopicOk topic r
unfolding is_numbered_topic
topic-ok topic n (Ok (Message m)) at named = ap (λ o. option_map_or (is_numbered_name m.group m.node) o false) at ∙ named
topic-ok topic n (Ok (Death group node bd)) at named = tt
topic-ok topic n (Ok Nothing) at named = tt
topic-ok topic n (Err e) at named = tt

topic-at : (topic bytes : List ℕ) → TopicOk topic (content_at topic bytes)
unfolding content_at
topic-at topic bytes = by (named_at topic) refl
  where
    by : (o : Option Named) → named_at topic ≡ o → TopicOk topic (or_fault fault.NotSparkplug o >>= content_in topic bytes)
    by None at = tt
    by (Some n) at = topic-ok topic n (content_in topic bytes n) at (named-content topic bytes n)

abbrev HeardOk : List ℕ → Result HeardData ReadFault → Type 0
HeardOk topic (Ok (Published ack (Message m))) = is_numbered_topic m.group m.node topic ≡ true
HeardOk topic (Ok (Published ack (Death group node bd))) = Unit {0}
HeardOk topic (Ok (Published ack Nothing)) = Unit {0}
HeardOk topic (Ok (Answered code)) = Unit {0}
HeardOk topic (Ok Granted) = Unit {0}
HeardOk topic (Ok Other) = Unit {0}
HeardOk topic (Err e) = Unit {0}

heard-ok : (ack : Option ℕ) (topic : List ℕ) (r : Result ContentData ReadFault) → TopicOk topic r → HeardOk topic (r >>= λ content. Ok (Published ack content))
heard-ok ack topic (Ok (Message m)) is = is
heard-ok ack topic (Ok (Death group node bd)) is = tt
heard-ok ack topic (Ok Nothing) is = tt
heard-ok ack topic (Err e) is = tt

-- ---- bytes of another topic

abbrev NotMessage : (group name : List ℕ) → Result HeardData ReadFault → Type 0
NotMessage group name r = (ack : Option ℕ) (m : NumberedData) → r ≡ Ok (Published ack (Message m)) → is_same group name m.group m.node ≡ false

heard-differs : (ack : Option ℕ) (m : NumberedData) (h : HeardData) → (h ≡ Published ack (Message m) → ⊥) → ◌≡◌ {A = Result HeardData ReadFault} (Ok h) (Ok (Published ack (Message m))) → ⊥
heard-differs ack m h other e = other (let x : h ≡ Published ack (Message m) = cc in x)

answered-not : (ack : Option ℕ) (m : NumberedData) (code : ℕ) → ◌≡◌ {A = Result HeardData ReadFault} (Ok (Answered code)) (Ok (Published ack (Message m))) → ⊥
answered-not ack m code e = cc

granted-not : (ack : Option ℕ) (m : NumberedData) → ◌≡◌ {A = Result HeardData ReadFault} (Ok Granted) (Ok (Published ack (Message m))) → ⊥
granted-not ack m e = cc

other-not : (ack : Option ℕ) (m : NumberedData) → ◌≡◌ {A = Result HeardData ReadFault} (Ok Other) (Ok (Published ack (Message m))) → ⊥
other-not ack m e = cc

-- of another topic
off-message : (group name topic : List ℕ) (r : Result HeardData ReadFault) → is_numbered_topic group name topic ≡ false → HeardOk topic r → NotMessage group name r
off-message group name topic r off ok ack m e = by (is_same group name m.group m.node) refl
  where
    on : is_numbered_topic m.group m.node topic ≡ true
    on = subst (HeardOk topic) e ok

    by : (b : Bool) → is_same group name m.group m.node ≡ b → b ≡ false
    by false at = refl
    by true at =
        let both = and_parts (bytes_eq group m.group) (bytes_eq name m.node) at in
        absurd (true≢false (sym on ∙ ap (λ g. is_numbered_topic g m.node topic) (sym ((bytes_eq-Decides group m.group).0 both.0)) ∙ ap (λ n. is_numbered_topic group n topic) (sym ((bytes_eq-Decides name m.node).0 both.1)) ∙ off))

not-message : (group name : List ℕ) (p q : Packet) → TopicIn (IsOff (barred group name)) p → Spells (spelling p) q → NotMessage group name (heard q)
not-message group name p (ConnAck present code) off s ack m e = absurd (answered-not ack m code e)
not-message group name p (SubAck id given) off s ack m e = absurd (granted-not ack m e)
not-message group name p (Connect client clean alive will) off s ack m e = absurd (other-not ack m e)
not-message group name p (PubAck id) off s ack m e = absurd (other-not ack m e)
not-message group name p (Subscribe id filters) off s ack m e = absurd (other-not ack m e)
not-message group name p (Unsubscribe id filters) off s ack m e = absurd (other-not ack m e)
not-message group name p (UnsubAck id) off s ack m e = absurd (other-not ack m e)
not-message group name p PingReq off s ack m e = absurd (other-not ack m e)
not-message group name p PingResp off s ack m e = absurd (other-not ack m e)
not-message group name p Disconnect off s ack m e = absurd (other-not ack m e)
not-message group name p (Publish dup qos retain topic id payload) off s ack m e = by p off (first-of-spelled p (Publish dup qos retain topic id payload) s) (publish-first dup qos retain (low-qos _ qos id s.is_body.3)) s ack m e
  where
    ok : HeardOk topic (heard (Publish dup qos retain topic id payload))
    ok = heard-ok _ topic (content_at topic payload) (topic-at topic payload)

    by : (p : Packet) → TopicIn (IsOff (barred group name)) p → 48 + 8 * Rattle.spk_packets.specs.Grammar.bit dup + 2 * qos + Rattle.spk_packets.specs.Grammar.bit retain ≡ first_byte p % 256 →
        (48 ≤ 48 + 8 * Rattle.spk_packets.specs.Grammar.bit dup + 2 * qos + Rattle.spk_packets.specs.Grammar.bit retain) × (48 + 8 * Rattle.spk_packets.specs.Grammar.bit dup + 2 * qos + Rattle.spk_packets.specs.Grammar.bit retain < 60) →
        Spells (spelling p) (Publish dup qos retain topic id payload) → NotMessage group name (heard (Publish dup qos retain topic id payload))
    by (Publish d q r t i l) off first low s =
        let two = or_parts (is_numbered_topic group name t) (ltb 65535 (length t)) off in
        let short = ltb-false 65535 (length t) two.1 in
        let same = same-topic d q r t i l dup qos retain topic id payload (omega (arith, short)) s in
        off-message group name topic (heard (Publish dup qos retain topic id payload)) (ap (is_numbered_topic group name) (sym same) ∙ two.0) ok
    by (Connect client clean alive will) off first low s = absurd (let a = low.0 in omega (arith, first, a))
    by (ConnAck present code) off first low s = absurd (let a = low.0 in omega (arith, first, a))
    by (PubAck other) off first low s = absurd (let a = low.1 in omega (arith, first, a))
    by (Subscribe other filters) off first low s = absurd (let a = low.1 in omega (arith, first, a))
    by (SubAck other given) off first low s = absurd (let a = low.1 in omega (arith, first, a))
    by (Unsubscribe other filters) off first low s = absurd (let a = low.1 in omega (arith, first, a))
    by (UnsubAck other) off first low s = absurd (let a = low.1 in omega (arith, first, a))
    by PingReq off first low s = absurd (let a = low.1 in omega (arith, first, a))
    by PingResp off first low s = absurd (let a = low.1 in omega (arith, first, a))
    by Disconnect off first low s = absurd (let a = low.1 in omega (arith, first, a))

pub no-message : (group name bytes : List ℕ) (p : Packet) → bytes ≡ spelling p → TopicIn (IsOff (barred group name)) p → IsNoMessageOf group name bytes
no-message group name bytes p is off ack m says = not-message group name p says.packet off (subst (λ b. Spells b says.packet) is says.spelled) ack m says.is
