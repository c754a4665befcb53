-- What a node's frames say: its numbered messages one by one, and nothing else on their topics.
use Rattle.std.proofs.Common.{◌≡◌, sym, refl, subst, ℕ, ◌+◌, ◌*◌, ◌%◌, ◌<◌, ◌≤◌, Bool, true, false, ◌||◌, List, [], ◌∷◌, ◌++◌, length, Option, Some, None, is_none, All, nat_lt, codes, arith}
use Rattle.std.specs.List.{list_all, AllByRecursion}
use Rattle.std.specs.Str.{IsUtf8}
use Rattle.std.proofs.lemmas.Bool.{and_from, and_parts, ltb-true, or_from, or_parts}
use Rattle.std.proofs.lemmas.Str.{IsUtf8-append, IsUtf8-from_ascii}
use Rattle.std.proofs.lemmas.Str.Ascii.{IsAscii-from_all}
use Rattle.std.proofs.lemmas.List.Elements.{All-cons, All-nil}
use Rattle.spk_packets.specs.Fault.{first_of}
use Rattle.spk_packets.specs.Grammar.{IsBody, IsIdPart, Spells, bit, first_byte}
use Rattle.spk_packets.specs.Message.{Connect, ConnAck, Publish, PubAck, Subscribe, SubAck, Unsubscribe, UnsubAck, PingReq, PingResp, Disconnect, WillData}
use Rattle.spk_packets.specs.Message.{Message as Packet}
use Rattle.spk_packets.specs.Spelling.{HasWords, PacketFits, TextsAreUtf8, has_bad_text, is_bad_text, spelling, unwritable}
use Rattle.spk_packets.specs.declared.fault.PacketFault.{PacketFault}
use Rattle.spk_topics.specs.Fitting.{is_match}
use Rattle.spk_topics.specs.Levels.{joined}
use Rattle.spk_topics.specs.Spark.{is_name, named_levels, topic_of}
use Rattle.spk_topics.specs.Spark.Named.{of_node, of_device, of_state}
use Rattle.spk_topics.specs.declared.spark.Verb.TheVariants.{Death, Command}
use Rattle.spk_broker_rules.specs.Topics.{FitsAlike, IsOff, TopicIn}
use Rattle.spk_plant_broker.specs.Data.{Input, Says, Breaks, Cuts, Ends}
use Rattle.spk_plant_broker.specs.Log.{Means}
use Rattle.spk_ingress.specs.declared.frame.Frame.{Frame}
use Rattle.spk_ingress.specs.declared.frame.Frame.TheVariants as frame
use Rattle.spk_edge_rules.specs.Writable.{is_writable}
use Rattle.spk_edge_rules.specs.Config.{Config}
use Rattle.spk_edge_rules.specs.Packets.{client_of, connect_of, death_topic, subscribe_of, state_filter, will_of}
use Rattle.spk_plant_relay.specs.Shown.{AsksAlike, is_on, is_publish_on}
use Rattle.spk_plant_relay.specs.Speech.{HasTexts, IsPrimary}
use Rattle.spk_plant_relay.specs.Topics.{is_numbered_topic}
use Rattle.spk_plant_relay.proofs.Dying.{DiesIn, DiesOwn}
use Rattle.spk_plant_relay.proofs.Offers.{no-yes}
use Rattle.spk_plant_relay.proofs.Welcome.{IsCleanInput, JoinsClean}
use Rattle.spk_plant_relay.proofs.Topics.{TopicFacts, barred, device-commands, fits-alike, five-levels, levels-of, name-slashless, node-commands, numbered-is, states}

-- what the laws on packets say
pub record PacketFacts : Type 0 where
  pub prefix : (a b x y : List ℕ) (p q : Packet) → Spells a p → Spells b q → a ++ x ≡ b ++ y → (a ≡ b) × (p ≡ q)
  pub spells : (p : Packet) → PacketFits p → first_of (unwritable p) ≡ None → Spells (spelling p) p

pub one-reading : PacketFacts → (bytes : List ℕ) (p q : Packet) → Spells bytes p → Spells bytes q → q ≡ p
one-reading f bytes p q x y = (f.prefix bytes bytes [] [] q p y x refl).1

-- ---- first bytes

same-first : (x y : ℕ) (xs ys : List ℕ) → x ∷ xs ≡ y ∷ ys → x ≡ y
same-first x y xs ys e = cc

pub first-of-spelled : (p q : Packet) → Spells (spelling p) q → first_byte q ≡ first_byte p % 256
unfolding spelling
first-of-spelled p q s = sym (same-first _ _ _ _ s.parts)

pub low-qos : (part : List ℕ) (qos : ℕ) (id : Option ℕ) → IsIdPart part qos id → qos ≤ 1
low-qos part qos None is = let e = is.0 in omega (arith, e)
low-qos part qos (Some id) is = let e = is.0 in omega (arith, e)

bit-low : (b : Bool) → bit b ≤ 1
bit-low true = omega arith
bit-low false = omega arith

pub publish-first : (dup : Bool) (qos : ℕ) (retain : Bool) → qos ≤ 1 → (48 ≤ 48 + 8 * bit dup + 2 * qos + bit retain) × (48 + 8 * bit dup + 2 * qos + bit retain < 60)
publish-first dup qos retain low = let d = bit-low dup in let r = bit-low retain in (omega (arith, low, d, r), omega (arith, low, d, r))

-- ---- what is said that isn't a numbered message

-- what a packet asks for fits all numbered topics of any node, or none
abbrev pub AsksForAll : Packet → Type 0
AsksForAll q = (group node : List ℕ) → AsksAlike (is_numbered_topic group node) q

abbrev pub AsksIn : Input → Type 0
AsksIn (Says q) = AsksForAll q
AsksIn (Breaks f) = Unit {0}
AsksIn Cuts = Unit {0}
AsksIn Ends = Unit {0}

-- no topic of it is a node's numbered one
abbrev pub KeepsOff : Packet → Type 0
KeepsOff q = (group node : List ℕ) → TopicIn (IsOff (barred group node)) q

abbrev pub KeepsIn : Input → Type 0
KeepsIn (Says q) = KeepsOff q
KeepsIn (Breaks f) = Unit {0}
KeepsIn Cuts = Unit {0}
KeepsIn Ends = Unit {0}

abbrev pub Quietly : (List ℕ → Bool) → Packet → Type 0
Quietly on q = (is_publish_on on q ≡ false) × AsksForAll q × KeepsOff q × JoinsClean q × DiesOwn on q

pub record IsQuiet (on : List ℕ → Bool) (f : Frame) : Type 0 where
  pub off : (i : Input) → Means f i → is_on on i ≡ false
  pub asks : (i : Input) → Means f i → AsksIn i
  pub keeps : (i : Input) → Means f i → KeepsIn i
  pub clean : (i : Input) → Means f i → IsCleanInput i
  pub dies : (i : Input) → Means f i → DiesIn on i

pub packet-quiet : (on : List ℕ → Bool) (bytes : _) → ((q : Packet) → Means (frame.Packet bytes) (Says q) → Quietly on q) → IsQuiet on (frame.Packet bytes)
packet-quiet on bytes says = record { off = off; asks = asks; keeps = keeps; clean = clean; dies = dies }
  where
    off : (i : Input) → Means (frame.Packet bytes) i → is_on on i ≡ false
    off (Says q) m = (says q m).0
    off (Breaks f) m = refl
    off Cuts m = refl
    off Ends m = refl

    keeps : (i : Input) → Means (frame.Packet bytes) i → KeepsIn i
    keeps (Says q) m = (says q m).2
    keeps (Breaks f) m = tt
    keeps Cuts m = tt
    keeps Ends m = tt

    clean : (i : Input) → Means (frame.Packet bytes) i → IsCleanInput i
    clean (Says q) m = (says q m).3
    clean (Breaks f) m = absurd m
    clean Cuts m = tt
    clean Ends m = tt

    dies : (i : Input) → Means (frame.Packet bytes) i → DiesIn on i
    dies (Says q) m = (says q m).4
    dies (Breaks f) m = tt
    dies Cuts m = tt
    dies Ends m = tt

    asks : (i : Input) → Means (frame.Packet bytes) i → AsksIn i
    asks (Says q) m = (says q m).1
    asks (Breaks f) m = tt
    asks Cuts m = tt
    asks Ends m = tt

pub cut-quiet : (on : List ℕ → Bool) → IsQuiet on frame.Cut
cut-quiet on = record { off = off; asks = asks; keeps = keeps; clean = clean; dies = dies }
  where
    off : (i : Input) → Means frame.Cut i → is_on on i ≡ false
    off (Says q) m = absurd m
    off (Breaks f) m = refl
    off Cuts m = refl
    off Ends m = refl

    keeps : (i : Input) → Means frame.Cut i → KeepsIn i
    keeps (Says q) m = absurd m
    keeps (Breaks f) m = tt
    keeps Cuts m = tt
    keeps Ends m = tt

    clean : (i : Input) → Means frame.Cut i → IsCleanInput i
    clean (Says q) m = absurd m
    clean (Breaks f) m = absurd m
    clean Cuts m = tt
    clean Ends m = tt

    dies : (i : Input) → Means frame.Cut i → DiesIn on i
    dies (Says q) m = absurd m
    dies (Breaks f) m = tt
    dies Cuts m = tt
    dies Ends m = tt

    asks : (i : Input) → Means frame.Cut i → AsksIn i
    asks (Says q) m = absurd m
    asks (Breaks f) m = tt
    asks Cuts m = tt
    asks Ends m = tt

pub end-quiet : (on : List ℕ → Bool) → IsQuiet on frame.End
end-quiet on = record { off = off; asks = asks; keeps = keeps; clean = clean; dies = dies }
  where
    off : (i : Input) → Means frame.End i → is_on on i ≡ false
    off (Says q) m = absurd m
    off (Breaks f) m = refl
    off Cuts m = refl
    off Ends m = refl

    keeps : (i : Input) → Means frame.End i → KeepsIn i
    keeps (Says q) m = absurd m
    keeps (Breaks f) m = tt
    keeps Cuts m = tt
    keeps Ends m = tt

    clean : (i : Input) → Means frame.End i → IsCleanInput i
    clean (Says q) m = absurd m
    clean (Breaks f) m = absurd m
    clean Cuts m = tt
    clean Ends m = tt

    dies : (i : Input) → Means frame.End i → DiesIn on i
    dies (Says q) m = absurd m
    dies (Breaks f) m = tt
    dies Cuts m = tt
    dies Ends m = tt

    asks : (i : Input) → Means frame.End i → AsksIn i
    asks (Says q) m = absurd m
    asks (Breaks f) m = tt
    asks Cuts m = tt
    asks Ends m = tt

-- ---- the packets of an edge node

pub puback-quiet : (on : List ℕ → Bool) (id : ℕ) (q : Packet) → Spells (spelling (PubAck id)) q → Quietly on q
puback-quiet on id (Publish dup qos retain topic other payload) s =
    let first = first-of-spelled (PubAck id) (Publish dup qos retain topic other payload) s in
    let high = (publish-first dup qos retain (low-qos _ qos other s.is_body.3)).1 in
    absurd (omega (arith, first, high))
puback-quiet on id (Subscribe other filters) s = absurd (let first = first-of-spelled (PubAck id) (Subscribe other filters) s in omega (arith, first))
puback-quiet on id (Connect client clean keep will) s = absurd (let first = first-of-spelled (PubAck id) (Connect client clean keep will) s in omega (arith, first))
puback-quiet on id (ConnAck present code) s = (refl, (λ group node one two x y. tt), (λ group node. tt), tt, (λ group node payload names h. absurd h))
puback-quiet on id (PubAck other) s = (refl, (λ group node one two x y. tt), (λ group node. tt), tt, (λ group node payload names h. absurd h))
puback-quiet on id (SubAck other given) s = (refl, (λ group node one two x y. tt), (λ group node. tt), tt, (λ group node payload names h. absurd h))
puback-quiet on id (Unsubscribe other filters) s = (refl, (λ group node one two x y. tt), (λ group node. tt), tt, (λ group node payload names h. absurd h))
puback-quiet on id (UnsubAck other) s = (refl, (λ group node one two x y. tt), (λ group node. tt), tt, (λ group node payload names h. absurd h))
puback-quiet on id PingReq s = (refl, (λ group node one two x y. tt), (λ group node. tt), tt, (λ group node payload names h. absurd h))
puback-quiet on id PingResp s = (refl, (λ group node one two x y. tt), (λ group node. tt), tt, (λ group node payload names h. absurd h))
puback-quiet on id Disconnect s = (refl, (λ group node one two x y. tt), (λ group node. tt), tt, (λ group node payload names h. absurd h))

-- a packet that its spelling spells says itself
pub itself-quiet : PacketFacts → (on : List ℕ → Bool) (p q : Packet) → Spells (spelling p) p → Quietly on p → Spells (spelling p) q → Quietly on q
itself-quiet f on p q own quiet s = subst (Quietly on) (sym (one-reading f (spelling p) p q own s)) quiet

-- ---- texts

below : (bs : List ℕ) → list_all (λ b. nat_lt b 128) bs ≡ true → All (λ b. b < 128) bs
below [] e = All-nil (λ b. b < 128)
below (b ∷ bs) e =
    let both = and_parts (nat_lt b 128) (list_all (λ x. nat_lt x 128) bs) e in
    All-cons (λ x. x < 128) b bs (ltb-true b 128 both.0) (below bs both.1)

pub ascii : (bs : List ℕ) → list_all (λ b. nat_lt b 128) bs ≡ true → IsUtf8 bs
ascii bs e = IsUtf8-from_ascii bs (IsAscii-from_all bs (below bs e))

pub joined-utf8 : (ls : List (List ℕ)) → AllByRecursion (λ l. IsUtf8 l) ls → IsUtf8 (joined ls)
joined-utf8 [] all = ascii [] refl
joined-utf8 (l ∷ []) all = all.0
joined-utf8 (l ∷ m ∷ ls) all = IsUtf8-append l (47 ∷ joined (m ∷ ls)) all.0 (IsUtf8-append (47 ∷ []) (joined (m ∷ ls)) (ascii (47 ∷ []) refl) (joined-utf8 (m ∷ ls) all.1))

spb-utf8 : IsUtf8 (codes "spBv1.0")
spb-utf8 = ascii (codes "spBv1.0") refl

client-utf8 : (c : Config) → HasTexts c → IsUtf8 (client_of c)
client-utf8 c t = joined-utf8 (c.group ∷ c.node ∷ []) (t.group, (t.node, tt))

death-utf8 : (c : Config) → HasTexts c → IsUtf8 (death_topic c)
death-utf8 c t = joined-utf8 (codes "spBv1.0" ∷ c.group ∷ codes "NDEATH" ∷ c.node ∷ []) (spb-utf8, (t.group, (ascii (codes "NDEATH") refl, (t.node, tt))))

node-filter-utf8 : (c : Config) → HasTexts c → IsUtf8 (topic_of (of_node c.group Command c.node))
node-filter-utf8 c t = joined-utf8 (codes "spBv1.0" ∷ c.group ∷ codes "NCMD" ∷ c.node ∷ []) (spb-utf8, (t.group, (ascii (codes "NCMD") refl, (t.node, tt))))

device-filter-utf8 : (c : Config) → HasTexts c → IsUtf8 (topic_of (of_device c.group Command c.node (codes "+")))
device-filter-utf8 c t =
    joined-utf8 (codes "spBv1.0" ∷ c.group ∷ codes "DCMD" ∷ c.node ∷ codes "+" ∷ []) (spb-utf8, (t.group, (ascii (codes "DCMD") refl, (t.node, (ascii (codes "+") refl, tt)))))

pub state-utf8 : (h : List ℕ) → IsUtf8 h → IsUtf8 (topic_of (of_state h))
state-utf8 h u = joined-utf8 (codes "spBv1.0" ∷ codes "STATE" ∷ h ∷ []) (spb-utf8, (ascii (codes "STATE") refl, (u, tt)))

pub connect-fits : (c : Config) (bd time : ℕ) → HasTexts c → PacketFits (connect_of c bd time)
unfolding HasWords
connect-fits c bd time t = (t.keep, (client-utf8 c t, death-utf8 c t))

pub subscribe-fits : (c : Config) → HasTexts c → PacketFits (subscribe_of c)
unfolding HasWords
subscribe-fits c t = (omega arith, (node-filter-utf8 c t, (device-filter-utf8 c t, by c.primary t.primary)))
  where
    by : (o : Option (List ℕ)) → IsPrimary o → Rattle.spk_packets.specs.Spelling.AreRequestsUtf8 (state_filter o)
    by None p = tt
    by (Some h) p = (state-utf8 h p.1, tt)

pub death-fits : (c : Config) (text : List ℕ) → HasTexts c → PacketFits (Publish false 1 false (death_topic c) (Some 2) text)
unfolding HasWords
death-fits c text t = (omega arith, death-utf8 c t)

pub disconnect-fits : PacketFits Disconnect
unfolding HasWords
disconnect-fits = (tt, tt)

-- ---- what may be written

none-of : {X : Type 0} (o : Option X) → is_none o ≡ true → o ≡ None
none-of None e = refl
none-of (Some x) e = absurd (no-yes e)

pub written : PacketFacts → (p : Packet) → PacketFits p → is_writable p ≡ true → Spells (spelling p) p
written f p fits can = f.spells p fits (none-of (first_of (unwritable p)) can)

-- ---- the node's own filters

pub subscribe-asks : TopicFacts → (c : Config) → is_name c.group ≡ true → is_name c.node ≡ true → IsPrimary c.primary → AsksForAll (subscribe_of c)
subscribe-asks t c g m primary group node one other x y =
    (by_node, (by_device, by_state c.primary primary))
  where
    by_node : is_match (topic_of (of_node c.group Command c.node)) one ≡ is_match (topic_of (of_node c.group Command c.node)) other
    by_node = fits-alike t group node (topic_of (of_node c.group Command c.node)) (named_levels (of_node c.group Command c.node))
        (levels-of t (of_node c.group Command c.node) (and_from _ _ g m))
        (record { plain = refl; verdict = false; same = node-commands c.group c.node group node }) one other x y

    by_device : is_match (topic_of (of_device c.group Command c.node (codes "+"))) one ≡ is_match (topic_of (of_device c.group Command c.node (codes "+"))) other
    by_device = fits-alike t group node (topic_of (of_device c.group Command c.node (codes "+"))) (named_levels (of_device c.group Command c.node (codes "+")))
        (t.again (codes "spBv1.0") (c.group ∷ codes "DCMD" ∷ c.node ∷ codes "+" ∷ []) (five-levels c.group c.node (name-slashless c.group g) (name-slashless c.node m)))
        (record { plain = refl; verdict = false; same = device-commands c.group c.node (codes "+") group node }) one other x y

    by_state : (o : Option (List ℕ)) → IsPrimary o → AllByRecursion (λ (e : List ℕ × ℕ). FitsAlike one other e.0) (state_filter o)
    by_state None p = tt
    by_state (Some h) p = (
      fits-alike t group node (topic_of (of_state h)) (named_levels (of_state h)) (levels-of t (of_state h) p.0)
          (record { plain = refl; verdict = false; same = λ n e. states h group node n p.0 e }) one other x y,
      tt,
    )

none-first : (a : Bool) (fault : PacketFault) (rest : List (Bool × PacketFault)) → is_none (first_of ((a, fault) ∷ rest)) ≡ true → a ≡ false
none-first true fault rest e = absurd (no-yes e)
none-first false fault rest e = refl

-- what can be written has a short topic
pub short-topic : (dup : Bool) (qos : ℕ) (retain : Bool) (topic : List ℕ) (id : Option ℕ) (payload : List ℕ) → is_writable (Publish dup qos retain topic id payload) ≡ true → nat_lt 65535 (length topic) ≡ false
unfolding has_bad_text
short-topic dup qos retain topic id payload e = (or_parts (nat_lt 65535 (length topic)) (Rattle.spk_packets.specs.Grammar.has_zero topic) (none-first (is_bad_text topic) _ _ e)).0

short-will : (client : List ℕ) (clean : Bool) (alive : ℕ) (will : WillData) → is_writable (Connect client clean alive (Some will)) ≡ true → nat_lt 65535 (length will.topic) ≡ false
unfolding has_bad_text
short-will client clean alive will e =
    (or_parts (nat_lt 65535 (length will.topic)) (Rattle.spk_packets.specs.Grammar.has_zero will.topic)
    (or_parts (is_bad_text client) (is_bad_text will.topic) (none-first (is_bad_text client || is_bad_text will.topic) _ _ e)).1).0

-- the topic of a node's NDEATH is none of any node's numbered topics
pub death-off : TopicFacts → (c : Config) → is_name c.group ≡ true → is_name c.node ≡ true → nat_lt 65535 (length (death_topic c)) ≡ false → (group node : List ℕ) → barred group node (death_topic c) ≡ false
death-off t c g m short group node = or_from _ _ (numbered-is t group node (of_node c.group Death c.node) (and_from _ _ g m)) short

pub connect-off : TopicFacts → (c : Config) (bd time : ℕ) → is_name c.group ≡ true → is_name c.node ≡ true → is_writable (connect_of c bd time) ≡ true → KeepsOff (connect_of c bd time)
connect-off t c bd time g m can = death-off t c g m (short-will (client_of c) true c.keep (will_of c bd time) can)

pub dying-off : TopicFacts → (c : Config) (text : List ℕ) → is_name c.group ≡ true → is_name c.node ≡ true → is_writable (Publish false 1 false (death_topic c) (Some 2) text) ≡ true → KeepsOff (Publish false 1 false (death_topic c) (Some 2) text)
dying-off t c text g m can = death-off t c g m (short-topic false 1 false (death_topic c) (Some 2) text can)
