-- The frames of an edge node tell its numbered messages one by one, in order.
use Rattle.std.proofs.Common.{◌≡◌, ◌⊎◌, inl, inr, sym, ap, refl, subst, ◌∙◌, ℕ, ◌+◌, ◌-◌, ◌%◌, Bool, true, false, not, ◌&&◌, ◌||◌, cond, eqb, List, [], ◌∷◌, ◌++◌, map, length, Option, Some, None, Result, Ok, Err, is_some, is_none, slice_get, nat_lt, codes, arith, true≢false, append_assoc, append-nil}
use Rattle.std.specs.List.{list_all, AllByRecursion}
use Rattle.std.specs.Str.{bytes_eq}
use Rattle.std.proofs.lemmas.Bool.{and_from, and_parts, or_from}
use Rattle.std.proofs.lemmas.List.Folds.{list_any-append}
use Rattle.std.proofs.lemmas.Slice.Eq.{bytes_eq-Decides}
use Rattle.spk_packets.specs.Fault.{first_of}
use Rattle.spk_packets.specs.Grammar.{Spells}
use Rattle.spk_packets.specs.Message.{Message as Packet}
use Rattle.spk_packets.specs.Spelling.{spelling, unwritable}
use Rattle.spk_topics.specs.Levels.{is_empty, joined}
use Rattle.spk_topics.specs.Spark.{Named, device_type, has_names, is_name, node_type, topic_of}
use Rattle.spk_topics.specs.Spark.Named.{of_node, of_device, of_state}
use Rattle.spk_topics.specs.Text.{holds, topic_refusal}
use Rattle.spk_topics.specs.declared.spark.Verb.{Verb}
use Rattle.spk_topics.specs.declared.spark.Verb.TheVariants.{Birth, Death, Data, Command}
use Rattle.spk_sequence.specs.NodeRecord.{Numbering, RunsOn, number_by}
use Rattle.spk_broker_rules.specs.Listening.{IsPlain, plain_publish}
use Rattle.spk_ingress.specs.declared.frame.Frame.{Frame}
use Rattle.spk_ingress.specs.declared.frame.Frame.TheVariants as frame
use Rattle.spk_edge_rules.specs.declared.fault.EdgeFault.{EdgeFault}
use Rattle.spk_edge_rules.specs.Answers.{Answer, checked}
use Rattle.spk_edge_rules.specs.Writable.{is_writable}
use Rattle.spk_edge_rules.specs.Claims.{HasNames, is_numbered}
use Rattle.spk_edge_rules.specs.Config.{Config, Setup}
use Rattle.spk_edge_rules.specs.Inputs.{Input}
use Rattle.spk_edge_rules.specs.Messages.{Draft, named_by, opens, payload_of, wire}
use Rattle.spk_edge_rules.specs.Rules.{Given, on_ok, rules}
use Rattle.spk_edge_rules.specs.Run.{Done, Message, asked_of, next_number, number_at, opened, packets_of, posts, published, right_at, run_of, with_done, with_posts, wires_at, births_in}
use Rattle.spk_edge.specs.Along.{AllWhole}
use Rattle.spk_plant_edge.specs.Frames.{cut_if, frames_at, frames_by, frames_of, is_cut, packet_frame}
use Rattle.spk_plant_relay.specs.Speech.{HasTexts}
use Rattle.spk_plant_relay.specs.Topics.{is_numbered_name, is_numbered_topic}
use Rattle.spk_plant_relay.proofs.Offers.{no-yes}
use Rattle.spk_plant_relay.proofs.Owns.{AreOwn, GivesOwn, own-quiet, own-rules}
use Rattle.spk_plant_relay.proofs.Tells.{IsQuiet, PacketFacts, cut-quiet, end-quiet, packet-quiet, short-topic}
use Rattle.spk_plant_relay.proofs.Topics.{TopicFacts, numbered-is}

-- what the laws on an edge node's rules say
pub record EdgeFacts : Type 0 where
  pub kinds : (s : Setup) (is : List Input) (p : ℕ) (m : Message) → slice_get (published (run_of s is)) p ≡ Some m → is_numbered m.draft ≡ true
  pub grows : (s : Setup) (later is : List Input) → (more : List Message) × (published (run_of s (later ++ is)) ≡ published (run_of s is) ++ more)
  pub names : (s : Setup) (is : List Input) (p : ℕ) (m : Message) → HasNames s → slice_get (published (run_of s is)) p ≡ Some m → has_names (named_by s.config m.draft) ≡ true

-- ---- frames by positions

abbrev pub on_of : Setup → List ℕ → Bool
on_of s topic = is_numbered_topic s.config.group s.config.node topic

abbrev pub wire_at : Setup → List Message → ℕ → Draft → Packet
wire_at s all p d = wire s.config (number_at s all p) d

-- the frame is the numbered message of this position
pub record IsMessageFrame (s : Setup) (all : List Message) (p : ℕ) (f : Frame) : Type 0 where
  pub message : Message
  pub there : slice_get all p ≡ Some message
  pub says : f ≡ packet_frame (wire_at s all p message.draft)
  pub spelled : Spells (spelling (wire_at s all p message.draft)) (wire_at s all p message.draft)
  pub plain : IsPlain (topic_of (named_by s.config message.draft)) (Rattle.spk_payload.specs.Spelling.spelling (payload_of (number_at s all p) message.draft))
  pub on_topic : on_of s (topic_of (named_by s.config message.draft)) ≡ true

-- from this position on the frames are the numbered messages up to that one, in order, and others that are quiet
abbrev pub Tells : Setup → List Message → List Frame → (from to : ℕ) → Type 0
Tells s all [] p q = p ≡ q
Tells s all (f ∷ fs) p q = (IsQuiet (on_of s) f × Tells s all fs p q) ⊎ (IsMessageFrame s all p f × Tells s all fs (p + 1) q)

pub tells-append : (s : Setup) (all : List Message) (xs ys : List Frame) (p q r : ℕ) → Tells s all xs p q → Tells s all ys q r → Tells s all (xs ++ ys) p r
tells-append s all [] ys p q r x y = subst (λ a. Tells s all ys a r) (sym x) y
tells-append s all (f ∷ xs) ys p q r (inl x) y = inl (x.0, tells-append s all xs ys p q r x.1 y)
tells-append s all (f ∷ xs) ys p q r (inr x) y = inr (x.0, tells-append s all xs ys (p + 1) q r x.1 y)

-- what the last frame is
pub record Last (s : Setup) (all : List Message) (xs : List Frame) (f : Frame) (p q : ℕ) : Type 0 where
  pub middle : ℕ
  pub before : Tells s all xs p middle
  pub is : (IsQuiet (on_of s) f × (middle ≡ q)) ⊎ (IsMessageFrame s all middle f × (middle + 1 ≡ q))

pub tells-last : (s : Setup) (all : List Message) (xs : List Frame) (f : Frame) (p q : ℕ) → Tells s all (xs ++ f ∷ []) p q → Last s all xs f p q
tells-last s all [] f p q (inl x) = record { middle = p; before = refl; is = inl (x.0, x.1) }
tells-last s all [] f p q (inr x) = record { middle = p; before = refl; is = inr (x.0, x.1) }
tells-last s all (g ∷ xs) f p q (inl x) = let l = tells-last s all xs f p q x.1 in record { middle = l.middle; before = inl (x.0, l.before); is = l.is }
tells-last s all (g ∷ xs) f p q (inr x) = let l = tells-last s all xs f (p + 1) q x.1 in record { middle = l.middle; before = inr (x.0, l.before); is = l.is }

-- ---- topic names

holds-append : (b : ℕ) (xs ys : List ℕ) → holds b xs ≡ false → holds b ys ≡ false → holds b (xs ++ ys) ≡ false
holds-append b xs ys x y = list_any-append (λ c. eqb c b) xs ys ∙ or_from _ _ x y

holds-joined : (b : ℕ) (ls : List (List ℕ)) → eqb 47 b ≡ false → AllByRecursion (λ l. holds b l ≡ false) ls → holds b (joined ls) ≡ false
holds-joined b [] other all = refl
holds-joined b (l ∷ []) other all = all.0
holds-joined b (l ∷ m ∷ ls) other all = holds-append b l (47 ∷ joined (m ∷ ls)) all.0 (or_from (eqb 47 b) (holds b (joined (m ∷ ls))) other (holds-joined b (m ∷ ls) other all.1))

-- a text without wildcards and U+0000
abbrev IsClean : List ℕ → Type 0
IsClean l = (holds 43 l ≡ false) × (holds 35 l ≡ false) × (holds 0 l ≡ false)

name-clean : (text : List ℕ) → is_name text ≡ true → IsClean text
name-clean text e = by (not (is_empty text)) (not (holds 47 text)) (holds 43 text) (holds 35 text) (holds 0 text) e
  where
    by : (a b x y z : Bool) → (a && b && (not x && not y) && not z) ≡ true → (x ≡ false) × (y ≡ false) × (z ≡ false)
    by true true false false false e = (refl, refl, refl)
    by true true true y z e = absurd (no-yes e)
    by true true false true z e = absurd (no-yes e)
    by true true false false true e = absurd (no-yes e)
    by true false x y z e = absurd (no-yes e)
    by false b x y z e = absurd (no-yes e)

node-clean : (v : Verb) → IsClean (node_type v)
node-clean Birth = (refl, refl, refl)
node-clean Death = (refl, refl, refl)
node-clean Data = (refl, refl, refl)
node-clean Command = (refl, refl, refl)

device-clean : (v : Verb) → IsClean (device_type v)
device-clean Birth = (refl, refl, refl)
device-clean Death = (refl, refl, refl)
device-clean Data = (refl, refl, refl)
device-clean Command = (refl, refl, refl)

joined-clean : (ls : List (List ℕ)) → AllByRecursion (λ l. IsClean l) ls → IsClean (joined ls)
joined-clean ls all = (holds-joined 43 ls refl (first ls all), holds-joined 35 ls refl (second ls all), holds-joined 0 ls refl (third ls all))
  where
    first : (ls : List (List ℕ)) → AllByRecursion (λ l. IsClean l) ls → AllByRecursion (λ l. holds 43 l ≡ false) ls
    first [] all = tt
    first (l ∷ ls) all = (all.0.0, first ls all.1)

    second : (ls : List (List ℕ)) → AllByRecursion (λ l. IsClean l) ls → AllByRecursion (λ l. holds 35 l ≡ false) ls
    second [] all = tt
    second (l ∷ ls) all = (all.0.1, second ls all.1)

    third : (ls : List (List ℕ)) → AllByRecursion (λ l. IsClean l) ls → AllByRecursion (λ l. holds 0 l ≡ false) ls
    third [] all = tt
    third (l ∷ ls) all = (all.0.2, third ls all.1)

abbrev IsTopicText : List ℕ → Type 0
IsTopicText text = (is_empty text ≡ false) × IsClean text

spb-clean : IsClean (codes "spBv1.0")
spb-clean = (refl, refl, refl)

topic-text : (n : Named) → has_names n ≡ true → IsTopicText (topic_of n)
topic-text (of_node g v m) e =
    let two = and_parts _ _ e in
    (refl, joined-clean (codes "spBv1.0" ∷ g ∷ node_type v ∷ m ∷ []) (spb-clean, (name-clean g two.0, (node-clean v, (name-clean m two.1, tt)))))
topic-text (of_device g v m d) e =
    let three = Rattle.spk_plant_relay.proofs.Topics.names-three _ _ _ e in
    (refl, joined-clean (codes "spBv1.0" ∷ g ∷ device_type v ∷ m ∷ d ∷ []) (spb-clean, (name-clean g three.0, (device-clean v, (name-clean m three.1, (name-clean d three.2, tt))))))
topic-text (of_state h) e = (refl, joined-clean (codes "spBv1.0" ∷ codes "STATE" ∷ h ∷ []) (spb-clean, ((refl, refl, refl), (name-clean h e, tt))))

topic-good : (text : List ℕ) → IsTopicText text → nat_lt 65535 (length text) ≡ false → is_some (topic_refusal text) ≡ false
topic-good text is short = by (is_empty text) (holds 43 text) (holds 35 text) (holds 0 text) (nat_lt 65535 (length text)) is.0 is.1.0 is.1.1 is.1.2 short
  where
    by : (a x y z w : Bool) → a ≡ false → x ≡ false → y ≡ false → z ≡ false → w ≡ false →
        is_some (cond a (Some Rattle.spk_topics.specs.declared.fault.TopicFault.TheVariants.Empty)
        (cond (not (not x && not y)) (Some Rattle.spk_topics.specs.declared.fault.TopicFault.TheVariants.Wildcard)
        (cond z (Some Rattle.spk_topics.specs.declared.fault.TopicFault.TheVariants.Nul)
        (cond w (Some Rattle.spk_topics.specs.declared.fault.TopicFault.TheVariants.TooLong) None)))) ≡ false
    by false false false false false p q r s t = refl
    by true x y z w p q r s t = absurd (true≢false p)
    by false true y z w p q r s t = absurd (true≢false q)
    by false false true z w p q r s t = absurd (true≢false r)
    by false false false true w p q r s t = absurd (true≢false s)
    by false false false false true p q r s t = absurd (true≢false t)

some-of : {X : Type 0} (o : Option X) → is_none o ≡ true → is_some o ≡ false
some-of None e = refl
some-of (Some x) e = absurd (no-yes e)

plain-wire : (n : Named) (payload : List ℕ) → has_names n ≡ true → is_writable (plain_publish (topic_of n) payload) ≡ true → IsPlain (topic_of n) payload
plain-wire n payload names can = record {
  writable = some-of (first_of (unwritable (plain_publish (topic_of n) payload))) can;
  named = topic-good (topic_of n) (topic-text n names) (short-topic false 0 false (topic_of n) None payload can);
}

-- ---- numbered messages

own-name : (c : Config) (d : Draft) → is_numbered d ≡ true → is_numbered_name c.group c.node (named_by c d) ≡ true
own-name c d e = by d.verb d.device e
  where
    both : (bytes_eq c.group c.group && bytes_eq c.node c.node) ≡ true
    both = and_from _ _ ((bytes_eq-Decides c.group c.group).1 refl) ((bytes_eq-Decides c.node c.node).1 refl)

    by : (v : Verb) (o : Option (List ℕ)) → Rattle.spk_edge_rules.specs.Claims.has_number v o ≡ true → is_numbered_name c.group c.node (Rattle.spk_edge_rules.specs.Messages.spark_of c v o) ≡ true
    by Birth None e = both
    by Birth (Some x) e = both
    by Data None e = both
    by Data (Some x) e = both
    by Death None e = absurd (no-yes e)
    by Death (Some x) e = both
    by Command None e = absurd (no-yes e)
    by Command (Some x) e = absurd (no-yes e)

-- the number of a position of a node whose numbers run on
runs-on : (s : Setup) (xs ys : List Message) (p : ℕ) → s.config.numbering ≡ RunsOn → number_at s xs p ≡ number_at s ys p
runs-on s xs ys p e = at xs ∙ sym (at ys)
  where
    at : (zs : List Message) → number_at s zs p ≡ (s.seq + p) % 256
    at zs = ap (λ (n : Numbering). number_by n (Rattle.spk_edge_rules.specs.Run.setting_of s zs) p) e

get-at : (front rest : List Message) (m : Message) → slice_get (front ++ m ∷ rest) (length front) ≡ Some m
get-at [] rest m = refl
get-at (x ∷ front) rest m = get-at front rest m

length-one : (front : List Message) (m : Message) → length (front ++ m ∷ []) ≡ length front + 1
length-one [] m = refl
length-one (x ∷ front) m = let e = length-one front m in omega (arith, e)

module _ (t : TopicFacts) (e : EdgeFacts) (s : Setup) (inputs : List Input) (names : HasNames s) (on : s.config.numbering ≡ RunsOn) (whole : AllWhole s (published (run_of s inputs))) where
  abbrev all : List Message
  all = published (run_of s inputs)

  wires-tell : (messages : List Message) (session : ℕ) (drafts : List Draft) (front more : List Message) (births p : ℕ) → all ≡ front ++ (posts session births drafts ++ more) → p ≡ length front →
      list_all is_writable (wires_at s messages p drafts) ≡ true → Tells s all (map packet_frame (wires_at s messages p drafts)) p (length (front ++ posts session births drafts))
  wires-tell messages session [] front more births p is at can = at ∙ sym (ap (λ (xs : List Message). length xs) (append-nil front))
  wires-tell messages session (d ∷ ds) front more births p is at can =
      inr (
        here,
        subst (λ n. Tells s all (map packet_frame (wires_at s messages (p + 1) ds)) (p + 1) n) (ap (λ (xs : List Message). length xs) (append_assoc front (post ∷ []) rest))
            (wires-tell messages session ds (front ++ post ∷ []) more next (p + 1) (is ∙ sym (append_assoc front (post ∷ []) (rest ++ more)))
            (let l = length-one front post in omega (arith, l, at)) both.1),
      )
    where
      next : ℕ
      next = cond (opens d) (births + 1) births

      post : Message
      post = record { birth = next - 1; session = session; draft = d }

      rest : List Message
      rest = posts session next ds

      both : (is_writable (wire s.config (number_at s messages p) d) ≡ true) × (list_all is_writable (wires_at s messages (p + 1) ds) ≡ true)
      both = and_parts _ _ can

      there : slice_get all p ≡ Some post
      there = ap (λ (xs : List Message). slice_get xs p) is ∙ ap (slice_get (front ++ (post ∷ (rest ++ more)))) at ∙ get-at front (rest ++ more) post

      same : number_at s messages p ≡ number_at s all p
      same = runs-on s messages all p on

      named : has_names (named_by s.config d) ≡ true
      named = e.names s inputs p post names there

      here : IsMessageFrame s all p (packet_frame (wire s.config (number_at s messages p) d))
      here = record {
        message = post;
        there = there;
        says = ap (λ n. packet_frame (wire s.config n d)) same;
        spelled = (whole p post there).spelled;
        plain = plain-wire (named_by s.config d) (Rattle.spk_payload.specs.Spelling.spelling (payload_of (number_at s all p) d)) named (subst (λ n. is_writable (wire s.config n d) ≡ true) same both.0);
        on_topic = numbered-is t s.config.group s.config.node (named_by s.config d) named ∙ own-name s.config d (e.kinds s inputs p post there);
      }

-- ---- an input

own-tell : PacketFacts → TopicFacts → (s : Setup) (ms : List Message) → HasNames s → HasTexts s.config → (ps : List Packet) (n : ℕ) → AreOwn s.config ps → list_all is_writable ps ≡ true → Tells s ms (map packet_frame ps) n n
own-tell f t s ms names texts [] n own can = refl
own-tell f t s ms names texts (p ∷ ps) n own can =
    let both = and_parts (is_writable p) (list_all is_writable ps) can in
    inl (packet-quiet (on_of s) (spelling p) (λ q says. own-quiet f t s names texts p q own.0 both.0 says), own-tell f t s ms names texts ps n own.1 both.1)

cut-tell : (s : Setup) (ms : List Message) (b : Bool) (n : ℕ) → Tells s ms (cut_if b) n n
cut-tell s ms true n = inl (cut-quiet (on_of s), refl)
cut-tell s ms false n = refl

all-parts : (xs ys : List Packet) → list_all is_writable (xs ++ ys) ≡ true → (list_all is_writable xs ≡ true) × (list_all is_writable ys ≡ true)
all-parts [] ys e = (refl, e)
all-parts (x ∷ xs) ys e =
    let both = and_parts (is_writable x) (list_all is_writable (xs ++ ys)) e in
    let rest = all-parts xs ys both.1 in
    (and_from _ _ both.0 rest.0, rest.1)

map-both : (xs ys : List Packet) → map packet_frame (xs ++ ys) ≡ map packet_frame xs ++ map packet_frame ys
map-both [] ys = refl
map-both (x ∷ xs) ys = ap (λ l. packet_frame x ∷ l) (map-both xs ys)

-- an answer is what the rules give, with packets that can be written
pub record IsAnswer (s : Setup) (h : List Done) (i : Input) (answer : Answer) : Type 0 where
  pub own : AreOwn s.config answer.given.plain
  pub packets : answer.packets ≡ packets_of s h answer.given
  pub can : list_all is_writable (packets_of s h answer.given) ≡ true

same-ok : (x y : Answer) → ◌≡◌ {A = Result Answer EdgeFault} (Ok x) (Ok y) → x ≡ y
same-ok x y e = cc

ok-err : (x : Answer) (f : EdgeFault) → ◌≡◌ {A = Result Answer EdgeFault} (Err f) (Ok x) → ⊥
ok-err x f e = cc

answer-is : (s : Setup) (h : List Done) (i : Input) (answer : Answer) → right_at s h i ≡ Ok answer → IsAnswer s h i answer
answer-is s h i answer e = by (rules s.config (next_number s h) (asked_of s h) i) (own-rules s.config (next_number s h) (asked_of s h) i) e
  where
    can-be : (g : Given) → AreOwn s.config g.plain → (b : Bool) → list_all is_writable (packets_of s h g) ≡ b →
        cond b (Ok (record { given = g; packets = packets_of s h g })) (Err Rattle.spk_edge_rules.specs.declared.fault.EdgeFault.TheVariants.TooLarge) ≡ Ok answer → IsAnswer s h i answer
    can-be g own true at e = subst (IsAnswer s h i) (same-ok (record { given = g; packets = packets_of s h g }) answer e) (record { own = own; packets = refl; can = at })
    can-be g own false at e = absurd (ok-err answer _ e)

    by : (r : Result Given EdgeFault) → GivesOwn s.config r → on_ok r (λ g. checked g (packets_of s h g)) ≡ Ok answer → IsAnswer s h i answer
    by (Err f) own e = absurd (ok-err answer f e)
    by (Ok g) own e = can-be g own.own (list_all is_writable (packets_of s h g)) refl e

module _ (f : PacketFacts) (t : TopicFacts) (e : EdgeFacts) (s : Setup) (inputs : List Input) (names : HasNames s) (texts : HasTexts s.config) (on : s.config.numbering ≡ RunsOn) (whole : AllWhole s (published (run_of s inputs))) where
  abbrev every : List Message
  every = published (run_of s inputs)

  step-tells : (h : List Done) (i : Input) (more : List Message) (r : Result Answer EdgeFault) → right_at s h i ≡ r → every ≡ published (with_done h i r) ++ more →
      Tells s every (frames_by i.act r) (length (published h)) (length (published (with_done h i r)))
  step-tells h i more (Err fault) at is = refl
  step-tells h i more (Ok answer) at is =
      tells-append s every (map packet_frame answer.packets) (cut_if (is_cut i.act || answer.given.close)) (length (published h)) (length after) (length after) said (cut-tell s every (is_cut i.act || answer.given.close) (length after))
    where
      a : IsAnswer s h i answer
      a = answer-is s h i answer at

      messages : List Message
      messages = with_posts (published h) (opened h - 1) answer.given.drafts

      after : List Message
      after = published h ++ posts (opened h - 1) (births_in (published h)) answer.given.drafts

      wires : List Packet
      wires = wires_at s messages (length (published h)) answer.given.drafts

      both : (list_all is_writable answer.given.plain ≡ true) × (list_all is_writable wires ≡ true)
      both = all-parts answer.given.plain wires a.can

      said : Tells s every (map packet_frame answer.packets) (length (published h)) (length after)
      said = subst (λ ps. Tells s every ps (length (published h)) (length after)) (sym (ap (map packet_frame) a.packets ∙ map-both answer.given.plain wires))
          (tells-append s every (map packet_frame answer.given.plain) (map packet_frame wires) (length (published h)) (length (published h)) (length after)
          (own-tell f t s every names texts answer.given.plain (length (published h)) a.own both.0)
          (wires-tell t e s inputs names on whole messages (opened h - 1) answer.given.drafts (published h) more (births_in (published h)) (length (published h))
          (is ∙ append_assoc (published h) (posts (opened h - 1) (births_in (published h)) answer.given.drafts) more) refl both.1))

  frames-tell : (is : List Input) (more : List Message) → every ≡ published (run_of s is) ++ more → Tells s every (frames_of s is) 0 (length (published (run_of s is)))
  frames-tell [] more at = refl
  frames-tell (i ∷ is) more at =
      let grown = e.grows s (i ∷ []) is in
      tells-append s every (frames_of s is) (frames_at s is i) 0 (length (published (run_of s is))) (length (published (run_of s (i ∷ is))))
      (frames-tell is (grown.0 ++ more) (at ∙ ap (λ (xs : List Message). xs ++ more) grown.1 ∙ append_assoc (published (run_of s is)) grown.0 more))
      (step-tells (run_of s is) i more (right_at s (run_of s is) i) refl at)

  pub node-tells : Tells s every (frames_of s inputs ++ frame.End ∷ []) 0 (length every)
  node-tells = tells-append s every (frames_of s inputs) (frame.End ∷ []) 0 (length every) (length every)
      (frames-tell inputs [] (sym (append-nil every))) (inl (end-quiet (on_of s), refl))
