-- In a plant nobody but the node says anything on its numbered topics.
use Rattle.std.proofs.Common.{reverse}
use Rattle.std.proofs.Common.{◌≡◌, ◌⊎◌, inl, inr, sym, ap, refl, subst, ◌∙◌, ℕ, ◌+◌, ◌*◌, ◌-◌, ◌<◌, Bool, true, false, ◌&&◌, List, [], ◌∷◌, ◌++◌, Option, Some, None, is_some, is_none, bytes_eq, arith, true≢false, eq-eqb}
use Rattle.std.specs.List.{AllByRecursion}
use Rattle.std.specs.Option.{option_map_or}
use Rattle.std.proofs.lemmas.Bool.{and_parts, cases_Bool, cases_eq, or_from}
use Rattle.std.proofs.lemmas.Slice.Eq.{bytes_eq-Decides}
use Rattle.spk_packets.specs.Fault.{first_of}
use Rattle.spk_packets.specs.Spelling.{unwritable}
use Rattle.spk_topics.specs.Spark.{Named, named_at, topic_of}
use Rattle.spk_topics.specs.Spark.Named.{of_node, of_device, of_state}
use Rattle.spk_topics.specs.declared.spark.Verb.TheVariants.{Birth, Death, Data, Command}
use Rattle.spk_ingress.specs.Lanes.{share_of}
use Rattle.spk_ingress.specs.declared.frame.Frame.{Frame}
use Rattle.spk_ingress.specs.declared.rule.Message.{Message}
use Rattle.spk_broker_rules.specs.Listening.{plain_publish}
use Rattle.spk_plant_broker.specs.Data.{Input, Says, Breaks, Cuts, Ends, Entry, Took, Accepted, Refused, Passed, Told}
use Rattle.spk_plant_broker.specs.Log.{IsLog, Means, got_of, taken_of}
use Rattle.spk_edge_rules.specs.Config.{Setup}
use Rattle.spk_edge_rules.specs.Inputs as edge
use Rattle.spk_edge_rules.specs.Messages.{named_by, payload_of}
use Rattle.spk_edge_rules.specs.Run as run
use Rattle.spk_reading.specs.Data.{HeardData}
use Rattle.spk_host_session.specs.Data as host
use Rattle.spk_plant_relay.specs.Given.{AreOthers}
use Rattle.spk_plant_relay.specs.Shown.{is_numbered, is_on}
use Rattle.spk_plant_relay.specs.Speech.{IsPlant}
use Rattle.spk_plant_relay.specs.Topics.{is_numbered_name, is_numbered_topic}
use Rattle.spk_plant_relay.proofs.Hosts.{IsHarmlessIn, IsHostFrame}
use Rattle.spk_plant_relay.proofs.Nodes.{EdgeFacts, IsMessageFrame, Last, Tells, on_of, tells-last, wire_at}
use Rattle.spk_plant_relay.proofs.Off.{AllOff, OffIn, TopicLaw, others-of}
use Rattle.spk_plant_relay.proofs.Offers.{no-yes}
use Rattle.spk_plant_relay.proofs.Plant.{Along, all-parts, all_of, along, along-before, message-means, plant-says, share-own}
use Rattle.spk_plant_relay.proofs.Tells.{IsQuiet, KeepsIn, PacketFacts, short-topic}
use Rattle.spk_plant_relay.proofs.Welcome.{IsCleanInput}
use Rattle.spk_plant_relay.proofs.Answered.{AllClean, welcome-of}
use Rattle.spk_plant_host.specs.Told.{AreToldBy, AreWelcome}
use Rattle.spk_plant_relay.proofs.Topics.{TopicFacts, barred}

-- ---- one topic is of one node

pub record SameNode (g n g' n' : List ℕ) : Type 0 where
  pub group : g ≡ g'
  pub node : n ≡ n'

same-two : (h k g n g' n' : List ℕ) → (bytes_eq h g && bytes_eq k n) ≡ true → (bytes_eq h g' && bytes_eq k n') ≡ true → SameNode g n g' n'
same-two h k g n g' n' x y =
    let a = and_parts (bytes_eq h g) (bytes_eq k n) x in
    let b = and_parts (bytes_eq h g') (bytes_eq k n') y in
    record {
      group = sym ((bytes_eq-Decides h g).0 a.0) ∙ (bytes_eq-Decides h g').0 b.0;
      node = sym ((bytes_eq-Decides k n).0 a.1) ∙ (bytes_eq-Decides k n').0 b.1;
    }

same-name : (g n g' n' : List ℕ) (m : Named) → is_numbered_name g n m ≡ true → is_numbered_name g' n' m ≡ true → SameNode g n g' n'
same-name g n g' n' (of_node h Birth k) x y = same-two h k g n g' n' x y
same-name g n g' n' (of_node h Data k) x y = same-two h k g n g' n' x y
same-name g n g' n' (of_node h Death k) x y = absurd (no-yes x)
same-name g n g' n' (of_node h Command k) x y = absurd (no-yes x)
same-name g n g' n' (of_device h Birth k d) x y = same-two h k g n g' n' x y
same-name g n g' n' (of_device h Data k d) x y = same-two h k g n g' n' x y
same-name g n g' n' (of_device h Death k d) x y = same-two h k g n g' n' x y
same-name g n g' n' (of_device h Command k d) x y = absurd (no-yes x)
same-name g n g' n' (of_state h) x y = absurd (no-yes x)

pub same-node : (g n g' n' topic : List ℕ) → is_numbered_topic g n topic ≡ true → is_numbered_topic g' n' topic ≡ true → SameNode g n g' n'
unfolding is_numbered_topic
same-node g n g' n' topic x y = by (named_at topic) x y
  where
    by : (o : Option Named) → option_map_or (is_numbered_name g n) o false ≡ true → option_map_or (is_numbered_name g' n') o false ≡ true → SameNode g n g' n'
    by None x y = absurd (no-yes x)
    by (Some m) x y = same-name g n g' n' m x y

-- ---- frames

none-from : {X : Type 0} (o : Option X) → is_some o ≡ false → is_none o ≡ true
none-from None e = refl
none-from (Some x) e = absurd (true≢false e)

-- another node's numbered message
message-off : PacketFacts → (setup : ℕ → Setup) (k j : ℕ) (all : List run.Message) (p : ℕ) (f : Frame) (i : Input) →
    (((setup j).config.group ≡ (setup k).config.group) → ((setup j).config.node ≡ (setup k).config.node) → j ≡ k) → (j ≡ k → is_on (on_of (setup k)) i ≡ false) →
    IsMessageFrame (setup j) all p f → Means f i → OffIn (barred (setup k).config.group (setup k).config.node) i
message-off pf setup k j all p f i distinct quiet x m =
    subst (OffIn (barred (setup k).config.group (setup k).config.node)) (sym is) (or_from _ _ apart (short-topic false 0 false topic None payload (none-from (first_of (unwritable (plain_publish topic payload))) x.plain.writable)))
  where
    topic : List ℕ
    topic = topic_of (named_by (setup j).config x.message.draft)

    payload : List ℕ
    payload = Rattle.spk_payload.specs.Spelling.spelling (payload_of (run.number_at (setup j) all p) x.message.draft)

    is : i ≡ Says (wire_at (setup j) all p x.message.draft)
    is = message-means pf (setup j) all p f i x m

    apart : is_numbered_topic (setup k).config.group (setup k).config.node topic ≡ false
    apart = elim (cases_Bool (is_numbered_topic (setup k).config.group (setup k).config.node topic)) [
      | inl there ↦ (let one = same-node (setup j).config.group (setup j).config.node (setup k).config.group (setup k).config.node topic x.on_topic there in
          let same = distinct one.group one.node in
          absurd (true≢false (sym there ∙ sym (ap (is_on (on_of (setup k))) is) ∙ quiet same)))
      | inr never ↦ never
    ]

off-last : PacketFacts → (setup : ℕ → Setup) (k j : ℕ) (all : List run.Message) (xs : List Frame) (f : Frame) (p q : ℕ) (i : Input) →
    (((setup j).config.group ≡ (setup k).config.group) → ((setup j).config.node ≡ (setup k).config.node) → j ≡ k) → (j ≡ k → is_on (on_of (setup k)) i ≡ false) →
    Last (setup j) all xs f p q → Means f i → OffIn (barred (setup k).config.group (setup k).config.node) i
off-last pf setup k j all xs f p q i distinct quiet l m = by l.is
  where
    kept : (i : Input) → KeepsIn i → OffIn (barred (setup k).config.group (setup k).config.node) i
    kept (Says w) keeps = keeps (setup k).config.group (setup k).config.node
    kept (Breaks g) keeps = tt
    kept Cuts keeps = tt
    kept Ends keeps = tt

    by : (IsQuiet (on_of (setup j)) f × (l.middle ≡ q)) ⊎ (IsMessageFrame (setup j) all l.middle f × (l.middle + 1 ≡ q)) → OffIn (barred (setup k).config.group (setup k).config.node) i
    by (inl x) = kept i (x.0.keeps i m)
    by (inr x) = message-off pf setup k j all l.middle f i distinct quiet x.0 m

harmless-off : (group node : List ℕ) (i : Input) → IsHarmlessIn i → OffIn (barred group node) i
harmless-off group node (Says q) h = h.off group node
harmless-off group node (Breaks g) h = tt
harmless-off group node Cuts h = absurd h
harmless-off group node Ends h = tt

-- ---- a log

module _ (pf : PacketFacts) (edges k : ℕ) (setup : ℕ → Setup) (all : ℕ → List run.Message) (low : k < edges)
    (distinct : (i j : ℕ) → i < edges → j < edges → (setup i).config.group ≡ (setup j).config.group → (setup i).config.node ≡ (setup j).config.node → i ≡ j) where
  took-off : (xs : List Message) (m : Message) (i : Input) → Along edges setup all (xs ++ m ∷ []) → Means m.frame i → is_numbered (on_of (setup k)) k m i ≡ false → OffIn (barred (setup k).config.group (setup k).config.node) i
  took-off xs m i a means quiet = elim (cases_eq m.sender edges) [
    | inl same ↦ harmless-off (setup k).config.group (setup k).config.node i
        ((all-parts (λ f. IsHostFrame f) (share_of edges xs) m.frame (subst (λ fs. AllByRecursion (λ f. IsHostFrame f) fs) (share-own edges xs m (eq-eqb m.sender edges same)) a.host)).1.means i means)
    | inr other ↦
        (let high = (all-parts (λ (x : Message). x.sender < edges + 1) xs m a.senders).1 in
        let below : m.sender < edges = omega (arith, high, other) in
        let t = a.nodes m.sender below in
        off-last pf setup k m.sender (all m.sender) (share_of m.sender xs) m.frame 0 t.0 i (distinct m.sender k below low)
        (λ same. idle (is_on (on_of (setup k)) i) (ap (λ b. b && is_on (on_of (setup k)) i) (sym (eq-eqb m.sender k same)) ∙ quiet))
        (tells-last (setup m.sender) (all m.sender) (share_of m.sender xs) m.frame 0 t.0
        (subst (λ fs. Tells (setup m.sender) (all m.sender) fs 0 t.0) (share-own m.sender xs m (eq-eqb m.sender m.sender refl)) t.1)) means)
  ]
    where
      idle : (b : Bool) → (true && b) ≡ false → b ≡ false
      idle b e = e

  all-off : (limit : ℕ) (l : List Entry) → IsLog limit edges l → Along edges setup all (taken_of l) → AllOff (on_of (setup k)) (barred (setup k).config.group (setup k).config.node) k l
  all-off limit [] log a = tt
  all-off limit (Took m i ∷ l) log a = ((λ quiet. took-off (taken_of l) m i a log.1.0 quiet), all-off limit l log.0 (along-before edges setup all (taken_of l) m a))
  all-off limit (Accepted j o ∷ l) log a = all-off limit l log.0 a
  all-off limit (Refused j o ∷ l) log a = all-off limit l log.0 a
  all-off limit (Passed o ∷ l) log a = all-off limit l log.0 a
  all-off limit (Told o ∷ l) log a = all-off limit l log.0 a

pub plant-others : PacketFacts → TopicFacts → EdgeFacts → TopicLaw → (width edges k : ℕ) (setup : ℕ → Setup) (inputs : ℕ → List edge.Input) (c : host.Config) (told : List (Option HeardData)) (log : List Entry) → k < edges →
    IsPlant width edges setup inputs c told log → AreOthers (on_of (setup k)) k edges (setup k).config.group (setup k).config.node log
plant-others f t e law width edges k setup inputs c told log low p =
    others-of law (256 - 2 * width) edges k (setup k).config.group (setup k).config.node (on_of (setup k)) log p.is_log (plant-says f t e width edges k setup inputs c told log low p)
    (all-off f edges k setup (all_of setup inputs) low p.distinct (256 - 2 * width) log p.is_log (along f t e width edges setup inputs c told log p))

-- ---- clean sessions

clean-last : PacketFacts → (s : Setup) (all : List run.Message) (xs : List Frame) (f : Frame) (p q : ℕ) (i : Input) → Last s all xs f p q → Means f i → IsCleanInput i
clean-last pf s all xs f p q i l m = by l.is
  where
    by : (IsQuiet (on_of s) f × (l.middle ≡ q)) ⊎ (IsMessageFrame s all l.middle f × (l.middle + 1 ≡ q)) → IsCleanInput i
    by (inl x) = x.0.clean i m
    by (inr x) = subst IsCleanInput (sym (message-means pf s all l.middle f i x.0 m)) tt

harmless-clean : (i : Input) → IsHarmlessIn i → IsCleanInput i
harmless-clean (Says q) h = h.clean
harmless-clean (Breaks g) h = absurd h
harmless-clean Cuts h = absurd h
harmless-clean Ends h = tt

took-clean : PacketFacts → (edges : ℕ) (setup : ℕ → Setup) (all : ℕ → List run.Message) (xs : List Message) (m : Message) (i : Input) → Along edges setup all (xs ++ m ∷ []) → Means m.frame i → IsCleanInput i
took-clean pf edges setup all xs m i a means = elim (cases_eq m.sender edges) [
  | inl same ↦ harmless-clean i
      ((all-parts (λ f. IsHostFrame f) (share_of edges xs) m.frame (subst (λ fs. AllByRecursion (λ f. IsHostFrame f) fs) (share-own edges xs m (eq-eqb m.sender edges same)) a.host)).1.means i means)
  | inr other ↦
      (let high = (all-parts (λ (x : Message). x.sender < edges + 1) xs m a.senders).1 in
      let below : m.sender < edges = omega (arith, high, other) in
      let t = a.nodes m.sender below in
      clean-last pf (setup m.sender) (all m.sender) (share_of m.sender xs) m.frame 0 t.0 i
      (tells-last (setup m.sender) (all m.sender) (share_of m.sender xs) m.frame 0 t.0
      (subst (λ fs. Tells (setup m.sender) (all m.sender) fs 0 t.0) (share-own m.sender xs m (eq-eqb m.sender m.sender refl)) t.1)) means)
]

all-clean : PacketFacts → (limit edges : ℕ) (setup : ℕ → Setup) (all : ℕ → List run.Message) (l : List Entry) → IsLog limit edges l → Along edges setup all (taken_of l) → AllClean l
all-clean pf limit edges setup all [] log a = tt
all-clean pf limit edges setup all (Took m i ∷ l) log a = (took-clean pf edges setup all (taken_of l) m i a log.1.0, all-clean pf limit edges setup all l log.0 (along-before edges setup all (taken_of l) m a))
all-clean pf limit edges setup all (Accepted j o ∷ l) log a = all-clean pf limit edges setup all l log.0 a
all-clean pf limit edges setup all (Refused j o ∷ l) log a = all-clean pf limit edges setup all l log.0 a
all-clean pf limit edges setup all (Passed o ∷ l) log a = all-clean pf limit edges setup all l log.0 a
all-clean pf limit edges setup all (Told o ∷ l) log a = all-clean pf limit edges setup all l log.0 a

pub plant-welcome : PacketFacts → TopicFacts → EdgeFacts → (width edges : ℕ) (setup : ℕ → Setup) (inputs : ℕ → List edge.Input) (c : host.Config) (told : List (Option HeardData)) (log : List Entry) (ts : List (Option HeardData)) →
    IsPlant width edges setup inputs c told log → AreToldBy (got_of edges log) ts → AreWelcome (reverse ts)
plant-welcome f t e width edges setup inputs c told log ts p by =
    welcome-of (256 - 2 * width) edges log ts p.is_log (all-clean f (256 - 2 * width) edges setup (all_of setup inputs) log p.is_log (along f t e width edges setup inputs c told log p)) by
