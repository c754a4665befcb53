-- The clients of a plant say no more than they may, and as many numbered messages are taken of a node as it published.
use Rattle.std.proofs.Common.{◌≡◌, ◌⊎◌, inl, inr, sym, ap, refl, subst, ◌∙◌, ℕ, zero, suc, ◌+◌, ◌-◌, ◌*◌, ◌<◌, ◌≤◌, Bool, true, false, ◌&&◌, ◌||◌, cond, eqb, List, [], ◌∷◌, ◌++◌, map, length, Option, Some, None, arith, true≢false, eq-eqb, eqb-true}
use Rattle.std.specs.List.{AllByRecursion}
use Rattle.std.proofs.lemmas.Bool.{cases_eq}
use Rattle.spk_packets.specs.Spelling.{spelling}
use Rattle.spk_ingress.specs.Lanes.{share_of}
use Rattle.spk_ingress.specs.declared.frame.Frame.{Frame}
use Rattle.spk_ingress.specs.declared.rule.Message.{Message}
use Rattle.spk_plant_broker.specs.Data.{Input, Says, Breaks, Cuts, Ends, Entry, Took, Accepted, Refused, Passed, Told}
use Rattle.spk_plant_broker.specs.Log.{IsLog, Means, taken_of}
use Rattle.spk_edge_rules.specs.Config.{Setup}
use Rattle.spk_edge_rules.specs.Inputs as edge
use Rattle.spk_edge_rules.specs.Messages.{named_by, payload_of}
use Rattle.spk_edge_rules.specs.Run as run
use Rattle.spk_edge_rules.specs.Run.{published, run_of}
use Rattle.spk_plant_edge.specs.Frames.{packet_frame}
use Rattle.spk_reading.specs.Data.{HeardData}
use Rattle.spk_host_session.specs.Data as host
use Rattle.spk_plant_relay.specs.Shown.{AllMaySay, MaySay, count_numbered, is_on, is_publish_on}
use Rattle.spk_plant_relay.specs.Speech.{IsNodeSpeech, IsPlant}
use Rattle.spk_plant_relay.proofs.Hosts.{IsHostFrame, host-frames}
use Rattle.spk_plant_relay.proofs.Nodes.{EdgeFacts, IsMessageFrame, Last, Tells, node-tells, on_of, tells-last, wire_at}
use Rattle.spk_plant_relay.proofs.Tells.{IsQuiet, PacketFacts, one-reading}
use Rattle.spk_plant_relay.proofs.Topics.{TopicFacts}

pub share-snoc : (j : ℕ) (xs : List Message) (m : Message) → share_of j (xs ++ m ∷ []) ≡ share_of j xs ++ cond (eqb m.sender j) (m.frame ∷ []) []
share-snoc j [] m = by (eqb m.sender j)
  where
    by : (b : Bool) → cond b (m.frame ∷ []) [] ≡ cond b (m.frame ∷ []) []
    by b = refl
share-snoc j (x ∷ xs) m = by (eqb x.sender j) (share-snoc j xs m)
  where
    by : (b : Bool) → share_of j (xs ++ m ∷ []) ≡ share_of j xs ++ cond (eqb m.sender j) (m.frame ∷ []) [] →
        cond b (x.frame ∷ share_of j (xs ++ m ∷ [])) (share_of j (xs ++ m ∷ [])) ≡ cond b (x.frame ∷ share_of j xs) (share_of j xs) ++ cond (eqb m.sender j) (m.frame ∷ []) []
    by true e = ap (λ l. x.frame ∷ l) e
    by false e = e

pub share-own : (j : ℕ) (xs : List Message) (m : Message) → eqb m.sender j ≡ true → share_of j (xs ++ m ∷ []) ≡ share_of j xs ++ m.frame ∷ []
share-own j xs m own = share-snoc j xs m ∙ ap (λ b. share_of j xs ++ cond b (m.frame ∷ []) []) own

pub share-other : (j : ℕ) (xs : List Message) (m : Message) → eqb m.sender j ≡ false → share_of j (xs ++ m ∷ []) ≡ share_of j xs
share-other j xs m other = share-snoc j xs m ∙ ap (λ b. share_of j xs ++ cond b (m.frame ∷ []) []) other ∙ Rattle.std.proofs.Common.append-nil (share_of j xs)

-- ---- what a numbered message's frame means

pub message-means : PacketFacts → (s : Setup) (all : List run.Message) (p : ℕ) (f : Frame) (i : Input) → (x : IsMessageFrame s all p f) → Means f i → i ≡ Says (wire_at s all p x.message.draft)
message-means facts s all p f i x m = by i (subst (λ g. Means g i) x.says m)
  where
    by : (i : Input) → Means (packet_frame (wire_at s all p x.message.draft)) i → i ≡ Says (wire_at s all p x.message.draft)
    by (Says q) m = ap (λ w. Says w) (one-reading facts (spelling (wire_at s all p x.message.draft)) (wire_at s all p x.message.draft) q x.spelled m)
    by (Breaks g) m = absurd m
    by Cuts m = absurd m
    by Ends m = absurd m

-- ---- along a log

pub record Along (edges : ℕ) (setup : ℕ → Setup) (all : ℕ → List run.Message) (taken : List Message) : Type 0 where
  pub senders : AllByRecursion (λ (m : Message). m.sender < edges + 1) taken
  pub nodes : (j : ℕ) → j < edges → (q : ℕ) × Tells (setup j) (all j) (share_of j taken) 0 q
  pub host : AllByRecursion (λ f. IsHostFrame f) (share_of edges taken)

pub all-parts : {X : Type 0} (P : X → Type 0) (xs : List X) (x : X) → AllByRecursion P (xs ++ x ∷ []) → AllByRecursion P xs × P x
all-parts P [] x all = (tt, all.0)
all-parts P (y ∷ xs) x all = let rest = all-parts P xs x all.1 in ((all.0, rest.0), rest.1)

pub along-before : (edges : ℕ) (setup : ℕ → Setup) (all : ℕ → List run.Message) (xs : List Message) (m : Message) → Along edges setup all (xs ++ m ∷ []) → Along edges setup all xs
along-before edges setup all xs m a = record {
  senders = (all-parts (λ (x : Message). x.sender < edges + 1) xs m a.senders).0;
  nodes = λ j low. node j (eqb m.sender j) refl (a.nodes j low);
  host = host (eqb m.sender edges) refl;
}
  where
    node : (j : ℕ) (b : Bool) → eqb m.sender j ≡ b → (q : ℕ) × Tells (setup j) (all j) (share_of j (xs ++ m ∷ [])) 0 q → (q : ℕ) × Tells (setup j) (all j) (share_of j xs) 0 q
    node j true own t =
        let l = tells-last (setup j) (all j) (share_of j xs) m.frame 0 t.0 (subst (λ fs. Tells (setup j) (all j) fs 0 t.0) (share-own j xs m own) t.1) in
        (l.middle, l.before)
    node j false other t = (t.0, subst (λ fs. Tells (setup j) (all j) fs 0 t.0) (share-other j xs m other) t.1)

    host : (b : Bool) → eqb m.sender edges ≡ b → AllByRecursion (λ f. IsHostFrame f) (share_of edges xs)
    host true own = (all-parts (λ f. IsHostFrame f) (share_of edges xs) m.frame (subst (λ fs. AllByRecursion (λ f. IsHostFrame f) fs) (share-own edges xs m own) a.host)).0
    host false other = subst (λ fs. AllByRecursion (λ f. IsHostFrame f) fs) (share-other edges xs m other) a.host

-- ---- what may be said

quiet-says : (edges k j : ℕ) (setup : ℕ → Setup) (f : Frame) (i : Input) → (j ≡ edges → ⊥) → IsQuiet (on_of (setup j)) f → Means f i → MaySay (on_of (setup k)) k edges j i
quiet-says edges k j setup f (Says q) other x m = (
  (λ same on. absurd (true≢false (sym on ∙ ap (λ n. is_publish_on (on_of (setup n)) q) (sym same) ∙ x.off (Says q) m))),
  x.asks (Says q) m (setup k).config.group (setup k).config.node,
  (λ same. absurd (other same)),
  (λ same. absurd (other same)),
)
quiet-says edges k j setup f (Breaks g) other x m = tt
quiet-says edges k j setup f Cuts other x m = other
quiet-says edges k j setup f Ends other x m = tt

message-says : PacketFacts → (edges k j : ℕ) (setup : ℕ → Setup) (all : List run.Message) (p : ℕ) (f : Frame) (i : Input) → (j ≡ edges → ⊥) → IsMessageFrame (setup j) all p f → Means f i → MaySay (on_of (setup k)) k edges j i
message-says facts edges k j setup all p f i other x m =
    subst (MaySay (on_of (setup k)) k edges j) (sym (message-means facts (setup j) all p f i x m)) (
      (λ same on. (
        Rattle.spk_topics.specs.Spark.topic_of (named_by (setup j).config x.message.draft),
        Rattle.spk_payload.specs.Spelling.spelling (payload_of (run.number_at (setup j) all p) x.message.draft),
        refl,
        x.plain,
        ap (λ n. on_of (setup n) (Rattle.spk_topics.specs.Spark.topic_of (named_by (setup j).config x.message.draft))) (sym same) ∙ x.on_topic,
      )),
      (λ one two y z. tt),
      (λ same. absurd (other same)),
      (λ same. absurd (other same)),
    )

host-says : (edges k : ℕ) (on : List ℕ → Bool) (group node : List ℕ) (f : Frame) (i : Input) → k < edges → IsHostFrame f → Means f i → MaySay (λ topic. Rattle.spk_plant_relay.specs.Topics.is_numbered_topic group node topic) k edges edges i
host-says edges k on group node f (Says q) low x m =
    let h = x.means (Says q) m in (
      (λ same onto. absurd (omega (arith, low, same))),
      h.asks group node,
      (λ same. h.stays),
      (λ same. h.keeps),
    )
host-says edges k on group node f (Breaks g) low x m = tt
host-says edges k on group node f Cuts low x m = absurd (x.means Cuts m)
host-says edges k on group node f Ends low x m = tt

last-says : PacketFacts → (edges k j : ℕ) (setup : ℕ → Setup) (all : List run.Message) (xs : List Frame) (f : Frame) (p q : ℕ) (i : Input) → (j ≡ edges → ⊥) → Last (setup j) all xs f p q → Means f i →
    MaySay (on_of (setup k)) k edges j i
last-says facts edges k j setup all xs f p q i other l means = by l.is
  where
    by : (IsQuiet (on_of (setup j)) f × (l.middle ≡ q)) ⊎ (IsMessageFrame (setup j) all l.middle f × (l.middle + 1 ≡ q)) → MaySay (on_of (setup k)) k edges j i
    by (inl x) = quiet-says edges k j setup f i other x.0 means
    by (inr x) = message-says facts edges k j setup all l.middle f i other x.0 means

may-say : PacketFacts → (edges k : ℕ) (setup : ℕ → Setup) (all : ℕ → List run.Message) (xs : List Message) (m : Message) (i : Input) → k < edges → Along edges setup all (xs ++ m ∷ []) → Means m.frame i →
    MaySay (on_of (setup k)) k edges m.sender i
may-say facts edges k setup all xs m i low a means = elim (cases_eq m.sender edges) [
  | inl same ↦ subst (λ j. MaySay (on_of (setup k)) k edges j i) (sym same)
      (host-says edges k (on_of (setup k)) (setup k).config.group (setup k).config.node m.frame i low
      (all-parts (λ f. IsHostFrame f) (share_of edges xs) m.frame (subst (λ fs. AllByRecursion (λ f. IsHostFrame f) fs) (share-own edges xs m (eq-eqb m.sender edges same)) a.host)).1 means)
  | inr other ↦
      (let high = (all-parts (λ (x : Message). x.sender < edges + 1) xs m a.senders).1 in
      let below : m.sender < edges = omega (arith, high, other) in
      let t = a.nodes m.sender below in
      last-says facts edges k m.sender setup (all m.sender) (share_of m.sender xs) m.frame 0 t.0 i other
      (tells-last (setup m.sender) (all m.sender) (share_of m.sender xs) m.frame 0 t.0
      (subst (λ fs. Tells (setup m.sender) (all m.sender) fs 0 t.0) (share-own m.sender xs m (eq-eqb m.sender m.sender refl)) t.1)) means)
]

pub all-say : PacketFacts → (limit edges k : ℕ) (setup : ℕ → Setup) (all : ℕ → List run.Message) (l : List Entry) → k < edges → IsLog limit edges l → Along edges setup all (taken_of l) → AllMaySay (on_of (setup k)) k edges l
all-say facts limit edges k setup all [] low log a = tt
all-say facts limit edges k setup all (Took m i ∷ l) low log a =
    (may-say facts edges k setup all (taken_of l) m i low a log.1.0, all-say facts limit edges k setup all l low log.0 (along-before edges setup all (taken_of l) m a))
all-say facts limit edges k setup all (Accepted j o ∷ l) low log a = all-say facts limit edges k setup all l low log.0 a
all-say facts limit edges k setup all (Refused j o ∷ l) low log a = all-say facts limit edges k setup all l low log.0 a
all-say facts limit edges k setup all (Passed o ∷ l) low log a = all-say facts limit edges k setup all l low log.0 a
all-say facts limit edges k setup all (Told o ∷ l) low log a = all-say facts limit edges k setup all l low log.0 a

-- ---- how many were taken

last-counts : PacketFacts → (s : Setup) (all : List run.Message) (xs : List Frame) (f : Frame) (p q n : ℕ) (i : Input) (l : Last s all xs f p q) → Means f i → n ≡ l.middle → cond (is_on (on_of s) i) (n + 1) n ≡ q
last-counts facts s all xs f p q n i l means same = by l.is
  where
    by : (IsQuiet (on_of s) f × (l.middle ≡ q)) ⊎ (IsMessageFrame s all l.middle f × (l.middle + 1 ≡ q)) → cond (is_on (on_of s) i) (n + 1) n ≡ q
    by (inl x) = ap (λ b. cond b (n + 1) n) (x.0.off i means) ∙ same ∙ x.1
    by (inr x) =
        let is = message-means facts s all l.middle f i x.0 means in
        ap (λ b. cond b (n + 1) n) (ap (is_on (on_of s)) is ∙ x.0.on_topic) ∙ ap (λ a. a + 1) same ∙ x.1

pub counts : PacketFacts → (limit edges k : ℕ) (s : Setup) (all : List run.Message) (l : List Entry) (q : ℕ) → IsLog limit edges l → Tells s all (share_of k (taken_of l)) 0 q → count_numbered (on_of s) k l ≡ q
counts facts limit edges k s all [] q log t = t
counts facts limit edges k s all (Took m i ∷ l) q log t = by (eqb m.sender k) refl (counts facts limit edges k s all l)
  where
    by : (b : Bool) → eqb m.sender k ≡ b → ((r : ℕ) → IsLog limit edges l → Tells s all (share_of k (taken_of l)) 0 r → count_numbered (on_of s) k l ≡ r) →
        cond (b && is_on (on_of s) i) (count_numbered (on_of s) k l + 1) (count_numbered (on_of s) k l) ≡ q
    by true own rest =
        let last = tells-last s all (share_of k (taken_of l)) m.frame 0 q (subst (λ fs. Tells s all fs 0 q) (share-own k (taken_of l) m own) t) in
        last-counts facts s all (share_of k (taken_of l)) m.frame 0 q (count_numbered (on_of s) k l) i last log.1.0 (rest last.middle log.0 last.before)
    by false other rest = rest q log.0 (subst (λ fs. Tells s all fs 0 q) (share-other k (taken_of l) m other) t)
counts facts limit edges k s all (Accepted j o ∷ l) q log t = counts facts limit edges k s all l q log.0 t
counts facts limit edges k s all (Refused j o ∷ l) q log t = counts facts limit edges k s all l q log.0 t
counts facts limit edges k s all (Passed o ∷ l) q log t = counts facts limit edges k s all l q log.0 t
counts facts limit edges k s all (Told o ∷ l) q log t = counts facts limit edges k s all l q log.0 t

-- ---- a plant

abbrev pub all_of : (setup : ℕ → Setup) (inputs : ℕ → List edge.Input) → ℕ → List run.Message
all_of setup inputs j = published (run_of (setup j) (inputs j))

pub share-tells : PacketFacts → TopicFacts → EdgeFacts → (s : Setup) (is : List edge.Input) (frames : List Frame) → IsNodeSpeech s is frames → Tells s (published (run_of s is)) frames 0 (length (published (run_of s is)))
share-tells f t e s is frames x =
    subst (λ fs. Tells s (published (run_of s is)) fs 0 (length (published (run_of s is)))) (sym x.put) (node-tells f t e s is x.names x.texts x.runs_on x.whole)

pub along : PacketFacts → TopicFacts → EdgeFacts → (width edges : ℕ) (setup : ℕ → Setup) (inputs : ℕ → List edge.Input) (c : host.Config) (told : List (Option HeardData)) (log : List Entry) →
    IsPlant width edges setup inputs c told log → Along edges setup (all_of setup inputs) (taken_of log)
along f t e width edges setup inputs c told log p = record {
  senders = p.senders.senders;
  nodes = λ j low. (length (all_of setup inputs j), share-tells f t e (setup j) (inputs j) (share_of j (taken_of log)) (p.nodes j low));
  host = subst (λ fs. AllByRecursion (λ x. IsHostFrame x) fs) (sym p.host.put) (host-frames f t c (record { good = p.host.good; name = p.host.name; group = p.host.group; keep = p.host.keep }) told);
}

pub plant-says : PacketFacts → TopicFacts → EdgeFacts → (width edges k : ℕ) (setup : ℕ → Setup) (inputs : ℕ → List edge.Input) (c : host.Config) (told : List (Option HeardData)) (log : List Entry) → k < edges →
    IsPlant width edges setup inputs c told log → AllMaySay (on_of (setup k)) k edges log
plant-says f t e width edges k setup inputs c told log low p =
    all-say f (256 - 2 * width) edges k setup (all_of setup inputs) log low p.is_log (along f t e width edges setup inputs c told log p)

pub plant-counts : PacketFacts → TopicFacts → EdgeFacts → (width edges k : ℕ) (setup : ℕ → Setup) (inputs : ℕ → List edge.Input) (c : host.Config) (told : List (Option HeardData)) (log : List Entry) → k < edges →
    IsPlant width edges setup inputs c told log → count_numbered (on_of (setup k)) k log ≡ length (published (run_of (setup k) (inputs k)))
plant-counts f t e width edges k setup inputs c told log low p =
    counts f (256 - 2 * width) edges k (setup k) (all_of setup inputs k) log (length (all_of setup inputs k)) p.is_log
    (share-tells f t e (setup k) (inputs k) (share_of k (taken_of log)) (p.nodes k low))
