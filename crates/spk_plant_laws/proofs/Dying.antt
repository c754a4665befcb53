-- Whatever an edge node says on the topic of its NDEATH is the NDEATH of a session that it opened.
use Rattle.std.proofs.Common.{◌≡◌, ◌∙◌, sym, ap, refl, subst, true≢false, inl, inr, ℕ, ◌+◌, ◌-◌, ◌^◌, ◌%◌, ◌<◌, ◌≤◌, Bool, true, false, ◌&&◌, ◌||◌, cond, eqb, List, [], ◌∷◌, ◌++◌, map, length, Option, Some, None, Result, Ok, Err, slice_get, arith, append_assoc, append-nil, eq-eqb}
use Rattle.std.specs.List.{list_all, AllByRecursion}
use Rattle.std.proofs.lemmas.Bool.{and_from, and_parts}
use Rattle.std.proofs.lemmas.Slice.Eq.{bytes_eq-Decides}
use Rattle.std.specs.Str.{bytes_eq}
use Rattle.spk_payload.specs.Spelling as payload
use Rattle.spk_packets.specs.Grammar.{Spells}
use Rattle.spk_packets.specs.Message.{Message as Packet, Publish, PubAck, Disconnect}
use Rattle.spk_packets.specs.Spelling.{spelling}
use Rattle.spk_topics.specs.Spark.{Named, has_names, topic_of}
use Rattle.spk_topics.specs.Spark.Named.{of_node}
use Rattle.spk_topics.specs.declared.spark.Verb.{Verb}
use Rattle.spk_topics.specs.declared.spark.Verb.TheVariants.{Birth, Death, Data, Command}
use Rattle.spk_sequence.specs.NodeRecord.{Numbering, RunsOn, number_by}
use Rattle.spk_broker_rules.specs.Origins.{SaidBy}
use Rattle.spk_ingress.specs.Lanes.{share_of}
use Rattle.spk_ingress.specs.declared.frame.Frame.{Frame}
use Rattle.spk_ingress.specs.declared.frame.Frame.TheVariants as frame
use Rattle.spk_ingress.specs.declared.rule.Message as ingress
use Rattle.spk_plant_broker.specs.Data.{Input, Says, Breaks, Cuts, Ends, Entry, Took, Accepted, Refused, Passed, Told}
use Rattle.spk_plant_broker.specs.Log.{IsLog, Means, taken_of}
use Rattle.spk_edge.specs.Along.{AllWhole}
use Rattle.spk_edge_rules.specs.declared.fault.EdgeFault.{EdgeFault}
use Rattle.spk_edge_rules.specs.Answers.{Answer}
use Rattle.spk_edge_rules.specs.Claims.{HasNames, has_number, is_numbered}
use Rattle.spk_edge_rules.specs.Config.{Config, Setup}
use Rattle.spk_edge_rules.specs.Inputs as edge
use Rattle.spk_edge_rules.specs.Messages.{Draft, named_by, opens, spark_of, wire}
use Rattle.spk_edge_rules.specs.Packets.{connect_of, death_payload, death_topic, subscribe_of}
use Rattle.spk_edge_rules.specs.Rules.{Asked, is_idle}
use Rattle.spk_edge_rules.specs.Run.{Done, Message, asked_of, births_in, number_at, opened, opened_at, phase_of, posts, published, right_at, run_of, session_number, setting_of, with_done, with_posts, wires_at}
use Rattle.spk_edge_rules.specs.Step.{is_open}
use Rattle.spk_edge_rules.specs.Writable.{is_writable}
use Rattle.spk_plant_edge.specs.Frames.{cut_if, frames_at, frames_by, frames_of, is_cut, packet_frame}
use Rattle.spk_tie.specs.Tie.{death_text}
use Rattle.spk_plant_relay.specs.Origins.{IsSaying, WasTakenOf}
use Rattle.spk_plant_relay.specs.Speech.{HasTexts}
use Rattle.spk_plant_relay.specs.Topics.{is_numbered_name, is_numbered_topic}
use Rattle.spk_plant_relay.proofs.Nodes.{EdgeFacts}
use Rattle.spk_plant_relay.proofs.Plant.{all-parts, share-other, share-own}
use Rattle.spk_plant_relay.proofs.Tells.{PacketFacts, connect-fits, death-fits, disconnect-fits, one-reading, puback-quiet, subscribe-fits, written}
use Rattle.spk_plant_relay.proofs.Topics.{TopicFacts, numbered-is}
use Rattle.spk_plant_laws.proofs.Farewells.{Acknowledges, AreOwn, Connects, Dies, IsAnswer, IsOwn, Leaves, Subscribes, answer-is, begun, opened-more}

-- the payload of the NDEATH of one of the first so many sessions, opened at a moment
abbrev pub IsDeathText : Setup → ℕ → List ℕ → Type 0
IsDeathText s n text = (session time : ℕ) × (session < n) × (time < 2 ^ 63) × (text ≡ death_text s session time)

text-more : (s : Setup) (m n : ℕ) (text : List ℕ) → m ≤ n → IsDeathText s m text → IsDeathText s n text
text-more s m n text le d = let low = d.2 in (d.0, d.1, omega (arith, le, low), d.3, d.4)

-- whatever the frame says on the topic of the node's NDEATH is such
abbrev pub SaysDeath : Setup → ℕ → Frame → Type 0
SaysDeath s n f = (i : Input) → Means f i → (text : List ℕ) → IsSaying i (death_topic s.config) text → IsDeathText s n text

abbrev pub AllDie : Setup → ℕ → List Frame → Type 0
AllDie s n fs = AllByRecursion (λ (f : Frame). SaysDeath s n f) fs

die-append : (s : Setup) (n : ℕ) (xs ys : List Frame) → AllDie s n xs → AllDie s n ys → AllDie s n (xs ++ ys)
die-append s n [] ys x y = y
die-append s n (f ∷ xs) ys x y = (x.0, die-append s n xs ys x.1 y)

die-more : (s : Setup) (m n : ℕ) (xs : List Frame) → m ≤ n → AllDie s m xs → AllDie s n xs
die-more s m n [] le all = tt
die-more s m n (f ∷ xs) le all = ((λ i means text h. text-more s m n text le (all.0 i means text h)), die-more s m n xs le all.1)

-- ---- frames

packet-dies : (s : Setup) (n : ℕ) (bytes : List ℕ) → ((q : Packet) → Spells bytes q → (text : List ℕ) → SaidBy q (death_topic s.config) text → IsDeathText s n text) →
    (i : Input) → Means (frame.Packet bytes) i → (text : List ℕ) → IsSaying i (death_topic s.config) text → IsDeathText s n text
packet-dies s n bytes each (Says q) m text h = each q m text h
packet-dies s n bytes each (Breaks g) m text h = absurd h
packet-dies s n bytes each Cuts m text h = absurd h
packet-dies s n bytes each Ends m text h = absurd h

cut-dies : (s : Setup) (n : ℕ) (i : Input) → Means frame.Cut i → (text : List ℕ) → IsSaying i (death_topic s.config) text → IsDeathText s n text
cut-dies s n (Says q) m text h = absurd m
cut-dies s n (Breaks g) m text h = absurd h
cut-dies s n Cuts m text h = absurd h
cut-dies s n Ends m text h = absurd h

end-dies : (s : Setup) (n : ℕ) (i : Input) → Means frame.End i → (text : List ℕ) → IsSaying i (death_topic s.config) text → IsDeathText s n text
end-dies s n (Says q) m text h = absurd m
end-dies s n (Breaks g) m text h = absurd h
end-dies s n Cuts m text h = absurd h
end-dies s n Ends m text h = absurd h

cuts-die : (s : Setup) (n : ℕ) (b : Bool) → AllDie s n (cut_if b)
cuts-die s n true = ((λ i m text h. cut-dies s n i m text h), tt)
cuts-die s n false = tt

-- ---- packets beside the numbered messages

no-yes : false ≡ true → ⊥
no-yes e = true≢false (sym e)

-- what a packet that its spelling spells says
itself : PacketFacts → (s : Setup) (p q : Packet) (text : List ℕ) → Spells (spelling p) p → Spells (spelling p) q → SaidBy q (death_topic s.config) text → SaidBy p (death_topic s.config) text
itself f s p q text own says h = subst (λ x. SaidBy x (death_topic s.config) text) (one-reading f (spelling p) p q own says) h

own-dies : PacketFacts → (s : Setup) → HasNames s → HasTexts s.config → (a : Asked) (now : ℕ) (act : edge.Act) (n : ℕ) (p q : Packet) (text : List ℕ) → IsOwn s.config a now act p → is_writable p ≡ true →
    (is_open act ≡ true → IsDeathText s n (payload.spelling (death_payload a.bd now))) → (is_idle a.phase ≡ false → IsDeathText s n (payload.spelling (death_payload a.will_bd a.will_time))) →
    Spells (spelling p) q → SaidBy q (death_topic s.config) text → IsDeathText s n text
own-dies f s names texts a now act n p q text (Acknowledges id is) can opening leaving says h =
    absurd (no-yes ((puback-quiet (λ topic. false) id q (subst (λ x. Spells (spelling x) q) is says)).4 s.config.group s.config.node text (and_from _ _ names.group names.node) h))
own-dies f s names texts a now act n p q text (Subscribes is) can opening leaving says h =
    absurd (itself f s (subscribe_of s.config) q text (written f (subscribe_of s.config) (subscribe-fits s.config texts) (subst (λ x. is_writable x ≡ true) is can))
    (subst (λ x. Spells (spelling x) q) is says) h)
own-dies f s names texts a now act n p q text (Leaves is) can opening leaving says h =
    absurd (itself f s Disconnect q text (written f Disconnect disconnect-fits (subst (λ x. is_writable x ≡ true) is can)) (subst (λ x. Spells (spelling x) q) is says) h)
own-dies f s names texts a now act n p q text (Connects so is) can opening leaving says h =
    let said : SaidBy (connect_of s.config a.bd now) (death_topic s.config) text =
    itself f s (connect_of s.config a.bd now) q text (written f (connect_of s.config a.bd now) (connect-fits s.config a.bd now texts) (subst (λ x. is_writable x ≡ true) is can))
    (subst (λ x. Spells (spelling x) q) is says) h in
    subst (IsDeathText s n) said.1 (opening so)
own-dies f s names texts a now act n p q text (Dies awake is) can opening leaving says h =
    let bye : List ℕ = payload.spelling (death_payload a.will_bd a.will_time) in
    let said : SaidBy (Publish false 1 false (death_topic s.config) (Some 2) bye) (death_topic s.config) text =
    itself f s (Publish false 1 false (death_topic s.config) (Some 2) bye) q text
    (written f (Publish false 1 false (death_topic s.config) (Some 2) bye) (death-fits s.config bye texts) (subst (λ x. is_writable x ≡ true) is can))
    (subst (λ x. Spells (spelling x) q) is says) h in
    subst (IsDeathText s n) said.1 (leaving awake)

plain-die : PacketFacts → (s : Setup) → HasNames s → HasTexts s.config → (a : Asked) (now : ℕ) (act : edge.Act) (n : ℕ) (ps : List Packet) → AreOwn s.config a now act ps → list_all is_writable ps ≡ true →
    (is_open act ≡ true → IsDeathText s n (payload.spelling (death_payload a.bd now))) → (is_idle a.phase ≡ false → IsDeathText s n (payload.spelling (death_payload a.will_bd a.will_time))) →
    AllDie s n (map packet_frame ps)
plain-die f s names texts a now act n [] own can opening leaving = tt
plain-die f s names texts a now act n (p ∷ ps) own can opening leaving =
    let both = and_parts (is_writable p) (list_all is_writable ps) can in
    (packet-dies s n (spelling p) (λ q says text h. own-dies f s names texts a now act n p q text own.0 both.0 opening leaving says h), plain-die f s names texts a now act n ps own.1 both.1 opening leaving)

-- ---- numbered messages

own-name : (c : Config) (d : Draft) → is_numbered d ≡ true → is_numbered_name c.group c.node (named_by c d) ≡ true
own-name c d e = by d.verb d.device e
  where
    both : (bytes_eq c.group c.group && bytes_eq c.node c.node) ≡ true
    both = and_from _ _ ((bytes_eq-Decides c.group c.group).1 refl) ((bytes_eq-Decides c.node c.node).1 refl)

    by : (v : Verb) (o : Option (List ℕ)) → has_number v o ≡ true → is_numbered_name c.group c.node (spark_of c v o) ≡ true
    by Birth None e = both
    by Birth (Some x) e = both
    by Data None e = both
    by Data (Some x) e = both
    by Death None e = absurd (no-yes e)
    by Death (Some x) e = both
    by Command None e = absurd (no-yes e)
    by Command (Some x) e = absurd (no-yes e)

-- the number of a position of a node whose numbers run on
runs-on : (s : Setup) (xs ys : List Message) (p : ℕ) → s.config.numbering ≡ RunsOn → number_at s xs p ≡ number_at s ys p
runs-on s xs ys p e = at xs ∙ sym (at ys)
  where
    at : (zs : List Message) → number_at s zs p ≡ (s.seq + p) % 256
    at zs = ap (λ (n : Numbering). number_by n (setting_of s zs) p) e

get-at : (front rest : List Message) (m : Message) → slice_get (front ++ m ∷ rest) (length front) ≡ Some m
get-at [] rest m = refl
get-at (x ∷ front) rest m = get-at front rest m

length-one : (front : List Message) (m : Message) → length (front ++ m ∷ []) ≡ length front + 1
length-one [] m = refl
length-one (x ∷ front) m = let e = length-one front m in omega (arith, e)

writable-parts : (xs ys : List Packet) → list_all is_writable (xs ++ ys) ≡ true → (list_all is_writable xs ≡ true) × (list_all is_writable ys ≡ true)
writable-parts [] ys e = (refl, e)
writable-parts (x ∷ xs) ys e =
    let both = and_parts (is_writable x) (list_all is_writable (xs ++ ys)) e in
    let rest = writable-parts xs ys both.1 in (and_from _ _ both.0 rest.0, rest.1)

map-both : (xs ys : List Packet) → map packet_frame (xs ++ ys) ≡ map packet_frame xs ++ map packet_frame ys
map-both [] ys = refl
map-both (x ∷ xs) ys = ap (λ l. packet_frame x ∷ l) (map-both xs ys)

module _ (f : PacketFacts) (t : TopicFacts) (e : EdgeFacts) (early : (s : Setup) (is : List edge.Input) → opened_at (run_of s is) < 2 ^ 63) (s : Setup) (inputs : List edge.Input) (names : HasNames s) (texts : HasTexts s.config)
    (on : s.config.numbering ≡ RunsOn) (whole : AllWhole s (published (run_of s inputs))) where
  abbrev all : List Message
  all = published (run_of s inputs)

  wires-die : (n : ℕ) (messages : List Message) (session : ℕ) (drafts : List Draft) (front more : List Message) (births p : ℕ) → all ≡ front ++ (posts session births drafts ++ more) → p ≡ length front →
      AllDie s n (map packet_frame (wires_at s messages p drafts))
  wires-die n messages session [] front more births p is at = tt
  wires-die n messages session (d ∷ ds) front more births p is at = (
    packet-dies s n (spelling (wire s.config (number_at s messages p) d)) (λ q says text h. absurd (never q says text h)),
    wires-die n messages session ds (front ++ post ∷ []) more next (p + 1) (is ∙ sym (append_assoc front (post ∷ []) (rest ++ more))) (let l = length-one front post in omega (arith, l, at)),
  )
    where
      next : ℕ
      next = cond (opens d) (births + 1) births

      post : Message
      post = record { birth = next - 1; session = session; draft = d }

      rest : List Message
      rest = posts session next ds

      there : slice_get all p ≡ Some post
      there = ap (λ (xs : List Message). slice_get xs p) is ∙ ap (slice_get (front ++ (post ∷ (rest ++ more)))) at ∙ get-at front (rest ++ more) post

      same : number_at s messages p ≡ number_at s all p
      same = runs-on s messages all p on

      named : has_names (named_by s.config d) ≡ true
      named = e.names s inputs p post names there

      never : (q : Packet) → Spells (spelling (wire s.config (number_at s messages p) d)) q → (text : List ℕ) → SaidBy q (death_topic s.config) text → ⊥
      never q says text h =
          let said : SaidBy (wire s.config (number_at s all p) d) (death_topic s.config) text =
          itself f s (wire s.config (number_at s all p) d) q text (whole p post there).spelled (subst (λ m. Spells (spelling (wire s.config m d)) q) same says) h in
          true≢false (sym (numbered-is t s.config.group s.config.node (named_by s.config d) named ∙ own-name s.config d (e.kinds s inputs p post there))
          ∙ ap (is_numbered_topic s.config.group s.config.node) said.0
          ∙ numbered-is t s.config.group s.config.node (of_node s.config.group Death s.config.node) (and_from _ _ names.group names.node))

  -- ---- an input

  step-dies : (is : List edge.Input) (i : edge.Input) (more : List Message) (r : Result Answer EdgeFault) → right_at s (run_of s is) i ≡ r → all ≡ published (with_done (run_of s is) i r) ++ more →
      AllDie s (opened (with_done (run_of s is) i r)) (frames_by i.act r)
  step-dies is i more (Err fault) at grown = tt
  step-dies is i more (Ok answer) at grown =
      die-append s n (map packet_frame answer.packets) (cut_if (is_cut i.act || answer.given.close)) said (cuts-die s n (is_cut i.act || answer.given.close))
    where
      h : List Done
      h = run_of s is

      n : ℕ
      n = opened (with_done h i (Ok answer))

      a : IsAnswer s h i answer
      a = answer-is s h i answer at

      wires : List Packet
      wires = wires_at s (with_posts (published h) (opened h - 1) answer.given.drafts) (length (published h)) answer.given.drafts

      both : (list_all is_writable answer.given.plain ≡ true) × (list_all is_writable wires ≡ true)
      both = writable-parts answer.given.plain wires a.can

      opening : is_open i.act ≡ true → IsDeathText s n (payload.spelling (death_payload (session_number s (opened h)) i.now))
      opening so = (opened h, i.now, (let one : n ≡ opened h + 1 = ap (λ b. cond b (opened h + 1) (opened h)) so in omega (arith, one)), a.fair.moment, refl)

      leaving : is_idle (phase_of h) ≡ false → IsDeathText s n (payload.spelling (death_payload (session_number s (opened h - 1)) (opened_at h)))
      leaving awake =
          (opened h - 1, opened_at h, (let some = begun s is awake in let most = opened-more h i (Ok answer) in omega (arith, some, most)), early s is, refl)

      said : AllDie s n (map packet_frame answer.packets)
      said = subst (AllDie s n) (sym (ap (map packet_frame) a.packets ∙ map-both answer.given.plain wires))
          (die-append s n (map packet_frame answer.given.plain) (map packet_frame wires)
          (plain-die f s names texts (asked_of s h) i.now i.act n answer.given.plain a.fair.fair.own both.0 opening leaving)
          (wires-die n (with_posts (published h) (opened h - 1) answer.given.drafts) (opened h - 1) answer.given.drafts (published h) more (births_in (published h)) (length (published h))
          (grown ∙ append_assoc (published h) (posts (opened h - 1) (births_in (published h)) answer.given.drafts) more) refl))

  frames-die : (is : List edge.Input) (more : List Message) → all ≡ published (run_of s is) ++ more → AllDie s (opened (run_of s is)) (frames_of s is)
  frames-die [] more at = tt
  frames-die (i ∷ is) more at =
      let grown = e.grows s (i ∷ []) is in
      die-append s (opened (run_of s (i ∷ is))) (frames_of s is) (frames_at s is i)
      (die-more s (opened (run_of s is)) (opened (run_of s (i ∷ is))) (frames_of s is) (opened-more (run_of s is) i (right_at s (run_of s is) i))
      (frames-die is (grown.0 ++ more) (at ∙ ap (λ (xs : List Message). xs ++ more) grown.1 ∙ append_assoc (published (run_of s is)) grown.0 more)))
      (step-dies is i more (right_at s (run_of s is) i) refl at)

  pub node-dies : AllDie s (opened (run_of s inputs)) (frames_of s inputs ++ frame.End ∷ [])
  node-dies = die-append s (opened (run_of s inputs)) (frames_of s inputs) (frame.End ∷ []) (frames-die inputs [] (sym (append-nil all)))
      ((λ i m text h. end-dies s (opened (run_of s inputs)) i m text h), tt)

-- ---- a log

pub share-less : (s : Setup) (n k : ℕ) (l : List Entry) (m : ingress.Message) (b : Bool) → eqb m.sender k ≡ b → AllDie s n (share_of k (taken_of l ++ m ∷ [])) → AllDie s n (share_of k (taken_of l))
share-less s n k l m true own die = (all-parts (λ (f : Frame). SaysDeath s n f) (share_of k (taken_of l)) m.frame (subst (AllDie s n) (share-own k (taken_of l) m own) die)).0
share-less s n k l m false other die = subst (AllDie s n) (share-other k (taken_of l) m other) die

-- what the client at place k said on the topic, by a log, is such
pub taken-text : (limit edges : ℕ) (s : Setup) (n k : ℕ) (l : List Entry) → IsLog limit edges l → AllDie s n (share_of k (taken_of l)) → (text : List ℕ) → WasTakenOf k l (death_topic s.config) text → IsDeathText s n text
taken-text limit edges s n k [] log die text h = absurd h
taken-text limit edges s n k (Took m i ∷ l) log die text (inl h) =
    (all-parts (λ (f : Frame). SaysDeath s n f) (share_of k (taken_of l)) m.frame (subst (AllDie s n) (share-own k (taken_of l) m (eq-eqb m.sender k h.0)) die)).1 i log.1.0 text h.1
taken-text limit edges s n k (Took m i ∷ l) log die text (inr h) = taken-text limit edges s n k l log.0 (share-less s n k l m (eqb m.sender k) refl die) text h
taken-text limit edges s n k (Accepted j o ∷ l) log die text h = taken-text limit edges s n k l log.0 die text h
taken-text limit edges s n k (Refused j o ∷ l) log die text h = taken-text limit edges s n k l log.0 die text h
taken-text limit edges s n k (Passed o ∷ l) log die text h = taken-text limit edges s n k l log.0 die text h
taken-text limit edges s n k (Told o ∷ l) log die text h = taken-text limit edges s n k l log.0 die text h
