-- The deaths that a plant's host is told of a node are of sessions that the node opened.
use Rattle.std.proofs.Common.{◌≡◌, ◌∙◌, sym, ap, refl, subst, ℕ, ◌+◌, ◌-◌, ◌*◌, ◌^◌, ◌%◌, ◌<◌, ◌≤◌, Bool, true, false, ◌&&◌, cond, eqb, List, [], ◌∷◌, ◌++◌, length, reverse, Option, Some, None, arith, eqb-true}
use Rattle.std.specs.Prelude.{◌==◌}
use Rattle.std.specs.Str.{bytes_eq}
use Rattle.std.proofs.lemmas.Bool.{and_from, and_parts}
use Rattle.std.proofs.lemmas.Slice.Eq.{bytes_eq-Decides}
use Rattle.spk_topics.specs.Spark.{has_names}
use Rattle.spk_topics.specs.Spark.Named.{of_node}
use Rattle.spk_topics.specs.declared.spark.Verb.TheVariants.{Death}
use Rattle.spk_rings.specs.declared.item.Item.{Item}
use Rattle.spk_sequence.specs.HostRecord.{Input, MessageComes, DeathComes, TickComes}
use Rattle.spk_reading.specs.Data as said
use Rattle.spk_reading.specs.Data.{HeardData}
use Rattle.spk_reading.specs.Meaning.{Says}
use Rattle.spk_host.specs.Inputs.{is_same, node_calls, with_heard}
use Rattle.spk_host_node.specs.Inputs as node
use Rattle.spk_host_session.specs.Data as host
use Rattle.spk_plant_host.specs.Told.{AreToldBy, IsToldBy, asked}
use Rattle.spk_plant_broker.specs.Data.{Entry, Offer, Took, Accepted, Refused, Passed, Told}
use Rattle.spk_plant_broker.specs.Log.{IsLog, got_of, taken_of}
use Rattle.spk_plant_broker.specs.Step.{cuts_in}
use Rattle.spk_edge_rules.specs.Config.{Setup}
use Rattle.spk_edge_rules.specs.Inputs as edge
use Rattle.spk_edge_rules.specs.Run as run
use Rattle.spk_edge_rules.specs.Run.{opened, opened_at, published, run_of, session_number}
use Rattle.spk_ingress.specs.Lanes.{share_of}
use Rattle.spk_heard.specs.Read.{AreRead}
use Rattle.spk_plant_relay.specs.Relayed.{AreEarlyDeaths}
use Rattle.spk_plant_relay.specs.Speech.{IsPlant}
use Rattle.spk_plant_relay.proofs.Heard.{last-told, newest}
use Rattle.spk_plant_relay.proofs.Nodes.{EdgeFacts}
use Rattle.spk_plant_relay.proofs.Origins.{OriginLaw}
use Rattle.spk_plant_relay.proofs.Plant.{Along, all-parts, all_of, along, along-before, share-other, share-own}
use Rattle.spk_plant_relay.proofs.Tells.{PacketFacts}
use Rattle.spk_plant_relay.proofs.Topics.{TopicFacts}
use Rattle.spk_plant_laws.specs.Deaths.{AreOpened, AreOwnDeaths}
use Rattle.spk_plant_laws.proofs.Buried.{Reading, death-is, same-death}
use Rattle.spk_plant_laws.proofs.Dying.{AllDie, node-dies, share-less, taken-text}
use Rattle.spk_plant_laws.proofs.Sent.{AllSent, all-sent}
use Rattle.spk_plant_laws.proofs.Spoken.{taken-own, taken-short}

-- ---- what rings get

module _ (pf : PacketFacts) (t : TopicFacts) (reading : Reading) (limit edges k : ℕ) (setup : ℕ → Setup) (all : ℕ → List run.Message) (low : k < edges) (names : Rattle.spk_edge_rules.specs.Claims.HasNames (setup k))
    (distinct : (i j : ℕ) → i < edges → j < edges → (setup i).config.group ≡ (setup j).config.group → (setup i).config.node ≡ (setup j).config.node → i ≡ j) (n : ℕ) where
  own-deaths : (l : List Entry) → IsLog limit edges l → AllSent l → Along edges setup all (taken_of l) → AllDie (setup k) n (share_of k (taken_of l)) → AreOwnDeaths (setup k) n k l
  own-deaths [] log sent a die = tt
  own-deaths (Took m i ∷ l) log sent a die =
      own-deaths l log.0 sent (along-before edges setup all (taken_of l) m a) (share-less (setup k) n k l m (eqb m.sender k) refl die)
  own-deaths (Accepted j o ∷ l) log sent a die = (
    death-is t reading (setup k) names n k l o.bytes sent.0 (taken-short pf limit edges setup all l log.0 a)
        (taken-own pf t edges k setup all low (and_from _ _ names.group names.node) distinct limit l log.0 a) (taken-text limit edges (setup k) n k l log.0 die),
    own-deaths l log.0 sent.1 a die,
  )
  own-deaths (Refused j o ∷ l) log sent a die = own-deaths l log.0 sent a die
  own-deaths (Passed o ∷ l) log sent a die = own-deaths l log.0 sent a die
  own-deaths (Told o ∷ l) log sent a die = own-deaths l log.0 sent a die

pub plant-own-deaths : OriginLaw → PacketFacts → TopicFacts → EdgeFacts → Reading → ((s : Setup) (is : List edge.Input) → opened_at (run_of s is) < 2 ^ 63) →
    (width edges k : ℕ) (setup : ℕ → Setup) (inputs : ℕ → List edge.Input) (c : host.Config) (told : List (Option HeardData)) (log : List Entry) → k < edges →
    IsPlant width edges setup inputs c told log → AreOwnDeaths (setup k) (opened (run_of (setup k) (inputs k))) k log
plant-own-deaths law pf t e reading early width edges k setup inputs c told log low p =
    let x = p.nodes k low in
    own-deaths pf t reading (256 - 2 * width) edges k setup (all_of setup inputs) low x.names p.distinct (opened (run_of (setup k) (inputs k))) log p.is_log
    (all-sent law (256 - 2 * width) edges log p.is_log) (along pf t e width edges setup inputs c told log p)
    (subst (AllDie (setup k) (opened (run_of (setup k) (inputs k)))) (sym x.put) (node-dies pf t e early (setup k) (inputs k) x.names x.texts x.runs_on x.whole))

-- ---- what the host is told

-- one of the first so many sessions has this bdSeq
abbrev IsNamed : Setup → ℕ → ℕ → Type 0
IsNamed s n bd = (session : ℕ) × (session < n) × (session_number s session ≡ bd)

-- each death that was told is of such a one
abbrev AreNamed : Setup → ℕ → List node.Input → Type 0
AreNamed s n [] = Unit {0}
AreNamed s n (node.Comes m now ∷ js) = AreNamed s n js
AreNamed s n (node.Dies bd ∷ js) = IsNamed s n bd × AreNamed s n js
AreNamed s n (node.Ticks now ∷ js) = AreNamed s n js
AreNamed s n (node.Ends ∷ js) = AreNamed s n js

heard-named : (s : Setup) (n now : ℕ) (h : HeardData) (js : List node.Input) → ((ack : Option ℕ) (bd : ℕ) → h ≡ said.Published ack (said.Death s.config.group s.config.node bd) → IsNamed s n bd) → AreNamed s n js →
    AreNamed s n (with_heard h now s.config.group s.config.node js)
heard-named s n now (said.Published ack (said.Message m)) js told rest = by (is_same s.config.group s.config.node m.group m.node)
  where
    by : (b : Bool) → AreNamed s n (cond b (node.Comes m now ∷ js) js)
    by true = rest
    by false = rest
heard-named s n now (said.Published ack (said.Death group name bd)) js told rest = by (is_same s.config.group s.config.node group name) refl
  where
    by : (b : Bool) → is_same s.config.group s.config.node group name ≡ b → AreNamed s n (cond b (node.Dies bd ∷ js) js)
    by false at = rest
    by true at =
        let both = and_parts (bytes_eq s.config.group group) (bytes_eq s.config.node name) at in
        let g : group ≡ s.config.group = sym ((bytes_eq-Decides s.config.group group).0 both.0) in
        let m : name ≡ s.config.node = sym ((bytes_eq-Decides s.config.node name).0 both.1) in
        (told ack bd (ap (λ x. said.Published ack (said.Death x name bd)) g ∙ ap (λ x. said.Published ack (said.Death s.config.group x bd)) m), rest)
heard-named s n now (said.Published ack said.Nothing) js told rest = rest
heard-named s n now (said.Answered code) js told rest = by (code == 0)
  where
    by : (b : Bool) → AreNamed s n (cond b js (node.Ends ∷ js))
    by true = rest
    by false = rest
heard-named s n now said.Granted js told rest = rest
heard-named s n now said.Other js told rest = rest

abbrev calls : Setup → List (Option HeardData) → List node.Input
calls s told = node_calls (asked told) s.config.group s.config.node

item-named : (s : Setup) (n : ℕ) (x : Item) (t : Option HeardData) (before : List (Option HeardData)) → IsToldBy x t →
    ((ack : Option ℕ) (bd : ℕ) → Says x.bytes (said.Published ack (said.Death s.config.group s.config.node bd)) → IsNamed s n bd) → AreNamed s n (calls s before) → AreNamed s n (calls s (t ∷ before))
item-named s n x None before by told rest = rest
item-named s n x (Some h) before by told rest = heard-named s n (length before + 1) h (calls s before) (λ ack bd is. told ack bd (subst (Says x.bytes) is by)) rest

told-named : (s : Setup) (n k edges : ℕ) (l : List Entry) (ts : List (Option HeardData)) → AreOwnDeaths s n k l → AreToldBy (got_of edges l) ts → AreNamed s n (calls s (reverse ts))
told-named s n k edges [] [] own by = tt
told-named s n k edges [] (t ∷ ts) own by = absurd by
told-named s n k edges (Took m i ∷ l) ts own by = told-named s n k edges l ts own by
told-named s n k edges (Accepted j o ∷ l) ts own by = at (eqb j edges) (λ us v. told-named s n k edges l us own.1 v) by
  where
    x : Item
    x = record { bytes = o.bytes; cuts = cuts_in edges (taken_of l) }

    at : (b : Bool) → ((us : List (Option HeardData)) → AreToldBy (got_of edges l) us → AreNamed s n (calls s (reverse us))) → AreToldBy (cond b (got_of edges l ++ x ∷ []) (got_of edges l)) ts → AreNamed s n (calls s (reverse ts))
    at false rest by = rest ts by
    at true rest by =
        let last = last-told (got_of edges l) x ts by in
        subst (λ us. AreNamed s n (calls s us)) (sym (ap (λ us. reverse us) last.parts ∙ newest last.before last.last))
        (item-named s n x last.last (reverse last.before) last.is (λ ack bd says. let d = own.0 ack bd says in (d.session, d.below, d.named)) (rest last.before last.told))
told-named s n k edges (Refused j o ∷ l) ts own by = told-named s n k edges l ts own by
told-named s n k edges (Passed o ∷ l) ts own by = told-named s n k edges l ts own by
told-named s n k edges (Told o ∷ l) ts own by = told-named s n k edges l ts own by

-- ---- what that is read as

same-session : (first other session : ℕ) → other < 256 → session < 256 → (first + other) % 256 ≡ (first + session) % 256 → other ≡ session
same-session first other session low under e = omega (arith, low, under, e)

under-most : (other n : ℕ) → other < n → n ≤ 256 → other < 256
under-most other n low few = omega (arith, low, few)

opened-of : (s : Setup) (all : List run.Message) (n : ℕ) (is : List Input) (js : List node.Input) → n ≤ 256 → AreEarlyDeaths is → AreRead s all is js → AreNamed s n js → AreOpened n is
opened-of s all n [] [] few early read named = tt
opened-of s all n [] (j ∷ js) few early read named = absurd read
opened-of s all n (i ∷ is) [] few early read named = absurd read
opened-of s all n (MessageComes p now ∷ is) (node.Comes m at ∷ js) few early read named = opened-of s all n is js few early.1 read.1 named
opened-of s all n (MessageComes p now ∷ is) (node.Dies bd ∷ js) few early read named = absurd read.0
opened-of s all n (MessageComes p now ∷ is) (node.Ticks at ∷ js) few early read named = absurd read.0
opened-of s all n (MessageComes p now ∷ is) (node.Ends ∷ js) few early read named = absurd read.0
opened-of s all n (DeathComes session now ∷ is) (node.Comes m at ∷ js) few early read named = absurd read.0
opened-of s all n (DeathComes session now ∷ is) (node.Dies bd ∷ js) few early read named =
    let d = named.0 in (
      subst (λ x. x < n) (same-session s.bd d.0 session (under-most d.0 n d.1 few) early.0 (d.2 ∙ same-death bd (session_number s session) (read.0 0 1))) d.1,
      opened-of s all n is js few early.1 read.1 named.1,
    )
opened-of s all n (DeathComes session now ∷ is) (node.Ticks at ∷ js) few early read named = absurd read.0
opened-of s all n (DeathComes session now ∷ is) (node.Ends ∷ js) few early read named = absurd read.0
opened-of s all n (TickComes now ∷ is) (node.Comes m at ∷ js) few early read named = absurd read.0
opened-of s all n (TickComes now ∷ is) (node.Dies bd ∷ js) few early read named = absurd read.0
opened-of s all n (TickComes now ∷ is) (node.Ticks at ∷ js) few early read named = opened-of s all n is js few early.1 read.1 named
opened-of s all n (TickComes now ∷ is) (node.Ends ∷ js) few early read named = absurd read.0

pub told-opened : (s : Setup) (all : List run.Message) (n k edges : ℕ) (l : List Entry) (ts : List (Option HeardData)) (is : List Input) → n ≤ 256 → AreEarlyDeaths is → AreRead s all is (calls s (reverse ts)) →
    AreOwnDeaths s n k l → AreToldBy (got_of edges l) ts → AreOpened n is
told-opened s all n k edges l ts is few early read own by = opened-of s all n is (calls s (reverse ts)) few early read (told-named s n k edges l ts own by)
