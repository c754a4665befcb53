-- No item of the host's ring says that it was turned away.
use Rattle.std.proofs.Common.{◌≡◌, sym, ap, refl, subst, ◌∙◌, ℕ, ◌≤◌, Bool, true, false, cond, eqb, List, [], ◌∷◌, ◌++◌, map, reverse, length, Option, Some, None, Result, Ok, Err, arith, eq-eqb}
use Rattle.std.specs.List.{AllByRecursion}
use Rattle.spk_packets.specs.Grammar.{Spells, bit}
use Rattle.spk_packets.specs.Message.{Message as Packet, Connect, ConnAck, Publish, PubAck, Subscribe, SubAck, Unsubscribe, UnsubAck, PingReq, PingResp, Disconnect}
use Rattle.spk_packets.specs.Spelling.{body, shortest, spelling}
use Rattle.spk_rings.specs.declared.item.Item.{Item}
use Rattle.spk_ingress.specs.declared.rule.Message.{Message}
use Rattle.spk_broker.specs.Sent.{outgoing}
use Rattle.spk_broker_rules.specs.Data.{Send}
use Rattle.spk_broker_rules.specs.Plan as event
use Rattle.spk_broker_rules.specs.Plan.{Event}
use Rattle.spk_broker_rules.specs.Step.{after, step}
use Rattle.spk_plant_broker.specs.Data.{Input, Says, Breaks, Cuts, Ends, Offer, Entry, Took, Accepted, Refused, Passed, Told, Room}
use Rattle.spk_plant_broker.specs.Log.{IsLog, got_of, room_of, taken_of}
use Rattle.spk_plant_broker.specs.Step.{behind, called, called_on, conn_at, known, may_open, next_conn, offer_of, opened, packet_on, told, took}
use Rattle.spk_reading.specs.Data as said
use Rattle.spk_reading.specs.Data.{ContentData, HeardData}
use Rattle.spk_reading.specs.Meaning.{◌>>=◌, content_at, heard}
use Rattle.spk_reading.specs.declared.fault.ReadFault.{ReadFault}
use Rattle.spk_plant_host.specs.Told.{AreToldBy, AreWelcome, IsToldBy, IsWelcome}
use Rattle.spk_plant_relay.proofs.Heard.{last-told, newest}
use Rattle.spk_plant_relay.proofs.Parse.{head-is, sevens-rest, shortest-sevens, tail-is}
use Rattle.spk_plant_relay.proofs.Tells.{first-of-spelled}
use Rattle.spk_plant_relay.proofs.Welcome.{AreKind, IsCleanEvent, IsCleanInput, IsKind, JoinsClean, kind-step}

-- ---- frames

abbrev pub AllClean : List Entry → Type 0
AllClean [] = Unit {0}
AllClean (Took m i ∷ l) = IsCleanInput i × AllClean l
AllClean (Accepted j o ∷ l) = AllClean l
AllClean (Refused j o ∷ l) = AllClean l
AllClean (Passed o ∷ l) = AllClean l
AllClean (Told o ∷ l) = AllClean l

-- ---- offers

pub record IsSent (o : Offer) : Type 0 where
  pub packet : Packet
  pub bytes : o.bytes ≡ spelling packet
  pub kind : IsKind packet

abbrev AreSent : List Offer → Type 0
AreSent os = AllByRecursion (λ o. IsSent o) os

sent-all : (dropped : ℕ → Bool) (openers : List ℕ) (ss : List Send) → AreKind ss → AreSent (map (offer_of openers dropped) (map outgoing ss))
sent-all dropped openers [] all = tt
sent-all dropped openers (s ∷ ss) all = (record { packet = s.packet; bytes = refl; kind = all.0 }, sent-all dropped openers ss all.1)

sent-behind : (os : List Offer) → AreSent os → AreSent (behind os)
sent-behind [] all = tt
sent-behind (o ∷ os) all = all.1

sent-called : (limit : ℕ) (r : Room) (e : Event) → IsCleanEvent e → AreSent (called limit r e).pending
sent-called limit r e good = sent-all _ r.openers (step (after limit r.events) e).sends (kind-step (after limit r.events) e good)

sent-on : (limit : ℕ) (r : Room) (event_on : ℕ → Event) (o : Option ℕ) → ((conn : ℕ) → IsCleanEvent (event_on conn)) → AreSent r.pending → AreSent (called_on limit r event_on o).pending
sent-on limit r event_on None good all = all
sent-on limit r event_on (Some conn) good all = sent-called limit r (event_on conn) (good conn)

sent-packet : (limit now : ℕ) (r : Room) (k : ℕ) (p : Packet) → JoinsClean p → AreSent r.pending → AreSent (packet_on limit now r k p (conn_at limit r k)).pending
sent-packet limit now r k p good all = by (conn_at limit r k)
  where
    first : (b : Bool) → AreSent (cond b (called limit (opened limit now r k) (event.Packet (next_conn limit r) p now)) r).pending
    first true = sent-called limit (opened limit now r k) (event.Packet (next_conn limit r) p now) good
    first false = all

    by : (o : Option ℕ) → AreSent (packet_on limit now r k p o).pending
    by (Some conn) = sent-called limit r (event.Packet conn p now) good
    by None = first (may_open limit r k)

sent-took : (limit edges : ℕ) (taken : List Message) (r : Room) (j : ℕ) (i : Input) → IsCleanInput i → AreSent r.pending → AreSent (took limit edges taken r j i).pending
sent-took limit edges taken r j (Says p) good all = sent-packet limit (length taken) r j p good all
sent-took limit edges taken r j (Breaks g) good all = absurd good
sent-took limit edges taken r j Cuts good all = sent-on limit r (λ conn. event.Closed conn (length taken)) (conn_at limit r j) (λ conn. tt) all
sent-took limit edges taken r j Ends good all = all

pub sent-of : (limit edges : ℕ) (l : List Entry) → AllClean l → AreSent (room_of limit edges l).pending
sent-of limit edges [] clean = tt
sent-of limit edges (Took m i ∷ l) clean = sent-took limit edges (taken_of (Took m i ∷ l)) (room_of limit edges l) m.sender i clean.0 (sent-of limit edges l clean.1)
sent-of limit edges (Accepted j o ∷ l) clean = sent-behind (room_of limit edges l).pending (sent-of limit edges l clean)
sent-of limit edges (Refused j o ∷ l) clean = sent-behind (room_of limit edges l).pending (sent-of limit edges l clean)
sent-of limit edges (Passed o ∷ l) clean = sent-behind (room_of limit edges l).pending (sent-of limit edges l clean)
sent-of limit edges (Told o ∷ l) clean =
    sent-on limit (record (room_of limit edges l) { untold = behind (room_of limit edges l).untold }) (λ conn. event.Refused conn o.sort (length (taken_of l)))
    (known (after limit (room_of limit edges l).events) (Some o.conn)) (λ conn. tt) (sent-of limit edges l clean)

-- ---- what is read

code-read : (present : Bool) (code : ℕ) (present' : Bool) (code' : ℕ) → Spells (spelling (ConnAck present code)) (ConnAck present' code') → code ≡ code'
unfolding spelling body
code-read present code present' code' s =
    let bodies : bit present ∷ code ∷ [] ≡ s.body = sevens-rest (shortest 2) s.size (bit present ∷ code ∷ []) s.body 2 (length s.body) (shortest-sevens 2 (omega arith)) s.is_size.1 (tail-is _ _ _ _ s.parts) in
    head-is _ _ _ _ (tail-is _ _ _ _ (bodies ∙ s.is_body.1))

bit-low : (b : Bool) → bit b ≤ 1
bit-low true = omega arith
bit-low false = omega arith

-- a CONNACK that is read of such a packet has code 0
zero-code : (p : Packet) (present : Bool) (code : ℕ) → IsKind p → Spells (spelling p) (ConnAck present code) → code ≡ 0
zero-code (ConnAck present' code') present code kind s = sym (code-read present' code' present code s) ∙ kind
zero-code (Publish dup qos retain topic id payload) present code kind s =
    absurd (let first = first-of-spelled (Publish dup qos retain topic id payload) (ConnAck present code) s in let d = bit-low dup in let r = bit-low retain in omega (arith, first, kind, d, r))
zero-code (Connect client clean alive will) present code kind s = absurd (let first = first-of-spelled (Connect client clean alive will) (ConnAck present code) s in omega (arith, first))
zero-code (PubAck id) present code kind s = absurd (let first = first-of-spelled (PubAck id) (ConnAck present code) s in omega (arith, first))
zero-code (Subscribe id filters) present code kind s = absurd (let first = first-of-spelled (Subscribe id filters) (ConnAck present code) s in omega (arith, first))
zero-code (SubAck id given) present code kind s = absurd (let first = first-of-spelled (SubAck id given) (ConnAck present code) s in omega (arith, first))
zero-code (Unsubscribe id filters) present code kind s = absurd (let first = first-of-spelled (Unsubscribe id filters) (ConnAck present code) s in omega (arith, first))
zero-code (UnsubAck id) present code kind s = absurd (let first = first-of-spelled (UnsubAck id) (ConnAck present code) s in omega (arith, first))
zero-code PingReq present code kind s = absurd (let first = first-of-spelled PingReq (ConnAck present code) s in omega (arith, first))
zero-code PingResp present code kind s = absurd (let first = first-of-spelled PingResp (ConnAck present code) s in omega (arith, first))
zero-code Disconnect present code kind s = absurd (let first = first-of-spelled Disconnect (ConnAck present code) s in omega (arith, first))

-- what is heard is welcome, if a CONNACK has code 0
abbrev WelcomeIn : Result HeardData ReadFault → Type 0
WelcomeIn (Ok h) = IsWelcome (Some h)
WelcomeIn (Err e) = Unit {0}

content-welcome : (ack : Option ℕ) (r : Result ContentData ReadFault) → WelcomeIn (r >>= λ content. Ok (said.Published ack content))
content-welcome ack (Ok c) = tt
content-welcome ack (Err e) = tt

heard-welcome : (q : Packet) → ((present : Bool) (code : ℕ) → q ≡ ConnAck present code → code ≡ 0) → WelcomeIn (heard q)
heard-welcome (ConnAck present code) zero_of = eq-eqb code 0 (zero_of present code refl)
heard-welcome (Publish dup qos retain topic id payload) zero_of = content-welcome _ (content_at topic payload)
heard-welcome (SubAck id given) zero_of = tt
heard-welcome (Connect client clean alive will) zero_of = tt
heard-welcome (PubAck id) zero_of = tt
heard-welcome (Subscribe id filters) zero_of = tt
heard-welcome (Unsubscribe id filters) zero_of = tt
heard-welcome (UnsubAck id) zero_of = tt
heard-welcome PingReq zero_of = tt
heard-welcome PingResp zero_of = tt
heard-welcome Disconnect zero_of = tt

item-welcome : (o : Offer) (item : Item) (t : Option HeardData) → item.bytes ≡ o.bytes → IsSent o → IsToldBy item t → IsWelcome t
item-welcome o item None same sent by = tt
item-welcome o item (Some h) same sent by =
    subst WelcomeIn by.is (heard-welcome by.packet (λ present code is.
    zero-code sent.packet present code sent.kind (subst (λ x. Spells x (ConnAck present code)) (same ∙ sent.bytes) (subst (λ q. Spells item.bytes q) is by.spelled))))

pub welcome-of : (limit edges : ℕ) (l : List Entry) (ts : List (Option HeardData)) → IsLog limit edges l → AllClean l → AreToldBy (got_of edges l) ts → AreWelcome (reverse ts)
welcome-of limit edges [] [] log clean by = tt
welcome-of limit edges [] (t ∷ ts) log clean by = absurd by
welcome-of limit edges (Took m i ∷ l) ts log clean by = welcome-of limit edges l ts log.0 clean.1 by
welcome-of limit edges (Accepted j o ∷ l) ts log clean by = at (eqb j edges) (λ us v. welcome-of limit edges l us log.0 clean v) by
  where
    x : Item
    x = record { bytes = o.bytes; cuts = Rattle.spk_plant_broker.specs.Step.cuts_in edges (taken_of l) }

    sent : IsSent o
    sent = (subst AreSent log.1.0.1 (sent-of limit edges l clean)).0

    at : (b : Bool) → ((us : List (Option HeardData)) → AreToldBy (got_of edges l) us → AreWelcome (reverse us)) → AreToldBy (cond b (got_of edges l ++ x ∷ []) (got_of edges l)) ts → AreWelcome (reverse ts)
    at false rest by = rest ts by
    at true rest by =
        let last = last-told (got_of edges l) x ts by in
        subst AreWelcome (sym (ap (λ us. reverse us) last.parts ∙ newest last.before last.last)) (item-welcome o x last.last refl sent last.is, rest last.before last.told)
welcome-of limit edges (Refused j o ∷ l) ts log clean by = welcome-of limit edges l ts log.0 clean by
welcome-of limit edges (Passed o ∷ l) ts log clean by = welcome-of limit edges l ts log.0 clean by
welcome-of limit edges (Told o ∷ l) ts log clean by = welcome-of limit edges l ts log.0 clean by
