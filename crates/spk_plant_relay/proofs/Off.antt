-- What is offered beside the node's numbered messages keeps off their topics.
use Rattle.std.proofs.Common.{◌≡◌, sym, refl, subst, ℕ, Bool, true, false, ◌&&◌, ◌||◌, cond, eqb, List, [], ◌∷◌, ◌++◌, map, length, Option, Some, None, true≢false, eqb-true}
use Rattle.std.specs.List.{AllByRecursion}
use Rattle.std.proofs.lemmas.Bool.{and_parts}
use Rattle.spk_packets.specs.Message.{Message as Packet}
use Rattle.spk_packets.specs.Spelling.{spelling}
use Rattle.spk_broker.specs.Sent.{outgoing}
use Rattle.spk_broker_rules.specs.Data.{Broker, Send, fresh_broker}
use Rattle.spk_broker_rules.specs.Listening.{plain_publish}
use Rattle.spk_broker_rules.specs.Plan as event
use Rattle.spk_broker_rules.specs.Plan.{Event}
use Rattle.spk_broker_rules.specs.Step.{after, step}
use Rattle.spk_broker_rules.specs.Topics.{Brings, HasTopics, IsOff, SendsOn, TopicIn}
use Rattle.spk_ingress.specs.declared.rule.Message.{Message}
use Rattle.spk_plant_broker.specs.Data.{Input, Says, Breaks, Cuts, Ends, Offer, Entry, Took, Accepted, Refused, Passed, Told, Room}
use Rattle.spk_plant_broker.specs.Log.{IsLog, room_of, taken_of}
use Rattle.spk_plant_broker.specs.Step.{behind, called, called_on, conn_at, have_ended, known, may_open, next_conn, offer_of, opened, packet_on, told, took}
use Rattle.spk_plant_relay.specs.Given.{AreOthers}
use Rattle.spk_plant_relay.specs.Shown.{AllMaySay, MaySay, is_numbered, is_on, is_publish_on, is_relaying}
use Rattle.spk_plant_relay.proofs.Parse.{no-message}
use Rattle.spk_plant_relay.proofs.Topics.{barred}

-- what the broker's law on topics says
pub record TopicLaw : Type 0 where
  pub first : (limit : ℕ) (on : List ℕ → Bool) → HasTopics (IsOff on) (fresh_broker limit)
  pub kept : (b : Broker) (e : Event) (on : List ℕ → Bool) → HasTopics (IsOff on) b → Brings (TopicIn (IsOff on)) e → HasTopics (IsOff on) (step b e).broker
  pub others : (b : Broker) (e : Event) (on : List ℕ → Bool) → HasTopics (IsOff on) b → Brings (TopicIn (IsOff on)) e → SendsOn (IsOff on) (step b e).sends
  pub plain : (b : Broker) (conn moment : ℕ) (topic payload : List ℕ) (on : List ℕ → Bool) → HasTopics (IsOff on) b →
      HasTopics (IsOff on) (step b (event.Packet conn (plain_publish topic payload) moment)).broker

-- ---- what clients say

abbrev pub OffIn : (List ℕ → Bool) → Input → Type 0
OffIn bar (Says p) = TopicIn (IsOff bar) p
OffIn bar (Breaks f) = Unit {0}
OffIn bar Cuts = Unit {0}
OffIn bar Ends = Unit {0}

-- every frame that is no numbered message of the node keeps off
abbrev pub AllOff : (on bar : List ℕ → Bool) → ℕ → List Entry → Type 0
AllOff on bar k [] = Unit {0}
AllOff on bar k (Took m i ∷ l) = (is_numbered on k m i ≡ false → OffIn bar i) × AllOff on bar k l
AllOff on bar k (Accepted j o ∷ l) = AllOff on bar k l
AllOff on bar k (Refused j o ∷ l) = AllOff on bar k l
AllOff on bar k (Passed o ∷ l) = AllOff on bar k l
AllOff on bar k (Told o ∷ l) = AllOff on bar k l

-- ---- offers

pub record IsOffer (bar : List ℕ → Bool) (o : Offer) : Type 0 where
  pub packet : Packet
  pub bytes : o.bytes ≡ spelling packet
  pub off : TopicIn (IsOff bar) packet

abbrev AreOff : (List ℕ → Bool) → List Offer → Type 0
AreOff bar os = AllByRecursion (λ o. IsOffer bar o) os

sends-off : (bar : List ℕ → Bool) (dropped : ℕ → Bool) (openers : List ℕ) (ss : List Send) → SendsOn (IsOff bar) ss → AreOff bar (map (offer_of openers dropped) (map outgoing ss))
sends-off bar dropped openers [] all = tt
sends-off bar dropped openers (s ∷ ss) all = (record { packet = s.packet; bytes = refl; off = all.0 }, sends-off bar dropped openers ss all.1)

behind-off : (bar : List ℕ → Bool) (os : List Offer) → AreOff bar os → AreOff bar (behind os)
behind-off bar [] all = tt
behind-off bar (o ∷ os) all = all.1

-- ---- the room

pub record RoomOff (limit : ℕ) (bar : List ℕ → Bool) (r : Room) (busy : Bool) : Type 0 where
  pub topics : HasTopics (IsOff bar) (after limit r.events)
  pub pending : busy ≡ false → AreOff bar r.pending

off-called : TopicLaw → (limit : ℕ) (bar : List ℕ → Bool) (r : Room) (e : Event) → Brings (TopicIn (IsOff bar)) e → HasTopics (IsOff bar) (after limit r.events) → (busy : Bool) → RoomOff limit bar (called limit r e) busy
off-called t limit bar r e brings has busy = record {
  topics = t.kept (after limit r.events) e bar has brings;
  pending = λ idle. sends-off bar _ r.openers (step (after limit r.events) e).sends (t.others (after limit r.events) e bar has brings);
}

off-idle : (limit : ℕ) (bar : List ℕ → Bool) (r : Room) (busy : Bool) → r.pending ≡ [] → HasTopics (IsOff bar) (after limit r.events) → RoomOff limit bar r busy
off-idle limit bar r busy none has = record { topics = has; pending = λ idle. subst (AreOff bar) (sym none) tt }

off-on : TopicLaw → (limit : ℕ) (bar : List ℕ → Bool) (r : Room) (event_on : ℕ → Event) (o : Option ℕ) → ((conn : ℕ) → Brings (TopicIn (IsOff bar)) (event_on conn)) → r.pending ≡ [] →
    HasTopics (IsOff bar) (after limit r.events) → (busy : Bool) → RoomOff limit bar (called_on limit r event_on o) busy
off-on t limit bar r event_on None brings none has busy = off-idle limit bar r busy none has
off-on t limit bar r event_on (Some conn) brings none has busy = off-called t limit bar r (event_on conn) (brings conn) has busy

off-opened : TopicLaw → (limit : ℕ) (bar : List ℕ → Bool) (now : ℕ) (r : Room) (k : ℕ) → HasTopics (IsOff bar) (after limit r.events) → HasTopics (IsOff bar) (after limit (opened limit now r k).events)
off-opened t limit bar now r k has = t.kept (after limit r.events) (event.Open now) bar has tt

-- a packet that keeps off
off-packet : TopicLaw → (limit : ℕ) (bar : List ℕ → Bool) (now : ℕ) (r : Room) (k : ℕ) (p : Packet) → TopicIn (IsOff bar) p → r.pending ≡ [] → HasTopics (IsOff bar) (after limit r.events) → (busy : Bool) →
    RoomOff limit bar (packet_on limit now r k p (conn_at limit r k)) busy
off-packet t limit bar now r k p off none has busy = by (conn_at limit r k)
  where
    first : (b : Bool) → RoomOff limit bar (cond b (called limit (opened limit now r k) (event.Packet (next_conn limit r) p now)) r) busy
    first true = off-called t limit bar (opened limit now r k) (event.Packet (next_conn limit r) p now) off (off-opened t limit bar now r k has) busy
    first false = off-idle limit bar r busy none has

    by : (o : Option ℕ) → RoomOff limit bar (packet_on limit now r k p o) busy
    by (Some conn) = off-called t limit bar r (event.Packet conn p now) off has busy
    by None = first (may_open limit r k)

-- a numbered message
plain-packet : TopicLaw → (limit : ℕ) (bar : List ℕ → Bool) (now : ℕ) (r : Room) (k : ℕ) (topic payload : List ℕ) → HasTopics (IsOff bar) (after limit r.events) →
    RoomOff limit bar (packet_on limit now r k (plain_publish topic payload) (conn_at limit r k)) true
plain-packet t limit bar now r k topic payload has = by (conn_at limit r k)
  where
    first : (b : Bool) → RoomOff limit bar (cond b (called limit (opened limit now r k) (event.Packet (next_conn limit r) (plain_publish topic payload) now)) r) true
    first true = record { topics = t.plain (after limit (opened limit now r k).events) (next_conn limit r) now topic payload bar (off-opened t limit bar now r k has); pending = λ idle. absurd (true≢false idle) }
    first false = record { topics = has; pending = λ idle. absurd (true≢false idle) }

    by : (o : Option ℕ) → RoomOff limit bar (packet_on limit now r k (plain_publish topic payload) o) true
    by (Some conn) = record { topics = t.plain (after limit r.events) conn now topic payload bar has; pending = λ idle. absurd (true≢false idle) }
    by None = first (may_open limit r k)

off-took : TopicLaw → (limit edges : ℕ) (bar on : List ℕ → Bool) (h k : ℕ) (r : Room) (taken : List Message) (j : ℕ) (i : Input) (x : Bool) → (eqb j k && is_on on i) ≡ x → MaySay on k h j i →
    ((eqb j k && is_on on i) ≡ false → OffIn bar i) → r.pending ≡ [] → HasTopics (IsOff bar) (after limit r.events) → RoomOff limit bar (took limit edges taken r j i) x
off-took t limit edges bar on h k r taken j (Says p) false at says off none has = off-packet t limit bar (length taken) r j p (off at) none has false
off-took t limit edges bar on h k r taken j (Says p) true at says off none has =
    let parts = and_parts (eqb j k) (is_publish_on on p) at in
    let plain = says.0 (eqb-true j k parts.0) parts.1 in
    subst (λ q. RoomOff limit bar (packet_on limit (length taken) r j q (conn_at limit r j)) true) (sym plain.2) (plain-packet t limit bar (length taken) r j plain.0 plain.1 has)
off-took t limit edges bar on h k r taken j (Breaks g) x at says off none has = off-on t limit bar r (λ conn. event.Fault conn g (length taken)) (conn_at limit r j) (λ conn. tt) none has x
off-took t limit edges bar on h k r taken j Cuts x at says off none has = off-on t limit bar r (λ conn. event.Closed conn (length taken)) (conn_at limit r j) (λ conn. tt) none has x
off-took t limit edges bar on h k r taken j Ends x at says off none has = off-idle limit bar (record r { over = r.over || have_ended edges taken }) x none has

off-told : TopicLaw → (limit now : ℕ) (bar : List ℕ → Bool) (r : Room) (o : Offer) → r.pending ≡ [] → HasTopics (IsOff bar) (after limit r.events) → RoomOff limit bar (told limit now r o) false
off-told t limit now bar r o none has = off-on t limit bar r (λ conn. event.Refused conn o.sort now) (known (after limit r.events) (Some o.conn)) (λ conn. tt) none has false

off-behind : (limit : ℕ) (bar : List ℕ → Bool) (r : Room) (untold : List Offer) (busy : Bool) → RoomOff limit bar r busy → RoomOff limit bar (record r { pending = behind r.pending; untold = untold }) busy
off-behind limit bar r untold busy x = record { topics = x.topics; pending = λ idle. behind-off bar r.pending (x.pending idle) }

-- ---- a log

pub room-off : TopicLaw → (limit edges k : ℕ) (bar on : List ℕ → Bool) (l : List Entry) → IsLog limit edges l → AllMaySay on k edges l → AllOff on bar k l → RoomOff limit bar (room_of limit edges l) (is_relaying on k l)
room-off t limit edges k bar on [] log says off = record { topics = t.first limit bar; pending = λ idle. tt }
room-off t limit edges k bar on (Took m i ∷ l) log says off =
    off-took t limit edges bar on edges k (room_of limit edges l) (taken_of (Took m i ∷ l)) m.sender i (is_numbered on k m i) refl says.0 off.0 log.1.1 (room-off t limit edges k bar on l log.0 says.1 off.1).topics
room-off t limit edges k bar on (Accepted j o ∷ l) log says off = off-behind limit bar (room_of limit edges l) (room_of limit edges l).untold (is_relaying on k l) (room-off t limit edges k bar on l log.0 says off)
room-off t limit edges k bar on (Refused j o ∷ l) log says off = off-behind limit bar (room_of limit edges l) ((room_of limit edges l).untold ++ o ∷ []) (is_relaying on k l) (room-off t limit edges k bar on l log.0 says off)
room-off t limit edges k bar on (Passed o ∷ l) log says off = off-behind limit bar (room_of limit edges l) (room_of limit edges l).untold (is_relaying on k l) (room-off t limit edges k bar on l log.0 says off)
room-off t limit edges k bar on (Told o ∷ l) log says off =
    off-told t limit (length (taken_of l)) bar (record (room_of limit edges l) { untold = behind (room_of limit edges l).untold }) o log.1.0 (room-off t limit edges k bar on l log.0 says off).topics

pub others-of : TopicLaw → (limit edges k : ℕ) (group name : List ℕ) (on : List ℕ → Bool) (l : List Entry) → IsLog limit edges l → AllMaySay on k edges l → AllOff on (barred group name) k l → AreOthers on k edges group name l
others-of t limit edges k group name on [] log says off = tt
others-of t limit edges k group name on (Took m i ∷ l) log says off = others-of t limit edges k group name on l log.0 says.1 off.1
others-of t limit edges k group name on (Accepted j o ∷ l) log says off = (
  (λ host idle.
      let all = subst (AreOff (barred group name)) log.1.0.1 ((room-off t limit edges k (barred group name) on l log.0 says off).pending idle) in
      no-message group name o.bytes all.0.packet all.0.bytes all.0.off),
  others-of t limit edges k group name on l log.0 says off,
)
others-of t limit edges k group name on (Refused j o ∷ l) log says off = others-of t limit edges k group name on l log.0 says off
others-of t limit edges k group name on (Passed o ∷ l) log says off = others-of t limit edges k group name on l log.0 says off
others-of t limit edges k group name on (Told o ∷ l) log says off = others-of t limit edges k group name on l log.0 says off
