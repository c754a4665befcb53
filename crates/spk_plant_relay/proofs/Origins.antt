-- What a plant's broker relays was said in a frame that was taken.
use Rattle.std.proofs.Common.{◌≡◌, inl, inr, sym, refl, subst, ℕ, Bool, true, false, ◌||◌, cond, List, [], ◌∷◌, ◌++◌, map, length, Option, Some, None}
use Rattle.std.specs.List.{AllByRecursion}
use Rattle.spk_packets.specs.Message.{Message as Packet, Connect, ConnAck, Publish, PubAck, Subscribe, SubAck, Unsubscribe, UnsubAck, PingReq, PingResp, Disconnect}
use Rattle.spk_broker.specs.Sent.{outgoing}
use Rattle.spk_broker_rules.specs.Data.{Send}
use Rattle.spk_broker_rules.specs.Origins.{SaidIn, WasSaid, SaysAll, Says as Speaks}
use Rattle.spk_broker_rules.specs.Plan as event
use Rattle.spk_broker_rules.specs.Plan.{Event}
use Rattle.spk_broker_rules.specs.Step.{after, step}
use Rattle.spk_ingress.specs.declared.rule.Message.{Message}
use Rattle.spk_plant_broker.specs.Data.{Input, Says, Breaks, Cuts, Ends, Offer, Entry, Took, Accepted, Refused, Passed, Told, Room}
use Rattle.spk_plant_broker.specs.Log.{IsLog, room_of, taken_of}
use Rattle.spk_plant_broker.specs.Step.{behind, called, called_on, conn_at, have_ended, known, may_open, next_conn, offer_of, opened, packet_on, took}
use Rattle.spk_plant_relay.specs.Origins.{AllSaidBefore, IsSaidBefore, IsSaying, WasTaken}

-- what the broker's law on origins says
pub record OriginLaw : Type 0 where
  pub origins : (limit : ℕ) (es : List Event) (e : Event) → SaysAll (WasSaid (e ∷ es)) (step (after limit es) e).sends

-- what holds of what a packet says holds by more
pub more : (T U : List ℕ → List ℕ → Type 0) → ((t p : List ℕ) → T t p → U t p) → (q : Packet) → Speaks T q → Speaks U q
more T U by (Connect client clean alive None) h = tt
more T U by (Connect client clean alive (Some w)) h = by w.topic w.message h
more T U by (ConnAck present code) h = tt
more T U by (Publish dup qos retain topic id payload) h = by topic payload h
more T U by (PubAck id) h = tt
more T U by (Subscribe id entries) h = tt
more T U by (SubAck id codes) h = tt
more T U by (Unsubscribe id filters) h = tt
more T U by (UnsubAck id) h = tt
more T U by PingReq h = tt
more T U by PingResp h = tt
more T U by Disconnect h = tt

abbrev AreFrom : List Entry → List Offer → Type 0
AreFrom l os = AllByRecursion (λ (o : Offer). IsSaidBefore l o.bytes) os

sends-from : (l : List Entry) (dropped : ℕ → Bool) (openers : List ℕ) (ss : List Send) → SaysAll (WasTaken l) ss → AreFrom l (map (offer_of openers dropped) (map outgoing ss))
sends-from l dropped openers [] all = tt
sends-from l dropped openers (s ∷ ss) all = (record { packet = s.packet; spelled = refl; said = all.0 }, sends-from l dropped openers ss all.1)

more-sends : (T U : List ℕ → List ℕ → Type 0) → ((t p : List ℕ) → T t p → U t p) → (ss : List Send) → SaysAll T ss → SaysAll U ss
more-sends T U by [] all = tt
more-sends T U by (s ∷ ss) all = (more T U by s.packet all.0, more-sends T U by ss all.1)

behind-from : (l : List Entry) (os : List Offer) → AreFrom l os → AreFrom l (behind os)
behind-from l [] all = tt
behind-from l (o ∷ os) all = all.1

more-from : (l further : List Entry) → ((t p : List ℕ) → WasTaken l t p → WasTaken further t p) → (os : List Offer) → AreFrom l os → AreFrom further os
more-from l further by [] all = tt
more-from l further by (o ∷ os) all = (record { packet = all.0.packet; spelled = all.0.spelled; said = more (WasTaken l) (WasTaken further) by all.0.packet all.0.said }, more-from l further by os all.1)

-- ---- the room

-- all that came to the broker was taken, and so was what is offered
record RoomFrom (l : List Entry) (r : Room) : Type 0 where
  events : (topic payload : List ℕ) → WasSaid r.events topic payload → WasTaken l topic payload
  pending : AreFrom l r.pending

abbrev EventsFrom : List Entry → List Event → Type 0
EventsFrom l es = (topic payload : List ℕ) → WasSaid es topic payload → WasTaken l topic payload

one-more : (l : List Entry) (es : List Event) (e : Event) → ((t p : List ℕ) → SaidIn e t p → WasTaken l t p) → EventsFrom l es → EventsFrom l (e ∷ es)
one-more l es e new old t p (inl h) = new t p h
one-more l es e new old t p (inr h) = old t p h

from-called : OriginLaw → (limit : ℕ) (l : List Entry) (r : Room) (e : Event) → ((t p : List ℕ) → SaidIn e t p → WasTaken l t p) → EventsFrom l r.events → RoomFrom l (called limit r e)
from-called law limit l r e new old = record {
  events = one-more l r.events e new old;
  pending = sends-from l _ r.openers (step (after limit r.events) e).sends
      (more-sends (WasSaid (e ∷ r.events)) (WasTaken l) (one-more l r.events e new old) (step (after limit r.events) e).sends (law.origins limit r.events e));
}

from-idle : (l : List Entry) (r : Room) → r.pending ≡ [] → EventsFrom l r.events → RoomFrom l r
from-idle l r none old = record { events = old; pending = subst (AreFrom l) (sym none) tt }

from-on : OriginLaw → (limit : ℕ) (l : List Entry) (r : Room) (event_on : ℕ → Event) (o : Option ℕ) → ((conn : ℕ) (t p : List ℕ) → SaidIn (event_on conn) t p → WasTaken l t p) → r.pending ≡ [] →
    EventsFrom l r.events → RoomFrom l (called_on limit r event_on o)
from-on law limit l r event_on None new none old = from-idle l r none old
from-on law limit l r event_on (Some conn) new none old = from-called law limit l r (event_on conn) (new conn) old

from-packet : OriginLaw → (limit : ℕ) (l : List Entry) (now : ℕ) (r : Room) (k : ℕ) (q : Packet) → ((t p : List ℕ) → IsSaying (Says q) t p → WasTaken l t p) → r.pending ≡ [] → EventsFrom l r.events →
    RoomFrom l (packet_on limit now r k q (conn_at limit r k))
from-packet law limit l now r k q new none old = by (conn_at limit r k)
  where
    first : (b : Bool) → RoomFrom l (cond b (called limit (opened limit now r k) (event.Packet (next_conn limit r) q now)) r)
    first true = from-called law limit l (opened limit now r k) (event.Packet (next_conn limit r) q now) new (one-more l r.events (event.Open now) (λ t p h. absurd h) old)
    first false = from-idle l r none old

    by : (o : Option ℕ) → RoomFrom l (packet_on limit now r k q o)
    by (Some conn) = from-called law limit l r (event.Packet conn q now) new old
    by None = first (may_open limit r k)

from-took : OriginLaw → (limit edges : ℕ) (l : List Entry) (r : Room) (taken : List Message) (j : ℕ) (i : Input) → ((t p : List ℕ) → IsSaying i t p → WasTaken l t p) → r.pending ≡ [] → EventsFrom l r.events →
    RoomFrom l (took limit edges taken r j i)
from-took law limit edges l r taken j (Says q) new none old = from-packet law limit l (length taken) r j q new none old
from-took law limit edges l r taken j (Breaks g) new none old = from-on law limit l r (λ conn. event.Fault conn g (length taken)) (conn_at limit r j) (λ conn t p h. absurd h) none old
from-took law limit edges l r taken j Cuts new none old = from-on law limit l r (λ conn. event.Closed conn (length taken)) (conn_at limit r j) (λ conn t p h. absurd h) none old
from-took law limit edges l r taken j Ends new none old = from-idle l (record r { over = r.over || have_ended edges taken }) none old

-- the offer in front is over
offered : (l further : List Entry) → ((t p : List ℕ) → WasTaken l t p → WasTaken further t p) → (r : Room) (untold : List Offer) → RoomFrom l r → RoomFrom further (record r { pending = behind r.pending; untold = untold })
offered l further by r untold x = record {
  events = λ t p h. by t p (x.events t p h);
  pending = more-from l further by (behind r.pending) (behind-from l r.pending x.pending);
}

-- ---- a log

room-from : OriginLaw → (limit edges : ℕ) (l : List Entry) → IsLog limit edges l → RoomFrom l (room_of limit edges l)
room-from law limit edges [] log = record { events = λ t p h. absurd h; pending = tt }
room-from law limit edges (Took m i ∷ l) log =
    from-took law limit edges (Took m i ∷ l) (room_of limit edges l) (taken_of (Took m i ∷ l)) m.sender i (λ t p h. inl h) log.1.1 (λ t p h. inr ((room-from law limit edges l log.0).events t p h))
room-from law limit edges (Accepted j o ∷ l) log = offered l (Accepted j o ∷ l) (λ t p h. h) (room_of limit edges l) (room_of limit edges l).untold (room-from law limit edges l log.0)
room-from law limit edges (Refused j o ∷ l) log = offered l (Refused j o ∷ l) (λ t p h. h) (room_of limit edges l) ((room_of limit edges l).untold ++ o ∷ []) (room-from law limit edges l log.0)
room-from law limit edges (Passed o ∷ l) log = offered l (Passed o ∷ l) (λ t p h. h) (room_of limit edges l) (room_of limit edges l).untold (room-from law limit edges l log.0)
room-from law limit edges (Told o ∷ l) log =
    from-on law limit (Told o ∷ l) (record (room_of limit edges l) { untold = behind (room_of limit edges l).untold }) (λ conn. event.Refused conn o.sort (length (taken_of l)))
    (known (after limit (room_of limit edges l).events) (Some o.conn)) (λ conn t p h. absurd h) log.1.0 (λ t p h. (room-from law limit edges l log.0).events t p h)

pub relayed-from : OriginLaw → (limit edges : ℕ) (l : List Entry) → IsLog limit edges l → AllSaidBefore l
relayed-from law limit edges [] log = tt
relayed-from law limit edges (Took m i ∷ l) log = relayed-from law limit edges l log.0
relayed-from law limit edges (Accepted j o ∷ l) log = (
  (subst (AreFrom l) log.1.0.1 (room-from law limit edges l log.0).pending).0,
  relayed-from law limit edges l log.0,
)
relayed-from law limit edges (Refused j o ∷ l) log = relayed-from law limit edges l log.0
relayed-from law limit edges (Passed o ∷ l) log = relayed-from law limit edges l log.0
relayed-from law limit edges (Told o ∷ l) log = relayed-from law limit edges l log.0
