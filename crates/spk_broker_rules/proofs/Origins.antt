-- Messages: what stands in the data or is sent came with an event.
use Rattle.std.proofs.Common.{inl, inr, ℕ, List, [], ◌∷◌, refl, Option, Some, None}
use Rattle.spk_packets.specs.Message.{Message, Connect, ConnAck, Publish, PubAck, Subscribe, SubAck, Unsubscribe, UnsubAck, PingReq, PingResp, Disconnect}
use Rattle.spk_broker_rules.specs.Data.{AppMessage, InFlight, Connection, Stored, Broker}
use Rattle.spk_broker_rules.specs.Origins.{SaidBy, WasSaid, AppMessageSays, WillSays, Says, SaysAll}
use Rattle.spk_broker_rules.specs.Plan.{Event, Open, Packet, Fault, Closed, Tick, Refused}
use Rattle.spk_broker_rules.specs.Topics.{Brings}
use Rattle.spk_broker_rules.proofs.Carried.{S, Of, Has, AllInFlight, Free, of-step, free-filters}
use Rattle.spk_broker_rules.specs.Step.{step, after}
use Rattle.spk_broker_rules.proofs.Lists.{all-also}

-- ---- of a list of events

-- what is such is such by more
more-will : (T U : List ℕ → List ℕ → Type 0) → ((t p : List ℕ) → T t p → U t p) → (o : Option Connection) → WillSays T o → WillSays U o
more-will T U more None h = tt
more-will T U more (Some l) h = by l.will h
  where
    by : (o : Option AppMessage) → AppMessageSays T o → AppMessageSays U o
    by None h = tt
    by (Some m) h = more m.topic m.payload h

more-in_flight-said : (T U : List ℕ → List ℕ → Type 0) → ((t p : List ℕ) → T t p → U t p) → (cs : List InFlight) → AllInFlight Free T cs → AllInFlight Free U cs
more-in_flight-said T U more cs = all-also (λ (c : InFlight). T c.app_message.topic c.app_message.payload) (λ (c : InFlight). U c.app_message.topic c.app_message.payload) (λ c. more c.app_message.topic c.app_message.payload) cs

more-said : (T U : List ℕ → List ℕ → Type 0) → ((t p : List ℕ) → T t p → U t p) → (b : Broker) → Has Free T b → Has Free U b
more-said T U more b h = record {
  sessions = all-also (S Free T) (S Free U) (λ s a. (a.0, more-will T U more s.here a.1, more-in_flight-said T U more s.in_flight a.2)) b.sessions h.sessions;
  retained = all-also (λ (e : List ℕ × Stored). T e.0 e.1.payload) (λ (e : List ℕ × Stored). U e.0 e.1.payload) (λ e. more e.0 e.1.payload) b.retained h.retained;
}

-- what a packet says it says
says-itself : (p : Message) → Says (SaidBy p) p
says-itself (Connect name clean alive None) = tt
says-itself (Connect name clean alive (Some w)) = (refl, refl)
says-itself (ConnAck present code) = tt
says-itself (Publish dup qos retain topic id payload) = (refl, refl)
says-itself (PubAck id) = tt
says-itself (Subscribe id entries) = tt
says-itself (SubAck id codes) = tt
says-itself (Unsubscribe id filters) = tt
says-itself (UnsubAck id) = tt
says-itself PingReq = tt
says-itself PingResp = tt
says-itself Disconnect = tt

says-more : (T U : List ℕ → List ℕ → Type 0) → ((t p : List ℕ) → T t p → U t p) → (p : Message) → Says T p → Says U p
says-more T U more (Connect name clean alive None) h = tt
says-more T U more (Connect name clean alive (Some w)) h = more w.topic w.message h
says-more T U more (ConnAck present code) h = tt
says-more T U more (Publish dup qos retain topic id payload) h = more topic payload h
says-more T U more (PubAck id) h = tt
says-more T U more (Subscribe id entries) h = tt
says-more T U more (SubAck id codes) h = tt
says-more T U more (Unsubscribe id filters) h = tt
says-more T U more (UnsubAck id) h = tt
says-more T U more PingReq h = tt
says-more T U more PingResp h = tt
says-more T U more Disconnect h = tt

brings-itself : (e : Event) (es : List Event) → Brings (Says (WasSaid (e ∷ es))) e
brings-itself (Open moment) es = tt
brings-itself (Packet conn p moment) es = says-more (SaidBy p) (WasSaid (Packet conn p moment ∷ es)) (λ t q h. inl h) p (says-itself p)
brings-itself (Fault conn f moment) es = tt
brings-itself (Closed conn moment) es = tt
brings-itself (Tick moment) es = tt
brings-itself (Refused conn s moment) es = tt

was-said : (limit : ℕ) (es : List Event) → Has Free (WasSaid es) (after limit es)
was-said limit [] = record { sessions = tt; retained = tt }
was-said limit (e ∷ es) = has (of-step Free (WasSaid (e ∷ es)) (after limit es) e (more-said (WasSaid es) (WasSaid (e ∷ es)) (λ t p h. inr h) (after limit es) (was-said limit es)) (free-filters e) (brings-itself e es))
  where
    has : Of Free (WasSaid (e ∷ es)) (step (after limit es) e) → Has Free (WasSaid (e ∷ es)) (step (after limit es) e).broker
    has x = record { sessions = x.sessions; retained = x.retained }

pub origins : (limit : ℕ) (es : List Event) (e : Event) → SaysAll (WasSaid (e ∷ es)) (step (after limit es) e).sends
origins limit es e =
    (of-step Free (WasSaid (e ∷ es)) (after limit es) e (more-said (WasSaid es) (WasSaid (e ∷ es)) (λ t p h. inr h) (after limit es) (was-said limit es)) (free-filters e) (brings-itself e es)).sends
