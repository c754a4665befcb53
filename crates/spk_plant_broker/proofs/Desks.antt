-- What calls of the broker leave of its connections.
use Rattle.std.proofs.Common.{◌≡◌, ℕ, ◌||◌, ◌&&◌, not, if◌then◌else◌, Bool, true, false, [], map, Option, Some, None, refl, sym, ◌∙◌, ap, subst}
use Rattle.spk_broker.specs.Sent.{outgoing, sent_view}
use Rattle.spk_broker.specs.declared.out.Out.{Out}
use Rattle.spk_broker_rules.specs.Data.{Broker}
use Rattle.spk_broker_rules.specs.Plan.{Event}
use Rattle.spk_broker_rules.specs.Plan as event
use Rattle.spk_packets.specs.Message.{Message}
use Rattle.spk_broker_rules.specs.Step.{after, is_full, knows, step}
use Rattle.spk_plant_broker.specs.declared.desk.Desk.{Desk}
use Rattle.spk_plant_broker.specs.Calls.{Answers}
use Rattle.spk_plant_broker.specs.Data.{Room}
use Rattle.spk_plant_broker.specs.Holding.{FitClients, FitsDesk, Gives, IsOpened}
use Rattle.spk_plant_broker.specs.Step.{called, holds_client, is_dropped, known, may_open, next_conn, offer_of, opened, packet_on}

pub or_false : (b : Bool) → b ≡ (b || false)
or_false true = refl
or_false false = refl

-- nothing came to the broker
pub nothing_gives : (limit : ℕ) (r : Room) (d : Desk) (out : Out) → FitsDesk limit r.closed d r → r.pending ≡ [] → (out.sends.items ≡ []) × (out.closes.items ≡ []) → Gives limit r r d out
nothing_gives limit r d out f none empty = record {
  desk = f;
  awaits = record {
    pending = none ∙ ap (λ ss. map (offer_of r.openers (is_dropped r.over r.closed)) (map sent_view ss)) (sym empty.0);
    shut = λ k. or_false (r.closed k) ∙ ap (λ cs. r.closed k || holds_client r.openers k cs) (sym empty.1);
  };
  over = refl;
  untold = refl;
}

-- a call of the broker
pub answers_give : (limit : ℕ) (r : Room) (d e : Desk) (ev : Event) (out : Out) → FitsDesk limit r.closed d r → Answers d.broker e.broker ev out → e.openers.items ≡ d.openers.items → e.clients.items ≡ d.clients.items → Gives limit r (called limit r ev) e out
answers_give limit r d e ev out f a same_openers same_clients = record {
  desk = record {
    broker = a.done ∙ ap (λ b. (step b ev).broker) f.broker;
    openers = same_openers ∙ f.openers;
    clients = subst (FitClients r.last r.closed) (sym same_clients) f.clients;
  };
  awaits = record {
    pending = ap (map (offer_of r.openers (is_dropped r.over r.closed))) (sym (a.sends ∙ ap (λ b. map outgoing (step b ev).sends) f.broker));
    shut = λ k. ap (λ cs. r.closed k || holds_client r.openers k cs) (sym (a.closes ∙ ap (λ b. (step b ev).closes) f.broker));
  };
  over = refl;
  untold = refl;
}

-- what is asked of the connection that a client has
pub at_known : (limit : ℕ) (r : Room) (b : Broker) (next : Option ℕ → Room) (last conn o : Option ℕ) (e : Desk) (out : Out) → b ≡ after limit r.events → conn ≡ last → known b conn ≡ o
    → Gives limit r (next o) e out → Gives limit r (next (known (after limit r.events) last)) e out
at_known limit r b next last conn o e out is_broker is_last is_known g =
    subst (λ c. Gives limit r (next c) e out) (sym is_known ∙ ap (known b) is_last ∙ ap (λ c. known c last) is_broker) g

-- another desk of the same broker
pub same_fits : (limit : ℕ) (closed : ℕ → Bool) (r : Room) (d e : Desk) → FitsDesk limit closed d r → e.broker ≡ d.broker → e.openers.items ≡ d.openers.items → e.clients.items ≡ d.clients.items → FitsDesk limit closed e r
same_fits limit closed r d e f b o c = record {
  broker = b ∙ f.broker;
  openers = o ∙ f.openers;
  clients = subst (FitClients r.last closed) (sym c) f.clients;
}

-- a connection that is known is the one that was asked for
pub known_is : (b : Broker) (conn c : ℕ) → known b (Some conn) ≡ Some c → c ≡ conn
known_is b conn c h = go (knows b conn) h
  where
    go : (k : Bool) → (if k then Some conn else None) ≡ Some c → c ≡ conn
    go true e = cc
    go false e = absurd cc

-- the packet that opens a connection
pub first_gives : (limit now : ℕ) (r : Room) (k conn c : ℕ) (p : Message) (d e : Desk) (out : Out) → IsOpened limit now r k conn d → r.closed k ≡ false → known d.broker (Some conn) ≡ Some c
    → Answers d.broker e.broker (event.Packet c p now) out → e.openers.items ≡ d.openers.items → e.clients.items ≡ d.clients.items → Gives limit r (packet_on limit now r k p None) e out
first_gives limit now r k conn c p d e out is_open still is_known a o cs =
    let number : c ≡ next_conn limit r = known_is d.broker conn c is_known ∙ is_open.number in
    let g : Gives limit (opened limit now r k) (called limit (opened limit now r k) (event.Packet (next_conn limit r) p now)) e out =
    subst (λ n. Gives limit (opened limit now r k) (called limit (opened limit now r k) (event.Packet n p now)) e out) number
    (answers_give limit (opened limit now r k) d e (event.Packet c p now) out is_open.desk a o cs) in
    let may : may_open limit r k ≡ true = ap (λ b. not b && not (is_full (after limit r.events))) still ∙ ap (λ b. not b) is_open.may in
    subst (λ b. Gives limit r (if b then called limit (opened limit now r k) (event.Packet (next_conn limit r) p now) else r) e out) (sym may)
    (record { desk = g.desk; awaits = g.awaits; over = g.over; untold = g.untold })

-- whom the broker closed opens none
pub shut_gives : (limit now : ℕ) (r : Room) (k : ℕ) (p : Message) (d : Desk) (out : Out) → r.closed k ≡ true → Gives limit r r d out → Gives limit r (packet_on limit now r k p None) d out
shut_gives limit now r k p d out shut g =
    let may : may_open limit r k ≡ false = ap (λ b. not b && not (is_full (after limit r.events))) shut in
    subst (λ b. Gives limit r (if b then called limit (opened limit now r k) (event.Packet (next_conn limit r) p now) else r) d out) (sym may) g
