-- Where the host's ring refused nothing, all that is due was shown.
use Rattle.std.proofs.Common.{◌≡◌, sym, ap, refl, subst, ◌∙◌, ℕ, ◌+◌, ◌-◌, ◌<◌, ◌≤◌, Bool, true, false, not, ◌&&◌, cond, eqb, List, [], ◌∷◌, ◌++◌, map, length, Option, Some, None, is_some, arith, true≢false, eqb-true}
use Rattle.std.proofs.lemmas.Bool.{and_from, and_left, and_parts, and_right, not_from_false}
use Rattle.std.proofs.lemmas.List.Sums.{sum_by_push}
use Rattle.spk_packets.specs.Message.{Message as Packet}
use Rattle.spk_broker.specs.Sent.{outgoing}
use Rattle.spk_broker_rules.specs.Listening.{IsPlain, listens, plain_publish}
use Rattle.spk_broker_rules.specs.Plan as event
use Rattle.spk_broker_rules.specs.Plan.{Event}
use Rattle.spk_broker_rules.specs.Step.{after, is_full}
use Rattle.spk_plant_broker.specs.declared.part.Refusal.{Refusal}
use Rattle.spk_plant_broker.specs.Data.{Input, Says, Breaks, Cuts, Ends, Offer, Entry, Took, Accepted, Refused, Passed, Told, Room}
use Rattle.spk_plant_broker.specs.Done.{refused_to}
use Rattle.spk_plant_broker.specs.Log.{IsFirst, IsLog, refusals_of, room_of, taken_of}
use Rattle.spk_plant_broker.specs.Step.{called, client_of, conn_at, is_client, is_dropped, known, may_open, next_conn, offer_of, opened, packet_on, took}
use Rattle.spk_plant_relay.specs.Due.{due, hears_on, is_heard}
use Rattle.spk_plant_relay.specs.Shown.{AllMaySay, HasPlaces, IsPlainOn, MaySay, count_numbered, is_numbered, is_on, is_publish_on, is_relaying, shown}
use Rattle.spk_plant_relay.proofs.Base.{AllJoined, Base}
use Rattle.spk_plant_relay.proofs.Facts.{Facts}
use Rattle.spk_plant_relay.proofs.Few.{state-of}
use Rattle.spk_plant_relay.proofs.Moves.{first-shut, known-is, known-some, listens-sat, open-joins-none, sat-known}
use Rattle.spk_plant_relay.proofs.Offers.{aimed, at-least, goes, no-yes, offers_of, who-listens}
use Rattle.spk_plant_relay.proofs.State.{State, waiting}

-- what is due was shown, or is being offered
pub record Owes (ds ps : List ℕ) (n w : ℕ) : Type 0 where
  pub none : w ≡ 0 → ds ≡ ps
  pub some : 0 < w → ds ≡ (n - 1) ∷ ps

owes-none : (ds ps : List ℕ) (n : ℕ) → ds ≡ ps → Owes ds ps n 0
owes-none ds ps n same = record { none = λ e. same; some = λ low. absurd (omega (arith, low)) }

-- ---- a numbered message

module _ (f : Facts) (limit : ℕ) (on : List ℕ → Bool) (h k : ℕ) (r : Room) (b : Base limit on r) (all : AllJoined (after limit r.events)) (conn now : ℕ) (topic payload : List ℕ)
    (plain : IsPlain topic payload) (there : conn_at limit r k ≡ Some conn) where
  abbrev dropped : ℕ → Bool
  dropped = is_dropped r.over r.closed

  abbrev made : List Offer
  made = (called limit r (event.Packet conn (plain_publish topic payload) now)).pending

  offered : made ≡ offers_of dropped r.openers topic payload (after limit r.events).sessions
  offered = ap (λ ss. map (offer_of r.openers (is_dropped r.over r.closed)) (map outgoing ss))
      (f.sends (after limit r.events) conn now topic payload plain (all conn (known-some (after limit r.events) (r.last k) conn there).1))

  heard-offered : is_heard limit k h r (Says (plain_publish topic payload)) ≡ true → 0 < aimed h made
  heard-offered e = subst (λ os. 0 < aimed h os) (sym offered) (by (conn_at limit r h) refl parts.1)
    where
      parts : (is_some (conn_at limit r k) ≡ true) × ((not (is_dropped r.over r.closed h) && hears_on (after limit r.events) (conn_at limit r h) (plain_publish topic payload)) ≡ true)
      parts = and_parts _ _ e

      stands : (x : Bool) → not x ≡ true → x ≡ false
      stands true e = absurd (no-yes e)
      stands false e = refl

      by : (o : Option ℕ) → conn_at limit r h ≡ o → (not (is_dropped r.over r.closed h) && hears_on (after limit r.events) o (plain_publish topic payload)) ≡ true
          → 0 < aimed h (offers_of dropped r.openers topic payload (after limit r.events).sessions)
      by None at e = absurd (no-yes (and_parts _ _ e).1)
      by (Some c) at e =
          let own = known-some (after limit r.events) (r.last h) c at in
          let two = and_parts (not (is_dropped r.over r.closed h)) (listens (after limit r.events) c topic) e in
          at-least dropped r.openers topic payload h c (after limit r.events).sessions two.1 (b.owned h c own.0) (stands (is_dropped r.over r.closed h) two.0)

  offered-heard : 0 < aimed h made → is_heard limit k h r (Says (plain_publish topic payload)) ≡ true
  offered-heard low =
      let d = who-listens dropped r.openers topic payload h (after limit r.events).sessions (subst (λ os. 0 < aimed h os) offered low) in
      let there_d = sat-known (after limit r.events) d.0 (listens-sat topic d.0 (after limit r.events).sessions d.3) in
      let at : conn_at limit r h ≡ Some d.0 = known-is (after limit r.events) (r.last h) d.0 (b.newest h d.0 there_d d.1) there_d in
      let hears : hears_on (after limit r.events) (conn_at limit r h) (plain_publish topic payload) ≡ true = ap (λ o. hears_on (after limit r.events) o (plain_publish topic payload)) at ∙ d.3 in
      and_from _ _ (ap is_some there) (and_from _ _ (not_from_false (is_dropped r.over r.closed h) d.2) hears)

-- ---- frames taken

packet-owes : Facts → (limit : ℕ) (on : List ℕ → Bool) (h k : ℕ) (r : Room) (ps ds : List ℕ) (n now : ℕ) (busy : Bool) (j : ℕ) (p : Packet) (x : Bool) →
    (eqb j k && is_publish_on on p) ≡ x → MaySay on k h j (Says p) → is_full (after limit r.events) ≡ false → r.pending ≡ [] →
    State limit on h k r ps n busy → Owes ds ps n (waiting h busy r.pending) →
    Owes (cond (x && is_heard limit k h r (Says p)) (n ∷ ds) ds) ps (cond x (n + 1) n) (waiting h x (packet_on limit now r j p (conn_at limit r j)).pending)
packet-owes f limit on h k r ps ds n now busy j p false numbered says room none st owes = owes-none ds ps n (owes.none (zero-waits busy))
  where
    zero-waits : (b : Bool) → waiting h b r.pending ≡ 0
    zero-waits true = ap (aimed h) none
    zero-waits false = refl
packet-owes f limit on h k r ps ds n now busy j p true numbered says room none st owes =
    subst (λ q. Owes (cond (is_heard limit k h r (Says q)) (n ∷ ds) ds) ps (n + 1) (aimed h (packet_on limit now r j q (conn_at limit r j)).pending)) (sym plain.2)
    (subst (λ i. Owes (cond (is_heard limit k h r (Says message)) (n ∷ ds) ds) ps (n + 1) (aimed h (packet_on limit now r i message (conn_at limit r i)).pending)) (sym node)
    (by (conn_at limit r k) refl))
  where
    parts : (eqb j k ≡ true) × (is_publish_on on p ≡ true)
    parts = and_parts _ _ numbered

    node : j ≡ k
    node = eqb-true j k parts.0

    plain : IsPlainOn on p
    plain = says.0 node parts.1

    message : Packet
    message = plain_publish plain.0 plain.1

    zero-waits : (b : Bool) → waiting h b r.pending ≡ 0
    zero-waits true = ap (aimed h) none
    zero-waits false = refl

    same : ds ≡ ps
    same = owes.none (zero-waits busy)

    less : n + 1 - 1 ≡ n
    less = omega arith

    there : (conn : ℕ) → conn_at limit r k ≡ Some conn → (y : Bool) → is_heard limit k h r (Says message) ≡ y →
        Owes (cond y (n ∷ ds) ds) ps (n + 1) (aimed h (called limit r (event.Packet conn message now)).pending)
    there conn at true e =
        let low = heard-offered f limit on h k r st.base st.joined conn now plain.0 plain.1 plain.3 at e in
        record {
          none = λ z. absurd (omega (arith, low, z));
          some = λ l. ap (λ m. m ∷ ds) (sym less) ∙ ap (λ xs. (n + 1 - 1) ∷ xs) same;
        }
    there conn at false e = record {
      none = λ z. same;
      some = λ l. absurd (true≢false (sym (offered-heard f limit on h k r st.base st.joined conn now plain.0 plain.1 plain.3 at l) ∙ e));
    }

    deaf : conn_at limit r k ≡ None → is_heard limit k h r (Says message) ≡ false
    deaf at = and_left _ _ (ap is_some at)

    quiet : conn_at limit r k ≡ None → (os : List Offer) → aimed h os ≡ 0 → Owes (cond (is_heard limit k h r (Says message)) (n ∷ ds) ds) ps (n + 1) (aimed h os)
    quiet at os z = subst (λ y. Owes (cond y (n ∷ ds) ds) ps (n + 1) (aimed h os)) (sym (deaf at)) (record { none = λ e. same; some = λ l. absurd (omega (arith, z, l)) })

    shut : (called limit (opened limit now r k) (event.Packet (next_conn limit r) message now)).pending ≡ []
    shut = ap (λ ss. map (offer_of (opened limit now r k).openers (is_dropped r.over r.closed)) (map outgoing ss))
        (first-shut f (after limit (event.Open now ∷ r.events)) (next_conn limit r) now plain.0 plain.1 (open-joins-none f limit r.events now)).0

    without : conn_at limit r k ≡ None → (b : Bool) →
        Owes (cond (is_heard limit k h r (Says message)) (n ∷ ds) ds) ps (n + 1)
        (aimed h (cond b (called limit (opened limit now r k) (event.Packet (next_conn limit r) message now)) r).pending)
    without at true = quiet at (called limit (opened limit now r k) (event.Packet (next_conn limit r) message now)).pending (ap (aimed h) shut)
    without at false = quiet at r.pending (ap (aimed h) none)

    by : (o : Option ℕ) → conn_at limit r k ≡ o → Owes (cond (is_heard limit k h r (Says message)) (n ∷ ds) ds) ps (n + 1) (aimed h (packet_on limit now r k message o).pending)
    by (Some conn) at = there conn at (is_heard limit k h r (Says message)) refl
    by None at = without at (may_open limit r k)

frame-owes : Facts → (limit edges : ℕ) (on : List ℕ → Bool) (h k : ℕ) (r : Room) (ps ds : List ℕ) (n : ℕ) (busy : Bool) (taken : List _) (j : ℕ) (i : Input) (x : Bool) →
    (eqb j k && is_on on i) ≡ x → MaySay on k h j i → is_full (after limit r.events) ≡ false → r.pending ≡ [] →
    State limit on h k r ps n busy → Owes ds ps n (waiting h busy r.pending) →
    Owes (cond (x && is_heard limit k h r i) (n ∷ ds) ds) ps (cond x (n + 1) n) (waiting h x (took limit edges taken r j i).pending)
frame-owes f limit edges on h k r ps ds n busy taken j (Says p) x numbered says room none st owes = packet-owes f limit on h k r ps ds n (length taken) busy j p x numbered says room none st owes
frame-owes f limit edges on h k r ps ds n busy taken j (Breaks g) true numbered says room none st owes = absurd (no-yes (sym (and_right _ _ refl) ∙ numbered))
frame-owes f limit edges on h k r ps ds n busy taken j Cuts true numbered says room none st owes = absurd (no-yes (sym (and_right _ _ refl) ∙ numbered))
frame-owes f limit edges on h k r ps ds n busy taken j Ends true numbered says room none st owes = absurd (no-yes (sym (and_right _ _ refl) ∙ numbered))
frame-owes f limit edges on h k r ps ds n busy taken j (Breaks g) false numbered says room none st owes = owes-none ds ps n (owes.none (zero-waits busy))
  where
    zero-waits : (b : Bool) → waiting h b r.pending ≡ 0
    zero-waits true = ap (aimed h) none
    zero-waits false = refl
frame-owes f limit edges on h k r ps ds n busy taken j Cuts false numbered says room none st owes = owes-none ds ps n (owes.none (zero-waits busy))
  where
    zero-waits : (b : Bool) → waiting h b r.pending ≡ 0
    zero-waits true = ap (aimed h) none
    zero-waits false = refl
frame-owes f limit edges on h k r ps ds n busy taken j Ends false numbered says room none st owes = owes-none ds ps n (owes.none (zero-waits busy))
  where
    zero-waits : (b : Bool) → waiting h b r.pending ≡ 0
    zero-waits true = ap (aimed h) none
    zero-waits false = refl

-- ---- offers

-- an offer that isn't the host's
passes-by : (h : ℕ) (ds ps : List ℕ) (n : ℕ) (busy : Bool) (o : Offer) (os rest : List Offer) → os ≡ o ∷ rest → goes h o ≡ false →
    Owes ds ps n (waiting h busy os) → Owes ds ps n (waiting h busy (Rattle.spk_plant_broker.specs.Step.behind os))
passes-by h ds ps n busy o os rest is away owes =
    subst (λ xs. Owes ds ps n (waiting h busy xs) → Owes ds ps n (waiting h busy (Rattle.spk_plant_broker.specs.Step.behind xs))) (sym is)
    (λ e. subst (Owes ds ps n) (ap (λ m. cond busy m 0) (ap (λ b. cond b (aimed h rest + 1) (aimed h rest)) away)) e) owes

taken-in : (limit : ℕ) (on : List ℕ → Bool) (h k : ℕ) (r : Room) (ds ps : List ℕ) (n : ℕ) (busy : Bool) (j : ℕ) (o : Offer) → IsFirst o r.pending → o.to ≡ Some j →
    State limit on h k r ps n busy → Owes ds ps n (waiting h busy r.pending) →
    Owes ds (cond (eqb j h && busy) ((n - 1) ∷ ps) ps) n (waiting h busy (Rattle.spk_plant_broker.specs.Step.behind r.pending))
taken-in limit on h k r ds ps n busy j o first to st owes =
    by (eqb j h) busy (ap (is_client h) to) st.one owes
  where
    is : r.pending ≡ o ∷ first.0
    is = first.1

    back : Rattle.spk_plant_broker.specs.Step.behind r.pending ≡ first.0
    back = ap Rattle.spk_plant_broker.specs.Step.behind is

    by : (b busy : Bool) → goes h o ≡ b → (busy ≡ true → aimed h r.pending + aimed h r.untold ≤ 1) → Owes ds ps n (waiting h busy r.pending) →
        Owes ds (cond (b && busy) ((n - 1) ∷ ps) ps) n (waiting h busy (Rattle.spk_plant_broker.specs.Step.behind r.pending))
    by true true at one owes =
        let a : aimed h r.pending ≡ aimed h first.0 + 1 = ap (aimed h) is ∙ ap (λ b. cond b (aimed h first.0 + 1) (aimed h first.0)) at in
        let m = one refl in
        let z : aimed h (Rattle.spk_plant_broker.specs.Step.behind r.pending) ≡ 0 = ap (aimed h) back ∙ none-left (aimed h r.pending) (aimed h first.0) (aimed h r.untold) a m in
        record { none = λ e. owes.some (omega (arith, a)); some = λ low. absurd (omega (arith, z, low)) }
      where
        none-left : (a b u : ℕ) → a ≡ b + 1 → a + u ≤ 1 → b ≡ 0
        none-left a b u e m = omega (arith, e, m)
    by true false at one owes = owes-none ds ps n (owes.none refl)
    by false busy at one owes = passes-by h ds ps n busy o r.pending first.0 is at owes

-- ---- a log

no-refusal : (h : ℕ) (rs : List Refusal) (x : Refusal) → refused_to h (rs ++ x ∷ []) ≡ 0 → (refused_to h rs ≡ 0) × (eqb x.client h ≡ false)
no-refusal h rs x e = by (eqb x.client h) (refused_to h rs) (sym (sum_by_push (λ (r : Refusal). cond (eqb r.client h) 1 0) rs x) ∙ e)
  where
    by : (b : Bool) (m : ℕ) → m + cond b 1 0 ≡ 0 → (m ≡ 0) × (b ≡ false)
    by true m z = absurd (omega (arith, z))
    by false m z = (omega (arith, z), refl)

pub owes-of : Facts → (limit edges : ℕ) (on : List ℕ → Bool) (k : ℕ) → limit ≤ 65535 → (l : List Entry) → IsLog limit edges l → AllMaySay on k edges l → HasPlaces limit edges l →
    refused_to edges (refusals_of l) ≡ 0 →
    Owes (due limit edges on k edges l) (shown on k edges l) (count_numbered on k l) (waiting edges (is_relaying on k l) (room_of limit edges l).pending)
owes-of f limit edges on k small [] log says room zero_of = owes-none [] [] 0 refl
owes-of f limit edges on k small (Took m i ∷ l) log says room zero_of =
    frame-owes f limit edges on edges k (room_of limit edges l) (shown on k edges l) (due limit edges on k edges l) (count_numbered on k l) (is_relaying on k l) (taken_of (Took m i ∷ l)) m.sender i
    (is_numbered on k m i) refl says.0 room.0 log.1.1 (state-of f limit edges on k small l log.0 says.1 room.1) (owes-of f limit edges on k small l log.0 says.1 room.1 zero_of)
owes-of f limit edges on k small (Accepted j o ∷ l) log says room zero_of =
    taken-in limit on edges k (room_of limit edges l) (due limit edges on k edges l) (shown on k edges l) (count_numbered on k l) (is_relaying on k l) j o log.1.0 log.1.1
    (state-of f limit edges on k small l log.0 says room) (owes-of f limit edges on k small l log.0 says room zero_of)
owes-of f limit edges on k small (Refused j o ∷ l) log says room zero_of =
    let parts = no-refusal edges (refusals_of l) (record { client = j; sort = o.sort; taken = length (taken_of l) }) zero_of in
    passes-by edges (due limit edges on k edges l) (shown on k edges l) (count_numbered on k l) (is_relaying on k l) o (room_of limit edges l).pending log.1.0.0 log.1.0.1
    (ap (is_client edges) log.1.1 ∙ parts.1) (owes-of f limit edges on k small l log.0 says room parts.0)
owes-of f limit edges on k small (Passed o ∷ l) log says room zero_of =
    passes-by edges (due limit edges on k edges l) (shown on k edges l) (count_numbered on k l) (is_relaying on k l) o (room_of limit edges l).pending log.1.0.0 log.1.0.1
    (ap (is_client edges) log.1.1) (owes-of f limit edges on k small l log.0 says room zero_of)
owes-of f limit edges on k small (Told o ∷ l) log says room zero_of =
    owes-none (due limit edges on k edges l) (shown on k edges l) (count_numbered on k l) ((owes-of f limit edges on k small l log.0 says room zero_of).none (zero-waits (is_relaying on k l)))
  where
    zero-waits : (b : Bool) → waiting edges b (room_of limit edges l).pending ≡ 0
    zero-waits true = ap (aimed edges) log.1.0
    zero-waits false = refl

pub complete : Facts → (limit edges : ℕ) (on : List ℕ → Bool) (k : ℕ) → limit ≤ 65535 → (l : List Entry) → IsLog limit edges l → AllMaySay on k edges l → HasPlaces limit edges l →
    refused_to edges (refusals_of l) ≡ 0 → (room_of limit edges l).pending ≡ [] → due limit edges on k edges l ≡ shown on k edges l
complete f limit edges on k small l log says room zero_of none = (owes-of f limit edges on k small l log says room zero_of).none (zero-waits (is_relaying on k l))
  where
    zero-waits : (b : Bool) → waiting edges b (room_of limit edges l).pending ≡ 0
    zero-waits true = ap (aimed edges) none
    zero-waits false = refl
