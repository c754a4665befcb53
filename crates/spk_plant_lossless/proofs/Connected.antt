-- As long as the broker doesn't close a node, its connection stands at each of its numbered messages: a PUBLISH without one would open one, and
-- close it.
use Rattle.std.proofs.Common.{◌≡◌, sym, ap, refl, subst, ◌∙◌, ℕ, ◌≤◌, Bool, true, false, not, cond, eqb, List, [], ◌∷◌, ◌++◌, length, Option, Some, None, is_some, eqb-true, eq-eqb, true≢false}
use Rattle.std.specs.List.{list_any}
use Rattle.std.proofs.lemmas.Bool.{and_from, and_parts, not_from_false, or_parts}
use Rattle.spk_packets.specs.Message.{Connect, ConnAck, Publish, PubAck, Subscribe, SubAck, Unsubscribe, UnsubAck, PingReq, PingResp, Disconnect}
use Rattle.spk_packets.specs.Message.{Message as Packet}
use Rattle.spk_ingress.specs.declared.rule.Message.{Message}
use Rattle.spk_broker_rules.specs.Data.{Broker}
use Rattle.spk_broker_rules.specs.Listening.{is_closed_in, is_joined}
use Rattle.spk_broker_rules.specs.Plan as event
use Rattle.spk_broker_rules.specs.Step.{after, is_full, is_newcomer, session_by, step}
use Rattle.spk_broker_listening.specs.Granted.{is_connect}
use Rattle.spk_plant_broker.specs.Data.{Entry, Input, Room, Says, Breaks, Cuts, Ends, Took, Accepted, Refused, Passed, Told}
use Rattle.spk_plant_broker.specs.Log.{IsLog, room_of, taken_of}
use Rattle.spk_plant_broker.specs.Step.{called, conn_at, may_open, next_conn, opened, packet_on}
use Rattle.spk_plant_relay.specs.Shown.{AllMaySay, HasPlaces, is_numbered, is_publish_on}
use Rattle.spk_plant_relay.proofs.Base.{Base, base-opened, closes-client}
use Rattle.spk_plant_relay.proofs.Facts.{Facts}
use Rattle.spk_plant_relay.proofs.Few.{state-of}
use Rattle.spk_plant_laws.proofs.Standing.{closed-last}
use Rattle.spk_plant_lossless.specs.Subscribed.{HasConnection}

no-yes : false ≡ true → ⊥
no-yes e = true≢false (sym e)

module _ (f : Facts)
    (unjoined : (b : Broker) (conn moment : ℕ) (packet : Packet) → is_joined b conn ≡ false → is_connect packet ≡ false → is_closed_in conn (step b (event.Packet conn packet moment)) ≡ true)
    (limit edges k : ℕ) (on : List ℕ → Bool) (small : limit ≤ 65535) where
  no-connect : (p : Packet) → is_publish_on on p ≡ true → is_connect p ≡ false
  no-connect (Connect client clean keep will) e = absurd (no-yes e)
  no-connect (ConnAck present code) e = refl
  no-connect (Publish dup qos retain topic id payload) e = refl
  no-connect (PubAck id) e = refl
  no-connect (Subscribe id filters) e = refl
  no-connect (SubAck id codes) e = refl
  no-connect (Unsubscribe id filters) e = refl
  no-connect (UnsubAck id) e = refl
  no-connect PingReq e = refl
  no-connect PingResp e = refl
  no-connect Disconnect e = refl

  new-unjoined : (r : Room) (now : ℕ) → is_joined (after limit (event.Open now ∷ r.events)) (next_conn limit r) ≡ false
  unfolding step
  new-unjoined r now =
      (or_parts (list_any (is_newcomer (next_conn limit r)) (after limit r.events).newcomers) (is_some (session_by (next_conn limit r) (after limit r.events).sessions))
      (f.fresh (after limit r.events) (f.lawful limit r.events))).1

  opened-closed : (r : Room) (j now : ℕ) (p : Packet) → Base limit on r → conn_at limit r j ≡ None → is_connect p ≡ false
      → (called limit (opened limit now r j) (event.Packet (next_conn limit r) p now)).closed j ≡ true
  opened-closed r j now p b none other =
      closes-client f limit (opened limit now r j) (event.Packet (next_conn limit r) p now) j (next_conn limit r)
      ((base-opened f limit on now r j none b).owned j (next_conn limit r) (ap (λ x. cond x (Some (next_conn limit r)) (r.last j)) (eq-eqb j j refl)))
      (unjoined (after limit (event.Open now ∷ r.events)) (next_conn limit r) now p (new-unjoined r now) other)

  has-one : (r : Room) (j now : ℕ) (p : Packet) → Base limit on r → is_connect p ≡ false → is_full (after limit r.events) ≡ false → r.closed j ≡ false
      → (packet_on limit now r j p (conn_at limit r j)).closed j ≡ false → is_some (conn_at limit r j) ≡ true
  has-one r j now p b other free still uncut = by (conn_at limit r j) refl uncut
    where
      by : (o : Option ℕ) → conn_at limit r j ≡ o → (packet_on limit now r j p o).closed j ≡ false → is_some o ≡ true
      by (Some conn) at e = refl
      by None at e =
          let may : may_open limit r j ≡ true = and_from (not (r.closed j)) (not (is_full (after limit r.events))) (not_from_false (r.closed j) still) (not_from_false (is_full (after limit r.events)) free) in
          absurd (true≢false (sym (ap (λ x. (cond x (called limit (opened limit now r j) (event.Packet (next_conn limit r) p now)) r).closed j) may ∙ opened-closed r j now p b at other) ∙ e))

  stands-at : (m : Message) (i : Input) (l : List Entry) → IsLog limit edges (Took m i ∷ l) → AllMaySay on k edges (Took m i ∷ l) → HasPlaces limit edges (Took m i ∷ l)
      → (room_of limit edges (Took m i ∷ l)).closed k ≡ false → is_numbered on k m i ≡ true → is_some (conn_at limit (room_of limit edges l) k) ≡ true
  stands-at m (Says p) l log says places uncut e =
      let parts = and_parts (eqb m.sender k) (is_publish_on on p) e in
      has-one (room_of limit edges l) k (length (taken_of (Took m (Says p) ∷ l))) p (state-of f limit edges on k small l log.0 says.1 places.1).base (no-connect p parts.1) places.0
      (closed-last limit edges k (Took m (Says p)) l uncut)
      (subst (λ j. (packet_on limit (length (taken_of (Took m (Says p) ∷ l))) (room_of limit edges l) j p (conn_at limit (room_of limit edges l) j)).closed k ≡ false) (eqb-true m.sender k parts.0) uncut)
  stands-at m (Breaks g) l log says places uncut e = absurd (no-yes (and_parts (eqb m.sender k) false e).1)
  stands-at m Cuts l log says places uncut e = absurd (no-yes (and_parts (eqb m.sender k) false e).1)
  stands-at m Ends l log says places uncut e = absurd (no-yes (and_parts (eqb m.sender k) false e).1)

  pub connected : (later before : List Entry) → IsLog limit edges (later ++ before) → AllMaySay on k edges (later ++ before) → HasPlaces limit edges (later ++ before)
      → (room_of limit edges (later ++ before)).closed k ≡ false → HasConnection limit edges on k later before
  connected [] before log says places uncut = tt
  connected (Took m i ∷ l) before log says places uncut =
      (stands-at m i (l ++ before) log says places uncut, connected l before log.0 says.1 places.1 (closed-last limit edges k (Took m i) (l ++ before) uncut))
  connected (Accepted j o ∷ l) before log says places uncut = connected l before log.0 says places uncut
  connected (Refused j o ∷ l) before log says places uncut = connected l before log.0 says places uncut
  connected (Passed o ∷ l) before log says places uncut = connected l before log.0 says places uncut
  connected (Told o ∷ l) before log says places uncut = connected l before log.0 says places (closed-last limit edges k (Told o) (l ++ before) uncut)
