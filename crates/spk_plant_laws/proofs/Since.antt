-- From the host's subscription on all that is taken of a node is due, as long as the broker doesn't close the host.
use Rattle.std.proofs.Common.{◌≡◌, inl, inr, sym, ap, refl, subst, ◌∙◌, ℕ, ◌+◌, ◌<◌, ◌≤◌, Bool, true, false, not, ◌&&◌, cond, eqb, List, [], ◌∷◌, ◌++◌, length, Option, Some, None, is_some, arith, true≢false, eq-eqb, eqb-true}
use Rattle.std.proofs.lemmas.Bool.{and_from, and_left, and_parts, and_right, cases_Bool, not_from_false, or_from}
use Rattle.spk_packets.specs.Message.{Connect, ConnAck, Publish, PubAck, Subscribe, SubAck, Unsubscribe, UnsubAck, PingReq, PingResp, Disconnect}
use Rattle.spk_packets.specs.Message.{Message as Packet}
use Rattle.spk_ingress.specs.declared.rule.Message.{Message}
use Rattle.spk_broker_rules.specs.Knowing.{is_opening}
use Rattle.spk_broker_rules.specs.Listening.{is_disconnect, is_joined, is_unsubscribe, listens}
use Rattle.spk_broker_rules.specs.Plan as event
use Rattle.spk_broker_rules.specs.Plan.{Event}
use Rattle.spk_broker_rules.specs.Step.{after}
use Rattle.spk_plant_broker.specs.Data.{Input, Says, Breaks, Cuts, Ends, Entry, Took, Accepted, Refused, Passed, Told, Room}
use Rattle.spk_plant_broker.specs.Log.{IsLog, room_of, taken_of}
use Rattle.spk_plant_broker.specs.Step.{behind, called, called_on, client_of, conn_at, is_dropped, known, may_open, next_conn, opened, packet_on}
use Rattle.spk_plant_relay.specs.Due.{due, hears_on, is_heard}
use Rattle.spk_plant_relay.specs.Shown.{AllMaySay, HasPlaces, MaySay, count_numbered, is_numbered, is_publish_on, shown}
use Rattle.spk_plant_relay.proofs.Base.{Base, Hears, base-opened, client-within, hears-called, hears-opened, joined-known}
use Rattle.spk_plant_relay.proofs.Facts.{Facts}
use Rattle.spk_plant_relay.proofs.Few.{state-of}
use Rattle.spk_plant_relay.proofs.Moves.{known-is, known-some}
use Rattle.spk_plant_relay.proofs.State.{Kept}
use Rattle.spk_plant_laws.specs.Standing.{Subscribes, taken_since}
use Rattle.spk_plant_laws.proofs.Standing.{closed-last}

no-yes : false ≡ true → ⊥
no-yes e = true≢false (sym e)

same-some : (x y : ℕ) → ◌≡◌ {A = Option ℕ} (Some x) (Some y) → x ≡ y
same-some x y e = cc

-- ---- the parts of a log

pub log-back : (limit edges : ℕ) (later before : List Entry) → IsLog limit edges (later ++ before) → IsLog limit edges before
log-back limit edges [] before log = log
log-back limit edges (e ∷ later) before log = log-back limit edges later before log.0

pub says-back : (on : List ℕ → Bool) (k h : ℕ) (later before : List Entry) → AllMaySay on k h (later ++ before) → AllMaySay on k h before
says-back on k h [] before says = says
says-back on k h (Took m i ∷ later) before says = says-back on k h later before says.1
says-back on k h (Accepted j o ∷ later) before says = says-back on k h later before says
says-back on k h (Refused j o ∷ later) before says = says-back on k h later before says
says-back on k h (Passed o ∷ later) before says = says-back on k h later before says
says-back on k h (Told o ∷ later) before says = says-back on k h later before says

pub places-back : (limit edges : ℕ) (later before : List Entry) → HasPlaces limit edges (later ++ before) → HasPlaces limit edges before
places-back limit edges [] before places = places
places-back limit edges (Took m i ∷ later) before places = places-back limit edges later before places.1
places-back limit edges (Accepted j o ∷ later) before places = places-back limit edges later before places
places-back limit edges (Refused j o ∷ later) before places = places-back limit edges later before places
places-back limit edges (Passed o ∷ later) before places = places-back limit edges later before places
places-back limit edges (Told o ∷ later) before places = places-back limit edges later before places

-- where a frame of the node is taken, not all edge nodes have ended
abbrev pub Going : (limit edges k : ℕ) → List Entry → Type 0
Going limit edges k log = (later l : List Entry) (m : Message) (i : Input) → log ≡ later ++ Took m i ∷ l → eqb m.sender k ≡ true → (room_of limit edges l).over ≡ false

going-front : (limit edges k : ℕ) (e : Entry) (l : List Entry) → Going limit edges k (e ∷ l) → Going limit edges k l
going-front limit edges k e l going = λ later rest m i is. going (e ∷ later) rest m i (ap (λ xs. e ∷ xs) is)

-- ---- the host goes on hearing

module _ (f : Facts) (limit edges k : ℕ) (on : List ℕ → Bool) (small : limit ≤ 65535) where
  -- another client's connection isn't the host's
  not-host : (r : Room) (j conn c : ℕ) → Base limit on r → r.last j ≡ Some conn → r.last edges ≡ Some c → (j ≡ edges → ⊥) → eqb conn c ≡ false
  not-host r j conn c b own at other = elim (cases_Bool (eqb conn c)) [
    | inl same ↦ absurd (other (same-some j edges (sym (b.owned j conn own) ∙ ap (client_of r.openers) (eqb-true conn c same) ∙ b.owned edges c at)))
    | inr never ↦ never
  ]

  harmless : (r : Room) (j conn c : ℕ) (x : Bool) → Base limit on r → r.last j ≡ Some conn → r.last edges ≡ Some c → (j ≡ edges → x ≡ false) → (eqb conn c && x) ≡ false
  harmless r j conn c x b own at quiet = elim (cases_Bool (eqb j edges)) [
    | inl same ↦ and_right _ _ (quiet (eqb-true j edges same))
    | inr never ↦ and_left _ _ (not-host r j conn c b own at (λ same. true≢false (sym (eq-eqb j edges same) ∙ never)))
  ]

  hears-packet : (r : Room) (now j : ℕ) (p : Packet) (c : ℕ) → Base limit on r → MaySay on k edges j (Says p) → (packet_on limit now r j p (conn_at limit r j)).closed edges ≡ false →
      Hears limit on r edges c → Hears limit on (packet_on limit now r j p (conn_at limit r j)) edges c
  hears-packet r now j p c b says uncut hears = by (conn_at limit r j) refl uncut
    where
      past : (d n g : ℕ) → d ≤ n → n ≡ g → g + 1 ≡ d → ⊥
      past d n g low size at = omega (arith, low, size, at)

      other : eqb (next_conn limit r) c ≡ false
      other = elim (cases_Bool (eqb (next_conn limit r) c)) [
        | inl same ↦ absurd (past c (length r.openers) (after limit r.events).given (client-within r.openers c edges (b.owned edges c hears.last)).1 b.sized (eqb-true (next_conn limit r) c same))
        | inr never ↦ never
      ]

      first : conn_at limit r j ≡ None → (x : Bool) →
          (cond x (called limit (opened limit now r j) (event.Packet (next_conn limit r) p now)) r).closed edges ≡ false →
          Hears limit on (cond x (called limit (opened limit now r j) (event.Packet (next_conn limit r) p now)) r) edges c
      first none true uncut = hears-called f limit on (opened limit now r j) (event.Packet (next_conn limit r) p now) edges c (base-opened f limit on now r j none b)
          (and_left _ _ other) (and_left _ _ other) uncut (hears-opened f limit on now r j edges c none hears)
      first none false uncut = hears

      by : (o : Option ℕ) → conn_at limit r j ≡ o → (packet_on limit now r j p o).closed edges ≡ false → Hears limit on (packet_on limit now r j p o) edges c
      by (Some conn) at uncut =
          let is = known-some (after limit r.events) (r.last j) conn at in
          hears-called f limit on r (event.Packet conn p now) edges c b
          (harmless r j conn c (is_disconnect p) b is.0 hears.last says.2) (harmless r j conn c (is_unsubscribe p) b is.0 hears.last says.3) uncut hears
      by None at uncut = first at (may_open limit r j) uncut

  hears-frame : (r : Room) (taken : List Message) (j : ℕ) (i : Input) (c : ℕ) → Base limit on r → MaySay on k edges j i → (Rattle.spk_plant_broker.specs.Step.took limit edges taken r j i).closed edges ≡ false →
      Hears limit on r edges c → Hears limit on (Rattle.spk_plant_broker.specs.Step.took limit edges taken r j i) edges c
  hears-frame r taken j (Says p) c b says uncut hears = hears-packet r (length taken) j p c b says uncut hears
  hears-frame r taken j (Breaks g) c b says uncut hears = by (conn_at limit r j) uncut
    where
      by : (o : Option ℕ) → (called_on limit r (λ conn. event.Fault conn g (length taken)) o).closed edges ≡ false → Hears limit on (called_on limit r (λ conn. event.Fault conn g (length taken)) o) edges c
      by (Some conn) uncut = hears-called f limit on r (event.Fault conn g (length taken)) edges c b refl refl uncut hears
      by None uncut = hears
  hears-frame r taken j Cuts c b says uncut hears = by (conn_at limit r j) refl uncut
    where
      by : (o : Option ℕ) → conn_at limit r j ≡ o → (called_on limit r (λ conn. event.Closed conn (length taken)) o).closed edges ≡ false → Hears limit on (called_on limit r (λ conn. event.Closed conn (length taken)) o) edges c
      by (Some conn) at uncut =
          let is = known-some (after limit r.events) (r.last j) conn at in
          hears-called f limit on r (event.Closed conn (length taken)) edges c b (not-host r j conn c b is.0 hears.last says) refl uncut hears
      by None at uncut = hears
  hears-frame r taken j Ends c b says uncut hears = record { last = hears.last; joined = hears.joined; listens_to = hears.listens_to }

  hears-last : (e : Entry) (l : List Entry) (c : ℕ) → IsLog limit edges (e ∷ l) → AllMaySay on k edges (e ∷ l) → HasPlaces limit edges (e ∷ l) → (room_of limit edges (e ∷ l)).closed edges ≡ false →
      Hears limit on (room_of limit edges l) edges c → Hears limit on (room_of limit edges (e ∷ l)) edges c
  hears-last (Took m i) l c log says places uncut hears =
      hears-frame (room_of limit edges l) (taken_of (Took m i ∷ l)) m.sender i c (state-of f limit edges on k small l log.0 says.1 places.1).base says.0 uncut hears
  hears-last (Accepted j o) l c log says places uncut hears = record { last = hears.last; joined = hears.joined; listens_to = hears.listens_to }
  hears-last (Refused j o) l c log says places uncut hears = record { last = hears.last; joined = hears.joined; listens_to = hears.listens_to }
  hears-last (Passed o) l c log says places uncut hears = record { last = hears.last; joined = hears.joined; listens_to = hears.listens_to }
  hears-last (Told o) l c log says places uncut hears = by (known (after limit (room_of limit edges l).events) (Some o.conn)) uncut
    where
      r : Room
      r = record (room_of limit edges l) { untold = behind (room_of limit edges l).untold }

      same : Hears limit on r edges c
      same = record { last = hears.last; joined = hears.joined; listens_to = hears.listens_to }

      b : Base limit on r
      b = (state-of f limit edges on k small l log.0 says places).base

      by : (x : Option ℕ) → (called_on limit r (λ conn. event.Refused conn o.sort (length (taken_of l))) x).closed edges ≡ false →
          Hears limit on (called_on limit r (λ conn. event.Refused conn o.sort (length (taken_of l))) x) edges c
      by (Some conn) uncut = hears-called f limit on r (event.Refused conn o.sort (length (taken_of l))) edges c b refl refl uncut same
      by None uncut = same

  says-front : (e : Entry) (l : List Entry) → AllMaySay on k edges (e ∷ l) → AllMaySay on k edges l
  says-front e l says = says-back on k edges (e ∷ []) l says

  places-front : (e : Entry) (l : List Entry) → HasPlaces limit edges (e ∷ l) → HasPlaces limit edges l
  places-front e l places = places-back limit edges (e ∷ []) l places

  hears-since : (later before : List Entry) (c : ℕ) → IsLog limit edges (later ++ before) → AllMaySay on k edges (later ++ before) → HasPlaces limit edges (later ++ before) →
      (room_of limit edges (later ++ before)).closed edges ≡ false → Hears limit on (room_of limit edges before) edges c → Hears limit on (room_of limit edges (later ++ before)) edges c
  hears-since [] before c log says places uncut hears = hears
  hears-since (e ∷ later) before c log says places uncut hears =
      hears-last e (later ++ before) c log says places uncut
      (hears-since later before c log.0 (says-front e (later ++ before) says) (places-front e (later ++ before) places) (closed-last limit edges edges e (later ++ before) uncut) hears)

  -- ---- a subscription

  subscribes-hears : (l : List Entry) → IsLog limit edges l → AllMaySay on k edges l → HasPlaces limit edges l → (s : Subscribes limit edges on (room_of limit edges l)) → Hears limit on (room_of limit edges l) edges s.conn
  subscribes-hears l log says places s =
      let is = known-some (after limit (room_of limit edges l).events) ((room_of limit edges l).last edges) s.conn s.has in
      record { last = is.0; joined = (state-of f limit edges on k small l log says places).joined s.conn is.1; listens_to = s.granted }

  hears-at : (r : Room) (c : ℕ) → Hears limit on r edges c → conn_at limit r edges ≡ Some c
  hears-at r c hears = known-is (after limit r.events) (r.last edges) c hears.last (joined-known (after limit r.events) c hears.joined)

  -- it stands from then on
  pub stays : (later before : List Entry) → IsLog limit edges (later ++ before) → AllMaySay on k edges (later ++ before) → HasPlaces limit edges (later ++ before) →
      (room_of limit edges (later ++ before)).closed edges ≡ false → Subscribes limit edges on (room_of limit edges before) → Subscribes limit edges on (room_of limit edges (later ++ before))
  stays later before log says places uncut s =
      let hears = hears-since later before s.conn log says places uncut
      (subscribes-hears before (log-back limit edges later before log) (says-back on k edges later before says) (places-back limit edges later before places) s) in
      record { conn = s.conn; has = hears-at (room_of limit edges (later ++ before)) s.conn hears; granted = hears.listens_to }

  -- whoever was shown something is subscribed
  pub begun : (l : List Entry) → IsLog limit edges l → AllMaySay on k edges l → HasPlaces limit edges l → (room_of limit edges l).closed edges ≡ false → (room_of limit edges l).over ≡ false →
      is_some (conn_at limit (room_of limit edges l) k) ≡ true → (shown on k edges l ≡ [] → ⊥) → Subscribes limit edges on (room_of limit edges l)
  begun l log says places uncut ringing there some = record { conn = start.conn; has = hears-at (room_of limit edges l) start.conn start.hears; granted = start.hears.listens_to }
    where
      start : Kept limit on edges (room_of limit edges l) (shown on k edges l) (count_numbered on k l) (Rattle.spk_plant_relay.specs.Shown.is_relaying on k l)
      start = (state-of f limit edges on k small l log says places).kept
          (record { standing = uncut; ringing = ringing; unfinished = λ done. no-yes (sym (ap is_some done.1) ∙ there) }) (inl some)

  -- ---- what is due

  publishes : (r : Room) (c : ℕ) (p : Packet) → Hears limit on r edges c → is_publish_on on p ≡ true → hears_on (after limit r.events) (Some c) p ≡ true
  publishes r c (Publish dup qos retain topic id payload) hears is = hears.listens_to topic is
  publishes r c (Connect client clean keep will) hears is = absurd (no-yes is)
  publishes r c (ConnAck present code) hears is = absurd (no-yes is)
  publishes r c (PubAck id) hears is = absurd (no-yes is)
  publishes r c (Subscribe id filters) hears is = absurd (no-yes is)
  publishes r c (SubAck id codes) hears is = absurd (no-yes is)
  publishes r c (Unsubscribe id filters) hears is = absurd (no-yes is)
  publishes r c (UnsubAck id) hears is = absurd (no-yes is)
  publishes r c PingReq hears is = absurd (no-yes is)
  publishes r c PingResp hears is = absurd (no-yes is)
  publishes r c Disconnect hears is = absurd (no-yes is)

  -- of a message that is taken while the host hears, the node's connection decides
  heard-is : (r : Room) (c : ℕ) (m : Message) (i : Input) → Hears limit on r edges c → r.closed edges ≡ false → (eqb m.sender k ≡ true → r.over ≡ false) →
      (is_numbered on k m i && is_heard limit k edges r i) ≡ (is_numbered on k m i && is_some (conn_at limit r k))
  heard-is r c m (Says p) hears uncut going = by (is_numbered on k m (Says p)) refl
    where
      by : (b : Bool) → is_numbered on k m (Says p) ≡ b → (b && is_heard limit k edges r (Says p)) ≡ (b && is_some (conn_at limit r k))
      by false is = refl
      by true is =
          let parts = and_parts (eqb m.sender k) (is_publish_on on p) is in
          let ring : not (is_dropped r.over r.closed edges) ≡ true = not_from_false _ (or_from r.over (r.closed edges) (going parts.0) uncut) in
          let hears_it : hears_on (after limit r.events) (conn_at limit r edges) p ≡ true = ap (λ o. hears_on (after limit r.events) o p) (hears-at r c hears) ∙ publishes r c p hears parts.1 in
          right-true (is_some (conn_at limit r k)) _ (and_from _ _ ring hears_it)
        where
          right-true : (a b : Bool) → b ≡ true → (a && b) ≡ a
          right-true true b e = e
          right-true false b e = refl
  heard-is r c m (Breaks g) hears uncut going = none (eqb m.sender k) (is_some (conn_at limit r k))
    where
      none : (a b : Bool) → ((a && false) && false) ≡ ((a && false) && b)
      none true b = refl
      none false b = refl
  heard-is r c m Cuts hears uncut going = none (eqb m.sender k) (is_some (conn_at limit r k))
    where
      none : (a b : Bool) → ((a && false) && false) ≡ ((a && false) && b)
      none true b = refl
      none false b = refl
  heard-is r c m Ends hears uncut going = none (eqb m.sender k) (is_some (conn_at limit r k))
    where
      none : (a b : Bool) → ((a && false) && false) ≡ ((a && false) && b)
      none true b = refl
      none false b = refl

  due-since : (later before : List Entry) (c : ℕ) → IsLog limit edges (later ++ before) → AllMaySay on k edges (later ++ before) → HasPlaces limit edges (later ++ before) →
      (room_of limit edges (later ++ before)).closed edges ≡ false → Going limit edges k (later ++ before) → Hears limit on (room_of limit edges before) edges c →
      due limit edges on k edges (later ++ before) ≡ taken_since limit edges on k later before ++ due limit edges on k edges before
  due-since [] before c log says places uncut going hears = refl
  due-since (Took m i ∷ later) before c log says places uncut going hears =
      let uncut_here = closed-last limit edges edges (Took m i) (later ++ before) uncut in
      let here = hears-since later before c log.0 says.1 places.1 uncut_here hears in
      let rest = due-since later before c log.0 says.1 places.1 uncut_here (going-front limit edges k (Took m i) (later ++ before) going) hears in
      ap (λ b. cond b (count_numbered on k (later ++ before) ∷ due limit edges on k edges (later ++ before)) (due limit edges on k edges (later ++ before)))
      (heard-is (room_of limit edges (later ++ before)) c m i here uncut_here (going [] (later ++ before) m i refl))
      ∙ by (is_numbered on k m i && is_some (conn_at limit (room_of limit edges (later ++ before)) k)) rest
    where
      by : (b : Bool) → due limit edges on k edges (later ++ before) ≡ taken_since limit edges on k later before ++ due limit edges on k edges before →
          cond b (count_numbered on k (later ++ before) ∷ due limit edges on k edges (later ++ before)) (due limit edges on k edges (later ++ before))
          ≡ cond b (count_numbered on k (later ++ before) ∷ taken_since limit edges on k later before) (taken_since limit edges on k later before) ++ due limit edges on k edges before
      by true e = ap (λ xs. count_numbered on k (later ++ before) ∷ xs) e
      by false e = e
  due-since (Accepted j o ∷ later) before c log says places uncut going hears = due-since later before c log.0 says places uncut (going-front limit edges k (Accepted j o) (later ++ before) going) hears
  due-since (Refused j o ∷ later) before c log says places uncut going hears = due-since later before c log.0 says places uncut (going-front limit edges k (Refused j o) (later ++ before) going) hears
  due-since (Passed o ∷ later) before c log says places uncut going hears = due-since later before c log.0 says places uncut (going-front limit edges k (Passed o) (later ++ before) going) hears
  due-since (Told o ∷ later) before c log says places uncut going hears =
      due-since later before c log.0 says places (closed-last limit edges edges (Told o) (later ++ before) uncut) (going-front limit edges k (Told o) (later ++ before) going) hears

  pub all-due : (later before : List Entry) → IsLog limit edges (later ++ before) → AllMaySay on k edges (later ++ before) → HasPlaces limit edges (later ++ before) →
      (room_of limit edges (later ++ before)).closed edges ≡ false → Going limit edges k (later ++ before) → Subscribes limit edges on (room_of limit edges before) →
      due limit edges on k edges (later ++ before) ≡ taken_since limit edges on k later before ++ due limit edges on k edges before
  all-due later before log says places uncut going s =
      due-since later before s.conn log says places uncut going
      (subscribes-hears before (log-back limit edges later before log) (says-back on k edges later before says) (places-back limit edges later before places) s)
