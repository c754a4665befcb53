-- What a call of the broker leaves of the state.
use Rattle.std.proofs.Common.{◌≡◌, inl, inr, sym, ap, refl, subst, ◌∙◌, ℕ, ◌+◌, ◌<◌, ◌≤◌, max, Bool, true, false, ◌&&◌, ◌||◌, cond, eqb, List, [], ◌∷◌, ◌++◌, map, length, Option, Some, None, is_some, arith, true≢false, eq-eqb, eqb-true}
use Rattle.std.specs.List.{filter, find, list_any}
use Rattle.std.specs.Option.{option_map, option_map_or}
use Rattle.std.proofs.lemmas.Bool.{and_left, and_right, cases_Bool, or_from, or_left, or_parts}
use Rattle.spk_packets.specs.Fault.{first_of}
use Rattle.spk_packets.specs.Message.{Message as Packet}
use Rattle.spk_packets.specs.Spelling.{unwritable}
use Rattle.spk_session.specs.declared.answer.Sort.TheVariants as sort
use Rattle.spk_broker.specs.Sent.{outgoing}
use Rattle.spk_broker_rules.specs.Data.{Broker, Connection, Session}
use Rattle.spk_broker_rules.specs.Knowing.{is_opening}
use Rattle.spk_broker_rules.specs.Listening.{IsPlain, is_closed_in, is_joined, is_listening, lets_go, plain_publish, takes_back}
use Rattle.spk_broker_rules.specs.Plan.{Event, Open, shut}
use Rattle.spk_broker_rules.specs.Plan as event
use Rattle.spk_broker_rules.specs.Step.{Turn, act, acts, after, drops_in, is_newcomer, knows, connection_heard, noted, route, session_by, seen, sits, step}
use Rattle.spk_plant_broker.specs.Data.{Offer, Room}
use Rattle.spk_plant_broker.specs.Step.{called, client_of, conn_at, holds_client, is_client, is_dropped, known, next_conn, offer_of, opened}
use Rattle.spk_plant_relay.proofs.Base.{AllJoined, AllJoinedBut, Base, BringsAlike, Hears, base-called, base-opened, client-more, client-new, client-within, closes-client, drops-kept, hears-called, hears-opened, joined-called, joined-first, joined-known, joined-opened}
use Rattle.spk_plant_relay.proofs.Facts.{Facts}
use Rattle.spk_plant_relay.proofs.Offers.{Aim, aimed, aimed_at, all-aim, at-least, at-most, no-yes, offers_of, who-listens}
use Rattle.spk_plant_relay.proofs.State.{Covers, IsBegun, IsFinished, IsLive, Kept, State, covers-more, covers-next, waiting}

-- ---- a client's connection

some-none : {X : Type 0} (x : X) → None ≡ Some x → ⊥
some-none x e = cc

same-some : (x y : ℕ) → ◌≡◌ {A = Option ℕ} (Some x) (Some y) → x ≡ y
same-some x y e = cc

pub known-some : (b : Broker) (o : Option ℕ) (conn : ℕ) → known b o ≡ Some conn → (o ≡ Some conn) × (knows b conn ≡ true)
known-some b None conn e = absurd (some-none conn e)
known-some b (Some d) conn e = by (knows b d) refl e
  where
    by : (x : Bool) → knows b d ≡ x → cond x (Some d) None ≡ Some conn → (◌≡◌ {A = Option ℕ} (Some d) (Some conn)) × (knows b conn ≡ true)
    by true at f = (f, ap (knows b) (sym (same-some d conn f)) ∙ at)
    by false at f = absurd (some-none conn f)

pub known-is : (b : Broker) (o : Option ℕ) (conn : ℕ) → o ≡ Some conn → knows b conn ≡ true → known b o ≡ Some conn
known-is b o conn is there = ap (known b) is ∙ ap (λ x. cond x (Some conn) None) there

pub known-none : (b : Broker) (o : Option ℕ) (conn : ℕ) → known b o ≡ None → o ≡ Some conn → knows b conn ≡ false
known-none b o conn none is = elim (cases_Bool (knows b conn)) [
  | inl indeed ↦ absurd (some-none conn (sym none ∙ known-is b o conn is indeed))
  | inr never ↦ never
]

pub none-known : (b : Broker) (o : Option ℕ) → ((conn : ℕ) → o ≡ Some conn → knows b conn ≡ false) → known b o ≡ None
none-known b None h = refl
none-known b (Some conn) h = ap (λ x. cond x (Some conn) None) (h conn refl)

-- ---- who is finished stays so

gone-called : Facts → (limit : ℕ) (on : List ℕ → Bool) (r : Room) (e : Event) (k conn : ℕ) → Base limit on r → r.last k ≡ Some conn →
    knows (after limit r.events) conn ≡ false → knows (after limit (e ∷ r.events)) conn ≡ false
gone-called f limit on r e k conn b at never =
    let low = (client-within r.openers conn k (b.owned k conn at)).1 in
    let size = b.sized in
    f.gone (after limit r.events) conn e (f.lawful limit r.events) (omega (arith, low, size)) never

pub finished-called : Facts → (limit : ℕ) (on : List ℕ → Bool) (k : ℕ) (r : Room) (e : Event) → Base limit on r → IsFinished limit k r → IsFinished limit k (called limit r e)
finished-called f limit on k r e b done =
    (or_left _ _ done.0, none-known (after limit (e ∷ r.events)) (r.last k) (λ conn at. gone-called f limit on r e k conn b at (known-none (after limit r.events) (r.last k) conn done.1 at)))

pub finished-opened : Facts → (limit : ℕ) (on : List ℕ → Bool) (k now : ℕ) (r : Room) (j : ℕ) → Base limit on r → r.closed j ≡ false → IsFinished limit k r → IsFinished limit k (opened limit now r j)
finished-opened f limit on k now r j b standing done = (done.0, ap (known (after limit (Open now ∷ r.events))) (same (eqb k j) refl) ∙ gone)
  where
    same : (x : Bool) → eqb k j ≡ x → cond x (Some (next_conn limit r)) (r.last k) ≡ r.last k
    same true at = absurd (true≢false (sym done.0 ∙ ap r.closed (eqb-true k j at) ∙ standing))
    same false at = refl

    gone : known (after limit (Open now ∷ r.events)) (r.last k) ≡ None
    gone = none-known (after limit (Open now ∷ r.events)) (r.last k) (λ conn at. gone-called f limit on r (Open now) k conn b at (known-none (after limit r.events) (r.last k) conn done.1 at))

-- ---- what an event leaves

-- what stands after an event, of what stood before it
pub record Passes (limit : ℕ) (on : List ℕ → Bool) (h k : ℕ) (r later : Room) : Type 0 where
  pub base : Base limit on later
  pub joined : AllJoined (after limit later.events)
  pub live : IsLive limit h k later → IsLive limit h k r
  pub hears : (c : ℕ) → IsLive limit h k later → Hears limit on r h c → Hears limit on later h c
  pub drops : (c : ℕ) → IsLive limit h k later → Hears limit on r h c → drops_in c (after limit r.events) ≤ drops_in c (after limit later.events)
  pub untold : later.untold ≡ r.untold

-- the event neither ends the host's connection nor takes its grants back
abbrev pub LeavesHost : Room → ℕ → Event → Type 0
LeavesHost r h e = (c : ℕ) → r.last h ≡ Some c → (lets_go c e ≡ false) × (takes_back c e ≡ false)

pub passes-called : Facts → (limit : ℕ) (on : List ℕ → Bool) (h k : ℕ) (r : Room) (e : Event) → limit ≤ 65535 → is_opening e ≡ false → BringsAlike on e → LeavesHost r h e →
    Base limit on r → AllJoined (after limit r.events) → Passes limit on h k r (called limit r e)
passes-called f limit on h k r e small plain alike leaves b all = record {
  base = base-called f limit on r e plain alike b;
  joined = joined-called f limit r.events e plain all;
  live = λ live. record {
    standing = (or_parts _ _ live.standing).0;
    ringing = live.ringing;
    unfinished = λ done. live.unfinished (finished-called f limit on k r e b done);
  };
  hears = λ c live hears. now c live.standing hears;
  drops = λ c live hears. drops-kept f limit r.events e c small
      (joined-known (after limit r.events) c hears.joined)
      (joined-known (after limit (e ∷ r.events)) c (now c live.standing hears).joined);
  untold = refl;
}
  where
    now : (c : ℕ) → (called limit r e).closed h ≡ false → Hears limit on r h c → Hears limit on (called limit r e) h c
    now c standing hears = let quiet = leaves c hears.last in hears-called f limit on r e h c b quiet.0 quiet.1 standing hears

-- what an event of a connection of nobody else's says of the host's
pub passes-first : Facts → (limit : ℕ) (on : List ℕ → Bool) (h k : ℕ) (r : Room) (j now : ℕ) (p : Packet) → limit ≤ 65535 →
    conn_at limit r j ≡ None → r.closed j ≡ false → BringsAlike on (event.Packet (next_conn limit r) p now) →
    Base limit on r → AllJoined (after limit r.events) →
    Passes limit on h k r (called limit (opened limit now r j) (event.Packet (next_conn limit r) p now))
passes-first f limit on h k r j now p small none standing alike b all = record {
  base = base-called f limit on fresh e refl alike fresh-base;
  joined = joined-first f limit (Open now ∷ r.events) (next_conn limit r) p now (joined-opened f limit r.events now all);
  live = λ live. record {
    standing = (or_parts _ _ live.standing).0;
    ringing = live.ringing;
    unfinished = λ done. live.unfinished (finished-called f limit on k fresh e fresh-base (finished-opened f limit on k now r j b standing done));
  };
  hears = λ c live hears. last c live.standing hears;
  drops = λ c live hears.
      let a = drops-kept f limit r.events (Open now) c small (joined-known (after limit r.events) c hears.joined) (joined-known (after limit fresh.events) c (first c hears).joined) in
      let z = drops-kept f limit (Open now ∷ r.events) e c small (joined-known (after limit fresh.events) c (first c hears).joined) (joined-known (after limit (e ∷ fresh.events)) c (last c live.standing hears).joined) in
      le-le a z;
  untold = refl;
}
  where
    fresh : Room
    fresh = opened limit now r j

    e : Event
    e = event.Packet (next_conn limit r) p now

    fresh-base : Base limit on fresh
    fresh-base = base-opened f limit on now r j none b

    first : (c : ℕ) → Hears limit on r h c → Hears limit on fresh h c
    first c hears = hears-opened f limit on now r j h c none hears

    other : (c : ℕ) → Hears limit on r h c → eqb (next_conn limit r) c ≡ false
    other c hears = elim (cases_Bool (eqb (next_conn limit r) c)) [
      | inl same ↦ (let at = eqb-true (next_conn limit r) c same in
          let low = (client-within r.openers c h (b.owned h c hears.last)).1 in
          let size = b.sized in
          absurd (past c (length r.openers) (after limit r.events).given low size at))
      | inr never ↦ never
    ]
      where
        past : (c n g : ℕ) → c ≤ n → n ≡ g → g + 1 ≡ c → ⊥
        past c n g low size at = omega (arith, low, size, at)

    last : (c : ℕ) → (called limit fresh e).closed h ≡ false → Hears limit on r h c → Hears limit on (called limit fresh e) h c
    last c ringing hears = hears-called f limit on fresh e h c fresh-base (and_left _ _ (other c hears)) (and_left _ _ (other c hears)) ringing (first c hears)

    le-le : {x y z : ℕ} → x ≤ y → y ≤ z → x ≤ z
    le-le p q = omega (arith, p, q)

-- what is offered isn't the node's
pub quiet-after : (limit : ℕ) (on : List ℕ → Bool) (h k : ℕ) (r later : Room) (ps : List ℕ) (n : ℕ) (busy : Bool) → r.pending ≡ [] → Passes limit on h k r later →
    State limit on h k r ps n busy → State limit on h k later ps n false
quiet-after limit on h k r later ps n busy none pass st = record {
  base = pass.base;
  joined = pass.joined;
  rising = st.rising;
  within = st.within;
  few = st.few;
  one = λ b. absurd (no-yes b);
  aims = λ b. absurd (no-yes b);
  ready = λ b. absurd (no-yes b);
  kept = λ live begun.
      let x = st.kept (pass.live live) (before begun) in
      record {
        conn = x.conn;
        hears = pass.hears x.conn live x.hears;
        covers = covers-more ps n _ _ x.covers
            (more (waiting h busy r.pending) (aimed_at h x.conn r.untold) (aimed_at h x.conn later.untold) _ _ (waits busy) (ap (aimed_at h x.conn) pass.untold) (pass.drops x.conn live x.hears));
      };
}
  where
    waits : (b : Bool) → waiting h b r.pending ≡ 0
    waits true = ap (aimed h) none
    waits false = refl

    before : IsBegun ps 0 → IsBegun ps (waiting h busy r.pending)
    before (inl e) = inl e
    before (inr low) = absurd (omega (arith, low))

    more : (w u v d e : ℕ) → w ≡ 0 → v ≡ u → d ≤ e → w + u + d ≤ 0 + v + e
    more w u v d e a b c = omega (arith, a, b, c)

-- ---- a numbered message of a node that has joined

pub sat-found : (d : ℕ) (xs : List Session) → list_any (sits d) xs ≡ true → is_some (find (sits d) xs) ≡ true
sat-found d [] e = e
sat-found d (s ∷ xs) e = by (sits d s) e (sat-found d xs)
  where
    by : (x : Bool) → (x || list_any (sits d) xs) ≡ true → (list_any (sits d) xs ≡ true → is_some (find (sits d) xs) ≡ true) → is_some (cond x (Some s) (find (sits d) xs)) ≡ true
    by true e rest = refl
    by false e rest = rest e

-- the connection of a session is known
pub sat-known : (b : Broker) (d : ℕ) → list_any (sits d) b.sessions ≡ true → knows b d ≡ true
sat-known b d e = joined-known b d (sat-found d b.sessions e)

pub listens-sat : (topic : List ℕ) (d : ℕ) (xs : List Session) → list_any (λ (s : Session). sits d s && is_listening topic s) xs ≡ true → list_any (sits d) xs ≡ true
listens-sat topic d [] e = e
listens-sat topic d (s ∷ xs) e = by (sits d s) (is_listening topic s) e (listens-sat topic d xs)
  where
    by : (a b : Bool) → (a && b || list_any (λ (x : Session). sits d x && is_listening topic x) xs) ≡ true
        → (list_any (λ (x : Session). sits d x && is_listening topic x) xs ≡ true → list_any (sits d) xs ≡ true) → (a || list_any (sits d) xs) ≡ true
    by true b e rest = refl
    by false b e rest = rest e

pub relayed : Facts → (limit : ℕ) (on : List ℕ → Bool) (h k : ℕ) (r : Room) (ps : List ℕ) (n : ℕ) (busy : Bool) (conn now : ℕ) (topic payload : List ℕ) → limit ≤ 65535 →
    IsPlain topic payload → on topic ≡ true → r.pending ≡ [] → r.untold ≡ [] → r.last k ≡ Some conn → knows (after limit r.events) conn ≡ true →
    State limit on h k r ps n busy → State limit on h k (called limit r (event.Packet conn (plain_publish topic payload) now)) ps (n + 1) true
relayed f limit on h k r ps n busy conn now topic payload small plain is_on none told last there st = record {
  base = pass.base;
  joined = pass.joined;
  rising = st.rising;
  within = let w = st.within in omega (arith, w);
  few = st.few;
  one = λ b. let m = most in let u = ap (aimed h) told in omega (arith, m, u);
  aims = λ b c at. subst (Aim h c) (sym offered)
      (all-aim dropped r.openers topic payload h c b0.sessions (λ d sat of. same-some d c (sym (owner d sat of) ∙ at)));
  ready = λ b low. (ready low, let w = st.within in omega (arith, w));
  kept = kept;
}
  where
    b0 : Broker
    b0 = after limit r.events

    e : Event
    e = event.Packet conn (plain_publish topic payload) now

    dropped : ℕ → Bool
    dropped = is_dropped r.over r.closed

    joined : is_joined b0 conn ≡ true
    joined = st.joined conn there

    pass : Passes limit on h k r (called limit r e)
    pass = passes-called f limit on h k r e small refl (λ one other x y. tt) (λ c at. (and_right _ _ refl, and_right _ _ refl)) st.base st.joined

    offered : (called limit r e).pending ≡ offers_of dropped r.openers topic payload b0.sessions
    offered = ap (λ ss. map (offer_of r.openers dropped) (map outgoing ss)) (f.sends b0 conn now topic payload plain joined)

    closes : (step b0 e).closes ≡ []
    closes = f.closes b0 conn now topic payload plain joined

    owner : (d : ℕ) → list_any (sits d) b0.sessions ≡ true → client_of r.openers d ≡ Some h → r.last h ≡ Some d
    owner d sat of = st.base.newest h d (sat-known b0 d sat) of

    few-sessions : (c : ℕ) → length (filter (sits c) b0.sessions) ≤ 1
    few-sessions c = let a = (f.lawful limit r.events).apart c in omega (arith, a)

    most : aimed h (called limit r e).pending ≤ 1
    most = subst (λ os. aimed h os ≤ 1) (sym offered) (by (r.last h) refl)
      where
        by : (o : Option ℕ) → r.last h ≡ o → aimed h (offers_of dropped r.openers topic payload b0.sessions) ≤ 1
        by None at =
            let a = at-most dropped r.openers topic payload h 0 b0.sessions (λ d sat of. absurd (some-none d (sym at ∙ owner d sat of))) in
            let z = few-sessions 0 in
            omega (arith, a, z)
        by (Some c) at =
            let a = at-most dropped r.openers topic payload h c b0.sessions (λ d sat of. same-some d c (sym (owner d sat of) ∙ at)) in
            let z = few-sessions c in
            omega (arith, a, z)

    standing : (j : ℕ) → r.closed j ≡ false → (called limit r e).closed j ≡ false
    standing j stands = or_from _ _ stands (ap (holds_client r.openers j) closes)

    still : knows (after limit (e ∷ r.events)) conn ≡ true
    still = elim (f.stands b0 conn e (f.lawful limit r.events) there (and_right _ _ refl)) [
      | inl indeed ↦ indeed
      | inr closed ↦ absurd (no-yes (sym (ap (list_any (λ d. eqb d conn)) closes) ∙ closed))
    ]

    who : 0 < aimed h (called limit r e).pending → (d : ℕ) × (client_of r.openers d ≡ Some h) × (dropped h ≡ false) × (list_any (λ (s : Session). sits d s && is_listening topic s) b0.sessions ≡ true)
    who low = who-listens dropped r.openers topic payload h b0.sessions (subst (λ os. 0 < aimed h os) offered low)

    ready : 0 < aimed h (called limit r e).pending → IsLive limit h k (called limit r e)
    ready low = let parts = or_parts r.over (r.closed h) (who low).2 in record {
      standing = standing h parts.1;
      ringing = parts.0;
      unfinished = λ done. some-none conn (sym done.1 ∙ known-is (after limit (e ∷ r.events)) (r.last k) conn last still);
    }

    -- whoever was shown something hears the next
    goes-on : IsLive limit h k (called limit r e) → (ps ≡ [] → ⊥) → Kept limit on h (called limit r e) ps (n + 1) true
    goes-on live begun =
        let x = st.kept (pass.live live) (inl begun) in
        let l = pass.live live in
        let heard = at-least dropped r.openers topic payload h x.conn b0.sessions (x.hears.listens_to topic is_on) (st.base.owned h x.conn x.hears.last) (or_from _ _ l.ringing l.standing) in
        let some : 0 < aimed h (called limit r e).pending = subst (λ os. 0 < aimed h os) (sym offered) heard in
        record {
          conn = x.conn;
          hears = pass.hears x.conn live x.hears;
          covers = covers-next ps n _ _ x.covers
              (more (waiting h busy r.pending) (aimed_at h x.conn r.untold) _ _ _ (waits busy) some (pass.drops x.conn live x.hears));
        }
      where
        waits : (b : Bool) → waiting h b r.pending ≡ 0
        waits true = ap (aimed h) none
        waits false = refl

        more : (w u a d z : ℕ) → w ≡ 0 → 0 < a → d ≤ z → w + u + d + 1 ≤ a + u + z
        more w u a d z p q s = omega (arith, p, q, s)

    kept : IsLive limit h k (called limit r e) → IsBegun ps (waiting h true (called limit r e).pending) → Kept limit on h (called limit r e) ps (n + 1) true
    kept live (inl begun) = goes-on live begun
    kept live (inr low) = by ps refl
      where
        found : (d : ℕ) × (client_of r.openers d ≡ Some h) × (dropped h ≡ false) × (list_any (λ (s : Session). sits d s && is_listening topic s) b0.sessions ≡ true)
        found = who low

        hears : Hears limit on r h found.0
        hears = record {
          last = owner found.0 (listens-sat topic found.0 b0.sessions found.3) found.1;
          joined = f.heard b0 found.0 topic found.3;
          listens_to = λ other there. sym (f.alike b0 found.0 topic other (st.base.filters topic other is_on there)) ∙ found.3;
        }

        no-list : (q : ℕ) (qs : List ℕ) → q ∷ qs ≡ [] → ⊥
        no-list q qs e = cc

        by : (qs : List ℕ) → ps ≡ qs → Kept limit on h (called limit r e) ps (n + 1) true
        by [] at = record {
          conn = found.0;
          hears = pass.hears found.0 live hears;
          covers = subst (λ (qs : List ℕ). Covers qs (n + 1) (waiting h true (called limit r e).pending + aimed_at h found.0 r.untold + drops_in found.0 (after limit (e ∷ r.events)))) (sym at) tt;
        }
        by (q ∷ qs) at = goes-on live (λ empty. no-list q qs (sym at ∙ empty))

-- ---- a numbered message of a node without a connection

heard-conn : (d c clock : ℕ) (o : Option Connection) → option_map_or (λ (l : Connection). eqb l.conn d) (option_map (connection_heard c clock) o) false ≡ option_map_or (λ (l : Connection). eqb l.conn d) o false
heard-conn d c clock None = refl
heard-conn d c clock (Some l) = by (eqb l.conn c)
  where
    by : (x : Bool) → option_map_or (λ (l : Connection). eqb l.conn d) (Some (cond x (record l { heard = clock }) l)) false ≡ eqb l.conn d
    by true = refl
    by false = refl

-- none sits there after what was noted
unsat-heard : (d c clock : ℕ) (xs : List Session) → is_some (find (sits d) xs) ≡ false → find (sits d) (map (λ (s : Session). record s { here = option_map (connection_heard c clock) s.here }) xs) ≡ None
unsat-heard d c clock [] e = refl
unsat-heard d c clock (s ∷ xs) e = by (sits d s) refl e (unsat-heard d c clock xs)
  where
    by : (x : Bool) → sits d s ≡ x → is_some (cond x (Some s) (find (sits d) xs)) ≡ false
        → (is_some (find (sits d) xs) ≡ false → find (sits d) (map (λ (s : Session). record s { here = option_map (connection_heard c clock) s.here }) xs) ≡ None)
        → find (sits d) (map (λ (s : Session). record s { here = option_map (connection_heard c clock) s.here }) (s ∷ xs)) ≡ None
    by true at f rest = absurd (true≢false f)
    by false at f rest =
        ap (λ x. cond x (Some (record s { here = option_map (connection_heard c clock) s.here })) (find (sits d) (map (λ (s : Session). record s { here = option_map (connection_heard c clock) s.here }) xs))) (heard-conn d c clock s.here ∙ at)
        ∙ rest f

abbrev Shut : ℕ → Turn → Type 0
Shut d t = (t.sends ≡ []) × (t.closes ≡ d ∷ [])

-- it is closed, and nothing is sent
shut-turn : Facts → (d : ℕ) (t : Turn) → session_by d t.broker.sessions ≡ None → t.sends ≡ [] → t.closes ≡ [] → t.waiting ≡ [] → Shut d (acts (shut d) t)
shut-turn f d t none sends closes idle =
    subst (Shut d) (sym (f.done last (ap (λ (x : Turn). x.waiting) left ∙ idle))) (ap (λ (x : Turn). x.sends) left ∙ sends, ap (λ (x : Turn). x.closes ++ d ∷ []) left ∙ ap (λ xs. xs ++ d ∷ []) closes)
  where
    gone : Turn
    gone = act (event.Leave d true) t

    left : gone ≡ Rattle.spk_broker_rules.specs.Step.leave_at None d true t
    left = ap (λ o. Rattle.spk_broker_rules.specs.Step.leave_at o d true t) none

    last : Turn
    last = act (event.Tell d) gone

pub first-shut : Facts → (b : Broker) (d now : ℕ) (topic payload : List ℕ) → is_joined b d ≡ false → Shut d (step b (event.Packet d (plain_publish topic payload) now))
unfolding step
first-shut f b d now topic payload un = by (is_some (first_of (unwritable (plain_publish topic payload))))
  where
    t : Turn
    t = noted b (event.Packet d (plain_publish topic payload) now)

    none : session_by d t.broker.sessions ≡ None
    none = unsat-heard d d (max b.clock now) b.sessions un

    end : Shut d (acts (shut d) t)
    end = shut-turn f d t none refl refl refl

    by : (x : Bool) → Shut d (acts (cond x (shut d) (cond (is_some (session_by d t.broker.sessions)) (event.next_packet (seen t.broker (event.Packet d (plain_publish topic payload) now)) d (plain_publish topic payload)) (shut d))) t)
    by true = end
    by false = subst (λ (o : Option Session). Shut d (acts (cond (is_some o) (event.next_packet (seen t.broker (event.Packet d (plain_publish topic payload) now)) d (plain_publish topic payload)) (shut d)) t)) (sym none) end

opens-none : (b : Broker) (now : ℕ) → knows b (b.given + 1) ≡ false → is_joined (step b (Open now)).broker (b.given + 1) ≡ false
unfolding step
opens-none b now none = (or_parts (list_any (is_newcomer (b.given + 1)) b.newcomers) (is_joined b (b.given + 1)) none).1

pub open-joins-none : Facts → (limit : ℕ) (es : List Event) (now : ℕ) → is_joined (after limit (Open now ∷ es)) ((after limit es).given + 1) ≡ false
open-joins-none f limit es now = opens-none (after limit es) now (f.fresh (after limit es) (f.lawful limit es))

pub unjoined : Facts → (limit : ℕ) (on : List ℕ → Bool) (h k : ℕ) (r : Room) (ps : List ℕ) (n : ℕ) (busy : Bool) (now : ℕ) (topic payload : List ℕ) → limit ≤ 65535 →
    r.untold ≡ [] → conn_at limit r k ≡ None → r.closed k ≡ false →
    State limit on h k r ps n busy → State limit on h k (called limit (opened limit now r k) (event.Packet (next_conn limit r) (plain_publish topic payload) now)) ps (n + 1) true
unjoined f limit on h k r ps n busy now topic payload small told none standing st = record {
  base = pass.base;
  joined = pass.joined;
  rising = st.rising;
  within = let w = st.within in omega (arith, w);
  few = st.few;
  one = λ b. let m = ap (aimed h) empty in let u = ap (aimed h) told in omega (arith, m, u);
  aims = λ b c at. subst (Aim h c) (sym empty) tt;
  ready = λ b low. absurd (let m = ap (aimed h) empty in omega (arith, m, low));
  kept = λ live begun. absurd (live.unfinished done);
}
  where
    d : ℕ
    d = next_conn limit r

    fresh : Room
    fresh = opened limit now r k

    e : Event
    e = event.Packet d (plain_publish topic payload) now

    pass : Passes limit on h k r (called limit fresh e)
    pass = passes-first f limit on h k r k now (plain_publish topic payload) small none standing (λ one other x y. tt) st.base st.joined

    shuts : Shut d (step (after limit fresh.events) e)
    shuts = first-shut f (after limit fresh.events) d now topic payload (open-joins-none f limit r.events now)

    empty : (called limit fresh e).pending ≡ []
    empty = ap (λ ss. map (offer_of fresh.openers (is_dropped fresh.over fresh.closed)) (map outgoing ss)) shuts.0

    closed : is_closed_in d (step (after limit fresh.events) e) ≡ true
    closed = ap (list_any (λ x. eqb x d)) shuts.1 ∙ or_left _ _ (eq-eqb d d refl)

    of : client_of fresh.openers d ≡ Some k
    of = ap (client_of fresh.openers) (ap (λ n. n + 1) (sym st.base.sized)) ∙ client-new r.openers k

    last : fresh.last k ≡ Some d
    last = ap (λ x. cond x (Some d) (r.last k)) (eq-eqb k k refl)

    done : IsFinished limit k (called limit fresh e)
    done = (
      closes-client f limit fresh e k d of closed,
      none-known (after limit (e ∷ fresh.events)) (fresh.last k) (λ c at.
          ap (knows (after limit (e ∷ fresh.events))) (same-some c d (sym at ∙ last))
          ∙ f.closed (after limit fresh.events) d e (f.lawful limit fresh.events) closed),
    )

-- ---- a refusal is told

pub refusal-told : Facts → (limit : ℕ) (on : List ℕ → Bool) (h k : ℕ) (r : Room) (ps : List ℕ) (n now : ℕ) (busy : Bool) (o : Offer) (rest : List Offer) → limit ≤ 65535 →
    r.pending ≡ [] → knows (after limit r.events) o.conn ≡ true →
    State limit on h k (record r { untold = o ∷ rest }) ps n busy →
    State limit on h k (called limit (record r { untold = rest }) (event.Refused o.conn o.sort now)) ps n false
refusal-told f limit on h k r ps n now busy o rest small none there st = record {
  base = pass.base;
  joined = pass.joined;
  rising = st.rising;
  within = st.within;
  few = st.few;
  one = λ b. absurd (no-yes b);
  aims = λ b. absurd (no-yes b);
  ready = λ b. absurd (no-yes b);
  kept = λ live begun.
      let l = pass.live live in
      let x = st.kept (record { standing = l.standing; ringing = l.ringing; unfinished = l.unfinished }) (before begun) in
      record {
        conn = x.conn;
        hears = pass.hears x.conn live x.hears;
        covers = covers-more ps n _ _ x.covers (counted x.conn live x.hears (eqb o.conn x.conn) refl);
      };
}
  where
    e : Event
    e = event.Refused o.conn o.sort now

    r1 : Room
    r1 = record r { untold = rest }

    pass : Passes limit on h k r1 (called limit r1 e)
    pass = passes-called f limit on h k r1 e small refl (λ one other x y. tt) (λ c at. (refl, refl)) st.base st.joined

    waits : (b : Bool) → waiting h b r.pending ≡ 0
    waits true = ap (aimed h) none
    waits false = refl

    before : IsBegun ps 0 → IsBegun ps (waiting h busy r.pending)
    before (inl e) = inl e
    before (inr low) = absurd (omega (arith, low))

    at-most-one : (g : Bool) (m : ℕ) → cond g (m + 1) m ≤ m + 1
    at-most-one true m = omega arith
    at-most-one false m = omega arith

    -- one drop more, or the host is closed
    drop : (c : ℕ) → IsLive limit h k (called limit r1 e) → Hears limit on r1 h c → o.conn ≡ c →
        drops_in c (after limit r.events) + 1 ≤ drops_in c (after limit (e ∷ r.events))
    drop c live hears same = by o.sort refl
      where
        by : (s : _) → o.sort ≡ s → drops_in c (after limit r.events) + 1 ≤ drops_in c (after limit (e ∷ r.events))
        by sort.QosZero at =
            let is : e ≡ event.Refused c sort.QosZero now = ap (λ d. event.Refused d o.sort now) same ∙ ap (λ s. event.Refused c s now) at in
            let stays = joined-known (after limit (e ∷ r.events)) c (pass.hears c live hears).joined in
            subst (λ (x : Event). drops_in c (after limit r.events) + 1 ≤ drops_in c (after limit (x ∷ r.events))) (sym is)
            (Rattle.spk_plant_relay.proofs.Base.drops-one f limit r.events c now small (joined-known (after limit r.events) c hears.joined)
            (subst (λ (x : Event). knows (after limit (x ∷ r.events)) c ≡ true) is stays))
        by sort.Other at =
            let is : e ≡ event.Refused c sort.Other now = ap (λ d. event.Refused d o.sort now) same ∙ ap (λ s. event.Refused c s now) at in
            let told : is_closed_in c (step (after limit r.events) e) ≡ true = ap (λ (x : Event). is_closed_in c (step (after limit r.events) x)) is ∙ f.other (after limit r.events) c now in
            absurd (true≢false (sym (closes-client f limit r1 e h c (st.base.owned h c hears.last) told) ∙ live.standing))

    counted : (c : ℕ) → IsLive limit h k (called limit r1 e) → Hears limit on r1 h c → (x : Bool) → eqb o.conn c ≡ x →
        waiting h busy r.pending + cond (is_client h o.to && eqb o.conn c) (aimed_at h c rest + 1) (aimed_at h c rest) + drops_in c (after limit r.events)
        ≤ 0 + aimed_at h c rest + drops_in c (after limit (e ∷ r.events))
    counted c live hears true at =
        let w = waits busy in
        let a = at-most-one (is_client h o.to && eqb o.conn c) (aimed_at h c rest) in
        let d = drop c live hears (eqb-true o.conn c at) in
        omega (arith, w, a, d)
    counted c live hears false at =
        let w = waits busy in
        let a : cond (is_client h o.to && eqb o.conn c) (aimed_at h c rest + 1) (aimed_at h c rest) ≡ aimed_at h c rest =
        ap (λ b. cond b (aimed_at h c rest + 1) (aimed_at h c rest)) (and_right _ _ at) in
        let d = pass.drops c live hears in
        omega (arith, w, a, d)

-- of a connection that is gone nothing is told
pub refusal-passed : Facts → (limit : ℕ) (on : List ℕ → Bool) (h k : ℕ) (r : Room) (ps : List ℕ) (n : ℕ) (busy : Bool) (o : Offer) (rest : List Offer) →
    r.pending ≡ [] → knows (after limit r.events) o.conn ≡ false →
    State limit on h k (record r { untold = o ∷ rest }) ps n busy → State limit on h k (record r { untold = rest }) ps n false
refusal-passed f limit on h k r ps n busy o rest none gone st = record {
  base = st.base;
  joined = st.joined;
  rising = st.rising;
  within = st.within;
  few = st.few;
  one = λ b. absurd (no-yes b);
  aims = λ b. absurd (no-yes b);
  ready = λ b. absurd (no-yes b);
  kept = λ live begun.
      let x = st.kept (record { standing = live.standing; ringing = live.ringing; unfinished = live.unfinished }) (before begun) in
      record {
        conn = x.conn;
        hears = x.hears;
        covers = covers-more ps n _ _ x.covers (counted x.conn x.hears);
      };
}
  where
    waits : (b : Bool) → waiting h b r.pending ≡ 0
    waits true = ap (aimed h) none
    waits false = refl

    before : IsBegun ps 0 → IsBegun ps (waiting h busy r.pending)
    before (inl e) = inl e
    before (inr low) = absurd (omega (arith, low))

    counted : (c : ℕ) → Hears limit on r h c →
        waiting h busy r.pending + cond (is_client h o.to && eqb o.conn c) (aimed_at h c rest + 1) (aimed_at h c rest) + drops_in c (after limit r.events)
        ≤ 0 + aimed_at h c rest + drops_in c (after limit r.events)
    counted c hears =
        let w = waits busy in
        let other : eqb o.conn c ≡ false = elim (cases_Bool (eqb o.conn c)) [
          | inl same ↦ absurd (true≢false (sym (joined-known (after limit r.events) c hears.joined) ∙ ap (knows (after limit r.events)) (sym (eqb-true o.conn c same)) ∙ gone))
          | inr never ↦ never
        ] in
        let a : cond (is_client h o.to && eqb o.conn c) (aimed_at h c rest + 1) (aimed_at h c rest) ≡ aimed_at h c rest =
        ap (λ b. cond b (aimed_at h c rest + 1) (aimed_at h c rest)) (and_right _ _ other) in
        omega (arith, w, a)
