-- In a plant the broker may always have a further connection: never client has two.
use Rattle.std.proofs.Common.{◌≡◌, inl, inr, sym, ap, refl, subst, ◌∙◌, ℕ, zero, suc, ◌+◌, ◌-◌, ◌<◌, ◌≤◌, ◌^◌, Bool, true, false, not, ◌||◌, cond, eqb, leb, List, [], ◌∷◌, ◌++◌, length, Option, Some, None, is_some, slice_get, arith, true≢false, eq-eqb, eqb-true}
use Rattle.std.specs.List.{filter, find, list_any, AllByRecursion}
use Rattle.std.specs.Option.{option_map_or}
use Rattle.std.proofs.lemmas.Bool.{cases_eq, lt-leb, or_from, or_left, or_right}
use Rattle.spk_ingress.specs.declared.rule.Message.{Message}
use Rattle.spk_broker_rules.specs.Data.{Broker, Newcomer, Connection, Session}
use Rattle.spk_broker_rules.specs.Plan.{Event}
use Rattle.spk_broker_rules.specs.Plan as event
use Rattle.spk_broker_rules.specs.Step.{after, is_full, is_newcomer, knows, open_count, sits}
use Rattle.spk_plant_broker.specs.Data.{Input, Says, Breaks, Cuts, Ends, Entry, Took, Accepted, Refused, Passed, Told, Room}
use Rattle.spk_plant_broker.specs.Log.{IsLog, room_of, taken_of}
use Rattle.spk_plant_broker.specs.Step.{called, called_on, client_of, conn_at, known, may_open, next_conn, opened, packet_on, took}
use Rattle.spk_plant_relay.specs.Senders.{AreSenders}
use Rattle.spk_plant_relay.specs.Shown.{AllMaySay, HasPlaces}
use Rattle.spk_plant_relay.proofs.Base.{AllJoined, Base, joined-known, known-low}
use Rattle.spk_plant_relay.proofs.Facts.{Facts}
use Rattle.spk_plant_relay.proofs.Few.{state-of}
use Rattle.spk_plant_relay.proofs.Moves.{sat-found}
use Rattle.spk_plant_relay.proofs.Offers.{no-yes}

some-none : {X : Type 0} (x : X) → None ≡ Some x → ⊥
some-none x e = cc

same-some : (x y : ℕ) → ◌≡◌ {A = Option ℕ} (Some x) (Some y) → x ≡ y
same-some x y e = cc

-- ---- sessions with a connection

abbrev has_connection : Session → Bool
has_connection s = is_some s.here

abbrev elsewhere : ℕ → Session → Bool
elsewhere c s = not (sits c s)

connection-conn : (s : Session) → has_connection s ≡ true → (d : ℕ) × (sits d s ≡ true)
connection-conn s e = by s.here e
  where
    by : (o : Option Connection) → is_some o ≡ true → (d : ℕ) × (option_map_or (λ (l : Connection). eqb l.conn d) o false ≡ true)
    by None e = absurd (no-yes e)
    by (Some l) e = (l.conn, eq-eqb l.conn l.conn refl)

any-kept : (c d : ℕ) (xs : List Session) → list_any (sits d) (filter (elsewhere c) xs) ≡ true → list_any (sits d) xs ≡ true
any-kept c d [] e = e
any-kept c d (s ∷ xs) e = by (sits c s) (sits d s) refl e (any-kept c d xs)
  where
    by : (a b : Bool) → sits d s ≡ b → list_any (sits d) (cond (not a) (s ∷ filter (elsewhere c) xs) (filter (elsewhere c) xs)) ≡ true
        → (list_any (sits d) (filter (elsewhere c) xs) ≡ true → list_any (sits d) xs ≡ true) → (b || list_any (sits d) xs) ≡ true
    by true true same e rest = refl
    by false true same e rest = refl
    by true false same e rest = rest e
    by false false same e rest = rest (ap (λ x. x || list_any (sits d) (filter (elsewhere c) xs)) (sym same) ∙ e)

none-kept : (c : ℕ) (xs : List Session) → list_any (sits c) (filter (elsewhere c) xs) ≡ false
none-kept c [] = refl
none-kept c (s ∷ xs) = by (sits c s) refl (none-kept c xs)
  where
    by : (a : Bool) → sits c s ≡ a → list_any (sits c) (filter (elsewhere c) xs) ≡ false → list_any (sits c) (cond (not a) (s ∷ filter (elsewhere c) xs) (filter (elsewhere c) xs)) ≡ false
    by true at rest = rest
    by false at rest = or_from _ _ at rest

fewer-kept : (c d : ℕ) (xs : List Session) → length (filter (sits d) (filter (elsewhere c) xs)) ≤ length (filter (sits d) xs)
fewer-kept c d [] = omega arith
fewer-kept c d (s ∷ xs) = by (sits c s) (sits d s) refl (fewer-kept c d xs)
  where
    by : (a b : Bool) → sits d s ≡ b → length (filter (sits d) (filter (elsewhere c) xs)) ≤ length (filter (sits d) xs) →
        length (filter (sits d) (cond (not a) (s ∷ filter (elsewhere c) xs) (filter (elsewhere c) xs))) ≤ length (cond b (s ∷ filter (sits d) xs) (filter (sits d) xs))
    by true true at low = omega (arith, low)
    by true false at low = low
    by false b at low = subst (λ x. length (cond x (s ∷ filter (sits d) (filter (elsewhere c) xs)) (filter (sits d) (filter (elsewhere c) xs))) ≤ length (cond b (s ∷ filter (sits d) xs) (filter (sits d) xs))) (sym at) (same b)
      where
        same : (b : Bool) → length (cond b (s ∷ filter (sits d) (filter (elsewhere c) xs)) (filter (sits d) (filter (elsewhere c) xs))) ≤ length (cond b (s ∷ filter (sits d) xs) (filter (sits d) xs))
        same true = omega (arith, low)
        same false = low

-- those with a connection are those that sit on this one, and the others
parted : (c : ℕ) (xs : List Session) → length (filter has_connection xs) ≤ length (filter has_connection (filter (elsewhere c) xs)) + length (filter (sits c) xs)
parted c [] = omega arith
parted c (s ∷ xs) = by (sits c s) (has_connection s) refl (parted c xs)
  where
    by : (a b : Bool) → has_connection s ≡ b → length (filter has_connection xs) ≤ length (filter has_connection (filter (elsewhere c) xs)) + length (filter (sits c) xs) →
        length (cond b (s ∷ filter has_connection xs) (filter has_connection xs))
        ≤ length (filter has_connection (cond (not a) (s ∷ filter (elsewhere c) xs) (filter (elsewhere c) xs))) + length (cond a (s ∷ filter (sits c) xs) (filter (sits c) xs))
    by true true at low = omega (arith, low)
    by true false at low = omega (arith, low)
    by false b at low = subst (λ x. length (cond b (s ∷ filter has_connection xs) (filter has_connection xs)) ≤ length (cond x (s ∷ filter has_connection (filter (elsewhere c) xs)) (filter has_connection (filter (elsewhere c) xs))) + length (filter (sits c) xs))
        (sym at) (same b)
      where
        same : (b : Bool) → length (cond b (s ∷ filter has_connection xs) (filter has_connection xs)) ≤ length (cond b (s ∷ filter has_connection (filter (elsewhere c) xs)) (filter has_connection (filter (elsewhere c) xs))) + length (filter (sits c) xs)
        same true = omega (arith, low)
        same false = low

-- a session with a connection, whose client is one of the first so many, which has never other
abbrev pub HasClient : (ℕ → Option ℕ) → ℕ → List Session → Type 0
HasClient last m xs = (d : ℕ) → list_any (sits d) xs ≡ true → (j : ℕ) × (j < m) × (last j ≡ Some d)

no-connections : (last : ℕ → Option ℕ) (xs : List Session) → HasClient last 0 xs → length (filter has_connection xs) ≤ 0
no-connections last [] each = omega arith
no-connections last (s ∷ xs) each = by (has_connection s) refl (no-connections last xs (λ d e. each d (or_right _ _ e)))
  where
    by : (b : Bool) → has_connection s ≡ b → length (filter has_connection xs) ≤ 0 → length (cond b (s ∷ filter has_connection xs) (filter has_connection xs)) ≤ 0
    by true at rest = let d = connection-conn s at in let j = each d.0 (or_left _ _ d.1) in absurd (let low = j.1 in omega (arith, low))
    by false at rest = rest

few-connections : (last : ℕ → Option ℕ) (m : ℕ) (xs : List Session) → HasClient last m xs → ((d : ℕ) → length (filter (sits d) xs) ≤ 1) → length (filter has_connection xs) ≤ m
few-connections last zero xs each once = no-connections last xs each
few-connections last (suc m) xs each once = by (last m) refl (few-connections last m)
  where
    by : (o : Option ℕ) → last m ≡ o → ((ys : List Session) → HasClient last m ys → ((d : ℕ) → length (filter (sits d) ys) ≤ 1) → length (filter has_connection ys) ≤ m) → length (filter has_connection xs) ≤ suc m
    by None at fewer =
        let low = fewer xs (λ d e. let j = each d e in (j.0, below j.0 j.1 (λ same. some-none d (sym at ∙ ap last (sym same) ∙ j.2)), j.2)) once in
        omega (arith, low)
      where
        below : (j : ℕ) → j < suc m → (j ≡ m → ⊥) → j < m
        below j low other = omega (arith, low, other)
    by (Some c) at fewer =
        let rest = fewer (filter (elsewhere c) xs)
        (λ d e. let j = each d (any-kept c d xs e) in
        (j.0, below j.0 j.1 (λ same. true≢false (sym e ∙ ap (λ x. list_any (sits x) (filter (elsewhere c) xs)) (same-some d c (sym j.2 ∙ ap last same ∙ at)) ∙ none-kept c xs)), j.2))
        (λ d. let a = fewer-kept c d xs in let z = once d in omega (arith, a, z)) in
        let both = parted c xs in
        let one = once c in
        omega (arith, rest, both, one)
      where
        below : (j : ℕ) → j < suc m → (j ≡ m → ⊥) → j < m
        below j low other = omega (arith, low, other)

-- ---- clients

all-more : (m : ℕ) (os : List ℕ) (j : ℕ) → AllByRecursion (λ (x : ℕ). x < m) os → j < m → AllByRecursion (λ (x : ℕ). x < m) (os ++ j ∷ [])
all-more m [] j all low = (low, tt)
all-more m (o ∷ os) j all low = (all.0, all-more m os j all.1 low)

got-low : (m : ℕ) (os : List ℕ) (i : ℕ) → AllByRecursion (λ (x : ℕ). x < m) os → i < length os → (j : ℕ) × (slice_get os i ≡ Some j) × (j < m)
got-low m [] i all low = absurd (omega (arith, low))
got-low m (o ∷ os) zero all low = (o, refl, all.0)
got-low m (o ∷ os) (suc i) all low = got-low m os i all.1 (omega (arith, low))

client-low : (m : ℕ) (os : List ℕ) (d : ℕ) → AllByRecursion (λ (x : ℕ). x < m) os → 0 < d → d ≤ length os → (j : ℕ) × (client_of os d ≡ Some j) × (j < m)
client-low m os d all some low = by (eqb d 0) refl (got-low m os (d - 1) all (omega (arith, some, low)))
  where
    by : (b : Bool) → eqb d 0 ≡ b → (j : ℕ) × (slice_get os (d - 1) ≡ Some j) × (j < m) → (j : ℕ) × (cond b None (slice_get os (d - 1)) ≡ Some j) × (j < m)
    by true at g = absurd (let z = eqb-true d 0 at in omega (arith, some, z))
    by false at g = g

none-zero : Facts → (limit : ℕ) (es : List Event) → knows (after limit es) 0 ≡ false
none-zero f limit [] = refl
none-zero f limit (e ∷ es) = f.gone (after limit es) 0 e (f.lawful limit es) (omega arith) (none-zero f limit es)

count-waits : (c : ℕ) (gs : List Newcomer) → list_any (is_newcomer c) gs ≡ true → 1 ≤ length (filter (is_newcomer c) gs)
count-waits c [] e = absurd (no-yes e)
count-waits c (x ∷ xs) e = by (is_newcomer c x) refl (count-waits c xs)
  where
    by : (b : Bool) → is_newcomer c x ≡ b → (list_any (is_newcomer c) xs ≡ true → 1 ≤ length (filter (is_newcomer c) xs)) → 1 ≤ length (cond b (x ∷ filter (is_newcomer c) xs) (filter (is_newcomer c) xs))
    by true at rest = omega arith
    by false at rest = rest (sym (ap (λ b. b || list_any (is_newcomer c) xs) at) ∙ e)

count-sits : (c : ℕ) (ss : List Session) → is_some (find (sits c) ss) ≡ true → 1 ≤ length (filter (sits c) ss)
count-sits c [] e = absurd (no-yes e)
count-sits c (x ∷ xs) e = by (sits c x) refl (count-sits c xs)
  where
    by : (b : Bool) → sits c x ≡ b → (is_some (find (sits c) xs) ≡ true → 1 ≤ length (filter (sits c) xs)) → 1 ≤ length (cond b (x ∷ filter (sits c) xs) (filter (sits c) xs))
    by true at rest = omega arith
    by false at rest = rest (sym (ap (λ b. is_some (cond b (Some x) (find (sits c) xs))) at) ∙ e)

-- nobody waits for its first packet
no-newcomers : Facts → (limit : ℕ) (es : List Event) → AllJoined (after limit es) → length (after limit es).newcomers ≤ 0
no-newcomers f limit es all = by (after limit es).newcomers refl
  where
    by : (gs : List Newcomer) → (after limit es).newcomers ≡ gs → length gs ≤ 0
    by [] at = omega arith
    by (g ∷ gs) at =
        let waits : list_any (is_newcomer g.conn) (after limit es).newcomers ≡ true = ap (list_any (is_newcomer g.conn)) at ∙ or_left _ _ (eq-eqb g.conn g.conn refl) in
        let sat = all g.conn (or_left _ _ waits) in
        let a = count-waits g.conn (after limit es).newcomers waits in
        let b = count-sits g.conn (after limit es).sessions sat in
        let z = (f.lawful limit es).apart g.conn in
        absurd (omega (arith, a, b, z))

-- ---- clients along a log

-- how many connections were opened, by whom
pub record AreOpeners (m taken : ℕ) (os : List ℕ) : Type 0 where
  pub clients : AllByRecursion (λ (j : ℕ). j < m) os
  pub few : length os ≤ taken

openers-more : (m n : ℕ) (os : List ℕ) (j : ℕ) → j < m → AreOpeners m n os → AreOpeners m (n + 1) (os ++ j ∷ [])
openers-more m n os j low o = record { clients = all-more m os j o.clients low; few = let e = size os in let f = o.few in omega (arith, e, f) }
  where
    size : (os : List ℕ) → length (os ++ j ∷ []) ≡ length os + 1
    size [] = refl
    size (x ∷ xs) = let e = size xs in omega (arith, e)

openers-same : (m n : ℕ) (os : List ℕ) → AreOpeners m n os → AreOpeners m (n + 1) os
openers-same m n os o = record { clients = o.clients; few = let f = o.few in omega (arith, f) }

openers-on : (limit m n : ℕ) (r : Room) (event_on : ℕ → Event) (o : Option ℕ) → AreOpeners m n r.openers → AreOpeners m n (called_on limit r event_on o).openers
openers-on limit m n r event_on None h = h
openers-on limit m n r event_on (Some conn) h = h

openers-took : (limit edges m n : ℕ) (taken : List Message) (r : Room) (j : ℕ) (i : Input) → j < m → AreOpeners m n r.openers → AreOpeners m (n + 1) (took limit edges taken r j i).openers
openers-took limit edges m n taken r j (Says p) low h = by (conn_at limit r j)
  where
    opens : (b : Bool) → AreOpeners m (n + 1) (cond b (called limit (opened limit (length taken) r j) (event.Packet (next_conn limit r) p (length taken))) r).openers
    opens true = openers-more m n r.openers j low h
    opens false = openers-same m n r.openers h

    by : (o : Option ℕ) → AreOpeners m (n + 1) (packet_on limit (length taken) r j p o).openers
    by (Some conn) = openers-same m n r.openers h
    by None = opens (may_open limit r j)
openers-took limit edges m n taken r j (Breaks g) low h = openers-same m n _ (openers-on limit m n r (λ conn. event.Fault conn g (length taken)) (conn_at limit r j) h)
openers-took limit edges m n taken r j Cuts low h = openers-same m n _ (openers-on limit m n r (λ conn. event.Closed conn (length taken)) (conn_at limit r j) h)
openers-took limit edges m n taken r j Ends low h = openers-same m n r.openers h

all-front : (m : ℕ) (xs : List Message) (x : Message) → AllByRecursion (λ (y : Message). y.sender < m) (xs ++ x ∷ []) → AllByRecursion (λ (y : Message). y.sender < m) xs × (x.sender < m)
all-front m [] x all = (tt, all.0)
all-front m (y ∷ xs) x all = let rest = all-front m xs x all.1 in ((all.0, rest.0), rest.1)

length-more : (xs : List Message) (x : Message) → length (xs ++ x ∷ []) ≡ length xs + 1
length-more [] x = refl
length-more (y ∷ xs) x = let e = length-more xs x in omega (arith, e)

openers-of : (limit edges m : ℕ) (l : List Entry) → AllByRecursion (λ (y : Message). y.sender < m) (taken_of l) → AreOpeners m (length (taken_of l)) (room_of limit edges l).openers
openers-of limit edges m [] all = record { clients = tt; few = omega arith }
openers-of limit edges m (Took x i ∷ l) all =
    let parts = all-front m (taken_of l) x all in
    subst (λ n. AreOpeners m n (room_of limit edges (Took x i ∷ l)).openers) (sym (length-more (taken_of l) x))
    (openers-took limit edges m (length (taken_of l)) (taken_of (Took x i ∷ l)) (room_of limit edges l) x.sender i parts.1 (openers-of limit edges m l parts.0))
openers-of limit edges m (Accepted j o ∷ l) all = openers-of limit edges m l all
openers-of limit edges m (Refused j o ∷ l) all = openers-of limit edges m l all
openers-of limit edges m (Passed o ∷ l) all = openers-of limit edges m l all
openers-of limit edges m (Told o ∷ l) all =
    openers-on limit m (length (taken_of l)) _ (λ conn. event.Refused conn o.sort (length (taken_of l))) (known (after limit (room_of limit edges l).events) (Some o.conn)) (openers-of limit edges m l all)

-- ---- the broker isn't full

not-full : Facts → (limit : ℕ) (on : List ℕ → Bool) (m n : ℕ) (r : Room) → m ≤ 17 → n + 1 < 2 ^ 64 → AreOpeners m n r.openers → Base limit on r → AllJoined (after limit r.events) →
    is_full (after limit r.events) ≡ false
not-full f limit on m n r few counted openers b all =
    or_from (leb 1000 (open_count b0)) (leb 18446744073709551615 b0.given)
    (lt-leb 1000 (open_count b0) (let g = newcomers in let s = connections in omega (arith, g, s, few)))
    (lt-leb 18446744073709551615 b0.given (let o = openers.few in let z = b.sized in omega (arith, o, z, counted)))
  where
    b0 : Broker
    b0 = after limit r.events

    newcomers : length b0.newcomers ≤ 0
    newcomers = no-newcomers f limit r.events all

    positive : (d : ℕ) → knows b0 d ≡ true → 0 < d
    positive d there = elim (cases_eq d 0) [
      | inl z ↦ absurd (true≢false (sym there ∙ ap (knows b0) z ∙ none-zero f limit r.events))
      | inr other ↦ omega (arith, other)
    ]

    each : HasClient r.last m b0.sessions
    each d e =
        let there = joined-known b0 d (sat-found d b0.sessions e) in
        let low = known-low b0 d (f.lawful limit r.events) there in
        let size = b.sized in
        let j = client-low m r.openers d openers.clients (positive d there) (omega (arith, low, size)) in
        (j.0, j.2, b.newest j.0 d there j.1)

    connections : length (filter has_connection b0.sessions) ≤ m
    connections = few-connections r.last m b0.sessions each (λ d. let a = (f.lawful limit r.events).apart d in omega (arith, a))

pub places-of : Facts → (limit edges : ℕ) (on : List ℕ → Bool) (k : ℕ) → limit ≤ 65535 → (l : List Entry) → IsLog limit edges l → AllMaySay on k edges l → AreSenders edges (taken_of l) → HasPlaces limit edges l
places-of f limit edges on k small [] log says senders = tt
places-of f limit edges on k small (Took x i ∷ l) log says senders =
    let parts = all-front (edges + 1) (taken_of l) x senders.senders in
    let size = length-more (taken_of l) x in
    let counted : length (taken_of l) + 1 < 2 ^ 64 = subst (λ n. n < 2 ^ 64) size senders.counted in
    let before : AreSenders edges (taken_of l) = record { few = senders.few; senders = parts.0; counted = less (length (taken_of l)) counted } in
    let rest = places-of f limit edges on k small l log.0 says.1 before in
    let st = state-of f limit edges on k small l log.0 says.1 rest in
    let few = senders.few in
    (not-full f limit on (edges + 1) (length (taken_of l)) (room_of limit edges l) (omega (arith, few)) counted (openers-of limit edges (edges + 1) l parts.0) st.base st.joined, rest)
  where
    less : (n : ℕ) → n + 1 < 2 ^ 64 → n < 2 ^ 64
    less n low = omega (arith, low)
places-of f limit edges on k small (Accepted j o ∷ l) log says senders = places-of f limit edges on k small l log.0 says senders
places-of f limit edges on k small (Refused j o ∷ l) log says senders = places-of f limit edges on k small l log.0 says senders
places-of f limit edges on k small (Passed o ∷ l) log says senders = places-of f limit edges on k small l log.0 says senders
places-of f limit edges on k small (Told o ∷ l) log says senders = places-of f limit edges on k small l log.0 says senders
