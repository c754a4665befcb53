-- What holds of the connections of a plant's clients at every moment of a log.
use Rattle.std.proofs.Common.{◌≡◌, inl, inr, sym, ap, refl, subst, ◌∙◌, ℕ, zero, suc, ◌+◌, ◌-◌, ◌<◌, ◌≤◌, max, Bool, true, false, cond, eqb, List, [], ◌∷◌, ◌++◌, length, Option, Some, None, is_some, slice_get, arith, true≢false, eq-eqb, eqb-true, leb-false}
use Rattle.std.specs.List.{find, list_any, AllByRecursion}
use Rattle.std.specs.Option.{option_map_or}
use Rattle.std.proofs.lemmas.Bool.{cases_Bool, cases_eq, or_cases, or_left, or_right}
use Rattle.std.proofs.lemmas.Option.{slice_get_within}
use Rattle.spk_packets.specs.Message.{Message as Packet}
use Rattle.spk_session.specs.declared.answer.Sort.TheVariants as sort
use Rattle.spk_session.specs.Step.{is_spent, one_more}
use Rattle.spk_broker_rules.specs.Data.{Broker, Newcomer, Connection, Session}
use Rattle.spk_broker_rules.specs.Dropping.{HasFew, is_drop}
use Rattle.spk_broker_rules.specs.Knowing.{is_opening}
use Rattle.spk_broker_rules.specs.Lawful.{IsLawful, IsLow}
use Rattle.spk_broker_rules.specs.Listening.{is_closed_in, is_joined, lets_go, listens, takes_back}
use Rattle.spk_broker_rules.specs.Plan.{Event, Open}
use Rattle.spk_broker_rules.specs.Plan as event
use Rattle.spk_broker_rules.specs.Step.{after, drops_in, is_newcomer, knows, session_by, sits, step}
use Rattle.spk_broker_rules.specs.Topics.{Brings, FiltersIn, FitsAlike, HasFilters}
use Rattle.spk_plant_broker.specs.Data.{Room}
use Rattle.spk_plant_broker.specs.Step.{called, client_of, conn_at, holds_client, is_client, known, next_conn, opened}
use Rattle.spk_plant_relay.proofs.Facts.{Facts}
use Rattle.spk_plant_relay.proofs.Offers.{no-yes}

-- ---- numbers of connections

some-none : {X : Type 0} (x : X) → None ≡ Some x → ⊥
some-none x e = cc

same-some : (x y : ℕ) → ◌≡◌ {A = Option ℕ} (Some x) (Some y) → x ≡ y
same-some x y e = cc

pub client-within : (os : List ℕ) (conn k : ℕ) → client_of os conn ≡ Some k → (0 < conn) × (conn ≤ length os)
client-within os conn k e = by (eqb conn 0) refl e
  where
    by : (b : Bool) → eqb conn 0 ≡ b → cond b None (slice_get os (conn - 1)) ≡ Some k → (0 < conn) × (conn ≤ length os)
    by true at f = absurd (some-none k f)
    by false at f = elim (cases_eq conn 0) [
      | inl zero_is ↦ absurd (true≢false (sym (eq-eqb conn 0 zero_is) ∙ at))
      | inr other ↦ (let inside = slice_get_within os (conn - 1) k f in (omega (arith, other), omega (arith, inside)))
    ]

get-more : (os : List ℕ) (x i j : ℕ) → slice_get os i ≡ Some j → slice_get (os ++ x ∷ []) i ≡ Some j
get-more [] x i j e = absurd (some-none j e)
get-more (o ∷ os) x zero j e = e
get-more (o ∷ os) x (suc i) j e = get-more os x i j e

get-old : (os : List ℕ) (x i j : ℕ) → i < length os → slice_get (os ++ x ∷ []) i ≡ Some j → slice_get os i ≡ Some j
get-old [] x i j low e = absurd (omega (arith, low))
get-old (o ∷ os) x zero j low e = e
get-old (o ∷ os) x (suc i) j low e = get-old os x i j (omega (arith, low)) e

get-new : (os : List ℕ) (x : ℕ) → slice_get (os ++ x ∷ []) (length os) ≡ Some x
get-new [] x = refl
get-new (o ∷ os) x = get-new os x

pub client-more : (os : List ℕ) (x conn j : ℕ) → client_of os conn ≡ Some j → client_of (os ++ x ∷ []) conn ≡ Some j
client-more os x conn j e = by (eqb conn 0) e
  where
    by : (b : Bool) → cond b None (slice_get os (conn - 1)) ≡ Some j → cond b None (slice_get (os ++ x ∷ []) (conn - 1)) ≡ Some j
    by true f = f
    by false f = get-more os x (conn - 1) j f

pub client-old : (os : List ℕ) (x conn j : ℕ) → conn ≤ length os → client_of (os ++ x ∷ []) conn ≡ Some j → client_of os conn ≡ Some j
client-old os x conn j low e = by (eqb conn 0) refl e
  where
    by : (b : Bool) → eqb conn 0 ≡ b → cond b None (slice_get (os ++ x ∷ []) (conn - 1)) ≡ Some j → cond b None (slice_get os (conn - 1)) ≡ Some j
    by true at f = f
    by false at f = elim (cases_eq conn 0) [
      | inl zero_is ↦ absurd (true≢false (sym (eq-eqb conn 0 zero_is) ∙ at))
      | inr other ↦ get-old os x (conn - 1) j (omega (arith, low, other)) f
    ]

pub client-new : (os : List ℕ) (x : ℕ) → client_of (os ++ x ∷ []) (length os + 1) ≡ Some x
client-new os x = by (eqb (length os + 1) 0) refl
  where
    at : length os + 1 - 1 ≡ length os
    at = omega arith

    by : (b : Bool) → eqb (length os + 1) 0 ≡ b → cond b None (slice_get (os ++ x ∷ []) (length os + 1 - 1)) ≡ Some x
    by true e = absurd (let same = eqb-true (length os + 1) 0 e in omega (arith, same))
    by false e = ap (slice_get (os ++ x ∷ [])) at ∙ get-new os x

-- ---- who is known

newcomers-low : (n c : ℕ) (gs : List Newcomer) → AllByRecursion (λ (g : Newcomer). g.conn ≤ n) gs → list_any (is_newcomer c) gs ≡ true → c ≤ n
newcomers-low n c [] all e = absurd (no-yes e)
newcomers-low n c (g ∷ gs) all e = elim (or_cases (eqb g.conn c) (list_any (is_newcomer c) gs) e) [
  | inl here ↦ subst (λ (x : ℕ). x ≤ n) (eqb-true g.conn c here) all.0
  | inr later ↦ newcomers-low n c gs all.1 later
]

connection-low : (n c : ℕ) (o : Option Connection) → IsLow n o → option_map_or (λ (l : Connection). eqb l.conn c) o false ≡ true → c ≤ n
connection-low n c None low e = absurd (no-yes e)
connection-low n c (Some l) low e = subst (λ (x : ℕ). x ≤ n) (eqb-true l.conn c e) low

sessions-low : (n c : ℕ) (ss : List Session) → AllByRecursion (λ (s : Session). IsLow n s.here) ss → is_some (find (sits c) ss) ≡ true → c ≤ n
sessions-low n c [] all e = absurd (no-yes e)
sessions-low n c (s ∷ ss) all e = by (sits c s) refl e (sessions-low n c ss all.1)
  where
    by : (b : Bool) → sits c s ≡ b → is_some (cond b (Some s) (find (sits c) ss)) ≡ true → (is_some (find (sits c) ss) ≡ true → c ≤ n) → c ≤ n
    by true at f rest = connection-low n c s.here all.0 at
    by false at f rest = rest f

pub known-low : (b : Broker) (c : ℕ) → IsLawful b → knows b c ≡ true → c ≤ b.given
known-low b c l e = elim (or_cases (list_any (is_newcomer c) b.newcomers) (is_some (session_by c b.sessions)) e) [
  | inl waits ↦ newcomers-low b.given c b.newcomers l.newcomers waits
  | inr sat ↦ sessions-low b.given c b.sessions l.connections sat
]

pub joined-known : (b : Broker) (c : ℕ) → is_joined b c ≡ true → knows b c ≡ true
joined-known b c e = or_right (list_any (is_newcomer c) b.newcomers) (is_some (session_by c b.sessions)) e

-- ---- an event

pub kept-given : Facts → (limit : ℕ) (es : List Event) (e : Event) → is_opening e ≡ false → (after limit (e ∷ es)).given ≡ (after limit es).given
kept-given f limit es e plain =
    f.given (after limit es) e (f.lawful limit es) ∙ ap (λ x. cond x ((after limit es).given + 1) (after limit es).given) plain

pub known-before : Facts → (limit : ℕ) (es : List Event) (e : Event) (c : ℕ) → is_opening e ≡ false → knows (after limit (e ∷ es)) c ≡ true → knows (after limit es) c ≡ true
known-before f limit es e c plain now = elim (cases_Bool (knows (after limit es) c)) [
  | inl indeed ↦ indeed
  | inr never ↦ (let low = known-low (after limit (e ∷ es)) c (f.lawful limit (e ∷ es)) now in let same = kept-given f limit es e plain in
      absurd (true≢false (sym now ∙ f.gone (after limit es) c e (f.lawful limit es) (omega (arith, low, same)) never)))
]

-- it isn't closed where it is known afterwards
not-closed : Facts → (limit : ℕ) (es : List Event) (e : Event) (c : ℕ) → knows (after limit (e ∷ es)) c ≡ true → is_closed_in c (step (after limit es) e) ≡ true → ⊥
not-closed f limit es e c now closed = true≢false (sym now ∙ f.closed (after limit es) c e (f.lawful limit es) closed)

pub stays-joined : Facts → (limit : ℕ) (es : List Event) (e : Event) (c : ℕ) → knows (after limit (e ∷ es)) c ≡ true → is_joined (after limit es) c ≡ true → is_joined (after limit (e ∷ es)) c ≡ true
stays-joined f limit es e c now old = elim (cases_Bool (lets_go c e)) [
  | inl goes ↦ absurd (true≢false (sym now ∙ f.ended (after limit es) c e (f.lawful limit es) goes))
  | inr stays ↦ elim (f.joined (after limit es) c e (f.lawful limit es) old stays) [
    | inl indeed ↦ indeed
    | inr closed ↦ absurd (not-closed f limit es e c now closed)
  ]
]

-- every connection that is known has joined, but for one
abbrev pub AllJoinedBut : ℕ → Broker → Type 0
AllJoinedBut d b = (c : ℕ) → knows b c ≡ true → (c ≡ d → ⊥) → is_joined b c ≡ true

abbrev pub AllJoined : Broker → Type 0
AllJoined b = (c : ℕ) → knows b c ≡ true → is_joined b c ≡ true

pub joined-called : Facts → (limit : ℕ) (es : List Event) (e : Event) → is_opening e ≡ false → AllJoined (after limit es) → AllJoined (after limit (e ∷ es))
joined-called f limit es e plain all = λ c now. stays-joined f limit es e c now (all c (known-before f limit es e c plain now))

pub joined-opened : Facts → (limit : ℕ) (es : List Event) (now : ℕ) → AllJoined (after limit es) → AllJoinedBut ((after limit es).given + 1) (after limit (Open now ∷ es))
joined-opened f limit es now all = λ c there other. elim (cases_Bool (knows (after limit es) c)) [
  | inl indeed ↦ stays-joined f limit es (Open now) c there (all c indeed)
  | inr never ↦ (let low = known-low (after limit (Open now ∷ es)) c (f.lawful limit (Open now ∷ es)) there in
      let given = f.given (after limit es) (Open now) (f.lawful limit es) in
      let within : c ≤ (after limit es).given = under c (after limit es).given (after limit (Open now ∷ es)).given low given other in
      absurd (true≢false (sym there ∙ f.gone (after limit es) c (Open now) (f.lawful limit es) within never)))
]
  where
    under : (c n m : ℕ) → c ≤ m → m ≡ n + 1 → (c ≡ n + 1 → ⊥) → c ≤ n
    under c n m low same other = omega (arith, low, same, other)

pub joined-first : Facts → (limit : ℕ) (es : List Event) (d : ℕ) (p : Packet) (now : ℕ) → AllJoinedBut d (after limit es) → AllJoined (after limit (event.Packet d p now ∷ es))
joined-first f limit es d p now all = λ c there.
    let before = known-before f limit es (event.Packet d p now) c refl there in
    elim (cases_Bool (is_joined (after limit es) c)) [
      | inl indeed ↦ stays-joined f limit es (event.Packet d p now) c there indeed
      | inr never ↦ elim (cases_eq c d) [
        | inl same ↦ (let at : is_joined (after limit es) d ≡ false = ap (is_joined (after limit es)) (sym same) ∙ never in
            let known_d : knows (after limit es) d ≡ true = ap (knows (after limit es)) (sym same) ∙ before in
            elim (f.first (after limit es) d p now (f.lawful limit es) known_d at) [
              | inl indeed ↦ ap (is_joined (after limit (event.Packet d p now ∷ es))) same ∙ indeed
              | inr closed ↦ absurd (not-closed f limit es (event.Packet d p now) d (ap (knows (after limit (event.Packet d p now ∷ es))) (sym same) ∙ there) closed)
            ])
        | inr other ↦ absurd (true≢false (sym (all c before other) ∙ never))
      ]
    ]

-- ---- drops

pub few-after : Facts → (limit : ℕ) (es : List Event) → HasFew (after limit es)
few-after f limit [] = f.no_drops limit
few-after f limit (e ∷ es) = f.few (after limit es) e (f.lawful limit es) (few-after f limit es)

pub limit-after : Facts → (limit : ℕ) (es : List Event) → (after limit es).limit ≡ limit
limit-after f limit [] = refl
limit-after f limit (e ∷ es) = f.limit (after limit es) e (f.lawful limit es) ∙ limit-after f limit es

pub few-drops : Facts → (limit : ℕ) (es : List Event) (c : ℕ) → knows (after limit es) c ≡ true → drops_in c (after limit es) < max 1 limit
few-drops f limit es c there =
    leb-false (max 1 limit) (drops_in c (after limit es))
    (ap (λ n. is_spent n (drops_in c (after limit es))) (sym (limit-after f limit es)) ∙ few-after f limit es c there)

pub drops-kept : Facts → (limit : ℕ) (es : List Event) (e : Event) (c : ℕ) → limit ≤ 65535 → knows (after limit es) c ≡ true → knows (after limit (e ∷ es)) c ≡ true →
    drops_in c (after limit es) ≤ drops_in c (after limit (e ∷ es))
drops-kept f limit es e c small old new =
    let low = few-drops f limit es c old in
    subst (λ n. drops_in c (after limit es) ≤ n) (sym (f.dropped (after limit es) c e (f.lawful limit es) old new))
    (by (is_drop c e) (drops_in c (after limit es)) (within limit _ small low))
  where
    within : (limit d : ℕ) → limit ≤ 65535 → d < max 1 limit → d ≤ 65535
    within limit d a b = omega (arith, a, b)

    by : (b : Bool) (d : ℕ) → d ≤ 65535 → d ≤ cond b (one_more d) d
    by true d a = omega (arith, a)
    by false d a = omega arith

pub drops-one : Facts → (limit : ℕ) (es : List Event) (c now : ℕ) → limit ≤ 65535 → knows (after limit es) c ≡ true →
    knows (after limit (event.Refused c sort.QosZero now ∷ es)) c ≡ true →
    drops_in c (after limit es) + 1 ≤ drops_in c (after limit (event.Refused c sort.QosZero now ∷ es))
drops-one f limit es c now small old new =
    let low = few-drops f limit es c old in
    subst (λ n. drops_in c (after limit es) + 1 ≤ n) (sym (f.dropped (after limit es) c (event.Refused c sort.QosZero now) (f.lawful limit es) old new))
    (by (eqb c c) (eq-eqb c c refl) (drops_in c (after limit es)) (within limit _ small low))
  where
    within : (limit d : ℕ) → limit ≤ 65535 → d < max 1 limit → d + 1 ≤ 65535
    within limit d a b = omega (arith, a, b)

    by : (b : Bool) → b ≡ true → (d : ℕ) → d + 1 ≤ 65535 → d + 1 ≤ cond b (one_more d) d
    by true e d a = omega (arith, a)
    by false e d a = absurd (no-yes e)

-- ---- the room

-- Filters are alike; each connection has its opener, and the one that a client opened last is the only one of it that is known.
pub record BaseOf (limit : ℕ) (on : List ℕ → Bool) (es : List Event) (os : List ℕ) (last : ℕ → Option ℕ) : Type 0 where
  pub filters : (one other : List ℕ) → on one ≡ true → on other ≡ true → HasFilters (FitsAlike one other) (after limit es)
  pub sized : length os ≡ (after limit es).given
  pub newest : (j conn : ℕ) → knows (after limit es) conn ≡ true → client_of os conn ≡ Some j → last j ≡ Some conn
  pub owned : (j conn : ℕ) → last j ≡ Some conn → client_of os conn ≡ Some j

abbrev pub Base : ℕ → (List ℕ → Bool) → Room → Type 0
Base limit on r = BaseOf limit on r.events r.openers r.last

abbrev pub BringsAlike : (List ℕ → Bool) → Event → Type 0
BringsAlike on e = (one other : List ℕ) → on one ≡ true → on other ≡ true → Brings (FiltersIn (FitsAlike one other)) e

pub base-called : Facts → (limit : ℕ) (on : List ℕ → Bool) (r : Room) (e : Event) → is_opening e ≡ false → BringsAlike on e → Base limit on r → Base limit on (called limit r e)
base-called f limit on r e plain brings b = record {
  filters = λ one other x y. f.filters (after limit r.events) e one other (b.filters one other x y) (brings one other x y);
  sized = b.sized ∙ sym (kept-given f limit r.events e plain);
  newest = λ j conn there of. b.newest j conn (known-before f limit r.events e conn plain there) of;
  owned = b.owned;
}

last-of : (k : ℕ) (l : ℕ → Option ℕ) (new j : ℕ) → Option ℕ
last-of k l new j = cond (eqb j k) (Some new) (l j)

pub base-opened : Facts → (limit : ℕ) (on : List ℕ → Bool) (now : ℕ) (r : Room) (k : ℕ) → conn_at limit r k ≡ None → Base limit on r → Base limit on (opened limit now r k)
base-opened f limit on now r k none b = record {
  filters = λ one other x y. f.filters (after limit r.events) (Open now) one other (b.filters one other x y) tt;
  sized = more-sized;
  newest = newest;
  owned = owned;
}
  where
    given : (after limit (Open now ∷ r.events)).given ≡ (after limit r.events).given + 1
    given = f.given (after limit r.events) (Open now) (f.lawful limit r.events)

    length-more : (os : List ℕ) → length (os ++ k ∷ []) ≡ length os + 1
    length-more [] = refl
    length-more (o ∷ os) = let e = length-more os in omega (arith, e)

    more-sized : length (r.openers ++ k ∷ []) ≡ (after limit (Open now ∷ r.events)).given
    more-sized = let a = length-more r.openers in let s = b.sized in let g = given in omega (arith, a, s, g)

    new-is : length r.openers + 1 ≡ next_conn limit r
    new-is = ap (λ n. n + 1) b.sized

    owned : (j conn : ℕ) → cond (eqb j k) (Some (next_conn limit r)) (r.last j) ≡ Some conn → client_of (r.openers ++ k ∷ []) conn ≡ Some j
    owned j conn e = by (eqb j k) refl e
      where
        by : (x : Bool) → eqb j k ≡ x → cond x (Some (next_conn limit r)) (r.last j) ≡ Some conn → client_of (r.openers ++ k ∷ []) conn ≡ Some j
        by true at g =
            let same : next_conn limit r ≡ conn = same-some (next_conn limit r) conn g in
            ap (client_of (r.openers ++ k ∷ [])) (sym same ∙ sym new-is) ∙ client-new r.openers k ∙ ap (λ x. Some x) (sym (eqb-true j k at))
        by false at g = client-more r.openers k conn j (b.owned j conn g)

    unknown : (conn : ℕ) → r.last k ≡ Some conn → knows (after limit r.events) conn ≡ true → ⊥
    unknown conn at there =
        some-none conn (sym none ∙ ap (known (after limit r.events)) at ∙ ap (λ x. cond x (Some conn) None) there)

    newest : (j conn : ℕ) → knows (after limit (Open now ∷ r.events)) conn ≡ true → client_of (r.openers ++ k ∷ []) conn ≡ Some j →
        cond (eqb j k) (Some (next_conn limit r)) (r.last j) ≡ Some conn
    newest j conn there of = elim (cases_eq conn (length r.openers + 1)) [
      | inl new ↦ (let is : ◌≡◌ {A = Option ℕ} (Some k) (Some j) = sym (client-new r.openers k) ∙ ap (client_of (r.openers ++ k ∷ [])) (sym new) ∙ of in
          ap (λ x. cond x (Some (next_conn limit r)) (r.last j)) (eq-eqb j k (sym (same-some k j is))) ∙ ap (λ x. Some x) (sym new-is ∙ sym new))
      | inr old ↦ (let within = client-within (r.openers ++ k ∷ []) conn j of in
          let size = length-more r.openers in
          let low : conn ≤ length r.openers = omega (arith, within.1, size, old) in
          let own = client-old r.openers k conn j low of in
          let s = b.sized in
          let before : knows (after limit r.events) conn ≡ true = elim (cases_Bool (knows (after limit r.events) conn)) [
            | inl indeed ↦ indeed
            | inr never ↦ absurd (true≢false (sym there ∙ f.gone (after limit r.events) conn (Open now) (f.lawful limit r.events) (omega (arith, low, s)) never))
          ] in
          let at : r.last j ≡ Some conn = b.newest j conn before own in
          by (eqb j k) refl at before)
    ]
      where
        by : (x : Bool) → eqb j k ≡ x → r.last j ≡ Some conn → knows (after limit r.events) conn ≡ true → cond x (Some (next_conn limit r)) (r.last j) ≡ Some conn
        by true same at before = absurd (unknown conn (ap r.last (sym (eqb-true j k same)) ∙ at) before)
        by false same at before = at

-- ---- the host's connection

-- the client has this connection, which joined, and listens to all of these topics
pub record HearsOf (limit : ℕ) (on : List ℕ → Bool) (es : List Event) (newest : ℕ → Option ℕ) (h c : ℕ) : Type 0 where
  pub last : newest h ≡ Some c
  pub joined : is_joined (after limit es) c ≡ true
  pub listens_to : (topic : List ℕ) → on topic ≡ true → listens (after limit es) c topic ≡ true

abbrev pub Hears : ℕ → (List ℕ → Bool) → Room → (h c : ℕ) → Type 0
Hears limit on r h c = HearsOf limit on r.events r.last h c

any-holds : (os : List ℕ) (h c : ℕ) (closes : List ℕ) → client_of os c ≡ Some h → list_any (λ d. eqb d c) closes ≡ true → holds_client os h closes ≡ true
any-holds os h c [] is e = absurd (no-yes e)
any-holds os h c (d ∷ closes) is e = elim (or_cases (eqb d c) (list_any (λ d. eqb d c) closes) e) [
  | inl here ↦ or_left (is_client h (client_of os d)) (holds_client os h closes)
      (ap (λ x. is_client h (client_of os x)) (eqb-true d c here) ∙ ap (is_client h) is ∙ eq-eqb h h refl)
  | inr later ↦ or_right (is_client h (client_of os d)) (holds_client os h closes) (any-holds os h c closes is later)
]

-- whom the broker closes is closed
pub closes-client : Facts → (limit : ℕ) (r : Room) (e : Event) (h c : ℕ) → client_of r.openers c ≡ Some h → is_closed_in c (step (after limit r.events) e) ≡ true → (called limit r e).closed h ≡ true
closes-client f limit r e h c is closed = or_right (r.closed h) _ (any-holds r.openers h c (step (after limit r.events) e).closes is closed)

pub hears-called : Facts → (limit : ℕ) (on : List ℕ → Bool) (r : Room) (e : Event) (h c : ℕ) → Base limit on r → lets_go c e ≡ false → takes_back c e ≡ false →
    (called limit r e).closed h ≡ false → Hears limit on r h c → Hears limit on (called limit r e) h c
hears-called f limit on r e h c b stays keeps standing hears = record {
  last = hears.last;
  joined = elim (f.joined (after limit r.events) c e (f.lawful limit r.events) hears.joined stays) [ inl indeed ↦ indeed | inr closed ↦ absurd (never closed) ];
  listens_to = λ topic there. elim (f.listening (after limit r.events) c topic e (f.lawful limit r.events) (hears.listens_to topic there) stays keeps) [ inl indeed ↦ indeed | inr closed ↦ absurd (never closed) ];
}
  where
    never : is_closed_in c (step (after limit r.events) e) ≡ true → ⊥
    never closed = true≢false (sym (closes-client f limit r e h c (b.owned h c hears.last) closed) ∙ standing)

open-closes : (b : Broker) (now : ℕ) → (step b (Open now)).closes ≡ []
unfolding step
open-closes b now = refl

pub hears-opened : Facts → (limit : ℕ) (on : List ℕ → Bool) (now : ℕ) (r : Room) (k h c : ℕ) → conn_at limit r k ≡ None → Hears limit on r h c → Hears limit on (opened limit now r k) h c
hears-opened f limit on now r k h c none hears = record {
  last = by (eqb h k) refl;
  joined = elim (f.joined (after limit r.events) c (Open now) (f.lawful limit r.events) hears.joined refl) [ inl indeed ↦ indeed | inr closed ↦ absurd (never closed) ];
  listens_to = λ topic there. elim (f.listening (after limit r.events) c topic (Open now) (f.lawful limit r.events) (hears.listens_to topic there) refl refl) [ inl indeed ↦ indeed | inr closed ↦ absurd (never closed) ];
}
  where
    never : is_closed_in c (step (after limit r.events) (Open now)) ≡ true → ⊥
    never closed = no-yes (sym (ap (list_any (λ d. eqb d c)) (open-closes (after limit r.events) now)) ∙ closed)

    by : (x : Bool) → eqb h k ≡ x → cond x (Some (next_conn limit r)) (r.last h) ≡ Some c
    by true same = absurd (some-none c (sym none ∙ ap (known (after limit r.events)) (ap r.last (sym (eqb-true h k same)) ∙ hears.last)
        ∙ ap (λ x. cond x (Some c) None) (joined-known (after limit r.events) c hears.joined)))
    by false same = hears.last
