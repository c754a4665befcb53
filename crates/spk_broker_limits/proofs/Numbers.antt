-- Packet identifiers of a session: distinct, and going on behind the one given last.
use Rattle.std.proofs.Common.{◌≡◌, inl, inr, ℕ, zero, suc, ◌+◌, ◌<◌, ◌==◌, Bool, true, false, not, ◌||◌, cond, eqb, List, [], ◌∷◌, ◌++◌, map, length, refl, sym, ap, ◌∙◌, subst, arith, Option, Some, None, eq-eqb, ne_eqb}
use Rattle.std.specs.List.{filter, list_any, AllByRecursion, IsDistinct}
use Rattle.std.specs.Option.{option_map, option_map_or, is_some}
use Rattle.std.specs.Cmp.{IsEquivalence}
use Rattle.std.proofs.lemmas.Bool.{ltb-true, cases_eq}
use Rattle.std.proofs.lemmas.Bool.Decides.{eqb_tells}
use Rattle.std.proofs.lemmas.List.{length-append}
use Rattle.std.proofs.lemmas.List.Elements.{All-nil, All-push, All-filter}
use Rattle.std.proofs.lemmas.List.Sums.{length-filter, count_by-le-length}
use Rattle.std.proofs.lemmas.Map.Keys.{IsDistinct-push}
use Rattle.spk_packets.specs.Fault.{first_of}
use Rattle.spk_packets.specs.Message.{PubAck}
use Rattle.spk_packets.specs.Spelling.{unwritable}
use Rattle.spk_session.specs.PacketIds.{AreIds, IsId, IsNextFree, id_after, is_in, next_id}
use Rattle.spk_session.specs.Step.{has_room, without}
use Rattle.spk_broker_rules.specs.Data.{AppMessage, Connection, Session, Broker}
use Rattle.spk_broker_rules.specs.Listening.{is_joined}
use Rattle.spk_broker_rules.specs.Plan.{Event, Packet, Ack, shut, first_packet, next_packet, Seen}
use Rattle.spk_broker_rules.specs.Words.{best, level, numbered_packet, sent_as, to_connection, without_id}
use Rattle.spk_broker_rules.specs.Step.{Turn, Served, ack_at, acts, after, bursts, conn_at, hand_at, connection_heard, noted, numbered, session_by, seen, serve, serve_at, sits, step, swap}
use Rattle.spk_broker_limits.specs.Identifiers.{GoesOn, HasIds, HasNext, acked_ids, ids_in}
use Rattle.spk_broker_limits.proofs.Plans.{heard_conn}
use Rattle.spk_broker_limits.proofs.Summing.{Told, same, none_some, is_the, yes_no, passes}
use Rattle.spk_broker_limits.proofs.Sessions.{Keeps, All, always}

-- ---- distinct

eqb_flip : (a b : ℕ) → eqb a b ≡ eqb b a
eqb_flip a b = elim (cases_eq a b) [
  | inl same ↦ eq-eqb a b same ∙ sym (eq-eqb b a (sym same))
  | inr other ↦ ne_eqb a b other ∙ sym (ne_eqb b a (λ same. other (sym same)))
]

eqb_is : (a b : ℕ) → eqb a b ≡ true → a ≡ b
eqb_is a b e = elim (cases_eq a b) [ inl same ↦ same | inr other ↦ yes_no (sym e ∙ ne_eqb a b other) ]

numbers : IsEquivalence eqb
numbers = record { refl = λ x. eq-eqb x x refl; symm = eqb_flip; congr = λ x y z e. ap (λ w. eqb w z) (eqb_is x y e) }

any_flip : (xs : List ℕ) (id : ℕ) → list_any (eqb id) xs ≡ is_in xs id
any_flip [] id = refl
any_flip (x ∷ xs) id = ap (λ b. b || list_any (eqb id) xs) (eqb_flip id x) ∙ ap (λ b. eqb x id || b) (any_flip xs id)

apart_filter : (x : ℕ) (p : ℕ → Bool) (xs : List ℕ) → AllByRecursion (λ y. eqb x y ≡ false) xs → AllByRecursion (λ y. eqb x y ≡ false) (filter p xs)
apart_filter x p [] h = tt
apart_filter x p (y ∷ xs) h = by (p y) (apart_filter x p xs h.1)
  where
    by : (b : Bool) → AllByRecursion (λ z. eqb x z ≡ false) (filter p xs) → AllByRecursion (λ z. eqb x z ≡ false) (cond b (y ∷ filter p xs) (filter p xs))
    by true rest = (h.0, rest)
    by false rest = rest

distinct_filter : (p : ℕ → Bool) (xs : List ℕ) → IsDistinct eqb xs → IsDistinct eqb (filter p xs)
unfolding IsDistinct
distinct_filter p [] h = tt
distinct_filter p (x ∷ xs) h = by (p x) (distinct_filter p xs h.1)
  where
    by : (b : Bool) → IsDistinct eqb (filter p xs) → IsDistinct eqb (cond b (x ∷ filter p xs) (filter p xs))
    by true rest = (apart_filter x p xs h.0, rest)
    by false rest = rest

distinct_nil : IsDistinct eqb []
unfolding IsDistinct
distinct_nil = tt

ids_push : (xs : List ℕ) (last id : ℕ) → AreIds xs → length xs < 1024 → IsNextFree xs last id → AreIds (xs ++ id ∷ [])
ids_push xs last id h room next = record {
  few = omega (arith, length-append xs (id ∷ []));
  in_range = All-push IsId xs id h.in_range (next.low, next.high);
  distinct = IsDistinct-push numbers xs id h.distinct (any_flip xs id ∙ next.free);
}

ids_without : (id : ℕ) (xs : List ℕ) → AreIds xs → AreIds (without id xs)
ids_without id xs h = record {
  few = omega (arith, length-filter (λ other. not (eqb other id)) xs, count_by-le-length (λ other. not (eqb other id)) xs, h.few);
  in_range = All-filter (λ other. not (eqb other id)) IsId xs h.in_range;
  distinct = distinct_filter (λ other. not (eqb other id)) xs h.distinct;
}

-- the next one is the first behind the one given last that isn't in use
abbrev pub Nexts : Type 0
Nexts = (used : List ℕ) (last : ℕ) → AreIds used → IsNextFree used last (next_id used last)

handed : Nexts → (q : ℕ) (m : AppMessage) (s : Session) → HasIds s → All HasIds (hand_at q m s).left
handed nexts zero m s p = (p, tt)
handed nexts (suc q) m s p = by (has_room s.used) refl
  where
    by : (b : Bool) → has_room s.used ≡ b → All HasIds (cond b (numbered s m (next_id s.used s.last)) (bursts s)).left
    by true e = (ids_push s.used s.last (next_id s.used s.last) p (ltb-true (length s.used) 1024 e) (nexts s.used s.last p), tt)
    by false e = tt

keeps : Nexts → Keeps HasIds
keeps nexts = record {
  handed = λ m s p. handed nexts m.qos m s p;
  connected = λ f s p. p;
  alone = λ s p. p;
  fresh = λ key client kept connection. record { few = omega arith; in_range = All-nil IsId; distinct = distinct_nil };
  taken = λ connection s p. p;
  granted = λ grants s p. p;
  acked = λ id s p. ids_without id s.used p;
}

pub distinct : Nexts → (limit : ℕ) (es : List Event) → AllByRecursion HasIds (after limit es).sessions
distinct nexts limit es = always HasIds (keeps nexts) limit es

each : (P Q : Session → Type 0) → ((s : Session) → P s → Q s) → (ss : List Session) → AllByRecursion P ss → AllByRecursion Q ss
each P Q f [] a = tt
each P Q f (s ∷ ss) a = (f s a.0, each P Q f ss a.1)

pub next : Nexts → (limit : ℕ) (es : List Event) → AllByRecursion HasNext (after limit es).sessions
next nexts limit es = each HasIds HasNext (λ s p. nexts s.used s.last p) (after limit es).sessions (distinct nexts limit es)

-- ---- going on

goes_on : Nexts → (used : List ℕ) (last : ℕ) → AreIds used → last < 65535 → is_in used (last + 1) ≡ false → next_id used last ≡ last + 1
goes_on nexts used last ids low free = by f.first
  where
    f : IsNextFree used last (next_id used last)
    f = nexts used last ids

    behind : id_after last 0 ≡ last + 1
    behind = omega arith

    by : (steps : ℕ) × (next_id used last ≡ id_after last steps) × ((k : ℕ) → k < steps → is_in used (id_after last k) ≡ true) → next_id used last ≡ last + 1
    by (zero, e, before) = e ∙ behind
    by (suc n, e, before) = yes_no (sym (before 0 (omega arith)) ∙ ap (is_in used) behind ∙ free)

pub on : Nexts → (limit : ℕ) (es : List Event) → AllByRecursion GoesOn (after limit es).sessions
on nexts limit es = each HasIds GoesOn (λ s p l f. goes_on nexts s.used s.last p l f) (after limit es).sessions (distinct nexts limit es)

-- a message that is routed to a session
pub sent : (m : AppMessage) (s : Session) (q : ℕ) → level m.qos (best m.topic s.grants) ≡ Some (suc q) → has_room s.used ≡ true
    → ((serve m s).sends ≡ to_connection (conn_at s) (numbered_packet false (next_id s.used s.last) (sent_as m (suc q) false))) × AllByRecursion (λ (t : Session). t.last ≡ next_id s.used s.last) (serve m s).left
sent m s q e room = (ap (λ (x : Served). x.sends) is, subst (λ (x : Served). AllByRecursion (λ (t : Session). t.last ≡ next_id s.used s.last) x.left) (sym is) (refl, tt))
  where
    is : serve m s ≡ numbered s (sent_as m (suc q) false) (next_id s.used s.last)
    is = ap (λ o. serve_at o m s) e ∙ ap (λ b. cond b (numbered s (sent_as m (suc q) false) (next_id s.used s.last)) (bursts s)) room

-- ---- PUBACK

-- where the session of a connection is changed, but not whose it is, that connection has the changed one
swapped : (c : ℕ) (x s : Session) (ss : List Session) → sits c x ≡ true → session_by c ss ≡ Some s → session_by c (swap s.key (x ∷ []) ss) ≡ Some x
swapped c x s [] i e = none_some s e
swapped c x s (t ∷ ts) i e = by (eqb_tells t.key s.key) (sits c t) refl e (swapped c x s ts i)
  where
    at : (b : Bool) → (t.key == s.key) ≡ b → (o : Option Session) → session_by c (cond b (x ∷ []) (t ∷ []) ++ swap s.key (x ∷ []) ts) ≡ o → session_by c (swap s.key (x ∷ []) (t ∷ ts)) ≡ o
    at b k o f = ap (λ d. session_by c (cond d (x ∷ []) (t ∷ []) ++ swap s.key (x ∷ []) ts)) k ∙ f

    by : Told t.key s.key → (b : Bool) → sits c t ≡ b → cond b (Some t) (session_by c ts) ≡ Some s → (session_by c ts ≡ Some s → session_by c (swap s.key (x ∷ []) ts) ≡ Some x) → session_by c (swap s.key (x ∷ []) (t ∷ ts)) ≡ Some x
    by (inl k) b j f rest = at true k.0 (Some x) (ap (λ d. cond d (Some x) (session_by c (swap s.key (x ∷ []) ts))) i)
    by (inr k) true j f rest = absurd (k.1 (ap (λ (u : Session). u.key) (is_the t s f)))
    by (inr k) false j f rest = at false k.0 (Some x) (ap (λ d. cond d (Some t) (session_by c (swap s.key (x ∷ []) ts))) j ∙ rest f)

abbrev pub ids_of : (List ℕ → List ℕ) → Session → List ℕ × ℕ
ids_of change s = (change s.used, s.last)

heard : (c : ℕ) (f : Connection → Connection) → ((l : Connection) → (f l).conn ≡ l.conn) → (change : List ℕ → List ℕ) (ss : List Session)
    → option_map (ids_of change) (session_by c (map (λ (s : Session). record s { here = option_map f s.here }) ss)) ≡ option_map (ids_of change) (session_by c ss)
heard c f keep change [] = refl
heard c f keep change (s ∷ ss) = by (heard c f keep change ss)
  where
    on : (b : Bool) → option_map (ids_of change) (session_by c (map (λ (u : Session). record u { here = option_map f u.here }) ss)) ≡ option_map (ids_of change) (session_by c ss)
        → option_map (ids_of change) (cond b (Some (record s { here = option_map f s.here })) (session_by c (map (λ (u : Session). record u { here = option_map f u.here }) ss))) ≡ option_map (ids_of change) (cond b (Some s) (session_by c ss))
    on true rest = refl
    on false rest = rest

    same_connection : (o : Option Connection) → option_map_or (λ (l : Connection). l.conn == c) (option_map f o) false ≡ option_map_or (λ (l : Connection). l.conn == c) o false
    same_connection None = refl
    same_connection (Some l) = ap (λ d. d == c) (keep l)

    by : option_map (ids_of change) (session_by c (map (λ (u : Session). record u { here = option_map f u.here }) ss)) ≡ option_map (ids_of change) (session_by c ss)
        → option_map (ids_of change) (cond (option_map_or (λ (l : Connection). l.conn == c) (option_map f s.here) false) (Some (record s { here = option_map f s.here })) (session_by c (map (λ (u : Session). record u { here = option_map f u.here }) ss)))
        ≡ option_map (ids_of change) (cond (option_map_or (λ (l : Connection). l.conn == c) s.here false) (Some s) (session_by c ss))
    by rest =
        ap (λ b. option_map (ids_of change) (cond b (Some (record s { here = option_map f s.here })) (session_by c (map (λ (u : Session). record u { here = option_map f u.here }) ss)))) (same_connection s.here)
        ∙ on (option_map_or (λ (l : Connection). l.conn == c) s.here false) rest

gone_ids : (c id : ℕ) (t : Turn) → is_some (session_by c t.broker.sessions) ≡ true → option_map (ids_of (λ used. used)) (session_by c (ack_at (session_by c t.broker.sessions) id t).broker.sessions) ≡ option_map (ids_of (without id)) (session_by c t.broker.sessions)
gone_ids c id t j = by (session_by c t.broker.sessions) refl j
  where
    by : (o : Option Session) → session_by c t.broker.sessions ≡ o → is_some o ≡ true → option_map (ids_of (λ used. used)) (session_by c (ack_at o id t).broker.sessions) ≡ option_map (ids_of (without id)) o
    by None e f = yes_no (sym f)
    by (Some s) e f = ap (option_map (ids_of (λ used. used)))
        (swapped c (record s { used = without id s.used; in_flight = without_id id s.in_flight }) s t.broker.sessions (passes (sits c) t.broker.sessions s e) e)

is_some_of : {X Y : Type 0} (f : X → Y) (o : Option X) → is_some (option_map f o) ≡ is_some o
is_some_of f None = refl
is_some_of f (Some x) = refl

ack_step : (b : Broker) (conn id moment : ℕ) → is_some (first_of (unwritable (PubAck id))) ≡ false → is_joined b conn ≡ true
    → option_map (ids_of (λ used. used)) (session_by conn (step b (Packet conn (PubAck id) moment)).broker.sessions) ≡ option_map (ids_of (without id)) (session_by conn b.sessions)
unfolding step
ack_step b conn id moment w j =
    let t : Turn = noted b (Packet conn (PubAck id) moment) in
    let s : Seen = seen (noted b (Packet conn (PubAck id) moment)).broker (Packet conn (PubAck id) moment) in
    let sat : is_some (session_by conn (noted b (Packet conn (PubAck id) moment)).broker.sessions) ≡ true =
    sym (is_some_of (ids_of (λ used. used)) (session_by conn (noted b (Packet conn (PubAck id) moment)).broker.sessions)) ∙ ap is_some (were (λ used. used)) ∙ is_some_of (ids_of (λ used. used)) (session_by conn b.sessions) ∙ j in
    ap (λ l. option_map (ids_of (λ used. used)) (session_by conn (acts l (noted b (Packet conn (PubAck id) moment))).broker.sessions)) (plan_is s s.joined sat)
    ∙ gone_ids conn id (noted b (Packet conn (PubAck id) moment)) sat ∙ were (without id)
  where
    were : (change : List ℕ → List ℕ) → option_map (ids_of change) (session_by conn (noted b (Packet conn (PubAck id) moment)).broker.sessions) ≡ option_map (ids_of change) (session_by conn b.sessions)
    were change = heard conn (connection_heard conn _) (heard_conn conn _) change b.sessions

    plan_is : (s : Seen) (k : Bool) → k ≡ true → cond (is_some (first_of (unwritable (PubAck id)))) (shut conn) (cond k (next_packet s conn (PubAck id)) (first_packet s conn (PubAck id))) ≡ Ack conn id ∷ []
    plan_is s k e = ap (λ x. cond x (shut conn) (cond k (next_packet s conn (PubAck id)) (first_packet s conn (PubAck id)))) w ∙ ap (λ x. cond x (next_packet s conn (PubAck id)) (first_packet s conn (PubAck id))) e

acked_both : (id : ℕ) (o : Option Session) → option_map (acked_ids id) (option_map (ids_of (λ used. used)) o) ≡ option_map (ids_of (without id)) o
acked_both id None = refl
acked_both id (Some s) = refl

pub acked : (b : Broker) (conn id moment : ℕ) → is_some (first_of (unwritable (PubAck id))) ≡ false → is_joined b conn ≡ true → ids_in (step b (Packet conn (PubAck id) moment)).broker conn ≡ option_map (acked_ids id) (ids_in b conn)
acked b conn id moment w j = ack_step b conn id moment w j ∙ sym (acked_both id (session_by conn b.sessions))
