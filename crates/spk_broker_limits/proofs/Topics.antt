-- What each act keeps of the retained messages.
use Rattle.std.proofs.Common.{◌≡◌, ℕ, zero, suc, ◌+◌, ◌≤◌, ◌<◌, Bool, true, false, not, ◌||◌, cond, ltb, List, [], ◌∷◌, ◌++◌, map, length, refl, sym, ap, ◌∙◌, subst, arith, Option, Some, None}
use Rattle.std.specs.List.{find, fold, flat_map}
use Rattle.std.specs.Str.{bytes_eq}
use Rattle.std.proofs.lemmas.Bool.{ltb-true}
use Rattle.std.proofs.lemmas.Slice.Eq.{bytes_eq-Decides}
use Rattle.std.proofs.lemmas.List.{length-append, length-map}
use Rattle.spk_packets.specs.Spelling.{is_empty}
use Rattle.spk_broker_rules.specs.Data.{AppMessage, Connection, Newcomer, Session, Stored, Broker}
use Rattle.spk_broker_rules.specs.Table.{Table, has, put, remove, replaced}
use Rattle.spk_broker_rules.specs.Words.{stored, most_topics, granted_of, offers_to}
use Rattle.spk_broker_rules.specs.Plan.{Event, Act, Opens, At, Hear, Drop, Say, Leave, Tell, Queue, Route, Forget, Accept, Give, Take, Ack, before, plan}
use Rattle.spk_broker_rules.specs.Step.{Turn, act, acts, after, step, noted, begun, seen, leave_at, session_by, is_newcomer, is_away, forget_at, connection_of, take_up, away_for, accept_of, other_grants, give_at, take_at, ack_at, offer, offer_at, with_key, retain_in, retained_with, route_one, route_some, route}
use Rattle.spk_broker_limits.specs.Limits.{AreApart, IsBounded, IsFull, in_its_place}

-- ---- tables

same_key : (key other : List ℕ) (v : Stored) (table : Table Stored) → has other (map (replaced key v) table) ≡ has other table
same_key key other v [] = refl
same_key key other v (e ∷ es) = by (bytes_eq e.0 key) (same_key key other v es)
  where
    by : (b : Bool) → has other (map (replaced key v) es) ≡ has other es
        → (bytes_eq (cond b (e.0, v) e).0 other || has other (map (replaced key v) es)) ≡ (bytes_eq e.0 other || has other es)
    by true rest = ap (λ r. bytes_eq e.0 other || r) rest
    by false rest = ap (λ r. bytes_eq e.0 other || r) rest

key_stays : (key : List ℕ) (v : Stored) (e : List ℕ × Stored) → (replaced key v e).0 ≡ e.0
key_stays key v e = by (bytes_eq e.0 key)
  where
    by : (b : Bool) → (cond b (e.0, v) e).0 ≡ e.0
    by true = refl
    by false = refl

apart_replaced : (key : List ℕ) (v : Stored) (table : Table Stored) → AreApart table → AreApart (map (replaced key v) table)
apart_replaced key v [] a = tt
apart_replaced key v (e ∷ es) a =
    (ap (λ k. has k (map (replaced key v) es)) (key_stays key v e) ∙ same_key key e.0 v es ∙ a.0, apart_replaced key v es a.1)

or_false : (t u : Bool) → t ≡ false → u ≡ false → (t || u) ≡ false
or_false t u e f = ap (λ b. b || u) e ∙ f

or_last : (t u : Bool) → (t || u) ≡ false → u ≡ false
or_last true u e = absurd cc
or_last false u e = e

or_first : (t u : Bool) → (t || u) ≡ false → t ≡ false
or_first true u e = absurd cc
or_first false u e = refl

has_more : (key other : List ℕ) (v : Stored) (table : Table Stored) → has other table ≡ false → bytes_eq key other ≡ false → has other (table ++ (key, v) ∷ []) ≡ false
has_more key other v [] h e = or_false (bytes_eq key other) false e refl
has_more key other v (x ∷ xs) h e =
    or_false (bytes_eq x.0 other) (has other (xs ++ (key, v) ∷ [])) (or_first (bytes_eq x.0 other) (has other xs) h) (has_more key other v xs (or_last (bytes_eq x.0 other) (has other xs) h) e)

eq_flip : (a b : List ℕ) → bytes_eq a b ≡ false → bytes_eq b a ≡ false
eq_flip a b e = by (bytes_eq b a) refl
  where
    by : (r : Bool) → bytes_eq b a ≡ r → bytes_eq b a ≡ false
    by true f = absurd (no (sym ((bytes_eq-Decides a b).1 (sym ((bytes_eq-Decides b a).0 f))) ∙ e))
      where
        no : true ≡ false → ⊥
        no g = absurd cc
    by false f = f

apart_more : (key : List ℕ) (v : Stored) (table : Table Stored) → has key table ≡ false → AreApart table → AreApart (table ++ (key, v) ∷ [])
apart_more key v [] h a = (refl, tt)
apart_more key v (e ∷ es) h a =
    (has_more key e.0 v es a.0 (eq_flip e.0 key (or_first (bytes_eq e.0 key) (has key es) h)), apart_more key v es (or_last (bytes_eq e.0 key) (has key es) h) a.1)

has_fewer : (key other : List ℕ) (table : Table Stored) → has other table ≡ false → has other (remove key table) ≡ false
has_fewer key other [] h = refl
has_fewer key other (e ∷ es) h = by (not (bytes_eq e.0 key)) (has_fewer key other es (or_last (bytes_eq e.0 other) (has other es) h))
  where
    by : (b : Bool) → has other (remove key es) ≡ false → has other (cond b (e ∷ remove key es) (remove key es)) ≡ false
    by true rest = or_false (bytes_eq e.0 other) (has other (remove key es)) (or_first (bytes_eq e.0 other) (has other es) h) rest
    by false rest = rest

apart_fewer : (key : List ℕ) (table : Table Stored) → AreApart table → AreApart (remove key table)
apart_fewer key [] a = tt
apart_fewer key (e ∷ es) a = by (not (bytes_eq e.0 key)) (has_fewer key e.0 es a.0) (apart_fewer key es a.1)
  where
    by : (b : Bool) → has e.0 (remove key es) ≡ false → AreApart (remove key es) → AreApart (cond b (e ∷ remove key es) (remove key es))
    by true h rest = (h, rest)
    by false h rest = rest

shorter : (b : Bool) (e : List ℕ × Stored) (kept es : Table Stored) → length kept ≤ length es → length (cond b (e ∷ kept) kept) ≤ suc (length es)
shorter true e kept es h = omega arith
shorter false e kept es h = omega arith

few_fewer : (key : List ℕ) (table : Table Stored) → length (remove key table) ≤ length table
few_fewer key [] = omega arith
few_fewer key (e ∷ es) = shorter (not (bytes_eq e.0 key)) e (remove key es) es (few_fewer key es)

-- ---- one message

put_known : (key : List ℕ) (v : Stored) (table : Table Stored) → has key table ≡ true → IsBounded table → IsBounded (put key v table)
put_known key v table e h = subst IsBounded (sym (ap (λ b. cond b (map (replaced key v) table) (table ++ (key, v) ∷ [])) e)) (record {
  few = subst (λ n. n ≤ 10000) (sym (length-map table (replaced key v))) h.few;
  apart = apart_replaced key v table h.apart;
})

put_new : (key : List ℕ) (v : Stored) (table : Table Stored) → has key table ≡ false → length table < 10000 → IsBounded table → IsBounded (put key v table)
put_new key v table e room h = subst IsBounded (sym (ap (λ b. cond b (map (replaced key v) table) (table ++ (key, v) ∷ [])) e)) (record {
  few = (let long : length (table ++ (key, v) ∷ []) ≡ length table + 1 = length-append table ((key, v) ∷ []) in omega arith);
  apart = apart_more key v table e h.apart;
})

kept_in : (table : Table Stored) (m : AppMessage) → IsBounded table → IsBounded (retain_in table m)
kept_in table m h = by (is_empty m.payload)
  where
    known : (b : Bool) → has m.topic table ≡ b → (r : Bool) → ltb (length table) most_topics ≡ r → IsBounded (cond (b || r) (put m.topic (stored m) table) table)
    known true e r f = put_known m.topic (stored m) table e h
    known false e true f = put_new m.topic (stored m) table e (ltb-true (length table) most_topics f) h
    known false e false f = h

    by : (b : Bool) → IsBounded (cond b (remove m.topic table) (cond (has m.topic table || ltb (length table) most_topics) (put m.topic (stored m) table) table))
    by true = record { few = (let less = few_fewer m.topic table in let le = h.few in omega arith); apart = apart_fewer m.topic table h.apart }
    by false = known (has m.topic table) refl (ltb (length table) most_topics) refl

kept_with : (table : Table Stored) (m : AppMessage) → IsBounded table → IsBounded (retained_with table m)
kept_with table m h = by m.retain
  where
    by : (b : Bool) → IsBounded (cond b (retain_in table m) table)
    by true = kept_in table m h
    by false = h

-- ---- the acts

routed_some : (n : ℕ) (t : Turn) → IsBounded t.broker.retained → IsBounded (route_some n t).broker.retained
unfolding route_some
routed_some zero t a = a
routed_some (suc n) t a =
    by t.waiting (λ m ms. routed_some n (route_one m (record t { waiting = ms })) (kept_with t.broker.retained m a))
  where
    by : (ws : List AppMessage) → ((m : AppMessage) (ms : List AppMessage) → IsBounded (route_some n (route_one m (record t { waiting = ms }))).broker.retained)
        → IsBounded (elim ws as (λ _. Turn) [ [] ↦ t | m ∷ ms ↦ route_some n (route_one m (record t { waiting = ms })) ]).broker.retained
    by [] rest = a
    by (m ∷ ms) rest = rest m ms

routed : (t : Turn) → IsBounded t.broker.retained → IsBounded (route t).broker.retained
unfolding route
routed t a = routed_some (length t.waiting + length t.broker.sessions) t a

left : (c : ℕ) (wills : Bool) (t : Turn) (o : Option Session) → (leave_at o c wills t).broker.retained ≡ t.broker.retained
left c wills t None = refl
left c wills t (Some s) = refl

forgotten : (t : Turn) (o : Option Session) → (forget_at o t).broker.retained ≡ t.broker.retained
forgotten t None = refl
forgotten t (Some s) = refl

up : (client : List ℕ) (kept : Bool) (connection : Connection) (t : Turn) (o : Option Session) → (take_up o client kept connection t).broker.retained ≡ t.broker.retained
up client kept connection t None = refl
up client kept connection t (Some s) = refl

accepted : (o : Option Newcomer) (client : List ℕ) (kept : Bool) (alive : ℕ) (will : Option AppMessage) (t : Turn) → (accept_of o client kept alive will t).broker.retained ≡ t.broker.retained
accepted None client kept alive will t = refl
accepted (Some g) client kept alive will t = up client kept (connection_of g alive will) t (away_for kept client t.broker.sessions)

offered_at : (key : ℕ) (app_message : AppMessage) (t : Turn) (o : Option Session) → (offer_at o key app_message t).broker.retained ≡ t.broker.retained
offered_at key app_message t None = refl
offered_at key app_message t (Some s) = refl

offers : (key : ℕ) (app_messages : List AppMessage) (t : Turn) → (fold (offer key) t app_messages).broker.retained ≡ t.broker.retained
offers key [] t = refl
offers key (p ∷ ps) t = offers key ps (offer key t p) ∙ offered_at key p t (with_key key t.broker.sessions)

given : (c id : ℕ) (entries : List (List ℕ × ℕ)) (t : Turn) (o : Option Session) → (give_at o c id entries t).broker.retained ≡ t.broker.retained
given c id entries t None = refl
given c id entries t (Some s) = offers s.key (flat_map (offers_to t.broker.retained) (granted_of (other_grants s t.broker.sessions) s.grants entries)) _

taken : (filters : List (List ℕ)) (t : Turn) (o : Option Session) → (take_at o filters t).broker.retained ≡ t.broker.retained
taken filters t None = refl
taken filters t (Some s) = refl

acked : (id : ℕ) (t : Turn) (o : Option Session) → (ack_at o id t).broker.retained ≡ t.broker.retained
acked id t None = refl
acked id t (Some s) = refl

kept_by : (a : Act) (t : Turn) → IsBounded t.broker.retained → IsBounded (act a t).broker.retained
kept_by Opens t h = h
kept_by (At moment) t h = h
kept_by (Hear c) t h = h
kept_by (Drop c) t h = h
kept_by (Say c p) t h = h
kept_by (Leave c wills) t h = subst IsBounded (sym (left c wills t (session_by c t.broker.sessions))) h
kept_by (Tell c) t h = h
kept_by (Queue app_message) t h = h
kept_by Route t h = routed t h
kept_by (Forget client) t h = subst IsBounded (sym (forgotten t (find (is_away client) t.broker.sessions))) h
kept_by (Accept c client kept alive will) t h = subst IsBounded (sym (accepted (find (is_newcomer c) t.broker.newcomers) client kept alive will t)) h
kept_by (Give c id entries) t h = subst IsBounded (sym (given c id entries t (session_by c t.broker.sessions))) h
kept_by (Take c filters) t h = subst IsBounded (sym (taken filters t (session_by c t.broker.sessions))) h
kept_by (Ack c id) t h = subst IsBounded (sym (acked id t (session_by c t.broker.sessions))) h

kept_by_all : (as_list : List Act) (t : Turn) → IsBounded t.broker.retained → IsBounded (acts as_list t).broker.retained
kept_by_all [] t h = h
kept_by_all (a ∷ as_list) t h = kept_by_all as_list (act a t) (kept_by a t h)

stepped : (b : Broker) (e : Event) → IsBounded b.retained → IsBounded (step b e).broker.retained
unfolding step
stepped b e h = kept_by_all (plan (seen (noted b e).broker e) e) (noted b e) (kept_by_all (before e) (begun b) h)

pub always : (limit : ℕ) (es : List Event) → IsBounded (after limit es).retained
always limit [] = record { few = omega arith; apart = tt }
always limit (e ∷ es) = stepped (after limit es) e (always limit es)

-- ---- a topic that has one

pub replaces : (table : Table Stored) (m : AppMessage) → m.retain ≡ true → is_empty m.payload ≡ false → has m.topic table ≡ true → retained_with table m ≡ in_its_place m table
replaces table m r p h =
    ap (λ b. cond b (retain_in table m) table) r
    ∙ ap (λ b. cond b (remove m.topic table) (cond (has m.topic table || ltb (length table) most_topics) (put m.topic (stored m) table) table)) p
    ∙ ap (λ b. cond (b || ltb (length table) most_topics) (put m.topic (stored m) table) table) h
    ∙ ap (λ b. cond b (map (replaced m.topic (stored m)) table) (table ++ (m.topic, stored m) ∷ [])) h

full : (table : Table Stored) → IsFull table → ltb (length table) most_topics ≡ false
full table n = by (ltb (length table) most_topics) refl
  where
    by : (b : Bool) → ltb (length table) most_topics ≡ b → b ≡ false
    by true e = let few : length table < 10000 = ltb-true (length table) most_topics e in absurd (omega arith)
    by false e = refl

pub leaves : (table : Table Stored) (m : AppMessage) → is_empty m.payload ≡ false → has m.topic table ≡ false → IsFull table → retained_with table m ≡ table
leaves table m p h n = by m.retain
  where
    by : (b : Bool) → cond b (retain_in table m) table ≡ table
    by true =
        ap (λ b. cond b (remove m.topic table) (cond (has m.topic table || ltb (length table) most_topics) (put m.topic (stored m) table) table)) p
        ∙ ap (λ b. cond (b || ltb (length table) most_topics) (put m.topic (stored m) table) table) h
        ∙ ap (λ b. cond b (put m.topic (stored m) table) table) (full table n)
    by false = refl
