-- Connections without an accepted CONNECT: they wait, and their first packet makes them join or closes them.
use Rattle.std.proofs.Common.{◌≡◌, ◌⊎◌, inl, inr, ℕ, zero, suc, ◌+◌, ◌≤◌, Bool, true, false, not, ◌&&◌, ◌||◌, cond, eqb, List, [], ◌∷◌, ◌++◌, map, length, refl, sym, ◌∙◌, ap, ap₂, arith, max, subst, Option, Some, None, true≢false}
use Rattle.std.specs.Prelude.{nat_lt}
use Rattle.std.specs.List.{find, filter, fold, list_any, flat_map, AllByRecursion}
use Rattle.std.specs.Option.{option_map, option_map_or, is_some}
use Rattle.std.specs.Str.{bytes_eq}
use Rattle.std.proofs.lemmas.Bool.{or_right}
use Rattle.spk_packets.specs.Message.{Message, WillData, Connect, ConnAck, Publish, PubAck, Subscribe, SubAck, Unsubscribe, UnsubAck, PingReq, PingResp, Disconnect}
use Rattle.spk_packets.specs.Fault.{first_of}
use Rattle.spk_packets.specs.Spelling.{unwritable, is_empty}
use Rattle.spk_packets.specs.declared.fault.PacketFault.{PacketFault}
use Rattle.spk_session.specs.declared.answer.Sort.{Sort}
use Rattle.spk_session.specs.declared.answer.Sort.TheVariants as sort
use Rattle.spk_session.specs.Step.{one_more}
use Rattle.spk_broker_rules.specs.Data.{AppMessage, Connection, Newcomer, Session, Broker}
use Rattle.spk_broker_rules.specs.Knowing.{speaks_of, IsWelcomed}
use Rattle.spk_broker_rules.specs.Lawful.{IsLawful, places}
use Rattle.spk_broker_rules.specs.Words.{is_silent, granted_of, offers_to, handed_out, will_message, most_kept}
use Rattle.spk_broker_rules.specs.Plan.{Event, Open, Packet, Fault, Closed, Tick, Refused, Act, Opens, At, Hear, Drop, Say, Leave, Tell, Queue, Route, Forget, Accept, Give, Take, Ack, before, plan, has_bad_topic, client_in, shut, turn_away, take_over, tell_older, join, first_packet, next_packet, tick, is_fatal, is_bad_level, Seen}
use Rattle.spk_broker_rules.specs.Listening.{is_joined, is_disconnect, lets_go, is_closed_in}
use Rattle.spk_broker_rules.specs.Step.{Turn, act, acts, sits, swap, conn_at, session_by, is_newcomer, is_away, is_kept_of, other_newcomers, newcomer_heard, newcomer_dropped, connection_heard, leave_at, forget_at, connection_of, new_session, take_up, away_for, accept_of, other_grants, give_at, take_at, ack_at, offer, offer_at, with_key, older_in, silent_at, welcome_in, route_one, route_some, route, noted, begun, seen, step, knows}
use Rattle.spk_broker_rules.proofs.Lists.{eqb-is, eqb-self, all-append, found-passes, find-map, any-map, filter-map}
use Rattle.spk_broker_rules.proofs.Lawfuls.{IsOrdered, found-in, ordered-act, ordered-acts}
use Rattle.spk_broker_rules.proofs.Places.{bit, bit-none, bit-one, length-map, tally, tally-cons, tally-append, tally-found, tally-missed, tally-swap, split, found-away, away-sits, told, down-route, gone-leave, ordered, lawful-acts}
use Rattle.spk_broker_rules.proofs.Endings.{acts-append, any-some, some-known, none-unknown, OpensNone, less-acts}
use Rattle.spk_broker_rules.proofs.Staying.{stays-joined}
use Rattle.spk_broker_rules.proofs.AnyList.{step-lawful}

pub tallied : {X : Type 0} (p : X → Bool) (xs : List X) → 1 ≤ tally p xs → is_some (find p xs) ≡ true
tallied {X} p xs e = by (find p xs) refl
  where
    by : (o : Option X) → find p xs ≡ o → is_some o ≡ true
    by None i = let n = tally-missed p xs i in absurd (omega arith)
    by (Some x) i = refl

pub untallied : {X : Type 0} (p : X → Bool) (xs : List X) → tally p xs ≡ 0 → is_some (find p xs) ≡ false
untallied {X} p xs e = by (find p xs) refl
  where
    by : (o : Option X) → find p xs ≡ o → is_some o ≡ false
    by None i = refl
    by (Some x) i = let n = tally-found p xs x i in absurd (omega arith)

pub none-pass : {X : Type 0} (p : X → Bool) (xs : List X) → tally p xs ≡ 0 → AllByRecursion (λ x. p x ≡ false) xs
none-pass p [] e = tt
none-pass {X} p (x ∷ xs) e = by (p x) refl (none-pass p xs)
  where
    count : tally p (x ∷ xs) ≡ bit (p x) + tally p xs
    count = tally-cons p x xs

    by : (b : Bool) → p x ≡ b → (tally p xs ≡ 0 → AllByRecursion (λ y. p y ≡ false) xs) → AllByRecursion (λ y. p y ≡ false) (x ∷ xs)
    by true i rest = let a = count in let d = bit-one (p x) i in absurd (omega arith)
    by false i rest = (i, rest (let a = count in let d = bit-none (p x) i in omega arith))

find-front : {X : Type 0} (p : X → Bool) (xs ys : List X) (x : X) → find p xs ≡ Some x → find p (xs ++ ys) ≡ Some x
find-front p [] ys x e = absurd (no e)
  where
    no : {Y : Type 0} {y : Y} → None ≡ Some y → ⊥
    no h = cc
find-front {X} p (y ∷ xs) ys x e = by (p y) e (find-front p xs ys x)
  where
    by : (b : Bool) → cond b (Some y) (find p xs) ≡ Some x → (find p xs ≡ Some x → find p (xs ++ ys) ≡ Some x) → cond b (Some y) (find p (xs ++ ys)) ≡ Some x
    by true f rest = f
    by false f rest = rest f

-- leaving out those that aren't meant
find-keep : {X : Type 0} (p q : X → Bool) → ((x : X) → p x ≡ true → q x ≡ true) → (xs : List X) → find p (filter q xs) ≡ find p xs
find-keep p q h [] = refl
find-keep {X} p q h (x ∷ xs) = by (q x) refl (p x) refl (find-keep p q h xs)
  where
    by : (a : Bool) → q x ≡ a → (b : Bool) → p x ≡ b → find p (filter q xs) ≡ find p xs → find p (cond a (x ∷ filter q xs) (filter q xs)) ≡ cond b (Some x) (find p xs)
    by true i true j rest = ap (λ k. cond k (Some x) (find p (filter q xs))) j
    by true i false j rest = ap (λ k. cond k (Some x) (find p (filter q xs))) j ∙ rest
    by false i true j rest = absurd (true≢false (sym (h x j) ∙ i))
    by false i false j rest = rest

far-from : (n d c : ℕ) → eqb n c ≡ true → eqb d c ≡ false → eqb n d ≡ false
far-from n d c e f = by (eqb n d) refl
  where
    by : (b : Bool) → eqb n d ≡ b → b ≡ false
    by true i = absurd (true≢false (sym e ∙ ap (λ x. eqb x c) (eqb-is n d i) ∙ f))
    by false i = refl

module _ (c : ℕ) (g : Newcomer) where
  abbrev pub Waits : Turn → Type 0
  Waits t = find (is_newcomer c) t.broker.newcomers ≡ Some g

  -- it touches no newcomer of this connection
  abbrev pub Far : Act → Type 0
  Far Opens = Unit {0}
  Far (At moment) = Unit {0}
  Far (Hear d) = eqb d c ≡ false
  Far (Drop d) = eqb d c ≡ false
  Far (Say d p) = Unit {0}
  Far (Leave d wills) = eqb d c ≡ false
  Far (Tell d) = Unit {0}
  Far (Queue app_message) = Unit {0}
  Far Route = Unit {0}
  Far (Forget name) = Unit {0}
  Far (Accept d name keeps alive will) = eqb d c ≡ false
  Far (Give d id entries) = Unit {0}
  Far (Take d filters) = Unit {0}
  Far (Ack d id) = Unit {0}

  waits-others : (d : ℕ) (gs : List Newcomer) → eqb d c ≡ false → find (is_newcomer c) gs ≡ Some g → find (is_newcomer c) (other_newcomers d gs) ≡ Some g
  waits-others d gs e w = find-keep (is_newcomer c) (λ (x : Newcomer). not (eqb x.conn d)) (λ x i. ap not (far-from x.conn d c i e)) gs ∙ w

  waits-some : (n : ℕ) (t : Turn) → Waits t → Waits (route_some n t)
  unfolding route_some
  waits-some zero t w = w
  waits-some (suc n) t w = by t.waiting (λ p ps. waits-some n (route_one p (record t { waiting = ps })) w)
    where
      by : (ws : List AppMessage) → ((p : AppMessage) (ps : List AppMessage) → Waits (route_some n (route_one p (record t { waiting = ps }))))
          → Waits (elim ws as (λ _. Turn) [ [] ↦ t | p ∷ ps ↦ route_some n (route_one p (record t { waiting = ps })) ])
      by [] rest = w
      by (p ∷ ps) rest = rest p ps

  waits-route : (t : Turn) → Waits t → Waits (route t)
  unfolding route
  waits-route t w = waits-some (length t.waiting + length t.broker.sessions) t w

  waits-offers : (key : ℕ) (app_messages : List AppMessage) (t : Turn) → Waits t → Waits (fold (offer key) t app_messages)
  waits-offers key [] t w = w
  waits-offers key (p ∷ ps) t w = waits-offers key ps (offer key t p) (by (with_key key t.broker.sessions))
    where
      by : (o : Option Session) → Waits (offer_at o key p t)
      by None = w
      by (Some s) = w

  waits-change : (change : Newcomer → Newcomer) → ((x : Newcomer) → (change x).conn ≡ x.conn) → change g ≡ g → (gs : List Newcomer) → find (is_newcomer c) gs ≡ Some g → find (is_newcomer c) (map change gs) ≡ Some g
  waits-change change same self gs w = find-map change (is_newcomer c) (is_newcomer c) (λ x. ap (λ n. eqb n c) (same x)) gs ∙ ap (option_map change) w ∙ ap Some self

  waits-act : (a : Act) (t : Turn) → Far a → Waits t → Waits (act a t)
  waits-act Opens t far w = find-front (is_newcomer c) t.broker.newcomers ((record { conn = t.broker.given + 1; heard = t.broker.clock; drops = 0 }) ∷ []) g w
  waits-act (At moment) t far w = w
  waits-act (Hear d) t far w = waits-change (newcomer_heard d t.broker.clock) (λ x. same x (eqb x.conn d)) (self (eqb g.conn d) (far-from g.conn d c (found-passes (is_newcomer c) t.broker.newcomers g w) far)) t.broker.newcomers w
    where
      same : (x : Newcomer) (b : Bool) → (cond b (record x { heard = t.broker.clock }) x).conn ≡ x.conn
      same x true = refl
      same x false = refl

      self : (b : Bool) → b ≡ false → cond b (record g { heard = t.broker.clock }) g ≡ g
      self true e = absurd (true≢false e)
      self false e = refl
  waits-act (Drop d) t far w = waits-change (newcomer_dropped d) (λ x. same x (eqb x.conn d)) (self (eqb g.conn d) (far-from g.conn d c (found-passes (is_newcomer c) t.broker.newcomers g w) far)) t.broker.newcomers w
    where
      same : (x : Newcomer) (b : Bool) → (cond b (record x { drops = one_more x.drops }) x).conn ≡ x.conn
      same x true = refl
      same x false = refl

      self : (b : Bool) → b ≡ false → cond b (record g { drops = one_more g.drops }) g ≡ g
      self true e = absurd (true≢false e)
      self false e = refl
  waits-act (Say d p) t far w = w
  waits-act (Leave d wills) t far w = by (session_by d t.broker.sessions)
    where
      by : (o : Option Session) → Waits (leave_at o d wills t)
      by None = waits-others d t.broker.newcomers far w
      by (Some s) = w
  waits-act (Tell d) t far w = w
  waits-act (Queue app_message) t far w = w
  waits-act Route t far w = waits-route t w
  waits-act (Forget name) t far w = by (find (is_away name) t.broker.sessions)
    where
      by : (o : Option Session) → Waits (forget_at o t)
      by None = w
      by (Some s) = w
  waits-act (Accept d name keeps alive will) t far w = by (find (is_newcomer d) t.broker.newcomers) refl
    where
      up : (x : Connection) (o : Option Session) → eqb x.conn c ≡ false → Waits (take_up o name keeps x t)
      up x None e = waits-others x.conn t.broker.newcomers e w
      up x (Some s) e = waits-others x.conn t.broker.newcomers e w

      by : (o : Option Newcomer) → find (is_newcomer d) t.broker.newcomers ≡ o → Waits (accept_of o name keeps alive will t)
      by None i = w
      by (Some y) i = up (connection_of y alive will) (away_for keeps name t.broker.sessions) (ap (λ n. eqb n c) (eqb-is y.conn d (found-passes (is_newcomer d) t.broker.newcomers y i)) ∙ far)
  waits-act (Give d id entries) t far w = by (session_by d t.broker.sessions)
    where
      by : (o : Option Session) → Waits (give_at o d id entries t)
      by None = w
      by (Some s) = waits-offers s.key (flat_map (offers_to t.broker.retained) (granted_of (other_grants s t.broker.sessions) s.grants entries)) _ w
  waits-act (Take d filters) t far w = by (session_by d t.broker.sessions)
    where
      by : (o : Option Session) → Waits (take_at o filters t)
      by None = w
      by (Some s) = w
  waits-act (Ack d id) t far w = by (session_by d t.broker.sessions)
    where
      by : (o : Option Session) → Waits (ack_at o id t)
      by None = w
      by (Some s) = w

  waits-acts : (as_list : List Act) (t : Turn) → AllByRecursion Far as_list → Waits t → Waits (acts as_list t)
  waits-acts [] t far w = w
  waits-acts (a ∷ as_list) t far w = waits-acts as_list (act a t) far.1 (waits-act a t far.0 w)

  -- ---- the rules

  record AllFar (as_list : List Act) : Type 0 where
    each : AllByRecursion Far as_list

  abbrev IsOther : Option ℕ → Type 0
  IsOther None = Unit {0}
  IsOther (Some d) = eqb d c ≡ false

  far-cond : (b : Bool) (xs ys : List Act) → AllFar xs → AllFar ys → AllFar (cond b xs ys)
  far-cond true xs ys h k = h
  far-cond false xs ys h k = k

  far-shut : (d : ℕ) → eqb d c ≡ false → AllFar (shut d)
  far-shut d e = record { each = (e, (tt, (tt, tt))) }

  far-away : (d code : ℕ) → eqb d c ≡ false → AllFar (turn_away d code)
  far-away d code e = record { each = (tt, (e, (tt, (tt, tt)))) }

  far-join : (older : Option ℕ) (d : ℕ) (name : List ℕ) (clean : Bool) (alive : ℕ) (will : Option AppMessage) → IsOther older → eqb d c ≡ false → AllFar (join older d name clean alive will)
  far-join None d name true alive will o e = record { each = (tt, (e, tt)) }
  far-join None d name false alive will o e = record { each = (e, tt) }
  far-join (Some x) d name true alive will o e = record { each = (o, (tt, (tt, (e, (tt, tt))))) }
  far-join (Some x) d name false alive will o e = record { each = (o, (tt, (e, (tt, tt)))) }

  far-first : (v : Seen) (d : ℕ) (p : Message) → IsOther v.older → eqb d c ≡ false → AllFar (first_packet v d p)
  far-first v d (Connect name clean alive will) o e =
      far-cond _ _ _ (far-away d 2 e) (far-cond _ _ _ (far-shut d e) (far-cond _ _ _ (far-away d 3 e) (far-join v.older d name clean alive _ o e)))
  far-first v d (ConnAck present code) o e = far-shut d e
  far-first v d (Publish dup qos retain topic id payload) o e = far-shut d e
  far-first v d (PubAck id) o e = far-shut d e
  far-first v d (Subscribe id entries) o e = far-shut d e
  far-first v d (SubAck id codes) o e = far-shut d e
  far-first v d (Unsubscribe id filters) o e = far-shut d e
  far-first v d (UnsubAck id) o e = far-shut d e
  far-first v d PingReq o e = far-shut d e
  far-first v d PingResp o e = far-shut d e
  far-first v d Disconnect o e = far-shut d e

  far-next : (v : Seen) (d : ℕ) (p : Message) → eqb d c ≡ false → AllFar (next_packet v d p)
  far-next v d (Connect name clean alive will) e = far-shut d e
  far-next v d (ConnAck present code) e = far-shut d e
  far-next v d (Publish dup qos retain topic None payload) e =
      far-cond _ (shut d) (Queue (record { topic = topic; payload = payload; qos = qos; retain = retain }) ∷ Route ∷ []) (far-shut d e) (record { each = (tt, (tt, tt)) })
  far-next v d (Publish dup qos retain topic (Some id) payload) e =
      far-cond _ (shut d) (Say d (PubAck id) ∷ Queue (record { topic = topic; payload = payload; qos = qos; retain = retain }) ∷ Route ∷ []) (far-shut d e) (record { each = (tt, (tt, (tt, tt))) })
  far-next v d (PubAck id) e = record { each = (tt, tt) }
  far-next v d (Subscribe id entries) e = far-cond _ (shut d) (Give d id entries ∷ Route ∷ []) (far-shut d e) (record { each = (tt, (tt, tt)) })
  far-next v d (SubAck id codes) e = far-shut d e
  far-next v d (Unsubscribe id filters) e = far-cond _ (shut d) (Take d filters ∷ Say d (UnsubAck id) ∷ []) (far-shut d e) (record { each = (tt, (tt, tt)) })
  far-next v d (UnsubAck id) e = far-shut d e
  far-next v d PingReq e = record { each = (tt, tt) }
  far-next v d PingResp e = far-shut d e
  far-next v d Disconnect e = record { each = (e, tt) }

  far-tick : (silent : List ℕ) → AllByRecursion (λ d. eqb d c ≡ false) silent → AllFar (tick silent)
  far-tick [] h = record { each = (tt, tt) }
  far-tick (x ∷ xs) h = record { each = (h.0, (tt, (far-tick xs h.1).each)) }

  far-plan : (v : Seen) (e : Event) → speaks_of c e ≡ false → IsOther v.older → AllByRecursion (λ d. eqb d c ≡ false) v.silent → AllFar (plan v e)
  far-plan v (Open moment) e o h = record { each = (tt, tt) }
  far-plan v (Packet d p moment) e o h = far-cond _ _ _ (far-shut d e) (far-cond _ _ _ (far-next v d p e) (far-first v d p o e))
  far-plan v (Fault d f moment) e o h = far-cond _ _ _ (far-away d 1 e) (far-shut d e)
  far-plan v (Closed d moment) e o h = record { each = (e, (tt, tt)) }
  far-plan v (Tick moment) e o h = far-tick v.silent h
  far-plan v (Refused d s moment) e o h = far-cond (is_fatal s v.spent) (shut d) [] (far-shut d e) (record { each = tt })

  far-before : (e : Event) → speaks_of c e ≡ false → AllByRecursion Far (before e)
  far-before (Open moment) e = (tt, tt)
  far-before (Packet d p moment) e = (tt, (e, tt))
  far-before (Fault d f moment) e = (tt, tt)
  far-before (Closed d moment) e = (tt, tt)
  far-before (Tick moment) e = (tt, tt)
  far-before (Refused d sort.QosZero moment) e = (tt, (e, tt))
  far-before (Refused d sort.Other moment) e = (tt, tt)

  -- nobody sits there
  abbrev Empty : Broker → Type 0
  Empty b = AllByRecursion (λ (s : Session). sits c s ≡ false) b.sessions

  pub no-session : (b : Broker) → places c b ≤ 1 → find (is_newcomer c) b.newcomers ≡ Some g → tally (sits c) b.sessions ≡ 0
  no-session b one w = let a = tally-found (is_newcomer c) b.newcomers g w in omega arith

  empty-at : (b : Broker) → places c b ≤ 1 → find (is_newcomer c) b.newcomers ≡ Some g → Empty b
  empty-at b one w = none-pass (sits c) b.sessions (no-session b one w)

  other-older : (name : List ℕ) (b : Broker) → Empty b → IsOther (older_in name b.sessions)
  other-older name b none = by (is_empty name)
    where
      conn : (s : Session) → sits c s ≡ false → IsOther (conn_at s)
      conn s e = one s.here e
        where
          one : (o : Option Connection) → option_map_or (λ (l : Connection). eqb l.conn c) o false ≡ false → IsOther (option_map (λ (l : Connection). l.conn) o)
          one None f = tt
          one (Some l) f = f

      found : (o : Option Session) → find (λ (s : Session). is_some s.here && bytes_eq s.client name) b.sessions ≡ o → IsOther (option_map_or conn_at o None)
      found None i = tt
      found (Some s) i = conn s (found-in (λ (x : Session). sits c x ≡ false) (λ (x : Session). is_some x.here && bytes_eq x.client name) b.sessions s none i)

      by : (e : Bool) → IsOther (cond e None (option_map_or conn_at (find (λ (s : Session). is_some s.here && bytes_eq s.client name) b.sessions) None))
      by true = tt
      by false = found (find (λ (s : Session). is_some s.here && bytes_eq s.client name) b.sessions) refl

  other-silent : (clock : ℕ) (ss : List Session) → AllByRecursion (λ (s : Session). sits c s ≡ false) ss → AllByRecursion (λ d. eqb d c ≡ false) (flat_map (silent_at clock) ss)
  other-silent clock [] h = tt
  other-silent clock (s ∷ ss) h = all-append (λ d. eqb d c ≡ false) (silent_at clock s) (flat_map (silent_at clock) ss) (one s.here h.0) (other-silent clock ss h.1)
    where
      one : (o : Option Connection) → option_map_or (λ (l : Connection). eqb l.conn c) o false ≡ false
          → AllByRecursion (λ d. eqb d c ≡ false) (option_map_or (λ (l : Connection). cond (is_silent clock l.alive l.heard) (l.conn ∷ []) []) o [])
      one None f = tt
      one (Some l) f = by (is_silent clock l.alive l.heard)
        where
          by : (b : Bool) → AllByRecursion (λ d. eqb d c ≡ false) (cond b (l.conn ∷ []) [])
          by true = (f, tt)
          by false = tt

  pub waits-step : (b : Broker) (e : Event) → IsLawful b → find (is_newcomer c) b.newcomers ≡ Some g → speaks_of c e ≡ false → find (is_newcomer c) (step b e).broker.newcomers ≡ Some g
  unfolding step
  waits-step b e l w f =
      let there : Waits (noted b e) = waits-acts (before e) (begun b) (far-before e f) w in
      let none : Empty (noted b e).broker = empty-at (noted b e).broker ((lawful-acts (before e) (begun b) l).apart c) there in
      waits-acts (plan (seen (noted b e).broker e) e) (noted b e)
      (far-plan (seen (noted b e).broker e) e f (other-older _ (noted b e).broker none) (other-silent (noted b e).broker.clock (noted b e).broker.sessions none)).each there

  -- ---- its first packet

  abbrev Ends : List Act → Turn → Type 0
  Ends as_list t = (is_joined (acts as_list t).broker c ≡ true) ⊎ (is_closed_in c (acts as_list t) ≡ true)

  -- two ways to end
  record Ended (as_list : List Act) (t : Turn) : Type 0 where
    ends : Ends as_list t

  ended-cond : (b : Bool) (xs ys : List Act) (t : Turn) → Ended xs t → Ended ys t → Ended (cond b xs ys) t
  ended-cond true xs ys t h k = h
  ended-cond false xs ys t h k = k

  closed-some : (t : Turn) → 1 ≤ told c t → is_closed_in c t ≡ true
  closed-some t h = by (is_closed_in c t) refl
    where
      none : (ds : List ℕ) → list_any (λ d. eqb d c) ds ≡ false → tally (λ d. eqb d c) ds ≡ 0
      none [] e = refl
      none (d ∷ ds) e = one (eqb d c) e (none ds)
        where
          one : (b : Bool) → (b || list_any (λ x. eqb x c) ds) ≡ false → (list_any (λ x. eqb x c) ds ≡ false → tally (λ x. eqb x c) ds ≡ 0) → length (cond b (d ∷ filter (λ x. eqb x c) ds) (filter (λ x. eqb x c) ds)) ≡ 0
          one true f rest = absurd (true≢false f)
          one false f rest = rest f

      by : (b : Bool) → is_closed_in c t ≡ b → b ≡ true
      by true i = refl
      by false i = let n = none t.closes i in absurd (omega arith)

  pub closed-shut : (t : Turn) → is_closed_in c (acts (shut c) t) ≡ true
  closed-shut t = closed-some (acts (shut c) t)
      (let u : Turn = act (Tell c) (act (Leave c true) t) in
      let a = (down-route c u).more in let b = tally-append (λ d. eqb d c) (act (Leave c true) t).closes (c ∷ []) in
      let d = tally-cons (λ d. eqb d c) c [] in let e = bit-one (eqb c c) (eqb-self c) in omega arith)

  ended-shut : (t : Turn) → Ended (shut c) t
  ended-shut t = record { ends = inr (closed-shut t) }

  ended-away : (code : ℕ) (t : Turn) → Ended (turn_away c code) t
  ended-away code t = record { ends = inr (closed-shut (act (Say c (ConnAck false code)) t)) }

  up-joined : (name : List ℕ) (keeps : Bool) (x : Connection) (t : Turn) (o : Option Session) → eqb x.conn c ≡ true → IsOrdered t.broker → away_for keeps name t.broker.sessions ≡ o
      → is_joined (take_up o name keeps x t).broker c ≡ true
  up-joined name keeps x t None e l is = tallied (sits c) (t.broker.sessions ++ new_session (t.broker.made + 1) name keeps x ∷ [])
      (let a = tally-append (sits c) t.broker.sessions (new_session (t.broker.made + 1) name keeps x ∷ []) in let b = tally-cons (sits c) (new_session (t.broker.made + 1) name keeps x) [] in
      let d = bit-one (eqb x.conn c) e in omega arith)
  up-joined name keeps x t (Some s) e l is = tallied (sits c) (swap s.key ((record s { here = Some x; in_flight = map handed_out s.in_flight }) ∷ []) t.broker.sessions)
      (let a = tally-swap (sits c) s ((record s { here = Some x; in_flight = map handed_out s.in_flight }) ∷ []) t.broker.sessions
      (split (is_away name) 0 t.broker.made t.broker.sessions s l.keys (found-away keeps name t.broker.sessions s is)) in
      let b = tally-cons (sits c) (record s { here = Some x; in_flight = map handed_out s.in_flight }) [] in
      let d = bit-one (eqb x.conn c) e in
      let f = bit-none (sits c s) (away-sits name c s (found-passes (is_away name) t.broker.sessions s (found-away keeps name t.broker.sessions s is))) in omega arith)

  accept-joined : (name : List ℕ) (keeps : Bool) (alive : ℕ) (will : Option AppMessage) (t : Turn) (o : Option Newcomer) → o ≡ Some g → eqb g.conn c ≡ true → IsOrdered t.broker
      → is_joined (accept_of o name keeps alive will t).broker c ≡ true
  accept-joined name keeps alive will t None is e l = absurd (no is)
    where
      no : {y : Newcomer} → None ≡ Some y → ⊥
      no h = cc
  accept-joined name keeps alive will t (Some y) is e l =
      let same : y ≡ g = cc in up-joined name keeps (connection_of y alive will) t (away_for keeps name t.broker.sessions) (ap (λ (z : Newcomer). eqb z.conn c) same ∙ e) l refl

  tell-joined : (older : Option ℕ) (t : Turn) → is_joined t.broker c ≡ true → is_joined (acts (tell_older older) t).broker c ≡ true
  tell-joined None t h = h
  tell-joined (Some o) t h = h

  own : (t : Turn) → Waits t → eqb g.conn c ≡ true
  own t w = found-passes (is_newcomer c) t.broker.newcomers g w

  -- its CONNECT is taken, whatever was routed before
  joins : (older : Option ℕ) (name : List ℕ) (clean : Bool) (alive : ℕ) (will : Option AppMessage) (t : Turn) → IsOther older → IsOrdered t.broker → Waits t
      → is_joined (acts (join older c name clean alive will) t).broker c ≡ true
  joins older name clean alive will t o l w =
      subst (λ (u : Turn). is_joined u.broker c ≡ true) (sym (acts-append (take_over older) (forgets clean ++ Accept c name (not clean) alive will ∷ tell_older older) t))
      (subst (λ (u : Turn). is_joined u.broker c ≡ true) (sym (acts-append (forgets clean) (Accept c name (not clean) alive will ∷ tell_older older) (acts (take_over older) t)))
      (tell-joined older _ (accept-joined name (not clean) alive will u (find (is_newcomer c) u.broker.newcomers) there (own u there) (ordered-acts (forgets clean) _ (ordered-acts (take_over older) t l)))))
    where
      forgets : Bool → List Act
      forgets k = cond k (Forget name ∷ []) []

      far-over : (x : Option ℕ) → IsOther x → AllByRecursion Far (take_over x)
      far-over None h = tt
      far-over (Some d) h = (h, (tt, tt))

      far-forget : (k : Bool) → AllByRecursion Far (cond k (Forget name ∷ []) [])
      far-forget true = (tt, tt)
      far-forget false = tt

      u : Turn
      u = acts (cond clean (Forget name ∷ []) []) (acts (take_over older) t)

      there : Waits (acts (cond clean (Forget name ∷ []) []) (acts (take_over older) t))
      there = waits-acts (cond clean (Forget name ∷ []) []) (acts (take_over older) t) (far-forget clean) (waits-acts (take_over older) t (far-over older o) w)

  ended-first : (v : Seen) (p : Message) (t : Turn) → IsOther v.older → IsOrdered t.broker → Waits t → Ended (first_packet v c p) t
  ended-first v (Connect name clean alive will) t o l w =
      ended-cond (is_empty name && not clean) (turn_away c 2) (cond (has_bad_topic will) (shut c) (cond (not clean && not v.welcome) (turn_away c 3) (join v.older c name clean alive (option_map will_message will)))) t (ended-away 2 t)
      (ended-cond (has_bad_topic will) (shut c) (cond (not clean && not v.welcome) (turn_away c 3) (join v.older c name clean alive (option_map will_message will))) t (ended-shut t)
      (ended-cond (not clean && not v.welcome) (turn_away c 3) (join v.older c name clean alive (option_map will_message will)) t (ended-away 3 t) (record { ends = inl (joins v.older name clean alive (option_map will_message will) t o l w) })))
  ended-first v (ConnAck present code) t o l w = ended-shut t
  ended-first v (Publish dup qos retain topic id payload) t o l w = ended-shut t
  ended-first v (PubAck id) t o l w = ended-shut t
  ended-first v (Subscribe id entries) t o l w = ended-shut t
  ended-first v (SubAck id codes) t o l w = ended-shut t
  ended-first v (Unsubscribe id filters) t o l w = ended-shut t
  ended-first v (UnsubAck id) t o l w = ended-shut t
  ended-first v PingReq t o l w = ended-shut t
  ended-first v PingResp t o l w = ended-shut t
  ended-first v Disconnect t o l w = ended-shut t

-- ---- whole events

-- what is noted of its own packet
own-noted : (c : ℕ) (g : Newcomer) (b : Broker) (p : Message) (moment : ℕ) → find (is_newcomer c) b.newcomers ≡ Some g
    → find (is_newcomer c) (noted b (Packet c p moment)).broker.newcomers ≡ Some (newcomer_heard c (max b.clock moment) g)
own-noted c g b p moment w =
    find-map (newcomer_heard c (max b.clock moment)) (is_newcomer c) (is_newcomer c) (λ x. ap (λ n. eqb n c) (same x (eqb x.conn c))) b.newcomers ∙ ap (option_map (newcomer_heard c (max b.clock moment))) w
  where
    same : (x : Newcomer) (k : Bool) → (cond k (record x { heard = max b.clock moment }) x).conn ≡ x.conn
    same x true = refl
    same x false = refl

pub first-step : (b : Broker) (c : ℕ) (g : Newcomer) (p : Message) (moment : ℕ) → IsLawful b → find (is_newcomer c) b.newcomers ≡ Some g
    → (is_joined (step b (Packet c p moment)).broker c ≡ true) ⊎ (is_closed_in c (step b (Packet c p moment)) ≡ true)
unfolding step
first-step b c g p moment l w =
    (ended-cond c h (is_some (first_of (unwritable p))) (shut c) (cond v.joined (next_packet v c p) (first_packet v c p)) t (ended-shut c h t)
    (subst (λ k. Ended c h (cond k (next_packet v c p) (first_packet v c p)) t) (sym (untallied (sits c) t.broker.sessions (no-session c h t.broker (lawful.apart c) there)))
    (ended-first c h v p t (other-older c h (client_in p) t.broker (empty-at c h t.broker (lawful.apart c) there)) (ordered t.broker lawful) there))).ends
  where
    t : Turn
    t = noted b (Packet c p moment)

    v : Seen
    v = seen (noted b (Packet c p moment)).broker (Packet c p moment)

    h : Newcomer
    h = newcomer_heard c (max b.clock moment) g

    lawful : IsLawful (noted b (Packet c p moment)).broker
    lawful = lawful-acts (before (Packet c p moment)) (begun b) l

    there : find (is_newcomer c) (noted b (Packet c p moment)).broker.newcomers ≡ Some (newcomer_heard c (max b.clock moment) g)
    there = own-noted c g b p moment w

-- who is known and hasn't joined is a newcomer
pub known-newcomer : (b : Broker) (c : ℕ) → knows b c ≡ true → is_joined b c ≡ false → (g : Newcomer) × (find (is_newcomer c) b.newcomers ≡ Some g)
known-newcomer b c k j = by (find (is_newcomer c) b.newcomers) refl
  where
    by : (o : Option Newcomer) → find (is_newcomer c) b.newcomers ≡ o → (g : Newcomer) × (find (is_newcomer c) b.newcomers ≡ Some g)
    by (Some g) i = (g, i)
    by None i = absurd (no (list_any (is_newcomer c) b.newcomers) refl)
      where
        no : (a : Bool) → list_any (is_newcomer c) b.newcomers ≡ a → ⊥
        no true e = let n = any-some (is_newcomer c) b.newcomers e in let m = tally-missed (is_newcomer c) b.newcomers i in absurd (omega arith)
        no false e = true≢false (sym k ∙ ap₂ (λ x y. x || y) e j)

pub waits-known : (b : Broker) (c : ℕ) (e : Event) → IsLawful b → knows b c ≡ true → is_joined b c ≡ false → speaks_of c e ≡ false
    → find (is_newcomer c) (step b e).broker.newcomers ≡ find (is_newcomer c) b.newcomers
waits-known b c e l k j f = let x = known-newcomer b c k j in waits-step c x.0 b e l x.1 f ∙ sym x.1

pub waits-unjoined : (b : Broker) (c : ℕ) (e : Event) → IsLawful b → knows b c ≡ true → is_joined b c ≡ false → speaks_of c e ≡ false → is_joined (step b e).broker c ≡ false
waits-unjoined b c e l k j f =
    let x = known-newcomer b c k j in
    untallied (sits c) (step b e).broker.sessions (no-session c x.0 (step b e).broker ((step-lawful b e l).apart c) (waits-step c x.0 b e l x.1 f))

pub first-known : (b : Broker) (c : ℕ) (p : Message) (moment : ℕ) → IsLawful b → knows b c ≡ true → is_joined b c ≡ false
    → (is_joined (step b (Packet c p moment)).broker c ≡ true) ⊎ (is_closed_in c (step b (Packet c p moment)) ≡ true)
first-known b c p moment l k j = let x = known-newcomer b c k j in first-step b c x.0 p moment l x.1

-- ---- a CONNECT that isn't turned away

taken-plan : (u j a w o : Bool) (x1 x2 x3 x4 x5 y : List Act) → u ≡ false → j ≡ false → a ≡ false → w ≡ false → o ≡ false
    → cond u x1 (cond j x2 (cond a x3 (cond w x4 (cond o x5 y)))) ≡ y
taken-plan u j a w o x1 x2 x3 x4 x5 y e f k m n = rw (e, f, k, m, n) refl

welcome-heard : (name : List ℕ) (change : Connection → Connection) (ss : List Session) → welcome_in name (map (λ (s : Session). record s { here = option_map change s.here }) ss) ≡ welcome_in name ss
welcome-heard name change ss =
    ap₂ (λ a n. a || nat_lt n most_kept) (any-map (λ (s : Session). record s { here = option_map change s.here }) (is_kept_of name) (is_kept_of name) (λ s. refl) ss)
    (ap length (filter-map (λ (s : Session). record s { here = option_map change s.here }) (λ (s : Session). s.kept) (λ (s : Session). s.kept) (λ s. refl) ss) ∙ length-map (λ (s : Session). record s { here = option_map change s.here }) (filter (λ (s : Session). s.kept) ss))

accepted-step : (b : Broker) (c : ℕ) (g : Newcomer) (name : List ℕ) (clean : Bool) (alive : ℕ) (will : Option WillData) (moment : ℕ) → IsLawful b → find (is_newcomer c) b.newcomers ≡ Some g
    → IsWelcomed b name clean alive will → is_joined (step b (Packet c (Connect name clean alive will) moment)).broker c ≡ true
unfolding step
accepted-step b c g name clean alive will moment l w x =
    subst (λ k. is_joined (acts k t).broker c ≡ true)
    (sym (taken-plan (is_some (first_of (unwritable (Connect name clean alive will)))) (is_some (session_by c t.broker.sessions)) (is_empty name && not clean) (has_bad_topic will) (not clean && not (welcome_in name t.broker.sessions))
    (shut c) (next_packet (seen t.broker (Packet c (Connect name clean alive will) moment)) c (Connect name clean alive will)) (turn_away c 2) (shut c) (turn_away c 3) (join (older_in name t.broker.sessions) c name clean alive (option_map will_message will))
    x.writable (untallied (sits c) t.broker.sessions (no-session c h t.broker (lawful.apart c) there)) x.named x.topic (ap (λ k. not clean && not k) (welcome-heard name (connection_heard c (max b.clock moment)) b.sessions) ∙ x.welcome)))
    (joins c h (older_in name t.broker.sessions) name clean alive (option_map will_message will) t (other-older c h name t.broker (empty-at c h t.broker (lawful.apart c) there)) (ordered t.broker lawful) there)
  where
    t : Turn
    t = noted b (Packet c (Connect name clean alive will) moment)

    h : Newcomer
    h = newcomer_heard c (max b.clock moment) g

    lawful : IsLawful (noted b (Packet c (Connect name clean alive will) moment)).broker
    lawful = lawful-acts (before (Packet c (Connect name clean alive will) moment)) (begun b) l

    there : find (is_newcomer c) (noted b (Packet c (Connect name clean alive will) moment)).broker.newcomers ≡ Some (newcomer_heard c (max b.clock moment) g)
    there = own-noted c g b (Connect name clean alive will) moment w

pub accepted : (b : Broker) (c moment : ℕ) (name : List ℕ) (clean : Bool) (alive : ℕ) (will : Option WillData) → IsLawful b → knows b c ≡ true → is_joined b c ≡ false
    → IsWelcomed b name clean alive will → is_joined (step b (Packet c (Connect name clean alive will) moment)).broker c ≡ true
accepted b c moment name clean alive will l k j x = let y = known-newcomer b c k j in accepted-step b c y.0 name clean alive will moment l y.1 x

-- ---- a connection that is known stays so or is told

newcomer-known : (b : Broker) (c : ℕ) (g : Newcomer) → find (is_newcomer c) b.newcomers ≡ Some g → knows b c ≡ true
newcomer-known b c g w = some-known b c (let a = tally-found (is_newcomer c) b.newcomers g w in omega arith)

joined-known : (b : Broker) (c : ℕ) → is_joined b c ≡ true → knows b c ≡ true
joined-known b c j = or_right (list_any (is_newcomer c) b.newcomers) (is_joined b c) j

fault-closed : (b : Broker) (c : ℕ) (f : PacketFault) (moment : ℕ) → is_closed_in c (step b (Fault c f moment)) ≡ true
unfolding step
fault-closed b c f moment = by (is_bad_level f && not (is_some (session_by c b.sessions)))
  where
    t : Turn
    t = noted b (Fault c f moment)

    free : Newcomer
    free = record { conn = 0; heard = 0; drops = 0 }

    by : (k : Bool) → is_closed_in c (acts (cond k (turn_away c 1) (shut c)) (noted b (Fault c f moment))) ≡ true
    by true = closed-shut c free (act (Say c (ConnAck false 1)) t)
    by false = closed-shut c free t

-- a refusal closes it, or only a drop is noted
pub refused-ends : (b : Broker) (c : ℕ) (s : Sort) (moment : ℕ) → (is_closed_in c (step b (Refused c s moment)) ≡ true) ⊎ (step b (Refused c s moment) ≡ noted b (Refused c s moment))
unfolding step
refused-ends b c s moment = by (is_fatal s (seen (noted b (Refused c s moment)).broker (Refused c s moment)).spent)
  where
    by : (k : Bool) → (is_closed_in c (acts (cond k (shut c) []) (noted b (Refused c s moment))) ≡ true) ⊎ (acts (cond k (shut c) []) (noted b (Refused c s moment)) ≡ noted b (Refused c s moment))
    by true = inl (closed-shut c (record { conn = 0; heard = 0; drops = 0 }) (noted b (Refused c s moment)))
    by false = inr refl

refused-newcomer : (b : Broker) (c : ℕ) (s : Sort) (moment : ℕ) (g : Newcomer) → find (is_newcomer c) b.newcomers ≡ Some g → knows (noted b (Refused c s moment)).broker c ≡ true
refused-newcomer b c sort.Other moment g w = newcomer-known (noted b (Refused c sort.Other moment)).broker c g w
refused-newcomer b c sort.QosZero moment g w = newcomer-known (noted b (Refused c sort.QosZero moment)).broker c (newcomer_dropped c g)
    (find-map (newcomer_dropped c) (is_newcomer c) (is_newcomer c) (λ x. ap (λ n. eqb n c) (same x (eqb x.conn c))) b.newcomers ∙ ap (option_map (newcomer_dropped c)) w)
  where
    same : (x : Newcomer) (k : Bool) → (cond k (record x { drops = one_more x.drops }) x).conn ≡ x.conn
    same x true = refl
    same x false = refl

Stands : Broker → ℕ → Event → Type 0
Stands b c e = (knows (step b e).broker c ≡ true) ⊎ (is_closed_in c (step b e) ≡ true)

newcomer-stands : (b : Broker) (c : ℕ) (g : Newcomer) (e : Event) → IsLawful b → find (is_newcomer c) b.newcomers ≡ Some g → lets_go c e ≡ false → Stands b c e
unfolding Stands
newcomer-stands b c g e l w h = by (speaks_of c e) refl
  where
    to : (d : ℕ) → eqb d c ≡ true → c ≡ d
    to d i = sym (eqb-is d c i)

    own : (e : Event) → lets_go c e ≡ false → speaks_of c e ≡ true → (knows (step b e).broker c ≡ true) ⊎ (is_closed_in c (step b e) ≡ true)
    own (Open moment) k i = absurd (true≢false (sym i))
    own (Packet d p moment) k i = subst (λ n. (knows (step b (Packet n p moment)).broker c ≡ true) ⊎ (is_closed_in c (step b (Packet n p moment)) ≡ true)) (to d i)
        (elim (first-step b c g p moment l w) [ inl x ↦ inl (joined-known (step b (Packet c p moment)).broker c x) | inr x ↦ inr x ])
    own (Fault d f moment) k i = subst (λ n. (knows (step b (Fault n f moment)).broker c ≡ true) ⊎ (is_closed_in c (step b (Fault n f moment)) ≡ true)) (to d i) (inr (fault-closed b c f moment))
    own (Closed d moment) k i = absurd (true≢false (sym i ∙ k))
    own (Tick moment) k i = absurd (true≢false (sym i))
    own (Refused d s moment) k i = subst (λ n. (knows (step b (Refused n s moment)).broker c ≡ true) ⊎ (is_closed_in c (step b (Refused n s moment)) ≡ true)) (to d i)
        (elim (refused-ends b c s moment) [
          | inl x ↦ inr x
          | inr x ↦ inl (ap (λ (t : Turn). knows t.broker c) x ∙ refused-newcomer b c s moment g w)
        ])

    by : (k : Bool) → speaks_of c e ≡ k → (knows (step b e).broker c ≡ true) ⊎ (is_closed_in c (step b e) ≡ true)
    by true i = own e h i
    by false i = inl (newcomer-known (step b e).broker c g (waits-step c g b e l w i))

pub stands : (b : Broker) (c : ℕ) (e : Event) → IsLawful b → knows b c ≡ true → lets_go c e ≡ false → (knows (step b e).broker c ≡ true) ⊎ (is_closed_in c (step b e) ≡ true)
unfolding Stands
stands b c e l k h = by (is_joined b c) refl
  where
    by : (j : Bool) → is_joined b c ≡ j → (knows (step b e).broker c ≡ true) ⊎ (is_closed_in c (step b e) ≡ true)
    by true i = elim (stays-joined b c e l i h) [ inl x ↦ inl (joined-known (step b e).broker c x) | inr x ↦ inr x ]
    by false i = let x = known-newcomer b c k i in newcomer-stands b c x.0 e l x.1 h

-- ---- whose client ends it is known no more

gone-acts : (c : ℕ) (wills : Bool) (as_list : List Act) (t : Turn) → AllByRecursion OpensNone as_list → IsLawful t.broker → places c (acts (Leave c wills ∷ as_list) t).broker ≡ 0
gone-acts c wills as_list t none l =
    let a = gone-leave c wills t (session_by c t.broker.sessions) (ordered t.broker l) (l.apart c) refl in
    let b = less-acts c as_list (act (Leave c wills) t) none (ordered-act (Leave c wills) t (ordered t.broker l)) in omega arith

pub ended-gone : (b : Broker) (c : ℕ) (e : Event) → IsLawful b → lets_go c e ≡ true → knows (step b e).broker c ≡ false
unfolding step
ended-gone b c e l h = own e h
  where
    closed : (moment : ℕ) → places c (acts (Leave c true ∷ Route ∷ []) (noted b (Closed c moment))).broker ≡ 0
    closed moment = gone-acts c true (Route ∷ []) (noted b (Closed c moment)) (tt, tt) (lawful-acts (before (Closed c moment)) (begun b) l)

    left : (moment : ℕ) (a j : Bool) → places c (acts (cond a (shut c) (cond j (Leave c false ∷ []) (shut c))) (noted b (Packet c Disconnect moment))).broker ≡ 0
    left moment true j = gone-acts c true (Tell c ∷ Route ∷ []) (noted b (Packet c Disconnect moment)) (tt, (tt, tt)) (lawful-acts (before (Packet c Disconnect moment)) (begun b) l)
    left moment false true = gone-acts c false [] (noted b (Packet c Disconnect moment)) tt (lawful-acts (before (Packet c Disconnect moment)) (begun b) l)
    left moment false false = gone-acts c true (Tell c ∷ Route ∷ []) (noted b (Packet c Disconnect moment)) (tt, (tt, tt)) (lawful-acts (before (Packet c Disconnect moment)) (begun b) l)

    both : (a k : Bool) → (a && k) ≡ true → (a ≡ true) × (k ≡ true)
    both true k i = (refl, i)
    both false k i = absurd (true≢false (sym i))

    parting : (moment : ℕ) → knows (step b (Packet c Disconnect moment)).broker c ≡ false
    parting moment = none-unknown (step b (Packet c Disconnect moment)).broker c (left moment _ _)

    gone : (p : Message) (moment : ℕ) → is_disconnect p ≡ true → knows (step b (Packet c p moment)).broker c ≡ false
    gone (Connect name clean alive will) moment i = absurd (true≢false (sym i))
    gone (ConnAck present code) moment i = absurd (true≢false (sym i))
    gone (Publish dup qos retain topic id payload) moment i = absurd (true≢false (sym i))
    gone (PubAck id) moment i = absurd (true≢false (sym i))
    gone (Subscribe id entries) moment i = absurd (true≢false (sym i))
    gone (SubAck id codes) moment i = absurd (true≢false (sym i))
    gone (Unsubscribe id filters) moment i = absurd (true≢false (sym i))
    gone (UnsubAck id) moment i = absurd (true≢false (sym i))
    gone PingReq moment i = absurd (true≢false (sym i))
    gone PingResp moment i = absurd (true≢false (sym i))
    gone Disconnect moment i = parting moment

    own : (e : Event) → lets_go c e ≡ true → knows (step b e).broker c ≡ false
    own (Open moment) i = absurd (true≢false (sym i))
    own (Packet d p moment) i = let x = both (eqb d c) (is_disconnect p) i in
        subst (λ n. knows (step b (Packet n p moment)).broker c ≡ false) (sym (eqb-is d c x.0)) (gone p moment x.1)
    own (Fault d f moment) i = absurd (true≢false (sym i))
    own (Closed d moment) i = subst (λ n. knows (step b (Closed n moment)).broker c ≡ false) (sym (eqb-is d c i)) (none-unknown (step b (Closed c moment)).broker c (closed moment))
    own (Tick moment) i = absurd (true≢false (sym i))
    own (Refused d s moment) i = absurd (true≢false (sym i))
