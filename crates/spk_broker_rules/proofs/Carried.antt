-- Filters and messages: what stands in the data or is sent came with an event.
use Rattle.std.proofs.Common.{◌≡◌, ℕ, zero, suc, ◌+◌, min, Bool, true, false, ◌||◌, cond, List, [], ◌∷◌, ◌++◌, map, length, refl, sym, subst, Option, Some, None}
use Rattle.std.proofs.lemmas.Slice.Eq.{bytes_eq-Decides}
use Rattle.std.specs.Prelude.{nat_lt}
use Rattle.std.specs.Str.{bytes_eq}
use Rattle.std.specs.List.{find, fold, flat_map, AllByRecursion}
use Rattle.std.specs.Option.{option_map, option_map_or, is_some}
use Rattle.spk_packets.specs.Message.{Message, WillData, Connect, ConnAck, Publish, PubAck, Subscribe, SubAck, Unsubscribe, UnsubAck, PingReq, PingResp, Disconnect}
use Rattle.spk_session.specs.declared.answer.Sort.TheVariants as sort
use Rattle.spk_session.specs.PacketIds.{next_id}
use Rattle.spk_session.specs.Step.{has_room, one_more}
use Rattle.spk_broker_rules.specs.Data.{AppMessage, InFlight, Connection, Newcomer, Session, Stored, Broker, Send}
use Rattle.spk_broker_rules.specs.Table.{Table, has, put, remove, replaced}
use Rattle.spk_packets.specs.Spelling.{is_empty}
use Rattle.spk_broker_rules.specs.Words.{handed_out, best, level, sent_as, option_list, to_connection, resent, will_message, offered, offers_to, granted_of, with_entry, stored, most_topics}
use Rattle.spk_broker_rules.specs.Plan.{Event, Open, Packet, Fault, Closed, Tick, Refused, Act, Opens, At, Hear, Drop, Say, Leave, Tell, Queue, Route, Forget, Accept, Give, Take, Ack, before, plan, shut, turn_away, join, first_packet, next_packet, tick, is_fatal, Seen}
use Rattle.spk_broker_rules.specs.Origins.{AppMessageSays, WillSays, WillOf, Says, SaysAll}
use Rattle.spk_broker_rules.specs.Topics.{FiltersIn, Brings}
use Rattle.spk_broker_rules.specs.Step.{Turn, Served, act, acts, on_connections, newcomer_heard, connection_heard, newcomer_dropped, connection_dropped, sits, swap, left_behind, leave_at, will_at, session_by, is_newcomer, is_away, forget_at, connection_of, new_session, take_up, away_for, accept_of, other_grants, give_at, take_at, ack_at, offer, offer_at, with_key, hand, hand_at, serve, serve_at, numbered, in_flight_with, bursts, conn_at, retained_with, route_one, route_some, route, noted, begun, seen, step}
use Rattle.spk_broker_rules.proofs.Lists.{all-also, all-append, all-filter, all-mapped, all-flat}
use Rattle.spk_broker_rules.proofs.Lawfuls.{found-in}

module _ (F : List ℕ → Type 0) (T : List ℕ → List ℕ → Type 0) where
  abbrev pub Grants : Table ℕ → Type 0
  Grants gs = AllByRecursion (λ (g : List ℕ × ℕ). F g.0) gs

  abbrev pub AllInFlight : List InFlight → Type 0
  AllInFlight cs = AllByRecursion (λ (c : InFlight). T c.app_message.topic c.app_message.payload) cs

  abbrev pub S : Session → Type 0
  S s = Grants s.grants × WillSays T s.here × AllInFlight s.in_flight

  abbrev pub Sessions : List Session → Type 0
  Sessions ss = AllByRecursion S ss

  abbrev pub AppMessages : List AppMessage → Type 0
  AppMessages ms = AllByRecursion (λ (m : AppMessage). T m.topic m.payload) ms

  abbrev pub Kept : Table Stored → Type 0
  Kept es = AllByRecursion (λ (e : List ℕ × Stored). T e.0 e.1.payload) es

  pub record Of (t : Turn) : Type 0 where
    pub sessions : Sessions t.broker.sessions
    pub retained : Kept t.broker.retained
    pub sends : SaysAll T t.sends
    pub waiting : AppMessages t.waiting

  record OfServed (x : Served) : Type 0 where
    left : Sessions x.left
    sends : SaysAll T x.sends
    wills : AppMessages x.wills

  -- ---- one message

  connection-sends : (o : Option ℕ) (p : Message) → Says T p → SaysAll T (to_connection o p)
  connection-sends None p h = tt
  connection-sends (Some c) p h = (h, tt)

  list-app_messages : (o : Option AppMessage) → AppMessageSays T o → AppMessages (option_list o)
  list-app_messages None h = tt
  list-app_messages (Some m) h = (h, tt)

  connection-wills : (o : Option Connection) → WillSays T o → AppMessages (option_map_or (λ (l : Connection). option_list l.will) o [])
  connection-wills None h = tt
  connection-wills (Some l) h = list-app_messages l.will h

  more-in_flight : (s : Session) (id : ℕ) (app_message : AppMessage) → T app_message.topic app_message.payload → AllInFlight s.in_flight → AllInFlight (in_flight_with s id app_message)
  more-in_flight s id app_message h all = by s.kept
    where
      by : (b : Bool) → AllInFlight (cond b (s.in_flight ++ (record { id = id; app_message = app_message; handed = is_some s.here }) ∷ []) s.in_flight)
      by true = all-append (λ (c : InFlight). T c.app_message.topic c.app_message.payload) s.in_flight ((record { id = id; app_message = app_message; handed = is_some s.here }) ∷ []) all (h, tt)
      by false = all

  of-hand : (q : ℕ) (app_message : AppMessage) (s : Session) → T app_message.topic app_message.payload → S s → OfServed (hand_at q app_message s)
  of-hand zero app_message s h all = record { left = (all, tt); sends = connection-sends (conn_at s) _ h; wills = tt }
  of-hand (suc q) app_message s h all = by (has_room s.used)
    where
      by : (b : Bool) → OfServed (cond b (numbered s app_message (next_id s.used s.last)) (bursts s))
      by true = record {
        left = ((all.0, all.1, more-in_flight s (next_id s.used s.last) app_message h all.2), tt);
        sends = connection-sends (conn_at s) _ h;
        wills = tt;
      }
      by false = record { left = tt; sends = tt; wills = connection-wills s.here all.1 }

  of-serve : (m : AppMessage) (s : Session) → T m.topic m.payload → S s → OfServed (serve m s)
  of-serve m s h all = by (level m.qos (best m.topic s.grants))
    where
      by : (o : Option ℕ) → OfServed (serve_at o m s)
      by None = record { left = (all, tt); sends = tt; wills = tt }
      by (Some q) = of-hand q (sent_as m q false) s h all

  -- ---- tables

  put-all : {V : Type 0} (P : List ℕ → V → Type 0) (key : List ℕ) (value : V) (table : Table V) → P key value → AllByRecursion (λ (e : List ℕ × V). P e.0 e.1) table
      → AllByRecursion (λ (e : List ℕ × V). P e.0 e.1) (put key value table)
  put-all {V} P key value table h all = by (has key table)
    where
      same : (e : List ℕ × V) → P e.0 e.1 → P (replaced key value e).0 (replaced key value e).1
      same e x = one (bytes_eq e.0 key) refl
        where
          one : (b : Bool) → bytes_eq e.0 key ≡ b → P (cond b (e.0, value) e).0 (cond b (e.0, value) e).1
          one true is = subst (λ (k : List ℕ). P k value) (sym ((bytes_eq-Decides e.0 key).0 is)) h
          one false is = x

      by : (b : Bool) → AllByRecursion (λ (e : List ℕ × V). P e.0 e.1) (cond b (map (replaced key value) table) (table ++ (key, value) ∷ []))
      by true = all-mapped (λ (e : List ℕ × V). P e.0 e.1) (replaced key value) table
          (all-also (λ (e : List ℕ × V). P e.0 e.1) (λ (e : List ℕ × V). P (replaced key value e).0 (replaced key value e).1) same table all)
      by false = all-append (λ (e : List ℕ × V). P e.0 e.1) table ((key, value) ∷ []) all (h, tt)

  of-retained : (table : Table Stored) (m : AppMessage) → T m.topic m.payload → Kept table → Kept (retained_with table m)
  of-retained table m h all = by m.retain (is_empty m.payload)
    where
      room : (b : Bool) → Kept (cond b (put m.topic (stored m) table) table)
      room true = put-all (λ k (e : Stored). T k e.payload) m.topic (stored m) table h all
      room false = all

      by : (r : Bool) (e : Bool) → Kept (cond r (cond e (remove m.topic table) (cond (has m.topic table || nat_lt (length table) most_topics) (put m.topic (stored m) table) table)) table)
      by true true = all-filter (λ (e : List ℕ × Stored). T e.0 e.1.payload) _ table all
      by true false = room (has m.topic table || nat_lt (length table) most_topics)
      by false e = all

  -- ---- routing

  of-one : (m : AppMessage) (t : Turn) → T m.topic m.payload → Of t → Of (route_one m t)
  of-one m t h x = record {
    sessions = all-flat S S (λ (s : Session). (serve m s).left) (λ s a. (of-serve m s h a).left) t.broker.sessions x.sessions;
    retained = of-retained t.broker.retained m h x.retained;
    sends = all-append (λ (s : Send). Says T s.packet) t.sends _ x.sends (all-flat S (λ (s : Send). Says T s.packet) (λ (s : Session). (serve m s).sends) (λ s a. (of-serve m s h a).sends) t.broker.sessions x.sessions);
    waiting = all-append (λ (p : AppMessage). T p.topic p.payload) t.waiting _ x.waiting (all-flat S (λ (p : AppMessage). T p.topic p.payload) (λ (s : Session). (serve m s).wills) (λ s a. (of-serve m s h a).wills) t.broker.sessions x.sessions);
  }

  of-some : (n : ℕ) (t : Turn) → Of t → Of (route_some n t)
  unfolding route_some
  of-some zero t x = x
  of-some (suc n) t x = by t.waiting x.waiting (λ m ms h rest. of-some n (route_one m (record t { waiting = ms })) (of-one m (record t { waiting = ms }) h (record { sessions = x.sessions; retained = x.retained; sends = x.sends; waiting = rest })))
    where
      by : (ws : List AppMessage) → AppMessages ws → ((m : AppMessage) (ms : List AppMessage) → T m.topic m.payload → AppMessages ms → Of (route_some n (route_one m (record t { waiting = ms }))))
          → Of (elim ws as (λ _. Turn) [ [] ↦ t | m ∷ ms ↦ route_some n (route_one m (record t { waiting = ms })) ])
      by [] all rest = x
      by (m ∷ ms) all rest = rest m ms all.0 all.1

  of-route : (t : Turn) → Of t → Of (route t)
  unfolding route
  of-route t x = of-some (length t.waiting + length t.broker.sessions) t x

  -- ---- the acts

  -- what an act brings
  abbrev Fits : Act → Type 0
  Fits Opens = Unit {0}
  Fits (At moment) = Unit {0}
  Fits (Hear d) = Unit {0}
  Fits (Drop d) = Unit {0}
  Fits (Say d p) = Says T p
  Fits (Leave d wills) = Unit {0}
  Fits (Tell d) = Unit {0}
  Fits (Queue app_message) = T app_message.topic app_message.payload
  Fits Route = Unit {0}
  Fits (Forget name) = Unit {0}
  Fits (Accept d name keeps alive will) = AppMessageSays T will
  Fits (Give d id entries) = Grants entries
  Fits (Take d filters) = Unit {0}
  Fits (Ack d id) = Unit {0}

  sessions-swap : (key : ℕ) (new ss : List Session) → Sessions new → Sessions ss → Sessions (swap key new ss)
  sessions-swap key new ss h all = all-flat S S _ (λ s a. by s a _) ss all
    where
      by : (s : Session) → S s → (b : Bool) → Sessions (cond b new (s ∷ []))
      by s a true = h
      by s a false = (a, tt)

  with-connection : (change : Connection → Connection) → ((l : Connection) → (change l).will ≡ l.will) → (o : Option Connection) → WillSays T o → WillSays T (option_map change o)
  with-connection change same None h = tt
  with-connection change same (Some l) h = subst (AppMessageSays T) (sym (same l)) h

  of-connections : (on_newcomer : Newcomer → Newcomer) (change : Connection → Connection) → ((l : Connection) → (change l).will ≡ l.will) → (t : Turn) → Of t → Of (on_connections on_newcomer change t)
  of-connections on_newcomer change same t x = record {
    sessions = all-mapped S (λ (s : Session). record s { here = option_map change s.here }) t.broker.sessions
        (all-also S (λ (s : Session). S (record s { here = option_map change s.here })) (λ s a. (a.0, with-connection change same s.here a.1, a.2)) t.broker.sessions x.sessions);
    retained = x.retained;
    sends = x.sends;
    waiting = x.waiting;
  }

  heard-will : (d k : ℕ) (l : Connection) → (connection_heard d k l).will ≡ l.will
  heard-will d k l = by _
    where
      by : (b : Bool) → (cond b (record l { heard = k }) l).will ≡ l.will
      by true = refl
      by false = refl

  dropped-will : (d : ℕ) (l : Connection) → (connection_dropped d l).will ≡ l.will
  dropped-will d l = by _
    where
      by : (b : Bool) → (cond b (record l { drops = one_more l.drops }) l).will ≡ l.will
      by true = refl
      by false = refl

  with-sessions : (t : Turn) (ss : List Session) → Of t → Sessions ss → Of (record t { broker = record t.broker { sessions = ss } })
  with-sessions t ss x all = record { sessions = all; retained = x.retained; sends = x.sends; waiting = x.waiting }

  of-leave : (d : ℕ) (wills : Bool) (t : Turn) (o : Option Session) → session_by d t.broker.sessions ≡ o → Of t → Of (leave_at o d wills t)
  of-leave d wills t None is x = record { sessions = x.sessions; retained = x.retained; sends = x.sends; waiting = x.waiting }
  of-leave d wills t (Some s) is x = record {
    sessions = sessions-swap s.key (left_behind s) t.broker.sessions (left s.kept) x.sessions;
    retained = x.retained;
    sends = x.sends;
    waiting = all-append (λ (p : AppMessage). T p.topic p.payload) t.waiting (will_at wills s) x.waiting (waits wills);
  }
    where
      here : S s
      here = found-in S (sits d) t.broker.sessions s x.sessions is

      left : (b : Bool) → Sessions (cond b ((record s { here = None }) ∷ []) [])
      left true = ((here.0, tt, here.2), tt)
      left false = tt

      waits : (w : Bool) → AppMessages (will_at w s)
      waits true = connection-wills s.here here.1
      waits false = tt

  of-forget : (t : Turn) (o : Option Session) → Of t → Of (forget_at o t)
  of-forget t None x = x
  of-forget t (Some s) x = with-sessions t (swap s.key [] t.broker.sessions) x (sessions-swap s.key [] t.broker.sessions tt x.sessions)

  of-resent : (d : ℕ) (cs : List InFlight) → AllInFlight cs → SaysAll T (resent d cs)
  of-resent d [] h = tt
  of-resent d (c ∷ cs) h = (h.0, of-resent d cs h.1)

  of-up : (name : List ℕ) (keeps : Bool) (l : Connection) (t : Turn) (o : Option Session) → AppMessageSays T l.will → away_for keeps name t.broker.sessions ≡ o → Of t → Of (take_up o name keeps l t)
  of-up name keeps l t None will is x = record {
    sessions = all-append S t.broker.sessions (new_session (t.broker.made + 1) name keeps l ∷ []) x.sessions ((tt, will, tt), tt);
    retained = x.retained;
    sends = all-append (λ (s : Send). Says T s.packet) t.sends _ x.sends (tt, tt);
    waiting = x.waiting;
  }
  of-up name keeps l t (Some s) will is x = record {
    sessions = sessions-swap s.key _ t.broker.sessions ((here.0, will, all-mapped (λ (c : InFlight). T c.app_message.topic c.app_message.payload) handed_out s.in_flight here.2), tt) x.sessions;
    retained = x.retained;
    sends = all-append (λ (y : Send). Says T y.packet) t.sends _ x.sends (tt, of-resent l.conn s.in_flight here.2);
    waiting = x.waiting;
  }
    where
      found : (k : Bool) → cond k (find (is_away name) t.broker.sessions) None ≡ Some s → find (is_away name) t.broker.sessions ≡ Some s
      found true e = e
      found false e = absurd (no e)
        where
          no : None ≡ Some s → ⊥
          no e = cc

      here : S s
      here = found-in S (is_away name) t.broker.sessions s x.sessions (found keeps is)

  of-accept : (name : List ℕ) (keeps : Bool) (alive : ℕ) (will : Option AppMessage) (t : Turn) (o : Option Newcomer) → AppMessageSays T will → Of t → Of (accept_of o name keeps alive will t)
  of-accept name keeps alive will t None h x = x
  of-accept name keeps alive will t (Some g) h x = of-up name keeps (connection_of g alive will) t (away_for keeps name t.broker.sessions) h refl x

  of-offer_at : (key : ℕ) (app_message : AppMessage) (t : Turn) (o : Option Session) → T app_message.topic app_message.payload → with_key key t.broker.sessions ≡ o → Of t → Of (offer_at o key app_message t)
  of-offer_at key app_message t None h is x = x
  of-offer_at key app_message t (Some s) h is x = record {
    sessions = sessions-swap key (hand app_message s).left t.broker.sessions y.left x.sessions;
    retained = x.retained;
    sends = all-append (λ (z : Send). Says T z.packet) t.sends _ x.sends y.sends;
    waiting = all-append (λ (p : AppMessage). T p.topic p.payload) t.waiting _ x.waiting y.wills;
  }
    where
      y : OfServed (hand app_message s)
      y = of-hand app_message.qos app_message s h (found-in S _ t.broker.sessions s x.sessions is)

  of-offers : (key : ℕ) (app_messages : List AppMessage) (t : Turn) → AppMessages app_messages → Of t → Of (fold (offer key) t app_messages)
  of-offers key [] t h x = x
  of-offers key (p ∷ ps) t h x = of-offers key ps (offer key t p) h.1 (of-offer_at key p t (with_key key t.broker.sessions) h.0 refl x)

  of-entries : (others : ℕ) (es : List (List ℕ × ℕ)) (g : Table ℕ) → Grants es → Grants g → Grants (fold (with_entry others) g es)
  of-entries others [] g h all = all
  of-entries others (e ∷ es) g h all = of-entries others es (with_entry others g e) h.1 (by _)
    where
      by : (b : Bool) → Grants (cond b (put e.0 (min 1 e.1) g) g)
      by true = put-all (λ k (q : ℕ). F k) e.0 (min 1 e.1) g h.0 all
      by false = all

  of-offered : (table : Table Stored) (e : List ℕ × ℕ) → Kept table → AppMessages (offers_to table e)
  of-offered table e all = all-mapped (λ (p : AppMessage). T p.topic p.payload) (offered e.1) _ (all-filter (λ (x : List ℕ × Stored). T x.0 x.1.payload) _ table all)

  of-all_offered : (table : Table Stored) (es : List (List ℕ × ℕ)) → Kept table → AppMessages (flat_map (offers_to table) es)
  of-all_offered table [] all = tt
  of-all_offered table (e ∷ es) all = all-append (λ (p : AppMessage). T p.topic p.payload) (offers_to table e) _ (of-offered table e all) (of-all_offered table es all)

  of-give : (d id : ℕ) (entries : List (List ℕ × ℕ)) (t : Turn) (o : Option Session) → Grants entries → session_by d t.broker.sessions ≡ o → Of t → Of (give_at o d id entries t)
  of-give d id entries t None h is x = x
  of-give d id entries t (Some s) h is x =
      of-offers s.key (flat_map (offers_to t.broker.retained) (granted_of (other_grants s t.broker.sessions) s.grants entries)) _
      (of-all_offered t.broker.retained (granted_of (other_grants s t.broker.sessions) s.grants entries) x.retained)
      (record {
        sessions = sessions-swap s.key _ t.broker.sessions ((of-entries (other_grants s t.broker.sessions) entries s.grants h here.0, here.1, here.2), tt) x.sessions;
        retained = x.retained;
        sends = all-append (λ (z : Send). Says T z.packet) t.sends _ x.sends (tt, tt);
        waiting = x.waiting;
      })
    where
      here : S s
      here = found-in S (sits d) t.broker.sessions s x.sessions is

  of-taken : (ks : List (List ℕ)) (g : Table ℕ) → Grants g → Grants (fold (λ a k. remove k a) g ks)
  of-taken [] g all = all
  of-taken (k ∷ ks) g all = of-taken ks (remove k g) (all-filter (λ (x : List ℕ × ℕ). F x.0) _ g all)

  of-take : (d : ℕ) (filters : List (List ℕ)) (t : Turn) (o : Option Session) → session_by d t.broker.sessions ≡ o → Of t → Of (take_at o filters t)
  of-take d filters t None is x = x
  of-take d filters t (Some s) is x = with-sessions t _ x (sessions-swap s.key _ t.broker.sessions ((of-taken filters s.grants here.0, here.1, here.2), tt) x.sessions)
    where
      here : S s
      here = found-in S (sits d) t.broker.sessions s x.sessions is

  of-ack : (d id : ℕ) (t : Turn) (o : Option Session) → session_by d t.broker.sessions ≡ o → Of t → Of (ack_at o id t)
  of-ack d id t None is x = x
  of-ack d id t (Some s) is x = with-sessions t _ x (sessions-swap s.key _ t.broker.sessions ((here.0, here.1, all-filter (λ (c : InFlight). T c.app_message.topic c.app_message.payload) _ s.in_flight here.2), tt) x.sessions)
    where
      here : S s
      here = found-in S (sits d) t.broker.sessions s x.sessions is

  of-act : (a : Act) (t : Turn) → Fits a → Of t → Of (act a t)
  of-act Opens t h x = record { sessions = x.sessions; retained = x.retained; sends = x.sends; waiting = x.waiting }
  of-act (At moment) t h x = record { sessions = x.sessions; retained = x.retained; sends = x.sends; waiting = x.waiting }
  of-act (Hear d) t h x = of-connections (newcomer_heard d t.broker.clock) (connection_heard d t.broker.clock) (heard-will d t.broker.clock) t x
  of-act (Drop d) t h x = of-connections (newcomer_dropped d) (connection_dropped d) (dropped-will d) t x
  of-act (Say d p) t h x = record { sessions = x.sessions; retained = x.retained; sends = all-append (λ (s : Send). Says T s.packet) t.sends _ x.sends (h, tt); waiting = x.waiting }
  of-act (Leave d wills) t h x = of-leave d wills t (session_by d t.broker.sessions) refl x
  of-act (Tell d) t h x = record { sessions = x.sessions; retained = x.retained; sends = x.sends; waiting = x.waiting }
  of-act (Queue app_message) t h x = record { sessions = x.sessions; retained = x.retained; sends = x.sends; waiting = all-append (λ (p : AppMessage). T p.topic p.payload) t.waiting (app_message ∷ []) x.waiting (h, tt) }
  of-act Route t h x = of-route t x
  of-act (Forget name) t h x = of-forget t (find (is_away name) t.broker.sessions) x
  of-act (Accept d name keeps alive will) t h x = of-accept name keeps alive will t (find (is_newcomer d) t.broker.newcomers) h x
  of-act (Give d id entries) t h x = of-give d id entries t (session_by d t.broker.sessions) h refl x
  of-act (Take d filters) t h x = of-take d filters t (session_by d t.broker.sessions) refl x
  of-act (Ack d id) t h x = of-ack d id t (session_by d t.broker.sessions) refl x

  pub of-acts : (as_list : List Act) (t : Turn) → AllByRecursion Fits as_list → Of t → Of (acts as_list t)
  of-acts [] t h x = x
  of-acts (a ∷ as_list) t h x = of-acts as_list (act a t) h.1 (of-act a t h.0 x)

  -- ---- the rules

  abbrev Brought : Event → Type 0
  Brought e = Brings (FiltersIn F) e × Brings (Says T) e

  record Fitting (as_list : List Act) : Type 0 where
    each : AllByRecursion Fits as_list

  fits-cond : (b : Bool) (xs ys : List Act) → Fitting xs → Fitting ys → Fitting (cond b xs ys)
  fits-cond true xs ys h k = h
  fits-cond false xs ys h k = k

  fits-shut : (d : ℕ) → Fitting (shut d)
  fits-shut d = record { each = (tt, (tt, (tt, tt))) }

  fits-away : (d code : ℕ) → Fitting (turn_away d code)
  fits-away d code = record { each = (tt, (tt, (tt, (tt, tt)))) }

  fits-will : (w : Option WillData) → WillOf T w → AppMessageSays T (option_map will_message w)
  fits-will None h = tt
  fits-will (Some w) h = h

  fits-join : (older : Option ℕ) (d : ℕ) (name : List ℕ) (clean : Bool) (alive : ℕ) (will : Option AppMessage) → AppMessageSays T will → Fitting (join older d name clean alive will)
  fits-join None d name true alive will h = record { each = (tt, (h, tt)) }
  fits-join None d name false alive will h = record { each = (h, tt) }
  fits-join (Some o) d name true alive will h = record { each = (tt, (tt, (tt, (h, (tt, tt))))) }
  fits-join (Some o) d name false alive will h = record { each = (tt, (tt, (h, (tt, tt)))) }

  fits-first : (v : Seen) (d : ℕ) (p : Message) → Says T p → Fitting (first_packet v d p)
  fits-first v d (Connect name clean alive will) h =
      fits-cond _ _ _ (fits-away d 2) (fits-cond _ _ _ (fits-shut d) (fits-cond _ _ _ (fits-away d 3) (fits-join v.older d name clean alive _ (fits-will will h))))
  fits-first v d (ConnAck present code) h = fits-shut d
  fits-first v d (Publish dup qos retain topic id payload) h = fits-shut d
  fits-first v d (PubAck id) h = fits-shut d
  fits-first v d (Subscribe id entries) h = fits-shut d
  fits-first v d (SubAck id codes) h = fits-shut d
  fits-first v d (Unsubscribe id filters) h = fits-shut d
  fits-first v d (UnsubAck id) h = fits-shut d
  fits-first v d PingReq h = fits-shut d
  fits-first v d PingResp h = fits-shut d
  fits-first v d Disconnect h = fits-shut d

  fits-next : (v : Seen) (d : ℕ) (p : Message) → FiltersIn F p → Says T p → Fitting (next_packet v d p)
  fits-next v d (Connect name clean alive will) f h = fits-shut d
  fits-next v d (ConnAck present code) f h = fits-shut d
  fits-next v d (Publish dup qos retain topic None payload) f h = fits-cond _ (shut d) (Queue (record { topic = topic; payload = payload; qos = qos; retain = retain }) ∷ Route ∷ []) (fits-shut d) (record { each = (h, (tt, tt)) })
  fits-next v d (Publish dup qos retain topic (Some id) payload) f h = fits-cond _ (shut d) (Say d (PubAck id) ∷ Queue (record { topic = topic; payload = payload; qos = qos; retain = retain }) ∷ Route ∷ []) (fits-shut d) (record { each = (tt, (h, (tt, tt))) })
  fits-next v d (PubAck id) f h = record { each = (tt, tt) }
  fits-next v d (Subscribe id entries) f h = fits-cond _ (shut d) (Give d id entries ∷ Route ∷ []) (fits-shut d) (record { each = (f, (tt, tt)) })
  fits-next v d (SubAck id codes) f h = fits-shut d
  fits-next v d (Unsubscribe id filters) f h = fits-cond _ (shut d) (Take d filters ∷ Say d (UnsubAck id) ∷ []) (fits-shut d) (record { each = (tt, (tt, tt)) })
  fits-next v d (UnsubAck id) f h = fits-shut d
  fits-next v d PingReq f h = record { each = (tt, tt) }
  fits-next v d PingResp f h = fits-shut d
  fits-next v d Disconnect f h = record { each = (tt, tt) }

  fits-tick : (silent : List ℕ) → Fitting (tick silent)
  fits-tick [] = record { each = (tt, tt) }
  fits-tick (x ∷ xs) = record { each = (tt, (tt, (fits-tick xs).each)) }

  fits-plan : (v : Seen) (e : Event) → Brings (FiltersIn F) e → Brings (Says T) e → Fitting (plan v e)
  fits-plan v (Open moment) f h = record { each = (tt, tt) }
  fits-plan v (Packet d p moment) f h = fits-cond _ _ _ (fits-shut d) (fits-cond _ _ _ (fits-next v d p f h) (fits-first v d p h))
  fits-plan v (Fault d f moment) g h = fits-cond _ _ _ (fits-away d 1) (fits-shut d)
  fits-plan v (Closed d moment) f h = record { each = (tt, (tt, tt)) }
  fits-plan v (Tick moment) f h = fits-tick v.silent
  fits-plan v (Refused d s moment) f h = fits-cond (is_fatal s v.spent) (shut d) [] (fits-shut d) (record { each = tt })

  fits-before : (e : Event) → AllByRecursion Fits (before e)
  fits-before (Open moment) = (tt, tt)
  fits-before (Packet d p moment) = (tt, (tt, tt))
  fits-before (Fault d f moment) = (tt, tt)
  fits-before (Closed d moment) = (tt, tt)
  fits-before (Tick moment) = (tt, tt)
  fits-before (Refused d sort.QosZero moment) = (tt, (tt, tt))
  fits-before (Refused d sort.Other moment) = (tt, tt)

  pub record Has (b : Broker) : Type 0 where
    pub sessions : Sessions b.sessions
    pub retained : Kept b.retained

  pub of-noted : (b : Broker) (e : Event) → Has b → Of (noted b e)
  of-noted b e h = of-acts (before e) (begun b) (fits-before e) (record { sessions = h.sessions; retained = h.retained; sends = tt; waiting = tt })

  pub of-step : (b : Broker) (e : Event) → Has b → Brings (FiltersIn F) e → Brings (Says T) e → Of (step b e)
  unfolding step
  of-step b e h f k = of-acts (plan (seen (noted b e).broker e) e) (noted b e) (fits-plan (seen (noted b e).broker e) e f k).each (of-noted b e h)

-- ---- where only filters, or only messages, are looked at

pub sessions-of : (F : List ℕ → Type 0) (T : List ℕ → List ℕ → Type 0) (ss : List Session) → AllByRecursion (λ (s : Session). Grants F T s.grants) ss → AllByRecursion (λ (s : Session). WillSays T s.here) ss
    → AllByRecursion (λ (s : Session). AllInFlight F T s.in_flight) ss → Sessions F T ss
sessions-of F T [] g w k = tt
sessions-of F T (s ∷ ss) g w k = ((g.0, w.0, k.0), sessions-of F T ss g.1 w.1 k.1)

pub all-free : {X : Type 0} (xs : List X) → AllByRecursion (λ (x : X). Unit {0}) xs
all-free [] = tt
all-free (x ∷ xs) = (tt, all-free xs)

-- any filter, and any message
abbrev pub Free : List ℕ → Type 0
Free filter = Unit {0}

abbrev pub Anything : List ℕ → List ℕ → Type 0
Anything topic payload = Unit {0}

pub free-grants : (ss : List Session) → AllByRecursion (λ (s : Session). AllByRecursion (λ (g : List ℕ × ℕ). Unit {0}) s.grants) ss
free-grants [] = tt
free-grants (s ∷ ss) = (all-free s.grants, free-grants ss)

pub free-in_flight : (ss : List Session) → AllByRecursion (λ (s : Session). AllByRecursion (λ (c : InFlight). Unit {0}) s.in_flight) ss
free-in_flight [] = tt
free-in_flight (s ∷ ss) = (all-free s.in_flight, free-in_flight ss)

pub free-wills : (ss : List Session) → AllByRecursion (λ (s : Session). WillSays Anything s.here) ss
free-wills [] = tt
free-wills (s ∷ ss) = (by s.here, free-wills ss)
  where
    on : (o : Option AppMessage) → AppMessageSays Anything o
    on None = tt
    on (Some m) = tt

    by : (o : Option Connection) → WillSays Anything o
    by None = tt
    by (Some l) = on l.will

free-message : (p : Message) → FiltersIn Free p
free-message (Connect name clean alive will) = tt
free-message (ConnAck present code) = tt
free-message (Publish dup qos retain topic id payload) = tt
free-message (PubAck id) = tt
free-message (Subscribe id entries) = all-free entries
free-message (SubAck id codes) = tt
free-message (Unsubscribe id filters) = tt
free-message (UnsubAck id) = tt
free-message PingReq = tt
free-message PingResp = tt
free-message Disconnect = tt

pub free-filters : (e : Event) → Brings (FiltersIn Free) e
free-filters (Open moment) = tt
free-filters (Packet d p moment) = free-message p
free-filters (Fault d f moment) = tt
free-filters (Closed d moment) = tt
free-filters (Tick moment) = tt
free-filters (Refused d s moment) = tt

free-topic : (p : Message) → Says Anything p
free-topic (Connect name clean alive None) = tt
free-topic (Connect name clean alive (Some w)) = tt
free-topic (ConnAck present code) = tt
free-topic (Publish dup qos retain topic id payload) = tt
free-topic (PubAck id) = tt
free-topic (Subscribe id entries) = tt
free-topic (SubAck id codes) = tt
free-topic (Unsubscribe id filters) = tt
free-topic (UnsubAck id) = tt
free-topic PingReq = tt
free-topic PingResp = tt
free-topic Disconnect = tt

pub free-topics : (e : Event) → Brings (Says Anything) e
free-topics (Open moment) = tt
free-topics (Packet d p moment) = free-topic p
free-topics (Fault d f moment) = tt
free-topics (Closed d moment) = tt
free-topics (Tick moment) = tt
free-topics (Refused d s moment) = tt
