-- Up to a moment nobody is silent for too long, and goes on not being it: who is heard, or comes, is so for a while.
use Rattle.std.proofs.Common.{◌≡◌, ℕ, zero, suc, ◌+◌, ◌*◌, ◌-◌, ◌<◌, ◌≤◌, Bool, true, false, not, ◌&&◌, cond, eqb, ltb, append-nil, arith, List, [], ◌∷◌, ◌++◌, map, length, take, get_or, refl, sym, ap, ◌∙◌, subst, Option, Some, None, true≢false, eq-eqb, ne_eqb}
use Rattle.std.specs.Prelude.{max, min}
use Rattle.std.specs.Option.{IfSome, is_some, option_map}
use Rattle.std.specs.List.{AllByRecursion, find, flat_map, fold}
use Rattle.std.proofs.lemmas.Bool.{le-ltb, ltb-false}
use Rattle.std.proofs.lemmas.List.{take_more}
use Rattle.spk_packets.specs.Fault.{first_of}
use Rattle.spk_packets.specs.Message.{Message, WillData, SubAck, Connect, ConnAck, Publish, PubAck, Subscribe, Unsubscribe, UnsubAck, PingReq, PingResp, Disconnect}
use Rattle.spk_packets.specs.Spelling.{unwritable, is_empty}
use Rattle.spk_session.specs.PacketIds.{next_id}
use Rattle.spk_session.specs.Step.{has_room, one_more, without}
use Rattle.spk_session.specs.declared.answer.Sort.TheVariants as sort
use Rattle.spk_topics.specs.Text.{topic_refusal}
use Rattle.spk_broker_rules.specs.Data.{AppMessage, Connection, Newcomer, Session, Broker}
use Rattle.spk_broker_rules.specs.Plan.{Act, Opens, At, Hear, Drop, Say, Leave, Tell, Queue, Route, Forget, Accept, Give, Take, Ack, Event, Open, Packet, Fault, Closed, Tick, Refused, Seen, plan, next_packet, first_packet, connect, has_bad_filter, has_bad_topic, join, turn_away, shut, is_bad_level, is_fatal, puback}
use Rattle.spk_broker_rules.specs.Step.{Turn, act, acts, accept_of, ack_at, away_for, bursts, forget_at, give_at, newcomer_dropped, newcomer_heard, hand_at, is_away, is_newcomer, leave_at, connection_dropped, connection_heard, connection_of, new_session, noted, numbered, offer, offer_at, other_grants, other_newcomers, route, route_one, route_some, session_by, seen, serve, serve_at, silent_at, sits, step, swap, take_at, take_up, with_key, with_sessions}
use Rattle.spk_broker_rules.specs.Table.{Table, remove}
use Rattle.spk_broker_rules.specs.Words.{best, codes_of, granted_of, handed_out, is_silent, level, offers_to, option_list, sent_as, with_entry, without_id}
use Rattle.spk_broker_rules.proofs.Lawfuls.{found-in}
use Rattle.spk_broker_rules.proofs.Lists.{all-also, all-append, all-filter, all-flat, all-mapped, eqb-is, flat_map-append, found-passes}
use Rattle.spk_broker.specs.Asking.{sessions_now}
use Rattle.spk_broker.specs.Both.{Both}
use Rattle.spk_broker.specs.Calm.{AreCalm, IsCalm, IsCalmConnection}
use Rattle.spk_broker.specs.View.{session_now}

-- ---- one connection

either : (b x : Bool) → x ≡ false → b && x ≡ false
either true x h = h
either false x h = refl

-- one that was heard so late isn't silent for too long
pub heard-late : (m alive heard : ℕ) → m ≤ heard + 1500 → is_silent m alive heard ≡ false
heard-late m zero heard h = refl
heard-late m (suc a) heard h = either (not (eqb (suc a) 0)) (ltb (suc a * 1500) (m - heard)) (le-ltb (suc a * 1500) (m - heard) (omega (arith, h)))

-- nor is one whose keep alive goes on
pub due-late : (m alive heard : ℕ) → m ≤ heard + alive * 1500 → is_silent m alive heard ≡ false
due-late m zero heard h = refl
due-late m (suc a) heard h = either (not (eqb (suc a) 0)) (ltb (suc a * 1500) (m - heard)) (le-ltb (suc a * 1500) (m - heard) (omega (arith, h)))

-- earlier it wasn't, either
sooner-silent : (m n alive heard : ℕ) → n ≤ m → is_silent m alive heard ≡ false → is_silent n alive heard ≡ false
sooner-silent m n zero heard le h = refl
sooner-silent m n (suc a) heard le h =
    let on : not (eqb (suc a) 0) ≡ true = ap not (ne_eqb (suc a) 0 (λ (e : suc a ≡ 0). omega (arith, e))) in
    let low = ltb-false (suc a * 1500) (m - heard) (sym (ap (λ b. b && ltb (suc a * 1500) (m - heard)) on) ∙ h) in
    either (not (eqb (suc a) 0)) (ltb (suc a * 1500) (n - heard)) (le-ltb (suc a * 1500) (n - heard) (omega (arith, low, le)))

pub sooner-connection : (m n : ℕ) → n ≤ m → (o : Option Connection) → IsCalmConnection m o → IsCalmConnection n o
sooner-connection m n le None h = tt
sooner-connection m n le (Some l) h = sooner-silent m n l.alive l.heard le h

pub sooner : (m n : ℕ) → n ≤ m → (ss : List Session) → AreCalm m ss → AreCalm n ss
sooner m n le ss = all-also (λ (s : Session). IsCalmConnection m s.here) (λ (s : Session). IsCalmConnection n s.here) (λ s. sooner-connection m n le s.here) ss

-- one session more
pub calm-more : (m n : ℕ) (bs : List Both) (i : ℕ) (d x : Both) → i < length bs → x ≡ get_or bs i d → AreCalm m (sessions_now (take i bs)) → IfSome x.now (λ s. IsCalmConnection n s.here)
    → AreCalm (min m n) (sessions_now (take (i + 1) bs))
calm-more m n bs i d x lt is h new =
    subst (AreCalm (min m n)) (sym (ap (λ l. flat_map session_now l) (take_more bs i d lt) ∙ flat_map-append session_now (take i bs) (get_or bs i d ∷ [])))
    (all-append (λ (s : Session). IsCalmConnection (min m n) s.here) (sessions_now (take i bs)) (session_now (get_or bs i d) ++ []) (sooner m (min m n) (omega arith) (sessions_now (take i bs)) h)
    (subst (λ (b : Both). AreCalm (min m n) (session_now b ++ [])) is (one x.now new)))
  where
    one : (o : Option Session) → IfSome o (λ s. IsCalmConnection n s.here) → AreCalm (min m n) (option_list o ++ [])
    one None h = tt
    one (Some s) h = (sooner-connection n (min m n) (omega arith) s.here h, tt)

pub silent-more : (clock : ℕ) (bs : List Both) (i : ℕ) (d x : Both) (l : List ℕ) → i < length bs → x ≡ get_or bs i d → l ≡ flat_map (silent_at clock) (sessions_now (take i bs))
    → l ++ flat_map (silent_at clock) (session_now x) ≡ flat_map (silent_at clock) (sessions_now (take (i + 1) bs))
silent-more clock bs i d x l lt is h =
    let f = flat_map (silent_at clock) in
    ap (λ k. k ++ f (session_now x)) h ∙ ap (λ (b : Both). f (sessions_now (take i bs)) ++ f (session_now b)) is
    ∙ ap (λ k. f (sessions_now (take i bs)) ++ f k) (sym (append-nil (session_now (get_or bs i d))))
    ∙ sym (flat_map-append (silent_at clock) (sessions_now (take i bs)) (session_now (get_or bs i d) ++ []))
    ∙ sym (ap f (flat_map-append session_now (take i bs) (get_or bs i d ∷ []))) ∙ sym (ap (λ k. f (sessions_now k)) (take_more bs i d lt))

-- then nobody is silent
pub nobody-silent : (m clock : ℕ) → clock ≤ m → (ss : List Session) → AreCalm m ss → flat_map (silent_at clock) ss ≡ []
nobody-silent m clock le [] h = refl
nobody-silent m clock le (s ∷ ss) h = ap (λ l. l ++ flat_map (silent_at clock) ss) (one s.here h.0) ∙ nobody-silent m clock le ss h.1
  where
    one : (o : Option Connection) → IsCalmConnection m o → silent_at clock (record s { here = o }) ≡ []
    one None h = refl
    one (Some l) h = ap (λ b. cond b (l.conn ∷ []) []) (sooner-silent m clock l.alive l.heard le h)

-- ---- what goes on holding in a turn, where newcomers of these numbers were heard so late

abbrev AreLate : (ℕ → Type 0) → ℕ → List Newcomer → Type 0
AreLate R m gs = AllByRecursion (λ (g : Newcomer). R g.conn → m ≤ g.heard + 1500) gs

record Holds (R : ℕ → Type 0) (m : ℕ) (t : Turn) : Type 0 where
  sessions : AreCalm m t.broker.sessions
  soon : m ≤ t.broker.clock + 1500
  newcomers : AreLate R m t.broker.newcomers

-- only such a newcomer comes in
abbrev May : (ℕ → Type 0) → Act → Type 0
May R Opens = Unit {0}
May R (At moment) = Unit {0}
May R (Hear conn) = Unit {0}
May R (Drop conn) = Unit {0}
May R (Say conn p) = Unit {0}
May R (Leave conn wills) = Unit {0}
May R (Tell conn) = Unit {0}
May R (Queue app_message) = Unit {0}
May R Route = Unit {0}
May R (Forget client) = Unit {0}
May R (Accept conn client kept alive will) = R conn
May R (Give conn id entries) = Unit {0}
May R (Take conn filters) = Unit {0}
May R (Ack conn id) = Unit {0}

abbrev AllMay : (ℕ → Type 0) → List Act → Type 0
AllMay R as_list = AllByRecursion (May R) as_list

swapped : (m key : ℕ) (new ss : List Session) → AreCalm m new → AreCalm m ss → AreCalm m (swap key new ss)
swapped m key new ss all h = all-flat (λ (s : Session). IsCalmConnection m s.here) (λ (s : Session). IsCalmConnection m s.here) (λ (s : Session). cond (eqb s.key key) new (s ∷ [])) (λ s q. by s q (eqb s.key key)) ss h
  where
    by : (s : Session) → IsCalmConnection m s.here → (b : Bool) → AreCalm m (cond b new (s ∷ []))
    by s q true = all
    by s q false = (q, tt)

found : (m : ℕ) (p : Session → Bool) (ss : List Session) (s : Session) → AreCalm m ss → find p ss ≡ Some s → IsCalmConnection m s.here
found m p ss s h is = found-in (λ (s : Session). IsCalmConnection m s.here) p ss s h is

-- ---- one message

handed : (m q : ℕ) (app_message : AppMessage) (s : Session) → IsCalmConnection m s.here → AreCalm m (hand_at q app_message s).left
handed m zero app_message s h = (h, tt)
handed m (suc q) app_message s h = by (has_room s.used)
  where
    by : (b : Bool) → AreCalm m (cond b (numbered s app_message (next_id s.used s.last)) (bursts s)).left
    by true = (h, tt)
    by false = tt

served : (m : ℕ) (app_message : AppMessage) (s : Session) → IsCalmConnection m s.here → AreCalm m (serve app_message s).left
served m app_message s h = by (level app_message.qos (best app_message.topic s.grants))
  where
    by : (o : Option ℕ) → AreCalm m (serve_at o app_message s).left
    by None = (h, tt)
    by (Some q) = handed m q (sent_as app_message q false) s h

calm-round : (m : ℕ) (app_message : AppMessage) (ss : List Session) → AreCalm m ss → AreCalm m (flat_map (λ (s : Session). (serve app_message s).left) ss)
calm-round m app_message ss h = all-flat (λ (s : Session). IsCalmConnection m s.here) (λ (s : Session). IsCalmConnection m s.here) (λ (s : Session). (serve app_message s).left) (served m app_message) ss h

calm-some : (R : ℕ → Type 0) (m n : ℕ) (t : Turn) → Holds R m t → Holds R m (route_some n t)
unfolding route_some
calm-some R m zero t h = h
calm-some R m (suc n) t h = by t.waiting
    (λ app_message ms. calm-some R m n (route_one app_message (record t { waiting = ms })) (record { sessions = calm-round m app_message t.broker.sessions h.sessions; soon = h.soon; newcomers = h.newcomers }))
  where
    by : (ws : List AppMessage) → ((app_message : AppMessage) (ms : List AppMessage) → Holds R m (route_some n (route_one app_message (record t { waiting = ms }))))
        → Holds R m (elim ws as (λ _. Turn) [ [] ↦ t | app_message ∷ ms ↦ route_some n (route_one app_message (record t { waiting = ms })) ])
    by [] rest = h
    by (app_message ∷ ms) rest = rest app_message ms

calm-route : (R : ℕ → Type 0) (m : ℕ) (t : Turn) → Holds R m t → Holds R m (route t)
unfolding route
calm-route R m t h = calm-some R m (length t.waiting + length t.broker.sessions) t h

-- ---- the acts

heard-connection : (m conn clock : ℕ) → m ≤ clock + 1500 → (l : Connection) → is_silent m l.alive l.heard ≡ false → IsCalmConnection m (Some (connection_heard conn clock l))
heard-connection m conn clock soon l h = by (eqb l.conn conn)
  where
    by : (b : Bool) → IsCalmConnection m (Some (cond b (record l { heard = clock }) l))
    by true = heard-late m l.alive clock soon
    by false = h

dropped-connection : (m conn : ℕ) (l : Connection) → is_silent m l.alive l.heard ≡ false → IsCalmConnection m (Some (connection_dropped conn l))
dropped-connection m conn l h = by (eqb l.conn conn)
  where
    by : (b : Bool) → IsCalmConnection m (Some (cond b (record l { drops = one_more l.drops }) l))
    by true = h
    by false = h

calm-connections : (m : ℕ) (on_connection : Connection → Connection) → ((l : Connection) → is_silent m l.alive l.heard ≡ false → IsCalmConnection m (Some (on_connection l))) → (ss : List Session) → AreCalm m ss
    → AreCalm m (map (λ (s : Session). record s { here = option_map on_connection s.here }) ss)
calm-connections m on_connection each ss h =
    all-mapped (λ (s : Session). IsCalmConnection m s.here) (λ (s : Session). record s { here = option_map on_connection s.here }) ss
    (all-also (λ (s : Session). IsCalmConnection m s.here) (λ (s : Session). IsCalmConnection m (option_map on_connection s.here)) (λ s. one s.here) ss h)
  where
    one : (o : Option Connection) → IsCalmConnection m o → IsCalmConnection m (option_map on_connection o)
    one None h = tt
    one (Some l) h = each l h

heard-newcomer : (R : ℕ → Type 0) (m conn clock : ℕ) → m ≤ clock + 1500 → (g : Newcomer) → (R g.conn → m ≤ g.heard + 1500) → R (newcomer_heard conn clock g).conn → m ≤ (newcomer_heard conn clock g).heard + 1500
heard-newcomer R m conn clock soon g h = by (eqb g.conn conn)
  where
    by : (b : Bool) → R (cond b (record g { heard = clock }) g).conn → m ≤ (cond b (record g { heard = clock }) g).heard + 1500
    by true r = soon
    by false r = h r

dropped-newcomer : (R : ℕ → Type 0) (m conn : ℕ) (g : Newcomer) → (R g.conn → m ≤ g.heard + 1500) → R (newcomer_dropped conn g).conn → m ≤ (newcomer_dropped conn g).heard + 1500
dropped-newcomer R m conn g h = by (eqb g.conn conn)
  where
    by : (b : Bool) → R (cond b (record g { drops = one_more g.drops }) g).conn → m ≤ (cond b (record g { drops = one_more g.drops }) g).heard + 1500
    by true r = h r
    by false r = h r

calm-newcomers : (R : ℕ → Type 0) (m : ℕ) (on_newcomer : Newcomer → Newcomer) → ((g : Newcomer) → (R g.conn → m ≤ g.heard + 1500) → R (on_newcomer g).conn → m ≤ (on_newcomer g).heard + 1500) → (gs : List Newcomer) → AreLate R m gs
    → AreLate R m (map on_newcomer gs)
calm-newcomers R m on_newcomer each gs h =
    all-mapped (λ (g : Newcomer). R g.conn → m ≤ g.heard + 1500) on_newcomer gs
    (all-also (λ (g : Newcomer). R g.conn → m ≤ g.heard + 1500) (λ (g : Newcomer). R (on_newcomer g).conn → m ≤ (on_newcomer g).heard + 1500) each gs h)

others-late : (R : ℕ → Type 0) (m c : ℕ) (gs : List Newcomer) → AreLate R m gs → AreLate R m (other_newcomers c gs)
others-late R m c gs h = all-filter (λ (g : Newcomer). R g.conn → m ≤ g.heard + 1500) (λ (g : Newcomer). not (eqb g.conn c)) gs h

calm-leave : (R : ℕ → Type 0) (m : ℕ) (o : Option Session) (c : ℕ) (wills : Bool) (t : Turn) → Holds R m t → Holds R m (leave_at o c wills t)
calm-leave R m None c wills t h = record { sessions = h.sessions; soon = h.soon; newcomers = others-late R m c t.broker.newcomers h.newcomers }
calm-leave R m (Some s) c wills t h = record { sessions = by s.kept; soon = h.soon; newcomers = h.newcomers }
  where
    by : (b : Bool) → AreCalm m (swap s.key (cond b ((record s { here = None }) ∷ []) []) t.broker.sessions)
    by true = swapped m s.key ((record s { here = None }) ∷ []) t.broker.sessions (tt, tt) h.sessions
    by false = swapped m s.key [] t.broker.sessions tt h.sessions

calm-forget : (R : ℕ → Type 0) (m : ℕ) (o : Option Session) (t : Turn) → Holds R m t → Holds R m (forget_at o t)
calm-forget R m None t h = h
calm-forget R m (Some s) t h = record { sessions = swapped m s.key [] t.broker.sessions tt h.sessions; soon = h.soon; newcomers = h.newcomers }

calm-join : (R : ℕ → Type 0) (m : ℕ) (keeps : Bool) (name : List ℕ) (x : Connection) (t : Turn) (o : Option Session) → IsCalmConnection m (Some x) → Holds R m t → Holds R m (take_up o name keeps x t)
calm-join R m keeps name x t None new h = record {
  sessions = all-append (λ (s : Session). IsCalmConnection m s.here) t.broker.sessions (new_session (t.broker.made + 1) name keeps x ∷ []) h.sessions (new, tt);
  soon = h.soon;
  newcomers = others-late R m x.conn t.broker.newcomers h.newcomers;
}
calm-join R m keeps name x t (Some s) new h = record {
  sessions = swapped m s.key ((record s { here = Some x; in_flight = map handed_out s.in_flight }) ∷ []) t.broker.sessions (new, tt) h.sessions;
  soon = h.soon;
  newcomers = others-late R m x.conn t.broker.newcomers h.newcomers;
}

calm-accept : (R : ℕ → Type 0) (m c : ℕ) → R c → (o : Option Newcomer) (name : List ℕ) (keeps : Bool) (alive : ℕ) (will : Option AppMessage) (t : Turn) → find (is_newcomer c) t.broker.newcomers ≡ o
    → Holds R m t → Holds R m (accept_of o name keeps alive will t)
calm-accept R m c r None name keeps alive will t is h = h
calm-accept R m c r (Some g) name keeps alive will t is h =
    let here : g.conn ≡ c = eqb-is g.conn c (found-passes (is_newcomer c) t.broker.newcomers g is) in
    let late : m ≤ g.heard + 1500 = found-in (λ (g : Newcomer). R g.conn → m ≤ g.heard + 1500) (is_newcomer c) t.broker.newcomers g h.newcomers is (subst R (sym here) r) in
    calm-join R m keeps name (connection_of g alive will) t (away_for keeps name t.broker.sessions) (heard-late m alive g.heard late) h

calm-ack : (R : ℕ → Type 0) (m c id : ℕ) (t : Turn) (o : Option Session) → session_by c t.broker.sessions ≡ o → Holds R m t → Holds R m (ack_at o id t)
calm-ack R m c id t None is h = h
calm-ack R m c id t (Some s) is h = record {
  sessions = swapped m s.key ((record s { used = without id s.used; in_flight = without_id id s.in_flight }) ∷ []) t.broker.sessions (found m (sits c) t.broker.sessions s h.sessions is, tt) h.sessions;
  soon = h.soon;
  newcomers = h.newcomers;
}

calm-offer : (R : ℕ → Type 0) (m key : ℕ) (t : Turn) (app_message : AppMessage) → Holds R m t → Holds R m (offer key t app_message)
calm-offer R m key t app_message h = by (with_key key t.broker.sessions) refl
  where
    by : (o : Option Session) → with_key key t.broker.sessions ≡ o → Holds R m (offer_at o key app_message t)
    by None is = h
    by (Some s) is = record {
      sessions = swapped m key (hand_at app_message.qos app_message s).left t.broker.sessions (handed m app_message.qos app_message s (found m (λ (x : Session). eqb x.key key) t.broker.sessions s h.sessions is)) h.sessions;
      soon = h.soon;
      newcomers = h.newcomers;
    }

calm-offers : (R : ℕ → Type 0) (m key : ℕ) (app_messages : List AppMessage) (t : Turn) → Holds R m t → Holds R m (fold (offer key) t app_messages)
calm-offers R m key [] t h = h
calm-offers R m key (p ∷ ps) t h = calm-offers R m key ps (offer key t p) (calm-offer R m key t p h)

calm-give : (R : ℕ → Type 0) (m c id : ℕ) (es : List (List ℕ × ℕ)) (t : Turn) (o : Option Session) → session_by c t.broker.sessions ≡ o → Holds R m t → Holds R m (give_at o c id es t)
calm-give R m c id es t None is h = h
calm-give R m c id es t (Some s) is h =
    let others = other_grants s t.broker.sessions in
    let sessions = swap s.key ((record s { grants = fold (with_entry others) s.grants es }) ∷ []) t.broker.sessions in
    calm-offers R m s.key (flat_map (offers_to t.broker.retained) (granted_of others s.grants es))
    (record (with_sessions sessions t) { sends = t.sends ++ (record { conn = c; packet = SubAck id (codes_of others s.grants es) }) ∷ [] })
    (record {
      sessions = swapped m s.key ((record s { grants = fold (with_entry others) s.grants es }) ∷ []) t.broker.sessions (found m (sits c) t.broker.sessions s h.sessions is, tt) h.sessions;
      soon = h.soon;
      newcomers = h.newcomers;
    })

calm-take : (R : ℕ → Type 0) (m c : ℕ) (names : List (List ℕ)) (t : Turn) (o : Option Session) → session_by c t.broker.sessions ≡ o → Holds R m t → Holds R m (take_at o names t)
calm-take R m c names t None is h = h
calm-take R m c names t (Some s) is h = record {
  sessions = swapped m s.key ((record s { grants = fold (λ (g : Table ℕ) f. remove f g) s.grants names }) ∷ []) t.broker.sessions (found m (sits c) t.broker.sessions s h.sessions is, tt) h.sessions;
  soon = h.soon;
  newcomers = h.newcomers;
}

later : (m clock moment : ℕ) → m ≤ clock + 1500 → m ≤ max clock moment + 1500
later m clock moment h = omega (arith, h)

calm-act : (R : ℕ → Type 0) (m : ℕ) (a : Act) (t : Turn) → May R a → Holds R m t → Holds R m (act a t)
calm-act R m Opens t may h = record {
  sessions = h.sessions;
  soon = h.soon;
  newcomers = all-append (λ (g : Newcomer). R g.conn → m ≤ g.heard + 1500) t.broker.newcomers _ h.newcomers ((λ r. h.soon), tt);
}
calm-act R m (At moment) t may h = record { sessions = h.sessions; soon = later m t.broker.clock moment h.soon; newcomers = h.newcomers }
calm-act R m (Hear c) t may h = record {
  sessions = calm-connections m (connection_heard c t.broker.clock) (heard-connection m c t.broker.clock h.soon) t.broker.sessions h.sessions;
  soon = h.soon;
  newcomers = calm-newcomers R m (newcomer_heard c t.broker.clock) (heard-newcomer R m c t.broker.clock h.soon) t.broker.newcomers h.newcomers;
}
calm-act R m (Drop c) t may h = record {
  sessions = calm-connections m (connection_dropped c) (dropped-connection m c) t.broker.sessions h.sessions;
  soon = h.soon;
  newcomers = calm-newcomers R m (newcomer_dropped c) (dropped-newcomer R m c) t.broker.newcomers h.newcomers;
}
calm-act R m (Say c p) t may h = record { sessions = h.sessions; soon = h.soon; newcomers = h.newcomers }
calm-act R m (Leave c wills) t may h = calm-leave R m (session_by c t.broker.sessions) c wills t h
calm-act R m (Tell c) t may h = record { sessions = h.sessions; soon = h.soon; newcomers = h.newcomers }
calm-act R m (Queue app_message) t may h = record { sessions = h.sessions; soon = h.soon; newcomers = h.newcomers }
calm-act R m Route t may h = calm-route R m t h
calm-act R m (Forget name) t may h = calm-forget R m (find (is_away name) t.broker.sessions) t h
calm-act R m (Accept c name keeps alive will) t may h = calm-accept R m c may (find (is_newcomer c) t.broker.newcomers) name keeps alive will t refl h
calm-act R m (Give c id entries) t may h = calm-give R m c id entries t (session_by c t.broker.sessions) refl h
calm-act R m (Take c filters) t may h = calm-take R m c filters t (session_by c t.broker.sessions) refl h
calm-act R m (Ack c id) t may h = calm-ack R m c id t (session_by c t.broker.sessions) refl h

calm-acts : (R : ℕ → Type 0) (m : ℕ) (as_list : List Act) (t : Turn) → AllMay R as_list → Holds R m t → Holds R m (acts as_list t)
calm-acts R m [] t may h = h
calm-acts R m (a ∷ as_list) t may h = calm-acts R m as_list (act a t) may.1 (calm-act R m a t may.0 h)

-- ---- what each event plans

may-if : (R : ℕ → Type 0) (b : Bool) (x y : List Act) → AllMay R x → AllMay R y → AllMay R (cond b x y)
may-if R true x y h k = h
may-if R false x y h k = k

may-join : (R : ℕ → Type 0) (older : Option ℕ) (conn : ℕ) (name : List ℕ) (clean : Bool) (alive : ℕ) (will : Option AppMessage) → R conn → AllMay R (join older conn name clean alive will)
may-join R None conn name true alive will r = (tt, (r, tt))
may-join R None conn name false alive will r = (r, tt)
may-join R (Some o) conn name true alive will r = (tt, (tt, (tt, (r, (tt, tt)))))
may-join R (Some o) conn name false alive will r = (tt, (tt, (r, (tt, tt))))

may-shut : (R : ℕ → Type 0) (conn : ℕ) → AllMay R (shut conn)
may-shut R conn = (tt, (tt, (tt, tt)))

may-away : (R : ℕ → Type 0) (conn code : ℕ) → AllMay R (turn_away conn code)
may-away R conn code = (tt, (tt, (tt, (tt, tt))))

may-connect : (R : ℕ → Type 0) (s : Seen) (conn : ℕ) (name : List ℕ) (clean : Bool) (alive : ℕ) (will : Option WillData) → R conn → AllMay R (connect s conn name clean alive will)
may-connect R s conn name clean alive will r =
    may-if R (is_empty name && not clean) (turn_away conn 2) _ (may-away R conn 2)
    (may-if R (has_bad_topic will) (shut conn) _ (may-shut R conn)
    (may-if R (not clean && not s.welcome) (turn_away conn 3) _ (may-away R conn 3) (may-join R s.older conn name clean alive _ r)))

may-first : (R : ℕ → Type 0) (s : Seen) (conn : ℕ) (p : Message) → R conn → AllMay R (first_packet s conn p)
may-first R s conn (Connect name clean alive will) r = may-connect R s conn name clean alive will r
may-first R s conn (ConnAck present code) r = may-shut R conn
may-first R s conn (Publish dup qos retain topic id payload) r = may-shut R conn
may-first R s conn (PubAck id) r = may-shut R conn
may-first R s conn (Subscribe id entries) r = may-shut R conn
may-first R s conn (SubAck id codes) r = may-shut R conn
may-first R s conn (Unsubscribe id filters) r = may-shut R conn
may-first R s conn (UnsubAck id) r = may-shut R conn
may-first R s conn PingReq r = may-shut R conn
may-first R s conn PingResp r = may-shut R conn
may-first R s conn Disconnect r = may-shut R conn

may-publish : (R : ℕ → Type 0) (conn : ℕ) (id : Option ℕ) (app_message : AppMessage) → AllMay R (puback conn id ++ Queue app_message ∷ Route ∷ [])
may-publish R conn None app_message = (tt, (tt, tt))
may-publish R conn (Some id) app_message = (tt, (tt, (tt, tt)))

may-next : (R : ℕ → Type 0) (s : Seen) (conn : ℕ) (p : Message) → AllMay R (next_packet s conn p)
may-next R s conn (Connect name clean alive will) = may-shut R conn
may-next R s conn (ConnAck present code) = may-shut R conn
may-next R s conn (Publish dup qos retain topic id payload) =
    may-if R (is_some (topic_refusal topic)) (shut conn) _ (may-shut R conn) (may-publish R conn id (record { topic = topic; payload = payload; qos = qos; retain = retain }))
may-next R s conn (PubAck id) = (tt, tt)
may-next R s conn (Subscribe id entries) = may-if R _ (shut conn) (Give conn id entries ∷ Route ∷ []) (may-shut R conn) (tt, (tt, tt))
may-next R s conn (SubAck id codes) = may-shut R conn
may-next R s conn (Unsubscribe id filters) = may-if R (has_bad_filter filters) (shut conn) (Take conn filters ∷ Say conn (UnsubAck id) ∷ []) (may-shut R conn) (tt, (tt, tt))
may-next R s conn (UnsubAck id) = may-shut R conn
may-next R s conn PingReq = (tt, tt)
may-next R s conn PingResp = may-shut R conn
may-next R s conn Disconnect = (tt, tt)

may-ends : (R : ℕ → Type 0) (conns : List ℕ) → AllMay R (flat_map (λ conn. Leave conn true ∷ Tell conn ∷ []) conns ++ Route ∷ [])
may-ends R [] = (tt, tt)
may-ends R (c ∷ cs) = (tt, (tt, may-ends R cs))

-- who comes in by this event
abbrev Comes : Event → ℕ → Type 0
Comes (Open moment) conn = ⊥
Comes (Packet c p moment) conn = conn ≡ c
Comes (Fault c f moment) conn = ⊥
Comes (Closed c moment) conn = ⊥
Comes (Tick moment) conn = ⊥
Comes (Refused c s moment) conn = ⊥

may-plan : (s : Seen) (e : Event) → AllMay (Comes e) (plan s e)
may-plan s (Open moment) = (tt, tt)
may-plan s (Packet conn p moment) =
    let R = Comes (Packet conn p moment) in
    may-if R (is_some (first_of (unwritable p))) (shut conn) _ (may-shut R conn) (may-if R s.joined (next_packet s conn p) _ (may-next R s conn p) (may-first R s conn p refl))
may-plan s (Fault conn f moment) =
    let R = Comes (Fault conn f moment) in may-if R (is_bad_level f && not s.joined) (turn_away conn 1) (shut conn) (may-away R conn 1) (may-shut R conn)
may-plan s (Closed conn moment) = (tt, (tt, tt))
may-plan s (Tick moment) = may-ends (Comes (Tick moment)) s.silent
may-plan s (Refused conn x moment) = let R = Comes (Refused conn x moment) in may-if R (is_fatal x s.spent) (shut conn) [] (may-shut R conn) tt

-- ---- a whole event

nobody-late : (m : ℕ) (gs : List Newcomer) → AreLate (λ conn. ⊥) m gs
nobody-late m [] = tt
nobody-late m (g ∷ gs) = ((λ r. absurd r), nobody-late m gs)

-- the newcomer that is heard
late-heard : (m c clock : ℕ) → m ≤ clock + 1500 → (gs : List Newcomer) → AreLate (λ conn. conn ≡ c) m (map (newcomer_heard c clock) gs)
late-heard m c clock soon [] = tt
late-heard m c clock soon (g ∷ gs) = (by (eqb g.conn c) refl, late-heard m c clock soon gs)
  where
    by : (b : Bool) → eqb g.conn c ≡ b → (cond b (record g { heard = clock }) g).conn ≡ c → m ≤ (cond b (record g { heard = clock }) g).heard + 1500
    by true e is = soon
    by false e is = absurd (true≢false (sym (eq-eqb g.conn c is) ∙ e))

calm-before : (m : ℕ) (b : Broker) (e : Event) → IsCalm m b → Holds (Comes e) m (noted b e)
calm-before m b (Open moment) h = record { sessions = h.sessions; soon = later m b.clock moment h.soon; newcomers = nobody-late m b.newcomers }
calm-before m b (Packet c p moment) h =
    let soon = later m b.clock moment h.soon in
    record {
      sessions = calm-connections m (connection_heard c (max b.clock moment)) (heard-connection m c (max b.clock moment) soon) b.sessions h.sessions;
      soon = soon;
      newcomers = late-heard m c (max b.clock moment) soon b.newcomers;
    }
calm-before m b (Fault c f moment) h = record { sessions = h.sessions; soon = later m b.clock moment h.soon; newcomers = nobody-late m b.newcomers }
calm-before m b (Closed c moment) h = record { sessions = h.sessions; soon = later m b.clock moment h.soon; newcomers = nobody-late m b.newcomers }
calm-before m b (Tick moment) h = record { sessions = h.sessions; soon = later m b.clock moment h.soon; newcomers = nobody-late m b.newcomers }
calm-before m b (Refused c sort.QosZero moment) h =
    let soon = later m b.clock moment h.soon in
    record { sessions = calm-connections m (connection_dropped c) (dropped-connection m c) b.sessions h.sessions; soon = soon; newcomers = nobody-late m (map (newcomer_dropped c) b.newcomers) }
calm-before m b (Refused c sort.Other moment) h = record { sessions = h.sessions; soon = later m b.clock moment h.soon; newcomers = nobody-late m b.newcomers }

calm-planned : (m : ℕ) (b : Broker) (e : Event) → Holds (Comes e) m (noted b e) → IsCalm m (step b e).broker
unfolding step
calm-planned m b e h =
    let k = calm-acts (Comes e) m (plan (seen (noted b e).broker e) e) (noted b e) (may-plan (seen (noted b e).broker e) e) h in
    record { sessions = k.sessions; soon = k.soon }

-- up to a moment to which nobody was, nobody is behind an event either
pub calm-step : (m : ℕ) (b : Broker) (e : Event) → IsCalm m b → IsCalm m (step b e).broker
calm-step m b e h = calm-planned m b e (calm-before m b e h)

-- and a tick may find that moment anew
pub calm-tick : (m moment : ℕ) (b : Broker) → IsCalm m (noted b (Tick moment)).broker → IsCalm m (step b (Tick moment)).broker
calm-tick m moment b h = calm-planned m b (Tick moment) (record { sessions = h.sessions; soon = h.soon; newcomers = nobody-late m b.newcomers })
