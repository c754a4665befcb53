-- What one message gives one session, on tables and in the past; SUBSCRIBE and UNSUBSCRIBE.
use Rattle.std.proofs.Common.{◌≡◌, ℕ, zero, suc, ◌-◌, Bool, true, false, not, ◌||◌, cond, eqb, List, [], ◌∷◌, ◌++◌, map, length, refl, sym, ◌∙◌, ap, ap₂, Option, Some, None}
use Rattle.std.specs.List.{filter, find, fold, list_any, flat_map, AllByRecursion}
use Rattle.std.specs.Option.{option_map, option_map_or, is_some}
use Rattle.std.proofs.lemmas.List.Folds.{list_any-append}
use Rattle.spk_packets.specs.Message.{SubAck}
use Rattle.spk_session.specs.PacketIds.{next_id}
use Rattle.spk_session.specs.Step.{without, has_room}
use Rattle.spk_broker_rules.specs.Data.{AppMessage, Connection, Newcomer, Session, Stored, Broker}
use Rattle.spk_broker_rules.specs.Table.{Table, put}
use Rattle.spk_broker_rules.specs.Words.{best, level, sent_as, plain_packet, numbered_packet, to_connection, option_list, granted_of, codes_of, with_entry, is_granted, granted, offers_to}
use Rattle.spk_broker_rules.specs.Step.{Turn, Served, stays, bursts, numbered, hand_at, hand, serve_at, serve, conn_at, swap, session_by, other_grants, give_with, give_at, take_at, offer, offer_at}
use Rattle.spk_broker_rules.specs.Past.{Past, OfSession, ConnDeed, heard, drops, Deed, Made, Joined, Left, Over, Granted, TakenBack, Numbered, Acked, Joining, deeds, clock, given, made, kept, here, grants, used, in_flight, last_id, newcomers, sessions, routed, retained, retained_notes, table, session_at, conn_here, newcomer_of, connection_of, session_with, session_of, broker_of, other_pairs}
use Rattle.spk_broker_rules.specs.Story.{Story, Share, ends_at, numbers, given_at, gift, share_at, share, session_facts, told_offer_at, told_offer, granting, told_give_with, told_give, taking_back, told_take}
use Rattle.spk_broker_rules.proofs.Lists.{eqb-is, find-map, map-same, flat_map-map, found-passes, all-append}
use Rattle.spk_broker_rules.proofs.Sessions.{deeds-selves, deeds-others, conns-same, session-from, swapped, dropped, session_by-same, has_connection, numbered-session, in_flight_of, puts, granted-self, taken-self}
use Rattle.spk_broker_rules.proofs.Turns.{turn_of}

-- ---- facts that make no session and join no connection

abbrev pub is_over_deed : Deed → Bool
is_over_deed (Made client kept) = false
is_over_deed (Joined conn alive will) = false
is_over_deed (Left conn) = false
is_over_deed Over = true
is_over_deed (Granted filter qos) = false
is_over_deed (TakenBack filter) = false
is_over_deed (Numbered id app_message handed) = false
is_over_deed (Acked id) = false

abbrev pub is_over : List Deed → Bool
is_over ds = list_any is_over_deed ds

abbrev pub IsCalm : Deed → Type 0
IsCalm (Made client kept) = ⊥
IsCalm (Joined conn alive will) = ⊥
IsCalm (Left conn) = Unit {0}
IsCalm Over = Unit {0}
IsCalm (Granted filter qos) = Unit {0}
IsCalm (TakenBack filter) = Unit {0}
IsCalm (Numbered id app_message handed) = Unit {0}
IsCalm (Acked id) = Unit {0}

abbrev pub AreCalm : List Deed → Type 0
AreCalm ds = AllByRecursion IsCalm ds

pub given-same : (ds : List Deed) (s : ℕ) (h : Past) → given (session_facts s ds ++ h) ≡ given h
given-same [] s h = refl
given-same (d ∷ ds) s h = given-same ds s h

pub clock-same : (ds : List Deed) (s : ℕ) (h : Past) → clock (session_facts s ds ++ h) ≡ clock h
clock-same [] s h = refl
clock-same (d ∷ ds) s h = clock-same ds s h

pub routed-same : (ds : List Deed) (s : ℕ) (h : Past) → routed (session_facts s ds ++ h) ≡ routed h
routed-same [] s h = refl
routed-same (d ∷ ds) s h = routed-same ds s h

pub made-calm : (ds : List Deed) (s : ℕ) (h : Past) → AreCalm ds → made (session_facts s ds ++ h) ≡ made h
made-calm [] s h calm = refl
made-calm (Made client kept ∷ ds) s h calm = absurd calm.0
made-calm (Joined conn alive will ∷ ds) s h calm = absurd calm.0
made-calm (Left conn ∷ ds) s h calm = made-calm ds s h calm.1
made-calm (Over ∷ ds) s h calm = made-calm ds s h calm.1
made-calm (Granted filter qos ∷ ds) s h calm = made-calm ds s h calm.1
made-calm (TakenBack filter ∷ ds) s h calm = made-calm ds s h calm.1
made-calm (Numbered id app_message handed ∷ ds) s h calm = made-calm ds s h calm.1
made-calm (Acked id ∷ ds) s h calm = made-calm ds s h calm.1

pub newcomers-calm : (ds : List Deed) (s : ℕ) (h : Past) → AreCalm ds → newcomers (session_facts s ds ++ h) ≡ newcomers h
newcomers-calm [] s h calm = refl
newcomers-calm (Made client kept ∷ ds) s h calm = absurd calm.0
newcomers-calm (Joined conn alive will ∷ ds) s h calm = absurd calm.0
newcomers-calm (Left conn ∷ ds) s h calm = newcomers-calm ds s h calm.1
newcomers-calm (Over ∷ ds) s h calm = newcomers-calm ds s h calm.1
newcomers-calm (Granted filter qos ∷ ds) s h calm = newcomers-calm ds s h calm.1
newcomers-calm (TakenBack filter ∷ ds) s h calm = newcomers-calm ds s h calm.1
newcomers-calm (Numbered id app_message handed ∷ ds) s h calm = newcomers-calm ds s h calm.1
newcomers-calm (Acked id ∷ ds) s h calm = newcomers-calm ds s h calm.1

filter-twice : (p : ℕ → Bool) (xs : List ℕ) → filter p (filter p xs) ≡ filter p xs
filter-twice p [] = refl
filter-twice p (x ∷ xs) = by (p x) refl (filter-twice p xs)
  where
    by : (b : Bool) → p x ≡ b → filter p (filter p xs) ≡ filter p xs → filter p (cond b (x ∷ filter p xs) (filter p xs)) ≡ cond b (x ∷ filter p xs) (filter p xs)
    by true is rest = ap (λ b. cond b (x ∷ filter p (filter p xs)) (filter p (filter p xs))) is ∙ ap (λ ys. x ∷ ys) rest
    by false is rest = rest

over-twice : (b : Bool) (s : ℕ) (ss : List ℕ) → without s (cond b (without s ss) ss) ≡ without s ss
over-twice true s ss = filter-twice (λ other. not (eqb other s)) ss
over-twice false s ss = refl

pub sessions-calm : (ds : List Deed) (s : ℕ) (h : Past) → AreCalm ds → sessions (session_facts s ds ++ h) ≡ cond (is_over ds) (without s (sessions h)) (sessions h)
sessions-calm [] s h calm = refl
sessions-calm (Made client kept ∷ ds) s h calm = absurd calm.0
sessions-calm (Joined conn alive will ∷ ds) s h calm = absurd calm.0
sessions-calm (Left conn ∷ ds) s h calm = sessions-calm ds s h calm.1
sessions-calm (Over ∷ ds) s h calm = ap (without s) (sessions-calm ds s h calm.1) ∙ over-twice (is_over ds) s (sessions h)
sessions-calm (Granted filter qos ∷ ds) s h calm = sessions-calm ds s h calm.1
sessions-calm (TakenBack filter ∷ ds) s h calm = sessions-calm ds s h calm.1
sessions-calm (Numbered id app_message handed ∷ ds) s h calm = sessions-calm ds s h calm.1
sessions-calm (Acked id ∷ ds) s h calm = sessions-calm ds s h calm.1

-- ---- the data after facts of one session

abbrev broker_from : ℕ → ℕ → ℕ → ℕ → List Newcomer → List Session → Table Stored → Broker
broker_from limit n m k gs ss table = record { limit = limit; given = n; made = m; clock = k; newcomers = gs; sessions = ss; retained = table }

pub same_broker : (a b : Broker) → a.limit ≡ b.limit → a.given ≡ b.given → a.made ≡ b.made → a.clock ≡ b.clock → a.newcomers ≡ b.newcomers → a.sessions ≡ b.sessions → a.retained ≡ b.retained → a ≡ b
same_broker a b e f g h i j k =
    ap (λ x. broker_from x a.given a.made a.clock a.newcomers a.sessions a.retained) e ∙ ap (λ x. broker_from b.limit x a.made a.clock a.newcomers a.sessions a.retained) f
    ∙ ap (λ x. broker_from b.limit b.given x a.clock a.newcomers a.sessions a.retained) g ∙ ap (λ x. broker_from b.limit b.given b.made x a.newcomers a.sessions a.retained) h
    ∙ ap (λ x. broker_from b.limit b.given b.made b.clock x a.sessions a.retained) i ∙ ap (λ x. broker_from b.limit b.given b.made b.clock b.newcomers x a.retained) j
    ∙ ap (broker_from b.limit b.given b.made b.clock b.newcomers b.sessions) k

abbrev newcomer_by : List ConnDeed → ℕ → Newcomer
newcomer_by ds c = record { conn = c; heard = heard ds; drops = drops ds }

-- the session, unless it is over
abbrev pub left_of : Past → ℕ → List Deed → List Session
left_of g s ds = cond (is_over ds) [] (session_of g s ∷ [])

pub session-broker : (limit : ℕ) (ds : List Deed) (s : ℕ) (h : Past) → AreCalm ds
    → broker_of limit (session_facts s ds ++ h) ≡ record (broker_of limit h) { sessions = swap s (left_of (session_facts s ds ++ h) s ds) (map (session_of h) (sessions h)) }
session-broker limit ds s h calm = same_broker _ _ refl (given-same ds s h) (made-calm ds s h calm) (clock-same ds s h)
    (ap (map (newcomer_of (session_facts s ds ++ h))) (newcomers-calm ds s h calm)
    ∙ map-same (newcomer_of (session_facts s ds ++ h)) (newcomer_of h) (λ c. ap (λ cs. newcomer_by cs c) (conns-same ds h s c)) (newcomers h))
    (ap (map (session_of (session_facts s ds ++ h))) (sessions-calm ds s h calm) ∙ by (is_over ds))
    (ap (λ ms. table (retained_notes ms)) (routed-same ds s h))
  where
    other : (t : ℕ) → eqb s t ≡ false → session_of (session_facts s ds ++ h) t ≡ session_of h t
    other t e = session-from h (session_facts s ds ++ h) t (deeds h t) (conns-same ds h s) (deeds-others ds h s t e)

    by : (b : Bool) → map (session_of (session_facts s ds ++ h)) (cond b (without s (sessions h)) (sessions h))
        ≡ swap s (cond b [] (session_of (session_facts s ds ++ h) s ∷ [])) (map (session_of h) (sessions h))
    by true = dropped h (session_facts s ds ++ h) s other (sessions h)
    by false = swapped h (session_facts s ds ++ h) s (session_of (session_facts s ds ++ h) s) refl other (sessions h)

-- ---- one message

-- what is left of the session by these facts of its own
abbrev pub left_with : Past → ℕ → List Deed → List Session
left_with h s ds = cond (is_over ds) [] (session_with (connection_of h) s (ds ++ deeds h s) ∷ [])

pub left-same : (h : Past) (s : ℕ) (ds : List Deed) → left_of (session_facts s ds ++ h) s ds ≡ left_with h s ds
left-same h s ds = ap (λ x. cond (is_over ds) [] (x ∷ []))
    (session-from h (session_facts s ds ++ h) s (ds ++ deeds h s) (conns-same ds h s) (deeds-selves ds h s))

abbrev pub served_of : Past → ℕ → Share → Served
served_of h s x = record { left = left_with h s x.deeds; sends = x.sends; closes = x.closes; wills = x.wills }

pub conn-same : (h : Past) (s : ℕ) → conn_at (session_of h s) ≡ conn_here h s
conn-same h s = by (here (deeds h s))
  where
    by : (j : Option Joining) → option_map (λ (l : Connection). l.conn) (option_map (connection_of h) j) ≡ option_map (λ (i : Joining). i.conn) j
    by None = refl
    by (Some j) = refl

numbered-same : (h : Past) (s : ℕ) (app_message : AppMessage) (id : ℕ) → numbered (session_of h s) app_message id ≡ served_of h s (numbers h s app_message id)
numbered-same h s app_message id = ap₂ (λ x c. stays x (to_connection c (numbered_packet false id app_message)))
    (ap (λ b. record (session_of h s) { used = used (deeds h s) ++ id ∷ []; last = id; in_flight = cond (kept (deeds h s)) (in_flight (deeds h s) ++ in_flight_of id app_message b ∷ []) (in_flight (deeds h s)) }) (has_connection h s)
    ∙ sym (numbered-session (connection_of h) s id app_message (is_some (here (deeds h s))) (deeds h s)))
    (conn-same h s)

bursts-same : (h : Past) (s : ℕ) → bursts (session_of h s) ≡ served_of h s (ends_at (here (deeds h s)))
bursts-same h s = by (here (deeds h s))
  where
    by : (j : Option Joining) → record {
      left = [];
      sends = [];
      closes = option_list (option_map (λ (x : Connection). x.conn) (option_map (connection_of h) j));
      wills = option_map_or (λ (x : Connection). option_list x.will) (option_map (connection_of h) j) [];
    } ≡ served_of h s (ends_at j)
    by None = refl
    by (Some j) = refl

hand_at-same : (q : ℕ) (h : Past) (s : ℕ) (app_message : AppMessage) → hand_at q app_message (session_of h s) ≡ served_of h s (given_at q h s app_message)
hand_at-same zero h s app_message = ap (λ c. stays (session_of h s) (to_connection c (plain_packet app_message))) (conn-same h s)
hand_at-same (suc q) h s app_message = by (has_room (used (deeds h s)))
  where
    by : (b : Bool) → cond b (numbered (session_of h s) app_message (next_id (used (deeds h s)) (last_id (deeds h s)))) (bursts (session_of h s))
        ≡ served_of h s (cond b (numbers h s app_message (next_id (used (deeds h s)) (last_id (deeds h s)))) (ends_at (here (deeds h s))))
    by true = numbered-same h s app_message (next_id (used (deeds h s)) (last_id (deeds h s)))
    by false = bursts-same h s

pub hand-same : (h : Past) (s : ℕ) (app_message : AppMessage) → hand app_message (session_of h s) ≡ served_of h s (gift h s app_message)
hand-same h s app_message = hand_at-same app_message.qos h s app_message

pub serve-same : (h : Past) (m : AppMessage) (s : ℕ) → serve m (session_of h s) ≡ served_of h s (share h m s)
serve-same h m s = by (level m.qos (best m.topic (grants (deeds h s))))
  where
    by : (o : Option ℕ) → serve_at o m (session_of h s) ≡ served_of h s (share_at o h m s)
    by None = refl
    by (Some q) = hand-same h s (sent_as m q false)

calm-ends : (j : Option Joining) → AreCalm (ends_at j).deeds
calm-ends None = (tt, tt)
calm-ends (Some j) = (tt, (tt, tt))

calm-given : (q : ℕ) (h : Past) (s : ℕ) (app_message : AppMessage) → AreCalm (given_at q h s app_message).deeds
calm-given zero h s app_message = tt
calm-given (suc q) h s app_message = by (has_room (used (deeds h s)))
  where
    by : (b : Bool) → AreCalm (cond b (numbers h s app_message (next_id (used (deeds h s)) (last_id (deeds h s)))) (ends_at (here (deeds h s)))).deeds
    by true = (tt, tt)
    by false = calm-ends (here (deeds h s))

pub calm-gift : (h : Past) (s : ℕ) (app_message : AppMessage) → AreCalm (gift h s app_message).deeds
calm-gift h s app_message = calm-given app_message.qos h s app_message

pub calm-share : (h : Past) (m : AppMessage) (s : ℕ) → AreCalm (share h m s).deeds
calm-share h m s = by (level m.qos (best m.topic (grants (deeds h s))))
  where
    by : (o : Option ℕ) → AreCalm (share_at o h m s).deeds
    by None = tt
    by (Some q) = calm-gift h s (sent_as m q false)

-- ---- what is offered to a session

offered_at : (limit s : ℕ) (app_message : AppMessage) (t : Story) → turn_of limit (told_offer_at true s app_message t) ≡ offer_at (Some (session_of t.past s)) s app_message (turn_of limit t)
offered_at limit s app_message t =
    ap (λ b. record { broker = b; sends = t.sends ++ x.sends; closes = t.closes ++ x.closes; waiting = t.waiting ++ x.wills })
    (session-broker limit x.deeds s t.past (calm-gift t.past s app_message)
    ∙ ap (λ l. record (broker_of limit t.past) { sessions = swap s l (map (session_of t.past) (sessions t.past)) }) (left-same t.past s x.deeds))
    ∙ ap (λ (y : Served). record {
      broker = record (broker_of limit t.past) { sessions = swap s y.left (map (session_of t.past) (sessions t.past)) };
      sends = t.sends ++ y.sends;
      closes = t.closes ++ y.closes;
      waiting = t.waiting ++ y.wills;
    }) (sym (hand-same t.past s app_message))
  where
    x : Share
    x = gift t.past s app_message

offered_found : (limit s : ℕ) (app_message : AppMessage) (t : Story) (o : Option ℕ) → find (λ x. eqb x s) (sessions t.past) ≡ o
    → turn_of limit (told_offer_at (is_some o) s app_message t) ≡ offer_at (option_map (session_of t.past) o) s app_message (turn_of limit t)
offered_found limit s app_message t None is = refl
offered_found limit s app_message t (Some x) is =
    let same : x ≡ s = eqb-is x s (found-passes (λ y. eqb y s) (sessions t.past) x is) in
    offered_at limit s app_message t ∙ ap (λ y. offer_at (Some (session_of t.past y)) s app_message (turn_of limit t)) (sym same)

pub offered-same : (limit s : ℕ) (t : Story) (app_message : AppMessage) → turn_of limit (told_offer s t app_message) ≡ offer s (turn_of limit t) app_message
offered-same limit s t app_message = offered_found limit s app_message t (find (λ x. eqb x s) (sessions t.past)) refl
    ∙ ap (λ o. offer_at o s app_message (turn_of limit t)) (sym (find-map (session_of t.past) (λ (x : Session). eqb x.key s) (λ x. eqb x s) (λ x. refl) (sessions t.past)))

pub all-offered : (limit s : ℕ) (app_messages : List AppMessage) (t : Story) → turn_of limit (fold (told_offer s) t app_messages) ≡ fold (offer s) (turn_of limit t) app_messages
all-offered limit s [] t = refl
all-offered limit s (p ∷ ps) t = all-offered limit s ps (told_offer s t p) ∙ ap (λ u. fold (offer s) u ps) (offered-same limit s t p)

-- ---- grants, given and taken back

-- a list of facts of one session that leave it standing, as one list
pub record IsQuiet (s : ℕ) (h g : Past) : Type 0 where
  pub facts : List Deed
  pub is : g ≡ session_facts s facts ++ h
  pub calm : AreCalm facts
  pub stays : is_over facts ≡ false

facts-append : (s : ℕ) (ds es : List Deed) (h : Past) → session_facts s ds ++ (session_facts s es ++ h) ≡ session_facts s (ds ++ es) ++ h
facts-append s [] es h = refl
facts-append s (d ∷ ds) es h = ap (λ x. OfSession s d ∷ x) (facts-append s ds es h)

quiet-more : (s : ℕ) (h g : Past) (d : Deed) → IsCalm d → is_over_deed d ≡ false → IsQuiet s (OfSession s d ∷ h) g → IsQuiet s h g
quiet-more s h g d calm stays q = record {
  facts = q.facts ++ d ∷ [];
  is = q.is ∙ facts-append s q.facts (d ∷ []) h;
  calm = all-append IsCalm q.facts (d ∷ []) q.calm (calm, tt);
  stays = list_any-append is_over_deed q.facts (d ∷ []) ∙ ap (λ b. b || (is_over_deed d || false)) q.stays ∙ ap (λ b. b || false) stays;
}

quiet-none : (s : ℕ) (h : Past) → IsQuiet s h h
quiet-none s h = record { facts = []; is = refl; calm = tt; stays = refl }

quiet-granted : (es : List (List ℕ × ℕ)) (s : ℕ) (h : Past) → IsQuiet s h (fold (granting s) h es)
quiet-granted [] s h = quiet-none s h
quiet-granted (e ∷ es) s h = quiet-more s h (fold (granting s) (granting s h e) es) (Granted e.0 e.1) tt refl (quiet-granted es s (granting s h e))

quiet-taken : (fs : List (List ℕ)) (s : ℕ) (h : Past) → IsQuiet s h (fold (taking_back s) h fs)
quiet-taken [] s h = quiet-none s h
quiet-taken (f ∷ fs) s h = quiet-more s h (fold (taking_back s) (taking_back s h f) fs) (TakenBack f) tt refl (quiet-taken fs s (taking_back s h f))

quiet-broker : (limit s : ℕ) (h g : Past) → IsQuiet s h g
    → broker_of limit g ≡ record (broker_of limit h) { sessions = swap s (session_of g s ∷ []) (map (session_of h) (sessions h)) }
quiet-broker limit s h g q = ap (broker_of limit) q.is ∙ session-broker limit q.facts s h q.calm
    ∙ ap (λ l. record (broker_of limit h) { sessions = swap s l (map (session_of h) (sessions h)) })
    (ap (λ b. cond b [] (session_of (session_facts s q.facts ++ h) s ∷ [])) q.stays ∙ ap (λ x. session_of x s ∷ []) (sym q.is))

-- entry by entry
puts-same : (others : ℕ) (es : List (List ℕ × ℕ)) (g : Table ℕ) → puts g (granted_of others g es) ≡ fold (with_entry others) g es
puts-same others [] g = refl
puts-same others (e ∷ es) g = by (is_granted others g e) (puts-same others es)
  where
    by : (b : Bool) → ((k : Table ℕ) → puts k (granted_of others k es) ≡ fold (with_entry others) k es)
        → puts g (cond b (granted e ∷ []) [] ++ granted_of others (cond b (put (granted e).0 (granted e).1 g) g) es) ≡ fold (with_entry others) (cond b (put (granted e).0 (granted e).1 g) g) es
    by true rest = rest (put (granted e).0 (granted e).1 g)
    by false rest = rest g

pub others-same : (h : Past) (s : ℕ) → other_grants (session_of h s) (map (session_of h) (sessions h)) ≡ other_pairs h s
others-same h s = ap (λ xs. length xs - length (grants (deeds h s))) (flat_map-map (session_of h) (λ (x : Session). x.grants) (λ t. grants (deeds h t)) (λ t. refl) (sessions h))

gave_with : (limit others s conn id : ℕ) (entries : List (List ℕ × ℕ)) (t : Story)
    → turn_of limit (told_give_with others s conn id entries t) ≡ give_with others (session_of t.past s) conn id entries (turn_of limit t)
gave_with limit others s conn id entries t =
    all-offered limit s (flat_map (offers_to (retained t.past)) (granted_of others g entries)) _
    ∙ ap (λ b. fold (offer s) (turn_with b) (flat_map (offers_to (retained t.past)) (granted_of others g entries)))
    (quiet-broker limit s t.past (fold (granting s) t.past (granted_of others g entries)) (quiet-granted (granted_of others g entries) s t.past)
    ∙ ap (λ x. record (broker_of limit t.past) { sessions = swap s (x ∷ []) (map (session_of t.past) (sessions t.past)) })
    (granted-self (granted_of others g entries) t.past s ∙ ap (λ k. record (session_of t.past s) { grants = k }) (puts-same others entries g)))
  where
    g : Table ℕ
    g = grants (deeds t.past s)

    turn_with : Broker → Turn
    turn_with b = record {
      broker = b;
      sends = t.sends ++ (record { conn = conn; packet = SubAck id (codes_of others (grants (deeds t.past s)) entries) }) ∷ [];
      closes = t.closes;
      waiting = t.waiting;
    }

gave_at : (limit conn id : ℕ) (entries : List (List ℕ × ℕ)) (t : Story) (o : Option ℕ)
    → turn_of limit (told_give o conn id entries t) ≡ give_at (option_map (session_of t.past) o) conn id entries (turn_of limit t)
gave_at limit conn id entries t None = refl
gave_at limit conn id entries t (Some s) =
    ap (λ n. turn_of limit (told_give_with n s conn id entries t)) (sym (others-same t.past s))
    ∙ gave_with limit (other_grants (session_of t.past s) (map (session_of t.past) (sessions t.past))) s conn id entries t

pub gave : (limit conn id : ℕ) (entries : List (List ℕ × ℕ)) (t : Story)
    → turn_of limit (told_give (session_at t.past conn) conn id entries t) ≡ give_at (session_by conn (broker_of limit t.past).sessions) conn id entries (turn_of limit t)
gave limit conn id entries t = gave_at limit conn id entries t (session_at t.past conn)
    ∙ ap (λ o. give_at o conn id entries (turn_of limit t)) (sym (session_by-same t.past conn))

took_at : (limit : ℕ) (filters : List (List ℕ)) (t : Story) (o : Option ℕ)
    → turn_of limit (told_take o filters t) ≡ take_at (option_map (session_of t.past) o) filters (turn_of limit t)
took_at limit filters t None = refl
took_at limit filters t (Some s) = ap (λ b. record (turn_of limit t) { broker = b })
    (quiet-broker limit s t.past (fold (taking_back s) t.past filters) (quiet-taken filters s t.past)
    ∙ ap (λ x. record (broker_of limit t.past) { sessions = swap s (x ∷ []) (map (session_of t.past) (sessions t.past)) }) (taken-self filters t.past s))

pub took : (limit conn : ℕ) (filters : List (List ℕ)) (t : Story)
    → turn_of limit (told_take (session_at t.past conn) filters t) ≡ take_at (session_by conn (broker_of limit t.past).sessions) filters (turn_of limit t)
took limit conn filters t = took_at limit filters t (session_at t.past conn) ∙ ap (λ o. take_at o filters (turn_of limit t)) (sym (session_by-same t.past conn))
