-- An event, and what is noted of it.
use Rattle.std.proofs.Common.{◌≡◌, ℕ, zero, suc, max, Bool, true, false, not, ◌&&◌, ◌||◌, cond, eqb, List, [], ◌∷◌, ◌++◌, map, refl, sym, ◌∙◌, ap, subst, Option, Some, None, true≢false}
use Rattle.std.specs.List.{flat_map, list_any}
use Rattle.std.specs.Option.{is_some}
use Rattle.std.proofs.lemmas.Bool.{or_left}
use Rattle.std.proofs.lemmas.List.Folds.{list_any-append}
use Rattle.spk_packets.specs.Fault.{first_of}
use Rattle.spk_packets.specs.Message.{Message, Connect, ConnAck, Publish, PubAck, Subscribe, SubAck, Unsubscribe, UnsubAck, PingReq, PingResp, Disconnect}
use Rattle.spk_packets.specs.Spelling.{unwritable}
use Rattle.spk_packets.specs.declared.fault.PacketFault.{PacketFault}
use Rattle.spk_topics.specs.Text.{topic_refusal}
use Rattle.spk_session.specs.Step.{is_spent}
use Rattle.spk_session.specs.declared.answer.Sort.TheVariants as sort
use Rattle.spk_broker_rules.specs.Data.{AppMessage, Session, Broker}
use Rattle.spk_broker_rules.specs.Plan.{Event, Open, Packet, Fault, Closed, Tick, Refused, Act, At, Hear, Drop, Say, Leave, Tell, Queue, Route, plan, shut, turn_away, puback, is_bad_level}
use Rattle.spk_broker_rules.specs.Listening.{is_closed_in}
use Rattle.spk_broker_rules.specs.Step.{Turn, act, acts, serve, route_one, route_some, route, most, session_by, silent_at, drops_in, seen, noted, begun, step}
use Rattle.spk_broker_rules.proofs.Lists.{eqb-is, eqb-self}
use Rattle.spk_broker_rules.proofs.Publishing.{app_message_of, turn_from, plain-routed}
use Rattle.spk_broker_replay.specs.Replay.{Follows, bare, bare_newcomer, bare_session, is_idle, notes, run, timeless}
use Rattle.spk_broker_replay.proofs.Bare.{bare_act, turn_with, strip, strip-twice, heard-same, dropped-same, route-alike, acts-alike}
use Rattle.spk_broker_replay.proofs.Plans.{joined-alike, packet-alike}
use Rattle.spk_broker_replay.proofs.Timed.{Timed, acts-timed}

abbrev pub bares : List Act → List Act
bares as_list = map bare_act as_list

-- ---- a step

pub begun-alike : (b n : Broker) → bare b ≡ bare n → strip (begun b) ≡ strip (begun n)
begun-alike b n e = ap (λ (x : Broker). turn_from x [] [] []) e

pub noted-same : (b : Broker) (e : Event) → strip (noted b e) ≡ strip (begun b)
noted-same b (Open moment) = refl
noted-same b (Packet c p moment) = heard-same c (max b.clock moment) (act (At moment) (begun b))
noted-same b (Fault c f moment) = refl
noted-same b (Closed c moment) = refl
noted-same b (Tick moment) = refl
noted-same b (Refused c sort.QosZero moment) = dropped-same c (act (At moment) (begun b))
noted-same b (Refused c sort.Other moment) = refl

pub bare-of : (t u : Turn) → strip t ≡ strip u → bare t.broker ≡ bare u.broker
bare-of t u e = ap (λ (x : Turn). x.broker) e

pub noted-alike : (b n : Broker) (e f : Event) → bare b ≡ bare n → bare (noted b e).broker ≡ bare (noted n f).broker
noted-alike b n e f same = bare-of (noted b e) (noted n f) (noted-same b e ∙ begun-alike b n same ∙ sym (noted-same n f))

pub step-is : (b : Broker) (e : Event) → step b e ≡ acts (plan (seen (noted b e).broker e) e) (noted b e)
unfolding step
step-is b e = refl

pub step-alike : (b n : Broker) (e f : Event) → bare b ≡ bare n → plan (seen (noted n f).broker f) f ≡ bares (plan (seen (noted b e).broker e) e) → strip (step b e) ≡ strip (step n f)
step-alike b n e f same plans =
    ap strip (step-is b e)
    ∙ acts-alike (plan (seen (noted b e).broker e) e) (noted b e) (noted n f) (noted-same b e ∙ begun-alike b n same ∙ sym (noted-same n f))
    ∙ ap (λ as_list. strip (acts as_list (noted n f))) (sym plans)
    ∙ ap strip (sym (step-is n f))

noted-timed : (n : Broker) (e : Event) → Timed (begun n) → Timed (noted n e)
noted-timed n (Open moment) h = acts-timed (At moment ∷ []) (begun n) h
noted-timed n (Packet c p moment) h = acts-timed (At moment ∷ Hear c ∷ []) (begun n) h
noted-timed n (Fault c f moment) h = acts-timed (At moment ∷ []) (begun n) h
noted-timed n (Closed c moment) h = acts-timed (At moment ∷ []) (begun n) h
noted-timed n (Tick moment) h = acts-timed (At moment ∷ []) (begun n) h
noted-timed n (Refused c sort.QosZero moment) h = acts-timed (At moment ∷ Drop c ∷ []) (begun n) h
noted-timed n (Refused c sort.Other moment) h = acts-timed (At moment ∷ []) (begun n) h

step-timed : (n : Broker) (e : Event) (as_list : List Act) → plan (seen (noted n e).broker e) e ≡ bares as_list → Timed (begun n) → Timed (step n e)
step-timed n e as_list plans h = subst Timed (sym (step-is n e ∙ ap (λ l. acts l (noted n e)) plans)) (acts-timed as_list (noted n e) (noted-timed n e h))

pub begun-timed : (b n : Broker) → Follows b n → Timed (begun n)
begun-timed b n f = record { newcomers = f.newcomers; connections = f.connections }

pub follows-of : (t u : Turn) → strip t ≡ strip u → Timed u → Follows t.broker u.broker
follows-of t u e h = record { same = bare-of t u e; newcomers = h.newcomers; connections = h.connections }

-- both do the same
pub both : (b n : Broker) (e f : Event) → Follows b n → plan (seen (noted n f).broker f) f ≡ bares (plan (seen (noted b e).broker e) e) → Follows (step b e).broker (step n f).broker
both b n e f fine plans = follows-of (step b e) (step n f) (step-alike b n e f fine.same plans) (step-timed n f (plan (seen (noted b e).broker e) e) plans (begun-timed b n fine))

-- the event changes nothing but time and drops
pub neither : (b n : Broker) (e : Event) → Follows b n → strip (step b e) ≡ strip (begun b) → Follows (step b e).broker n
neither b n e fine same = follows-of (step b e) (begun n) (same ∙ begun-alike b n fine.same) (begun-timed b n fine)

-- ---- who is shut is closed

closed-one : (c : ℕ) (m : AppMessage) (t : Turn) → is_closed_in c t ≡ true → is_closed_in c (route_one m t) ≡ true
closed-one c m t h = list_any-append (λ d. eqb d c) t.closes (flat_map (λ (s : Session). (serve m s).closes) t.broker.sessions) ∙ or_left _ _ h

closed-some : (n c : ℕ) (t : Turn) → is_closed_in c t ≡ true → is_closed_in c (route_some n t) ≡ true
unfolding route_some
closed-some zero c t h = h
closed-some (suc n) c t h = by t.waiting (λ m ms. closed-some n c (route_one m (record t { waiting = ms })) (closed-one c m (record t { waiting = ms }) h))
  where
    by : (ws : List AppMessage) → ((m : AppMessage) (ms : List AppMessage) → is_closed_in c (route_some n (route_one m (record t { waiting = ms }))) ≡ true)
        → is_closed_in c (elim ws [ [] ↦ t | m ∷ ms ↦ route_some n (route_one m (record t { waiting = ms })) ]) ≡ true
    by [] rest = h
    by (m ∷ ms) rest = rest m ms

closed-route : (c : ℕ) (t : Turn) → is_closed_in c t ≡ true → is_closed_in c (route t) ≡ true
unfolding route
closed-route c t h = closed-some (most t) c t h

any-last : (c : ℕ) (ds : List ℕ) → list_any (λ d. eqb d c) (ds ++ c ∷ []) ≡ true
any-last c [] = or_left (eqb c c) false (eqb-self c)
any-last c (d ∷ ds) = by (eqb d c) (any-last c ds)
  where
    by : (b : Bool) → list_any (λ d. eqb d c) (ds ++ c ∷ []) ≡ true → (b || list_any (λ d. eqb d c) (ds ++ c ∷ [])) ≡ true
    by true h = refl
    by false h = h

pub shut-closed : (c : ℕ) (t : Turn) → is_closed_in c (acts (shut c) t) ≡ true
shut-closed c t = closed-route c (act (Tell c) (act (Leave c true) t)) (any-last c (act (Leave c true) t).closes)

-- ---- packets that change nothing but time

-- a publish of QoS 0 without RETAIN, routed where nothing waits
routed-idle : (topic payload : List ℕ) (t : Turn) → t.waiting ≡ [] → strip (route (act (Queue (app_message_of topic payload)) t)) ≡ strip t
routed-idle topic payload t is =
    route-alike (act (Queue m) t) (turn_from (bare t.broker) [] [] (m ∷ [])) once
    ∙ ap strip (plain-routed topic payload (bare t.broker))
    ∙ strip-twice (record t { waiting = [] })
    ∙ ap (λ ws. turn_with t.broker.given t.broker.made (map bare_newcomer t.broker.newcomers) (map bare_session t.broker.sessions) t.broker.retained ws) (sym is)
  where
    m : AppMessage
    m = app_message_of topic payload

    once : strip (act (Queue m) t) ≡ strip (turn_from (bare t.broker) [] [] (m ∷ []))
    once = ap (λ ws. strip (record t { waiting = ws ++ m ∷ [] })) is ∙ sym (strip-twice (record t { waiting = m ∷ [] }))

publish-idle : (c : ℕ) (id : Option ℕ) (topic payload : List ℕ) (t : Turn) → t.waiting ≡ [] → strip (acts (puback c id ++ Queue (app_message_of topic payload) ∷ Route ∷ []) t) ≡ strip t
publish-idle c None topic payload t is = routed-idle topic payload t is
publish-idle c (Some id) topic payload t is = routed-idle topic payload (act (Say c (PubAck id)) t) is

pub no : {X : Type 0} → true ≡ false → X
no e = absurd (true≢false e)

-- it is shut, or nothing happens
quiet : (u j : Bool) (c : ℕ) (l : List Act) (t : Turn) → (is_closed_in c (acts l t) ≡ false → strip (acts l t) ≡ strip t)
    → is_closed_in c (acts (cond u (shut c) (cond j l (shut c))) t) ≡ false → strip (acts (cond u (shut c) (cond j l (shut c))) t) ≡ strip t
quiet true j c l t fine h = no (sym (shut-closed c t) ∙ h)
quiet false true c l t fine h = fine h
quiet false false c l t fine h = no (sym (shut-closed c t) ∙ h)

quiet-publish : (bad : Bool) (c : ℕ) (id : Option ℕ) (topic payload : List ℕ) (t : Turn) → t.waiting ≡ []
    → is_closed_in c (acts (cond bad (shut c) (puback c id ++ Queue (app_message_of topic payload) ∷ Route ∷ [])) t) ≡ false
    → strip (acts (cond bad (shut c) (puback c id ++ Queue (app_message_of topic payload) ∷ Route ∷ [])) t) ≡ strip t
quiet-publish true c id topic payload t is h = no (sym (shut-closed c t) ∙ h)
quiet-publish false c id topic payload t is h = publish-idle c id topic payload t is

idle-publish : (dup : Bool) (c : ℕ) (topic : List ℕ) (id : Option ℕ) (payload : List ℕ) (b : Broker) (moment : ℕ)
    → is_closed_in c (step b (Packet c (Publish dup 0 false topic id payload) moment)) ≡ false
    → strip (step b (Packet c (Publish dup 0 false topic id payload) moment)) ≡ strip (noted b (Packet c (Publish dup 0 false topic id payload) moment))
unfolding step
idle-publish dup c topic id payload b moment h = quiet (is_some (first_of (unwritable (Publish dup 0 false topic id payload)))) (is_some (session_by c t.broker.sessions)) c
    (cond (is_some (topic_refusal topic)) (shut c) (puback c id ++ Queue (app_message_of topic payload) ∷ Route ∷ [])) t
    (quiet-publish (is_some (topic_refusal topic)) c id topic payload t refl) h
  where
    t : Turn
    t = noted b (Packet c (Publish dup 0 false topic id payload) moment)

idle-ping : (c : ℕ) (b : Broker) (moment : ℕ) → is_closed_in c (step b (Packet c PingReq moment)) ≡ false
    → strip (step b (Packet c PingReq moment)) ≡ strip (noted b (Packet c PingReq moment))
unfolding step
idle-ping c b moment h = quiet (is_some (first_of (unwritable PingReq))) (is_some (session_by c t.broker.sessions)) c (Say c PingResp ∷ []) t (λ x. refl) h
  where
    t : Turn
    t = noted b (Packet c PingReq moment)

not-no : (b : Bool) → not b ≡ true → b ≡ false
not-no true e = no (sym e)
not-no false e = refl

and-left : (a b : Bool) → (a && b) ≡ true → a ≡ true
and-left true b e = refl
and-left false b e = no (sym e)

and-right : (a b : Bool) → (a && b) ≡ true → b ≡ true
and-right true b e = e
and-right false b e = no (sym e)

idle-message : (p : Message) (c : ℕ) (b : Broker) (moment : ℕ) → is_idle p ≡ true → is_closed_in c (step b (Packet c p moment)) ≡ false
    → strip (step b (Packet c p moment)) ≡ strip (noted b (Packet c p moment))
idle-message (Connect client clean alive will) c b moment e h = no (sym e)
idle-message (ConnAck present code) c b moment e h = no (sym e)
idle-message (Publish dup qos retain topic id payload) c b moment e h = subst Fine (sym none) (subst (λ r. Fine2 0 r) (sym (not-no retain (and-right (eqb qos 0) (not retain) e))) (idle-publish dup c topic id payload b moment)) h
  where
    Fine2 : ℕ → Bool → Type 0
    Fine2 q r = is_closed_in c (step b (Packet c (Publish dup q r topic id payload) moment)) ≡ false
        → strip (step b (Packet c (Publish dup q r topic id payload) moment)) ≡ strip (noted b (Packet c (Publish dup q r topic id payload) moment))

    Fine : ℕ → Type 0
    Fine q = Fine2 q retain

    none : qos ≡ 0
    none = eqb-is qos 0 (and-left (eqb qos 0) (not retain) e)
idle-message (PubAck id) c b moment e h = no (sym e)
idle-message (Subscribe id entries) c b moment e h = no (sym e)
idle-message (SubAck id codes) c b moment e h = no (sym e)
idle-message (Unsubscribe id filters) c b moment e h = no (sym e)
idle-message (UnsubAck id) c b moment e h = no (sym e)
idle-message PingReq c b moment e h = idle-ping c b moment h
idle-message PingResp c b moment e h = no (sym e)
idle-message Disconnect c b moment e h = no (sym e)

-- ---- the events but for a tick

pub next-open : (b n : Broker) (moment : ℕ) → Follows b n → Follows (step b (Open moment)).broker (run n (notes b n.clock (Open moment)))
next-open b n moment fine = both b n (Open moment) (Open 0) fine refl

pub next-packet : (b n : Broker) (c : ℕ) (p : Message) (moment : ℕ) → Follows b n → Follows (step b (Packet c p moment)).broker (run n (notes b n.clock (Packet c p moment)))
next-packet b n c p moment fine = by (is_idle p && not (is_closed_in c (step b e))) refl
  where
    e : Event
    e = Packet c p moment

    f : Event
    f = Packet c (timeless p) 0

    by : (v : Bool) → (is_idle p && not (is_closed_in c (step b e))) ≡ v → Follows (step b e).broker (run n (cond v [] (f ∷ [])))
    by true h = neither b n e fine (idle-message p c b moment (and-left (is_idle p) _ h) (not-no _ (and-right (is_idle p) _ h)) ∙ noted-same b e)
    by false h = both b n e f fine (packet-alike c p (noted b e).broker (noted n f).broker
        (is_spent (noted b e).broker.limit (drops_in c (noted b e).broker)) (is_spent (noted n f).broker.limit (drops_in c (noted n f).broker))
        (flat_map (silent_at (noted b e).broker.clock) (noted b e).broker.sessions) (flat_map (silent_at (noted n f).broker.clock) (noted n f).broker.sessions)
        (noted-alike b n e f fine.same))

bytes-bare : (v : Bool) (c : ℕ) → cond v (turn_away c 1) (shut c) ≡ bares (cond v (turn_away c 1) (shut c))
bytes-bare true c = refl
bytes-bare false c = refl

pub next-fault : (b n : Broker) (c : ℕ) (f : PacketFault) (moment : ℕ) → Follows b n → Follows (step b (Fault c f moment)).broker (run n (notes b n.clock (Fault c f moment)))
next-fault b n c f moment fine = both b n (Fault c f moment) (Fault c f 0) fine
    (ap (λ j. cond (is_bad_level f && not j) (turn_away c 1) (shut c)) (sym (joined-alike c (noted b (Fault c f moment)).broker (noted n (Fault c f 0)).broker (noted-alike b n (Fault c f moment) (Fault c f 0) fine.same)))
    ∙ bytes-bare (is_bad_level f && not (is_some (session_by c (noted b (Fault c f moment)).broker.sessions))) c)

pub next-closed : (b n : Broker) (c moment : ℕ) → Follows b n → Follows (step b (Closed c moment)).broker (run n (notes b n.clock (Closed c moment)))
next-closed b n c moment fine = both b n (Closed c moment) (Closed c 0) fine refl

pub next-other : (b n : Broker) (c moment : ℕ) → Follows b n → Follows (step b (Refused c sort.Other moment)).broker (run n (notes b n.clock (Refused c sort.Other moment)))
next-other b n c moment fine = both b n (Refused c sort.Other moment) (Refused c sort.Other 0) fine refl

pub next-drop : (b n : Broker) (c moment : ℕ) → Follows b n → Follows (step b (Refused c sort.QosZero moment)).broker (run n (notes b n.clock (Refused c sort.QosZero moment)))
next-drop b n c moment fine = by (is_spent (noted b e).broker.limit (drops_in c (noted b e).broker)) refl
  where
    e : Event
    e = Refused c sort.QosZero moment

    f : Event
    f = Refused c sort.Other 0

    Goal : Turn → Type 0
    Goal t = Follows t.broker (run n (cond (is_closed_in c t) (f ∷ []) []))

    turn : Bool → Turn
    turn v = acts (cond v (shut c) []) (noted b e)

    is : (v : Bool) → is_spent (noted b e).broker.limit (drops_in c (noted b e).broker) ≡ v → turn v ≡ step b e
    is v h = ap turn (sym h) ∙ sym (step-is b e)

    by : (v : Bool) → is_spent (noted b e).broker.limit (drops_in c (noted b e).broker) ≡ v → Goal (step b e)
    by true h = subst Goal (is true h) (subst (λ x. Follows (turn true).broker (run n (cond x (f ∷ []) []))) (sym (shut-closed c (noted b e)))
        (follows-of (turn true) (step n f)
        (acts-alike (shut c) (noted b e) (noted n f) (noted-same b e ∙ begun-alike b n fine.same ∙ sym (noted-same n f)) ∙ ap strip (sym (step-is n f)))
        (step-timed n f (shut c) refl (begun-timed b n fine))))
    by false h = subst Goal (is false h) (follows-of (noted b e) (begun n) (noted-same b e ∙ begun-alike b n fine.same) (begun-timed b n fine))
