-- Filters and topics: what stands in the data or is sent came with an event. Who listens, by filters.
use Rattle.std.proofs.Common.{◌≡◌, ◌∙◌, ℕ, Bool, true, false, ◌&&◌, ◌||◌, max, unwrap_or, ap₂, cond, List, [], ◌∷◌, refl, sym, subst, Some, true≢false}
use Rattle.std.specs.List.{list_any, AllByRecursion}
use Rattle.std.specs.Option.{is_some}
use Rattle.spk_packets.specs.Fault.{first_of}
use Rattle.spk_packets.specs.Spelling.{unwritable}
use Rattle.spk_topics.specs.Text.{topic_refusal}
use Rattle.spk_topics.specs.Fitting.{is_match}
use Rattle.spk_broker_rules.specs.Data.{InFlight, Session, Broker, fresh_broker}
use Rattle.spk_broker_rules.specs.Table.{Table}
use Rattle.spk_broker_rules.specs.Words.{best}
use Rattle.spk_broker_rules.specs.Plan.{Event, Packet, Queue, Route, shut}
use Rattle.spk_broker_rules.specs.Listening.{plain_publish, is_joined, listens, is_listening}
use Rattle.spk_broker_rules.specs.Origins.{WillSays}
use Rattle.spk_broker_rules.specs.Topics.{IsOff, FitsAlike, HasTopics, HasFilters, TopicIn, FiltersIn, Brings, SendsOn}
use Rattle.spk_broker_rules.proofs.Carried.{S, Of, Has, Free, Anything, of-acts, of-noted, of-step, sessions-of, all-free, free-grants, free-in_flight, free-wills, free-filters, free-topics}
use Rattle.spk_broker_rules.specs.Step.{Turn, acts, sits, session_by, noted, step}
use Rattle.spk_broker_rules.proofs.Lists.{all-also}
use Rattle.spk_broker_rules.proofs.Publishing.{joined-heard, app_message_of, plain-routed}

from-topics : (P : List ℕ → Type 0) (b : Broker) → HasTopics P b → Has Free (λ topic payload. P topic) b
from-topics P b h = record { sessions = sessions-of Free (λ topic payload. P topic) b.sessions (free-grants b.sessions) h.wills h.in_flight; retained = h.retained }

to-topics : (P : List ℕ → Type 0) (t : Turn) → Of Free (λ topic payload. P topic) t → HasTopics P t.broker
to-topics P t x = record {
  wills = all-also (S Free (λ topic payload. P topic)) (λ (s : Session). WillSays (λ topic payload. P topic) s.here) (λ s a. a.1) t.broker.sessions x.sessions;
  in_flight = all-also (S Free (λ topic payload. P topic)) (λ (s : Session). AllByRecursion (λ (c : InFlight). P c.app_message.topic) s.in_flight) (λ s a. a.2) t.broker.sessions x.sessions;
  retained = x.retained;
}

pub topics-kept : (P : List ℕ → Type 0) (b : Broker) (e : Event) → HasTopics P b → Brings (TopicIn P) e → HasTopics P (step b e).broker
topics-kept P b e h k = to-topics P (step b e) (of-step Free (λ topic payload. P topic) b e (from-topics P b h) (free-filters e) k)

pub topics-sent : (P : List ℕ → Type 0) (b : Broker) (e : Event) → HasTopics P b → Brings (TopicIn P) e → SendsOn P (step b e).sends
topics-sent P b e h k = (of-step Free (λ topic payload. P topic) b e (from-topics P b h) (free-filters e) k).sends

pub filters-kept : (P : List ℕ → Type 0) (b : Broker) (e : Event) → HasFilters P b → Brings (FiltersIn P) e → HasFilters P (step b e).broker
filters-kept P b e h k =
    all-also (S P Anything) (λ (s : Session). AllByRecursion (λ (g : List ℕ × ℕ). P g.0) s.grants) (λ s a. a.0) (step b e).broker.sessions
    (of-step P Anything b e (record { sessions = sessions-of P Anything b.sessions h (free-wills b.sessions) (free-in_flight b.sessions); retained = all-free b.retained }) k (free-topics e)).sessions

-- a plain publish leaves nothing behind, on whatever topic
pub topics-plain : (P : List ℕ → Type 0) (b : Broker) (conn moment : ℕ) (topic payload : List ℕ) → HasTopics P b → HasTopics P (step b (Packet conn (plain_publish topic payload) moment)).broker
unfolding step
topics-plain P b conn moment topic payload h = by (is_some (first_of (unwritable (plain_publish topic payload)))) (is_some (session_by conn at.broker.sessions)) (is_some (topic_refusal topic))
  where
    at : Turn
    at = noted b (Packet conn (plain_publish topic payload) moment)

    of_at : Of Free (λ topic payload. P topic) (noted b (Packet conn (plain_publish topic payload) moment))
    of_at = of-noted Free (λ topic payload. P topic) b (Packet conn (plain_publish topic payload) moment) (from-topics P b h)

    closing : HasTopics P (acts (shut conn) (noted b (Packet conn (plain_publish topic payload) moment))).broker
    closing = to-topics P _ (of-acts Free (λ topic payload. P topic) (shut conn) (noted b (Packet conn (plain_publish topic payload) moment)) (tt, (tt, (tt, tt))) of_at)

    by : (a j c : Bool) → HasTopics P (acts (cond a (shut conn) (cond j (cond c (shut conn) (Queue (app_message_of topic payload) ∷ Route ∷ [])) (shut conn))) (noted b (Packet conn (plain_publish topic payload) moment))).broker
    by true j c = closing
    by false true true = closing
    by false true false = subst (λ (t : Turn). HasTopics P t.broker) (sym (plain-routed topic payload (noted b (Packet conn (plain_publish topic payload) moment)).broker)) (to-topics P _ of_at)
    by false false c = closing

-- filters that fit two topics alike are listened to alike
pub listens-alike : (t u : List ℕ) (b : Broker) (conn : ℕ) → HasFilters (FitsAlike t u) b → listens b conn t ≡ listens b conn u
listens-alike t u b conn = all b.sessions
  where
    one : (g : Table ℕ) → AllByRecursion (λ (x : List ℕ × ℕ). is_match x.0 t ≡ is_match x.0 u) g → best t g ≡ best u g
    one [] h = refl
    one (x ∷ g) h = ap₂ (λ a o. cond a (Some (max x.1 (unwrap_or o 0))) o) h.0 (one g h.1)

    all : (ss : List Session) → AllByRecursion (λ (s : Session). AllByRecursion (λ (x : List ℕ × ℕ). is_match x.0 t ≡ is_match x.0 u) s.grants) ss
        → list_any (λ (s : Session). sits conn s && is_listening t s) ss ≡ list_any (λ (s : Session). sits conn s && is_listening u s) ss
    all [] h = refl
    all (s ∷ ss) h = ap₂ (λ o k. (sits conn s && is_some o) || k) (one s.grants h.0) (all ss h.1)

pub heard-joined : (b : Broker) (conn : ℕ) (topic : List ℕ) → listens b conn topic ≡ true → is_joined b conn ≡ true
heard-joined b conn topic = all b.sessions
  where
    all : (ss : List Session) → list_any (λ (s : Session). sits conn s && is_listening topic s) ss ≡ true → is_some (session_by conn ss) ≡ true
    all [] e = e
    all (s ∷ ss) e = by (sits conn s) e (all ss)
      where
        by : (a : Bool) → ((a && is_listening topic s) || list_any (λ (x : Session). sits conn x && is_listening topic x) ss) ≡ true
            → (list_any (λ (x : Session). sits conn x && is_listening topic x) ss ≡ true → is_some (session_by conn ss) ≡ true) → is_some (cond a (Some s) (session_by conn ss)) ≡ true
        by true f rest = refl
        by false f rest = rest f

-- ---- as the laws say it

pub off-first : (limit : ℕ) (on : List ℕ → Bool) → HasTopics (IsOff on) (fresh_broker limit)
off-first limit on = record { wills = tt; in_flight = tt; retained = tt }

pub off-kept : (b : Broker) (e : Event) (on : List ℕ → Bool) → HasTopics (IsOff on) b → Brings (TopicIn (IsOff on)) e → HasTopics (IsOff on) (step b e).broker
off-kept b e on = topics-kept (IsOff on) b e

pub off-sent : (b : Broker) (e : Event) (on : List ℕ → Bool) → HasTopics (IsOff on) b → Brings (TopicIn (IsOff on)) e → SendsOn (IsOff on) (step b e).sends
off-sent b e on = topics-sent (IsOff on) b e

pub off-plain : (b : Broker) (conn moment : ℕ) (topic payload : List ℕ) (on : List ℕ → Bool) → HasTopics (IsOff on) b → HasTopics (IsOff on) (step b (Packet conn (plain_publish topic payload) moment)).broker
off-plain b conn moment topic payload on = topics-plain (IsOff on) b conn moment topic payload

pub alike-first : (limit : ℕ) (one other : List ℕ) → HasFilters (FitsAlike one other) (fresh_broker limit)
alike-first limit one other = tt

pub alike-kept : (b : Broker) (e : Event) (one other : List ℕ) → HasFilters (FitsAlike one other) b → Brings (FiltersIn (FitsAlike one other)) e → HasFilters (FitsAlike one other) (step b e).broker
alike-kept b e one other = filters-kept (FitsAlike one other) b e

pub alike-heard : (b : Broker) (conn : ℕ) (one other : List ℕ) → HasFilters (FitsAlike one other) b → listens b conn one ≡ listens b conn other
alike-heard b conn one other = listens-alike one other b conn

-- from whoever hasn't joined it goes to nobody
pub off-unjoined : (b : Broker) (conn moment : ℕ) (topic payload : List ℕ) (on : List ℕ → Bool) → HasTopics (IsOff on) b → is_joined b conn ≡ false
    → SendsOn (IsOff on) (step b (Packet conn (plain_publish topic payload) moment)).sends
unfolding step
off-unjoined b conn moment topic payload on h j =
    by (is_some (first_of (unwritable (plain_publish topic payload)))) (is_some (session_by conn (noted b (Packet conn (plain_publish topic payload) moment)).broker.sessions))
    (joined-heard conn (max b.clock moment) b.sessions ∙ j)
  where
    closing : SendsOn (IsOff on) (acts (shut conn) (noted b (Packet conn (plain_publish topic payload) moment))).sends
    closing =
        (of-acts Free (λ t p. IsOff on t) (shut conn) (noted b (Packet conn (plain_publish topic payload) moment)) (tt, (tt, (tt, tt)))
        (of-noted Free (λ t p. IsOff on t) b (Packet conn (plain_publish topic payload) moment) (from-topics (IsOff on) b h))).sends

    by : (a k : Bool) → k ≡ false
        → SendsOn (IsOff on) (acts (cond a (shut conn) (cond k (cond (is_some (topic_refusal topic)) (shut conn) (Queue (app_message_of topic payload) ∷ Route ∷ [])) (shut conn))) (noted b (Packet conn (plain_publish topic payload) moment))).sends
    by true k e = closing
    by false true e = absurd (true≢false e)
    by false false e = closing
