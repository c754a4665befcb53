-- Acts one after the other, and what the rules ask of what stands for a turn.
use Rattle.std.proofs.Common.{◌≡◌, ℕ, zero, suc, ◌+◌, ◌<◌, ◌&&◌, Bool, not, cond, List, [], ◌∷◌, ◌++◌, length, take, get_or, refl, sym, ap, subst, ◌∙◌, arith, Option}
use Rattle.std.specs.List.{flat_map}
use Rattle.std.specs.Option.{is_none, is_some}
use Rattle.spk_packets.specs.declared.fault.PacketFault.{PacketFault}
use Rattle.spk_topics.specs.Text.{topic_refusal}
use Rattle.spk_session.specs.Step.{is_spent}
use Rattle.spk_session.specs.declared.answer.Sort.TheVariants as sort
use Rattle.spk_broker_rules.specs.Data as plain
use Rattle.spk_packets.specs.Message.{UnsubAck}
use Rattle.spk_broker_rules.specs.Plan.{Act, At, Drop, Fault, Queue, Refused, Route, Say, Take, Tick, has_bad_filter, is_bad_level, puback, publish, shut, turn_away, unsubscribe}
use Rattle.spk_broker_rules.specs.Step.{Turn, act, acts, drops_in, session_by, silent_at}
use Rattle.spk_broker.specs.Asking.{place_in, sessions_now}
use Rattle.spk_broker.specs.declared.state.State.{State}
use Rattle.spk_broker.specs.declared.packet_end.Ending.{Ending}
use Rattle.spk_broker.specs.declared.out.Draft.{Draft}
use Rattle.spk_broker.specs.Endings.{Leads}
use Rattle.spk_broker.specs.View.{Stands, state_now, ends, stepped}
use Rattle.spk_broker.proofs.Near.{unjoined-in}

pub acts-append : (xs ys : List Act) (t : Turn) → acts (xs ++ ys) t ≡ acts ys (acts xs t)
acts-append [] ys t = refl
acts-append (x ∷ xs) ys t = acts-append xs ys (act x t)

-- one connection more
pub ends-more : (xs : List ℕ) (i d : ℕ) (t : Turn) → i < length xs → acts (flat_map ends (take (i + 1) xs)) t ≡ acts (ends (get_or xs i d)) (acts (flat_map ends (take i xs)) t)
ends-more [] i d t lt = absurd (omega (arith, lt))
ends-more (x ∷ xs) zero d t lt = refl
ends-more (x ∷ xs) (suc i) d t lt =
    let z : suc i + 1 ≡ suc (i + 1) = omega arith in
    ap (λ k. acts (flat_map ends (take k (x ∷ xs))) t) z ∙ ends-more xs i d (acts (ends x) t) (omega (arith, lt))

-- ---- ticks

pub tick-stands : (d1 d2 : State) (x1 x2 : Draft) (now : ℕ) (conns : List ℕ) (t : Turn) → Stands d1 x1 (act (At now) t)
    → conns ≡ flat_map (silent_at d1.clock) (sessions_now d1.sessions.items) → Stands d2 x2 (act Route (acts (flat_map ends conns) (act (At now) t)))
    → Stands d2 x2 (stepped (Tick now) t)
tick-stands d1 d2 x1 x2 now conns t s e done =
    let same : conns ≡ flat_map (silent_at (act (At now) t).broker.clock) (act (At now) t).broker.sessions =
    e ∙ ap (λ (b : plain.Broker). flat_map (silent_at b.clock) b.sessions) s.broker in
    subst (λ u. Stands d2 x2 u)
    (ap (λ l. act Route (acts (flat_map ends l) (act (At now) t))) same
    ∙ sym (acts-append (flat_map ends (flat_map (silent_at (act (At now) t).broker.clock) (act (At now) t).broker.sessions)) (Route ∷ []) (act (At now) t))) done

pub tick-leads : (d1 d2 : State) (x1 x2 : Draft) (e : Ending) (now : ℕ) (conns : List ℕ) (t : Turn) → Stands d1 x1 (act (At now) t)
    → conns ≡ flat_map (silent_at d1.clock) (sessions_now d1.sessions.items) → Leads d2 x2 e (act Route (acts (flat_map ends conns) (act (At now) t)))
    → Leads d2 x2 e (stepped (Tick now) t)
tick-leads d1 d2 x1 x2 e now conns t s is done =
    let same : conns ≡ flat_map (silent_at (act (At now) t).broker.clock) (act (At now) t).broker.sessions =
    is ∙ ap (λ (b : plain.Broker). flat_map (silent_at b.clock) b.sessions) s.broker in
    subst (λ u. Leads d2 x2 e u)
    (ap (λ l. act Route (acts (flat_map ends l) (act (At now) t))) same
    ∙ sym (acts-append (flat_map ends (flat_map (silent_at (act (At now) t).broker.clock) (act (At now) t).broker.sessions)) (Route ∷ []) (act (At now) t))) done

-- ---- drops

pub dropped-leads : (d1 d2 : State) (x1 x2 : Draft) (e : Ending) (conn now : ℕ) (t : Turn) (b : Bool) → Stands d1 x1 (act (Drop conn) (act (At now) t))
    → is_spent d1.limit (drops_in conn (state_now d1)) ≡ b → Leads d2 x2 e (acts (cond b (shut conn) []) (act (Drop conn) (act (At now) t)))
    → Leads d2 x2 e (stepped (Refused conn sort.QosZero now) t)
dropped-leads d1 d2 x1 x2 e conn now t b s is done =
    subst (λ u. Leads d2 x2 e u) (ap (λ c. acts (cond c (shut conn) []) (act (Drop conn) (act (At now) t)))
    (sym is ∙ ap (λ (k : plain.Broker). is_spent k.limit (drops_in conn k)) s.broker)) done

-- ---- bytes that are no packet

pub fault-leads : (d1 d2 : State) (x1 x2 : Draft) (e : Ending) (conn now : ℕ) (o : Option ℕ) (f : PacketFault) (t : Turn) (b : Bool) → Stands d1 x1 (act (At now) t)
    → place_in conn d1.sessions.items ≡ o → is_bad_level f && is_none o ≡ b → Leads d2 x2 e (acts (cond b (turn_away conn 1) (shut conn)) (act (At now) t))
    → Leads d2 x2 e (stepped (Fault conn f now) t)
fault-leads d1 d2 x1 x2 e conn now o f t b s at is done =
    subst (λ u. Leads d2 x2 e u)
    (ap (λ c. acts (cond c (turn_away conn 1) (shut conn)) (act (At now) t))
    (sym is ∙ ap (λ c. is_bad_level f && c) (unjoined-in conn d1.sessions.items o at)
    ∙ ap (λ (k : plain.Broker). is_bad_level f && not (is_some (session_by conn k.sessions))) s.broker)) done

-- ---- publishes

pub publish-leads : (d2 : State) (x2 : Draft) (ending : Ending) (conn : ℕ) (id : Option ℕ) (app_message : plain.AppMessage) (t : Turn) (b : Bool) → is_some (topic_refusal app_message.topic) ≡ b
    → Leads d2 x2 ending (acts (cond b (shut conn) (puback conn id ++ Queue app_message ∷ Route ∷ [])) t) → Leads d2 x2 ending (acts (publish conn id app_message) t)
publish-leads d2 x2 ending conn id app_message t b e done =
    subst (λ u. Leads d2 x2 ending u) (ap (λ c. acts (cond c (shut conn) (puback conn id ++ Queue app_message ∷ Route ∷ [])) t) (sym e)) done

-- ---- filters taken back

pub unsubscribe-leads : (d2 : State) (x2 : Draft) (e : Ending) (conn id : ℕ) (names : List (List ℕ)) (t : Turn) (b : Bool) → has_bad_filter names ≡ b
    → Leads d2 x2 e (acts (cond b (shut conn) (Take conn names ∷ Say conn (UnsubAck id) ∷ [])) t) → Leads d2 x2 e (acts (unsubscribe conn id names) t)
unsubscribe-leads d2 x2 e conn id names t b is done =
    subst (λ u. Leads d2 x2 e u) (ap (λ c. acts (cond c (shut conn) (Take conn names ∷ Say conn (UnsubAck id) ∷ [])) t) (sym is)) done
