-- Routing: it ends, it goes on message by message, and the past tells it in one way.
use Rattle.std.proofs.Common.{◌≡◌, ℕ, zero, suc, ◌+◌, ◌<◌, ◌≤◌, Bool, true, false, cond, List, [], ◌∷◌, length, refl, sym, ◌∙◌, ap, arith, subst, Option, Some, None}
use Rattle.std.specs.List.{flat_map}
use Rattle.std.specs.Option.{option_map_or}
use Rattle.std.proofs.lemmas.List.{length-append}
use Rattle.spk_session.specs.PacketIds.{next_id}
use Rattle.spk_session.specs.Step.{has_room}
use Rattle.spk_broker_rules.specs.Data.{AppMessage, Connection, Session}
use Rattle.spk_broker_rules.specs.Lawful.{IsLawful}
use Rattle.spk_broker_rules.specs.Words.{best, level, sent_as, option_list}
use Rattle.spk_broker_rules.specs.Step.{Turn, Served, hand_at, serve, serve_at, numbered, bursts, route_one, route_some, route, most}
use Rattle.spk_broker_rules.specs.Past.{broker_of}
use Rattle.spk_broker_rules.specs.Story.{Story, Routes, nothing_waits, goes_on, told_one}
use Rattle.spk_broker_rules.proofs.Places.{lawful-one}
use Rattle.spk_broker_rules.proofs.Rounds.{one-told}
use Rattle.spk_broker_rules.proofs.Turns.{turn_of}

-- ---- each will that begins to wait is that of a session that ended

abbrev Spends : Served → Type 0
Spends x = length x.wills + length x.left ≤ 1

few-bursts : (s : Session) → Spends (bursts s)
few-bursts s = by s.here
  where
    will : (w : Option AppMessage) → length (option_list w) + 0 ≤ 1
    will None = omega arith
    will (Some w) = omega arith

    by : (o : Option Connection) → length (option_map_or (λ (l : Connection). option_list l.will) o []) + 0 ≤ 1
    by None = omega arith
    by (Some l) = will l.will

few-hand : (q : ℕ) (app_message : AppMessage) (s : Session) → Spends (hand_at q app_message s)
few-hand zero app_message s = omega arith
few-hand (suc q) app_message s = by (has_room s.used)
  where
    by : (b : Bool) → Spends (cond b (numbered s app_message (next_id s.used s.last)) (bursts s))
    by true = omega arith
    by false = few-bursts s

few-serve : (m : AppMessage) (s : Session) → Spends (serve m s)
few-serve m s = by (level m.qos (best m.topic s.grants))
  where
    by : (o : Option ℕ) → Spends (serve_at o m s)
    by None = omega arith
    by (Some q) = few-hand q (sent_as m q false) s

few-all : (m : AppMessage) (ss : List Session) → length (flat_map (λ (s : Session). (serve m s).wills) ss) + length (flat_map (λ (s : Session). (serve m s).left) ss) ≤ length ss
few-all m [] = omega arith
few-all m (s ∷ ss) =
    let a = few-serve m s in
    let b = few-all m ss in
    let c = length-append (serve m s).wills (flat_map (λ (x : Session). (serve m x).wills) ss) in
    let d = length-append (serve m s).left (flat_map (λ (x : Session). (serve m x).left) ss) in
    omega arith

-- the turn with other messages that wait
abbrev waits : Turn → List AppMessage → Turn
waits t ms = record t { waiting = ms }

pub fewer : (m : AppMessage) (ms : List AppMessage) (t : Turn) → t.waiting ≡ m ∷ ms → most (route_one m (waits t ms)) < most t
fewer m ms t is =
    let a = few-all m t.broker.sessions in
    let b = length-append ms (flat_map (λ (s : Session). (serve m s).wills) t.broker.sessions) in
    let c : length t.waiting ≡ suc (length ms) = ap length is in
    omega arith

-- ---- one message after the other

some-done : (n : ℕ) (t : Turn) → t.waiting ≡ [] → route_some n t ≡ t
unfolding route_some
some-done zero t is = refl
some-done (suc n) t is = rw is refl

some-next : (n : ℕ) (m : AppMessage) (ms : List AppMessage) (t : Turn) → t.waiting ≡ m ∷ ms → route_some (suc n) t ≡ route_some n (route_one m (waits t ms))
unfolding route_some
some-next n m ms t is = rw is refl

-- as many as suffice, or more, give the same
enough : (n k : ℕ) (t : Turn) → most t ≤ n → most t ≤ k → route_some n t ≡ route_some k t
enough n k t a b = by n k t a b t.waiting refl
  where
    by : (i j : ℕ) (u : Turn) → most u ≤ i → most u ≤ j → (ws : List AppMessage) → u.waiting ≡ ws → route_some i u ≡ route_some j u
    by i j u x y [] is = some-done i u is ∙ sym (some-done j u is)
    by zero j u x y (m ∷ ms) is = absurd (let l : length u.waiting ≡ suc (length ms) = ap length is in omega arith)
    by (suc i) zero u x y (m ∷ ms) is = absurd (let l : length u.waiting ≡ suc (length ms) = ap length is in omega arith)
    by (suc i) (suc j) u x y (m ∷ ms) is =
        let f = fewer m ms u is in
        some-next i m ms u is
        ∙ by i j (route_one m (waits u ms)) (omega arith) (omega arith) (route_one m (waits u ms)).waiting refl
        ∙ sym (some-next j m ms u is)

pub route-done : (t : Turn) → t.waiting ≡ [] → route t ≡ t
unfolding route
route-done t is = some-done (most t) t is

pub route-next : (m : AppMessage) (ms : List AppMessage) (t : Turn) → t.waiting ≡ m ∷ ms → route t ≡ route (route_one m (waits t ms))
unfolding route
route-next m ms t is =
    let f = fewer m ms t is in
    let l : length t.waiting ≡ suc (length ms) = ap length is in
    let e : most t ≡ suc (length ms + length t.broker.sessions) = omega arith in
    ap (λ k. route_some k t) e ∙ some-next (length ms + length t.broker.sessions) m ms t is
    ∙ enough (length ms + length t.broker.sessions) (most (route_one m (waits t ms))) (route_one m (waits t ms)) (omega arith) (omega arith)

-- ---- the past tells it

pub record Routing (limit : ℕ) (t : Story) (r : Turn) : Type 0 where
  pub end : Story
  pub routes : Routes t end
  pub is : turn_of limit end ≡ r

routing : (limit n : ℕ) (t : Story) (ws : List AppMessage) → t.waiting ≡ ws → IsLawful (broker_of limit t.past) → most (turn_of limit t) ≤ n → Routing limit t (route_some n (turn_of limit t))
routing limit n t [] is lawful fits = record { end = t; routes = nothing_waits t t is refl; is = sym (some-done n (turn_of limit t) is) }
routing limit zero t (m ∷ ms) is lawful fits = absurd (let l : length t.waiting ≡ suc (length ms) = ap length is in omega arith)
routing limit (suc n) t (m ∷ ms) is lawful fits =
    let f = fewer m ms (turn_of limit t) is in
    let told : turn_of limit (told_one m (record t { waiting = ms })) ≡ route_one m (waits (turn_of limit t) ms) = one-told limit m (record t { waiting = ms }) lawful in
    let next : Routing limit (told_one m (record t { waiting = ms })) (route_some n (turn_of limit (told_one m (record t { waiting = ms })))) =
    routing limit n (told_one m (record t { waiting = ms })) (told_one m (record t { waiting = ms })).waiting refl
    (subst (λ (x : Turn). IsLawful x.broker) (sym told) (lawful-one m (waits (turn_of limit t) ms) lawful))
    (subst (λ x. most x ≤ n) (sym told) (omega arith)) in
    record {
      end = next.end;
      routes = goes_on t next.end m ms is next.routes;
      is = next.is ∙ ap (route_some n) told ∙ sym (some-next n m ms (turn_of limit t) is);
    }

pub routing-found : (limit : ℕ) (t : Story) → IsLawful (broker_of limit t.past) → Routing limit t (route (turn_of limit t))
unfolding route
routing-found limit t lawful = routing limit (most (turn_of limit t)) t t.waiting refl lawful (omega arith)

-- in one way
pub routing-one : (t u v : Story) → Routes t u → Routes t v → u ≡ v
routing-one t u v (nothing_waits _ _ a e) (nothing_waits _ _ b f) = sym e ∙ f
routing-one t u v (nothing_waits _ _ a e) (goes_on _ _ m ms b r) = absurd (empty (sym a ∙ b))
  where
    empty : {m : AppMessage} {ms : List AppMessage} → [] ≡ m ∷ ms → ⊥
    empty h = cc
routing-one t u v (goes_on _ _ m ms a q) (nothing_waits _ _ b f) = absurd (empty (sym b ∙ a))
  where
    empty : {m : AppMessage} {ms : List AppMessage} → [] ≡ m ∷ ms → ⊥
    empty h = cc
routing-one t u v (goes_on _ _ m ms a q) (goes_on _ _ k ks b r) =
    routing-one (told_one m (record t { waiting = ms })) u v q
    (subst (λ x. Routes (told_one x (record t { waiting = ms })) v) (sym same)
    (subst (λ xs. Routes (told_one k (record t { waiting = xs })) v) (sym rest) r))
  where
    both : m ∷ ms ≡ k ∷ ks
    both = sym a ∙ b

    same : m ≡ k
    same = cc

    rest : ms ≡ ks
    rest = cc
