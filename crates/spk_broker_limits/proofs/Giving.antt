-- What a SUBSCRIBE makes the broker send to its connection.
use Rattle.std.proofs.Common.{◌≡◌, ◌⊎◌, inl, inr, ℕ, zero, suc, ◌+◌, ◌-◌, ◌/◌, ◌%◌, ◌≤◌, ◌==◌, max, Bool, true, false, ◌||◌, cond, List, [], ◌∷◌, ◌++◌, map, length, append_assoc, append-nil, refl, sym, ap, ◌∙◌, subst, arith, Option, Some, None}
use Rattle.std.specs.Prelude.{nat_lt}
use Rattle.std.specs.List.{filter, find, flat_map, fold, list_any}
use Rattle.std.specs.Option.{option_map, option_map_or, is_some}
use Rattle.std.proofs.lemmas.Bool.{ltb-false, or_from}
use Rattle.std.proofs.lemmas.Bool.Decides.{Decides-eqb}
use Rattle.std.proofs.lemmas.List.{length-append}
use Rattle.std.proofs.lemmas.List.Sums.{sum_by-append, sum_by-cons}
use Rattle.spk_packets.specs.Fault.{first_of}
use Rattle.spk_packets.specs.Message.{Message, Publish, Subscribe, SubAck}
use Rattle.spk_packets.specs.Spelling.{body, counted, id_part, shortest, spelling, unwritable}
use Rattle.spk_session.specs.PacketIds.{next_id}
use Rattle.spk_session.specs.Step.{has_room}
use Rattle.spk_topics.specs.Text.{filter_refusal}
use Rattle.spk_broker_rules.specs.Data.{AppMessage, Connection, Session, Broker, Send}
use Rattle.spk_broker_rules.specs.Listening.{is_joined}
use Rattle.spk_broker_rules.specs.Plan.{Packet, Act, Give, Leave, Route, Tell, shut}
use Rattle.spk_broker_rules.specs.Step.{Turn, act, acts, bursts, give_at, hand, hand_at, heavy_at, heavy_in, leave_at, left_behind, connection_heard, noted, numbered, offer, offer_at, other_grants, route, route_one, route_some, session_by, serve, sits, step, swap, with_key}
use Rattle.spk_broker_rules.specs.Words.{codes_of, granted_of, is_heavy, numbered_packet, offers_to, plain_packet, to_connection, weight, weight_of, with_entry}
use Rattle.spk_broker_limits.specs.Giving.{GetsNothing, bytes_for, bytes_in, published_to}
use Rattle.spk_broker_limits.proofs.Plans.{heard_conn, mapped}
use Rattle.spk_broker_limits.proofs.Sends.{Every, OnConnection, flat, join, left_hand, left_serve, sends_serve, swapped}
use Rattle.spk_broker_limits.proofs.Summing.{is_the, none_some, passes, yes_no}
use Rattle.spk_broker_limits.proofs.Totals.{found}

abbrev Other : ℕ → ℕ → Type 0
Other conn c = (c == conn) ≡ false

-- it sits in none of these sessions
abbrev Nowhere : ℕ → List Session → Type 0
Nowhere conn ss = Every (λ (s : Session). OnConnection (Other conn) s.here) ss

-- it sits in none but, perhaps, those of this key
abbrev Alone : (conn key : ℕ) → List Session → Type 0
Alone conn key ss = Every (λ (s : Session). ((s.key == key) ≡ true) ⊎ OnConnection (Other conn) s.here) ss

same : (n : ℕ) → (n == n) ≡ true
same n = (Decides-eqb n n).1 refl

nowhere : (conn : ℕ) (o : Option Connection) → option_map_or (λ (l : Connection). l.conn == conn) o false ≡ false → OnConnection (Other conn) o
nowhere conn None e = tt
nowhere conn (Some l) e = e

all_nowhere : (conn : ℕ) (ss : List Session) → length (filter (sits conn) ss) ≡ 0 → Nowhere conn ss
all_nowhere conn [] e = tt
all_nowhere conn (s ∷ ss) e = by (sits conn s) refl e (all_nowhere conn ss)
  where
    by : (b : Bool) → sits conn s ≡ b → length (cond b (s ∷ filter (sits conn) ss) (filter (sits conn) ss)) ≡ 0 → (length (filter (sits conn) ss) ≡ 0 → Nowhere conn ss) → Nowhere conn (s ∷ ss)
    by true i f rest = absurd (omega arith)
    by false i f rest = (nowhere conn s.here i, rest f)

none_nowhere : (conn : ℕ) (ss : List Session) → session_by conn ss ≡ None → Nowhere conn ss
none_nowhere conn [] e = tt
none_nowhere conn (s ∷ ss) e = by (sits conn s) refl e (none_nowhere conn ss)
  where
    by : (b : Bool) → sits conn s ≡ b → cond b (Some s) (session_by conn ss) ≡ None → (session_by conn ss ≡ None → Nowhere conn ss) → Nowhere conn (s ∷ ss)
    by true i f rest = none_some s (sym f)
    by false i f rest = (nowhere conn s.here i, rest f)

others : (conn key : ℕ) (ss : List Session) → Nowhere conn ss → Alone conn key ss
others conn key [] a = tt
others conn key (s ∷ ss) a = (inr a.0, others conn key ss a.1)

alone : (conn : ℕ) (s : Session) (ss : List Session) → length (filter (sits conn) ss) ≤ 1 → session_by conn ss ≡ Some s → Alone conn s.key ss
alone conn s [] n e = none_some s e
alone conn s (t ∷ ts) n e = by (sits conn t) refl n e (alone conn s ts)
  where
    by : (b : Bool) → sits conn t ≡ b → length (cond b (t ∷ filter (sits conn) ts) (filter (sits conn) ts)) ≤ 1 → cond b (Some t) (session_by conn ts) ≡ Some s
        → (length (filter (sits conn) ts) ≤ 1 → session_by conn ts ≡ Some s → Alone conn s.key ts) → Alone conn s.key (t ∷ ts)
    by true i m f rest = (inl (subst (λ (u : Session). (u.key == s.key) ≡ true) (sym (is_the t s f)) (same s.key)), others conn s.key ts (all_nowhere conn ts (omega arith)))
    by false i m f rest = (inr (nowhere conn t.here i), rest m f)

-- the session of the key goes
swapped_away : (conn key : ℕ) (new ss : List Session) → Nowhere conn new → Alone conn key ss → Nowhere conn (swap key new ss)
swapped_away conn key new [] n a = tt
swapped_away conn key new (s ∷ ss) n a = by (s.key == key) refl (swapped_away conn key new ss n a.1)
  where
    by : (b : Bool) → (s.key == key) ≡ b → Nowhere conn (swap key new ss) → Nowhere conn (cond b new (s ∷ []) ++ swap key new ss)
    by true e rest = join (λ (u : Session). OnConnection (Other conn) u.here) new (swap key new ss) n rest
    by false e rest = elim a.0 [
      | inl x ↦ yes_no (sym x ∙ e)
      | inr x ↦ (x, rest)
    ]

swapped_alone : (conn key : ℕ) (new ss : List Session) → Alone conn key new → Alone conn key ss → Alone conn key (swap key new ss)
swapped_alone conn key new ss n a =
    flat (λ (s : Session). ((s.key == key) ≡ true) ⊎ OnConnection (Other conn) s.here) (λ (s : Session). ((s.key == key) ≡ true) ⊎ OnConnection (Other conn) s.here) (λ (s : Session). cond (s.key == key) new (s ∷ []))
    (λ s p. by (s.key == key) s p) ss a
  where
    by : (b : Bool) (s : Session) → ((s.key == key) ≡ true) ⊎ OnConnection (Other conn) s.here → Alone conn key (cond b new (s ∷ []))
    by true s p = n
    by false s p = (p, tt)

-- ---- routing to others

record More (conn : ℕ) (t u : Turn) : Type 0 where
  more : List Send
  is : u.sends ≡ t.sends ++ more
  off : GetsNothing conn more

more_some : (conn n : ℕ) (t : Turn) → Nowhere conn t.broker.sessions → More conn t (route_some n t)
unfolding route_some
more_some conn zero t h = record { more = []; is = sym (append-nil t.sends); off = tt }
more_some conn (suc n) t h = by t.waiting (λ m ms. one m ms (more_some conn n (route_one m (record t { waiting = ms })) (left m)))
  where
    left : (m : AppMessage) → Nowhere conn (flat_map (λ (s : Session). (serve m s).left) t.broker.sessions)
    left m = flat (λ (s : Session). OnConnection (Other conn) s.here) (λ (s : Session). OnConnection (Other conn) s.here) (λ (s : Session). (serve m s).left) (left_serve (Other conn) m) t.broker.sessions h

    sent : (m : AppMessage) → GetsNothing conn (flat_map (λ (s : Session). (serve m s).sends) t.broker.sessions)
    sent m = flat (λ (s : Session). OnConnection (Other conn) s.here) (λ (x : Send). Other conn x.conn) (λ (s : Session). (serve m s).sends) (sends_serve (Other conn) m) t.broker.sessions h

    one : (m : AppMessage) (ms : List AppMessage) → More conn (route_one m (record t { waiting = ms })) (route_some n (route_one m (record t { waiting = ms })))
        → More conn t (route_some n (route_one m (record t { waiting = ms })))
    one m ms r = record {
      more = flat_map (λ (s : Session). (serve m s).sends) t.broker.sessions ++ r.more;
      is = r.is ∙ append_assoc t.sends (flat_map (λ (s : Session). (serve m s).sends) t.broker.sessions) r.more;
      off = join (λ (x : Send). Other conn x.conn) (flat_map (λ (s : Session). (serve m s).sends) t.broker.sessions) r.more (sent m) r.off;
    }

    by : (ws : List AppMessage) → ((m : AppMessage) (ms : List AppMessage) → More conn t (route_some n (route_one m (record t { waiting = ms }))))
        → More conn t (elim ws as (λ _. Turn) [ [] ↦ t | m ∷ ms ↦ route_some n (route_one m (record t { waiting = ms })) ])
    by [] rest = record { more = []; is = sym (append-nil t.sends); off = tt }
    by (m ∷ ms) rest = rest m ms

more_route : (conn : ℕ) (t : Turn) → Nowhere conn t.broker.sessions → More conn t (route t)
unfolding route
more_route conn t h = more_some conn (length t.waiting + length t.broker.sessions) t h

-- ---- bytes

few : (n : ℕ) → length (shortest n) ≤ 4
unfolding shortest
few n = by (nat_lt n 128) (nat_lt n 16384) (nat_lt n 2097152)
  where
    by : (a b c : Bool) → length (cond a (n ∷ []) (cond b ((n % 128 + 128) ∷ n / 128 ∷ []) (cond c ((n % 128 + 128) ∷ (n / 128 % 128 + 128) ∷ n / 16384 ∷ [])
        ((n % 128 + 128) ∷ (n / 128 % 128 + 128) ∷ (n / 16384 % 128 + 128) ∷ n / 2097152 ∷ [])))) ≤ 4
    by true b c = omega arith
    by false true c = omega arith
    by false false true = omega arith
    by false false false = omega arith

two : (id : Option ℕ) → length (id_part id) ≤ 2
two None = omega arith
two (Some id) = omega arith

-- the 9 bytes of the weight are as many as it takes
spelled : (dup : Bool) (qos : ℕ) (retain : Bool) (topic : List ℕ) (id : Option ℕ) (payload : List ℕ) → length (spelling (Publish dup qos retain topic id payload)) ≤ length topic + length payload + 9
unfolding spelling body
spelled dup qos retain topic id payload =
    let whole = length-append (shortest (length (counted topic ++ (id_part id ++ payload)))) (counted topic ++ (id_part id ++ payload)) in
    let head = few (length (counted topic ++ (id_part id ++ payload))) in
    let parts = length-append (counted topic) (id_part id ++ payload) in
    let behind = length-append (id_part id) payload in
    let number = two id in
    let front : length (counted topic) ≡ 2 + length topic = omega arith in
    omega (arith, whole, head, parts, behind, number, front)

off_bytes : (conn : ℕ) (xs : List Send) → GetsNothing conn xs → published_to conn xs ≡ 0
off_bytes conn [] a = refl
off_bytes conn (x ∷ xs) a =
    let first = sum_by-cons (bytes_for conn) x xs in
    let none : bytes_for conn x ≡ 0 = ap (λ b. cond b (bytes_in x.packet) 0) a.0 in
    let rest = off_bytes conn xs a.1 in
    omega (arith, first, none, rest)

one_bytes : (conn n : ℕ) (x : Send) → bytes_in x.packet ≤ n → published_to conn (x ∷ []) ≤ n
one_bytes conn n x h = by (x.conn == conn)
  where
    by : (b : Bool) → 0 + cond b (bytes_in x.packet) 0 ≤ n
    by true = omega (arith, h)
    by false = omega arith

connection_bytes : (conn n : ℕ) (o : Option Connection) (p : Message) → bytes_in p ≤ n → published_to conn (to_connection (option_map (λ (l : Connection). l.conn) o) p) ≤ n
connection_bytes conn n None p h = omega arith
connection_bytes conn n (Some l) p h = one_bytes conn n (record { conn = l.conn; packet = p }) h

hand_bytes : (conn : ℕ) (q : ℕ) (m : AppMessage) (s : Session) → published_to conn (hand_at q m s).sends ≤ weight m
hand_bytes conn zero m s = connection_bytes conn (weight m) s.here (plain_packet m) (spelled false 0 m.retain m.topic None m.payload)
hand_bytes conn (suc q) m s = by (has_room s.used)
  where
    by : (b : Bool) → published_to conn (cond b (numbered s m (next_id s.used s.last)) (bursts s)).sends ≤ weight m
    by true = connection_bytes conn (weight m) s.here (numbered_packet false (next_id s.used s.last) m) (spelled false 1 m.retain m.topic (Some (next_id s.used s.last)) m.payload)
    by false = omega arith

-- ---- offers

-- no more bytes so far; and nothing waits, or the connection sits nowhere
record Even (conn key n : ℕ) (t : Turn) : Type 0 where
  bytes : published_to conn t.sends ≤ n
  own : Alone conn key t.broker.sessions
  calm : (t.waiting ≡ []) ⊎ Nowhere conn t.broker.sessions

more_even : (conn key n k : ℕ) (t : Turn) → n ≤ k → Even conn key n t → Even conn key k t
more_even conn key n k t h e = record { bytes = let b = e.bytes in omega (arith, b, h); own = e.own; calm = e.calm }

hand_key : (conn key q : ℕ) (m : AppMessage) (s : Session) → (s.key == key) ≡ true → Alone conn key (hand_at q m s).left
hand_key conn key zero m s k = (inl k, tt)
hand_key conn key (suc q) m s k = by (has_room s.used)
  where
    by : (b : Bool) → Alone conn key (cond b (numbered s m (next_id s.used s.last)) (bursts s)).left
    by true = (inl k, tt)
    by false = tt

hand_calm : (q : ℕ) (m : AppMessage) (s : Session) → ((hand_at q m s).wills ≡ []) ⊎ ((hand_at q m s).left ≡ [])
hand_calm zero m s = inl refl
hand_calm (suc q) m s = by (has_room s.used)
  where
    by : (b : Bool) → ((cond b (numbered s m (next_id s.used s.last)) (bursts s)).wills ≡ []) ⊎ ((cond b (numbered s m (next_id s.used s.last)) (bursts s)).left ≡ [])
    by true = inl refl
    by false = inr refl

offer_even : (conn key n : ℕ) (m : AppMessage) (t : Turn) (o : Option Session) → with_key key t.broker.sessions ≡ o → Even conn key n t → Even conn key (n + weight m) (offer_at o key m t)
offer_even conn key n m t None i e = more_even conn key n (n + weight m) t (omega arith) e
offer_even conn key n m t (Some s) i e = record {
  bytes = let both = sum_by-append (bytes_for conn) t.sends (hand m s).sends in let one = hand_bytes conn m.qos m s in let b = e.bytes in omega (arith, both, one, b);
  own = swapped_alone conn key (hand m s).left t.broker.sessions (hand_key conn key m.qos m s (passes (λ (x : Session). x.key == key) t.broker.sessions s i)) e.own;
  calm = elim (hand_calm m.qos m s) [
    | inl w ↦ elim e.calm [
      | inl x ↦ inl (ap (λ ws. t.waiting ++ ws) w ∙ append-nil t.waiting ∙ x)
      | inr x ↦ inr (swapped (Other conn) key (hand m s).left t.broker.sessions
          (left_hand (Other conn) m.qos m s (found (λ (u : Session). OnConnection (Other conn) u.here) (λ (u : Session). u.key == key) t.broker.sessions s x i)) x)
    ]
    | inr g ↦ inr (subst (λ new. Nowhere conn (swap key new t.broker.sessions)) (sym g) (swapped_away conn key [] t.broker.sessions tt e.own))
  ];
}

offers_even : (conn key n : ℕ) (ms : List AppMessage) (t : Turn) → Even conn key n t → Even conn key (n + weight_of ms) (fold (offer key) t ms)
offers_even conn key n [] t e = more_even conn key n (n + weight_of []) t (omega arith) e
offers_even conn key n (m ∷ ms) t e =
    let first = sum_by-cons weight m ms in
    more_even conn key (n + weight m + weight_of ms) (n + weight_of (m ∷ ms)) (fold (offer key) (offer key t m) ms) (omega (arith, first))
    (offers_even conn key (n + weight m) ms (offer key t m) (offer_even conn key n m t (with_key key t.broker.sessions) refl e))

-- ---- the acts of a SUBSCRIBE

abbrev Quiet : Type 0
Quiet = (t : Turn) → t.waiting ≡ [] → route t ≡ t

routed_bytes : Quiet → (conn key n : ℕ) (t : Turn) → Even conn key n t → published_to conn (route t).sends ≤ n
routed_bytes done conn key n t e = elim e.calm [
  | inl w ↦ subst (λ (u : Turn). published_to conn u.sends ≤ n) (sym (done t w)) e.bytes
  | inr h ↦
      (let r = more_route conn t h in
      let both = sum_by-append (bytes_for conn) t.sends r.more in
      let none = off_bytes conn r.more r.off in
      let b = e.bytes in
      subst (λ (xs : List Send). published_to conn xs ≤ n) (sym r.is) (omega (arith, both, none, b)))
]

shut_off : (conn : ℕ) (t : Turn) → t.sends ≡ [] → length (filter (sits conn) t.broker.sessions) ≤ 1 → GetsNothing conn (acts (shut conn) t).sends
shut_off conn t none n = by (session_by conn t.broker.sessions) refl
  where
    behind : (s : Session) → Nowhere conn (left_behind s)
    behind s = at s.kept
      where
        at : (b : Bool) → Nowhere conn (cond b ((record s { here = None }) ∷ []) [])
        at true = (tt, tt)
        at false = tt

    end : (u : Turn) → u.sends ≡ [] → Nowhere conn u.broker.sessions → GetsNothing conn (route u).sends
    end u empty h = let r = more_route conn u h in subst (GetsNothing conn) (sym (r.is ∙ ap (λ xs. xs ++ r.more) empty)) r.off

    by : (o : Option Session) → session_by conn t.broker.sessions ≡ o → GetsNothing conn (route (act (Tell conn) (leave_at o conn true t))).sends
    by None i = end (act (Tell conn) (leave_at None conn true t)) none (none_nowhere conn t.broker.sessions i)
    by (Some s) i = end (act (Tell conn) (leave_at (Some s) conn true t)) none (swapped_away conn s.key (left_behind s) t.broker.sessions (behind s) (alone conn s t.broker.sessions n i))

-- the session with its new grants, and SUBACK
abbrev gave : (t : Turn) (s : Session) (conn id : ℕ) → List (List ℕ × ℕ) → Turn
gave t s conn id entries = record t {
  broker = record t.broker {
    sessions = swap s.key ((record s { grants = fold (with_entry (other_grants s t.broker.sessions)) s.grants entries }) ∷ []) t.broker.sessions;
  };
  sends = t.sends ++ (record { conn = conn; packet = SubAck id (codes_of (other_grants s t.broker.sessions) s.grants entries) }) ∷ [];
}

give_bytes : Quiet → (conn id : ℕ) (entries : List (List ℕ × ℕ)) (t : Turn) (o : Option Session) → session_by conn t.broker.sessions ≡ o → t.sends ≡ [] → t.waiting ≡ [] → length (filter (sits conn) t.broker.sessions) ≤ 1
    → heavy_at o entries t.broker ≡ false → published_to conn (route (give_at o conn id entries t)).sends ≤ 67108864
give_bytes done conn id entries t None i none calm n light =
    subst (λ (u : Turn). published_to conn u.sends ≤ 67108864) (sym (done t calm)) (subst (λ (xs : List Send). published_to conn xs ≤ 67108864) (sym none) (omega arith))
give_bytes done conn id entries t (Some s) i none calm n light =
    let app_messages = flat_map (offers_to t.broker.retained) (granted_of (other_grants s t.broker.sessions) s.grants entries) in
    let most : weight_of app_messages ≤ 67108864 = ltb-false 67108864 (weight_of app_messages) light in
    let first : Even conn s.key 0 (gave t s conn id entries) = record {
      bytes = subst (λ (xs : List Send). published_to conn (xs ++ (record { conn = conn; packet = SubAck id (codes_of (other_grants s t.broker.sessions) s.grants entries) }) ∷ []) ≤ 0) (sym none)
          (one_bytes conn 0 (record { conn = conn; packet = SubAck id (codes_of (other_grants s t.broker.sessions) s.grants entries) }) (omega arith));
      own = swapped_alone conn s.key ((record s { grants = fold (with_entry (other_grants s t.broker.sessions)) s.grants entries }) ∷ []) t.broker.sessions (inl (same s.key), tt) (alone conn s t.broker.sessions n i);
      calm = inl calm;
    } in
    routed_bytes done conn s.key 67108864 (fold (offer s.key) (gave t s conn id entries) app_messages)
    (more_even conn s.key (0 + weight_of app_messages) 67108864 (fold (offer s.key) (gave t s conn id entries) app_messages) (omega (arith, most))
    (offers_even conn s.key 0 app_messages (gave t s conn id entries) first))

abbrev asks : (u j k : Bool) (conn id : ℕ) → List (List ℕ × ℕ) → List Act
asks u j k conn id entries = cond u (shut conn) (cond j (cond k (shut conn) (Give conn id entries ∷ Route ∷ [])) (shut conn))

asked_bytes : Quiet → (conn id : ℕ) (entries : List (List ℕ × ℕ)) (t : Turn) (u j bad heavy : Bool) → t.sends ≡ [] → t.waiting ≡ [] → length (filter (sits conn) t.broker.sessions) ≤ 1
    → heavy_in conn entries t.broker ≡ heavy → published_to conn (acts (asks u j (bad || heavy) conn id entries) t).sends ≤ 67108864
asked_bytes done conn id entries t u j bad heavy none calm n is = by u j bad heavy is
  where
    shuts : published_to conn (acts (shut conn) t).sends ≤ 67108864
    shuts = let zero_of = off_bytes conn (acts (shut conn) t).sends (shut_off conn t none n) in omega (arith, zero_of)

    by : (u j bad heavy : Bool) → heavy_in conn entries t.broker ≡ heavy → published_to conn (acts (asks u j (bad || heavy) conn id entries) t).sends ≤ 67108864
    by true j bad heavy h = shuts
    by false false bad heavy h = shuts
    by false true true heavy h = shuts
    by false true false true h = shuts
    by false true false false h = give_bytes done conn id entries t (session_by conn t.broker.sessions) refl none calm n h

-- ---- a whole SUBSCRIBE

heard_one : (b : Broker) (conn moment : ℕ) (p : Message) → length (filter (sits conn) b.sessions) ≤ 1 → length (filter (sits conn) (noted b (Packet conn p moment)).broker.sessions) ≤ 1
heard_one b conn moment p n = let long = mapped (connection_heard conn (max b.clock moment)) (heard_conn conn (max b.clock moment)) conn b.sessions in omega (arith, long, n)

pub bounded : Quiet → (b : Broker) (conn id moment : ℕ) (entries : List (List ℕ × ℕ)) → length (filter (sits conn) b.sessions) ≤ 1
    → published_to conn (step b (Packet conn (Subscribe id entries) moment)).sends ≤ 67108864
unfolding step
bounded done b conn id moment entries n =
    let t = noted b (Packet conn (Subscribe id entries) moment) in
    asked_bytes done conn id entries t (is_some (first_of (unwritable (Subscribe id entries)))) (is_some (session_by conn t.broker.sessions))
    (list_any (λ (e : List ℕ × ℕ). is_some (filter_refusal e.0)) entries) (heavy_in conn entries t.broker) refl refl (heard_one b conn moment (Subscribe id entries) n) refl

-- the same session, but for when its connection was heard
abbrev heard : (conn clock : ℕ) → Session → Session
heard conn clock s = record s { here = option_map (connection_heard conn clock) s.here }

heard_session : (conn clock : ℕ) (ss : List Session) → session_by conn (map (heard conn clock) ss) ≡ option_map (heard conn clock) (session_by conn ss)
heard_session conn clock [] = refl
heard_session conn clock (s ∷ ss) = ap (λ x. cond x (Some (heard conn clock s)) (session_by conn (map (heard conn clock) ss))) (on s.here) ∙ by (sits conn s) (heard_session conn clock ss)
  where
    on : (o : Option Connection) → option_map_or (λ (l : Connection). l.conn == conn) (option_map (connection_heard conn clock) o) false ≡ option_map_or (λ (l : Connection). l.conn == conn) o false
    on None = refl
    on (Some l) = ap (λ c. c == conn) (heard_conn conn clock l)

    by : (x : Bool) → session_by conn (map (heard conn clock) ss) ≡ option_map (heard conn clock) (session_by conn ss)
        → cond x (Some (heard conn clock s)) (session_by conn (map (heard conn clock) ss)) ≡ option_map (heard conn clock) (cond x (Some s) (session_by conn ss))
    by true rest = refl
    by false rest = rest

-- what was noted of it changes nothing of what is asked
heard_as : (b : Broker) (conn moment : ℕ) (p : Message) (entries : List (List ℕ × ℕ)) → heavy_in conn entries (noted b (Packet conn p moment)).broker ≡ heavy_in conn entries b
heard_as b conn moment p entries = ap (λ o. heavy_at o entries (noted b (Packet conn p moment)).broker) (heard_session conn (max b.clock moment) b.sessions) ∙ by (session_by conn b.sessions)
  where
    grants : (ss : List Session) → flat_map (λ (s : Session). s.grants) (map (heard conn (max b.clock moment)) ss) ≡ flat_map (λ (s : Session). s.grants) ss
    grants [] = refl
    grants (s ∷ ss) = ap (λ gs. s.grants ++ gs) (grants ss)

    by : (o : Option Session) → heavy_at (option_map (heard conn (max b.clock moment)) o) entries (noted b (Packet conn p moment)).broker ≡ heavy_at o entries b
    by None = refl
    by (Some s) = ap (λ gs. is_heavy b.retained (granted_of (length gs - length s.grants) s.grants entries)) (grants b.sessions)

heard_joined : (b : Broker) (conn moment : ℕ) (p : Message) → is_some (session_by conn (noted b (Packet conn p moment)).broker.sessions) ≡ is_joined b conn
heard_joined b conn moment p = ap is_some (heard_session conn (max b.clock moment) b.sessions) ∙ by (session_by conn b.sessions)
  where
    by : (o : Option Session) → is_some (option_map (heard conn (max b.clock moment)) o) ≡ is_some o
    by None = refl
    by (Some s) = refl

given : (u j bad heavy : Bool) (conn id : ℕ) (entries : List (List ℕ × ℕ)) → u ≡ false → j ≡ true → bad ≡ false → heavy ≡ false → asks u j (bad || heavy) conn id entries ≡ Give conn id entries ∷ Route ∷ []
given u j bad heavy conn id entries a b c d = rw (a, b, c, d) refl

pub within : (b : Broker) (conn id moment : ℕ) (entries : List (List ℕ × ℕ)) → is_joined b conn ≡ true → is_some (first_of (unwritable (Subscribe id entries))) ≡ false
    → list_any (λ (e : List ℕ × ℕ). is_some (filter_refusal e.0)) entries ≡ false → heavy_in conn entries b ≡ false
    → step b (Packet conn (Subscribe id entries) moment) ≡ acts (Give conn id entries ∷ Route ∷ []) (noted b (Packet conn (Subscribe id entries) moment))
unfolding step
within b conn id moment entries j a d light =
    let t = noted b (Packet conn (Subscribe id entries) moment) in
    ap (λ l. acts l t)
    (given (is_some (first_of (unwritable (Subscribe id entries)))) (is_some (session_by conn t.broker.sessions)) (list_any (λ (e : List ℕ × ℕ). is_some (filter_refusal e.0)) entries) (heavy_in conn entries t.broker)
    conn id entries a (heard_joined b conn moment (Subscribe id entries) ∙ j) d (heard_as b conn moment (Subscribe id entries) entries ∙ light))

closed : (u j bad heavy : Bool) (conn id : ℕ) (entries : List (List ℕ × ℕ)) → heavy ≡ true → asks u j (bad || heavy) conn id entries ≡ shut conn
closed true j bad heavy conn id entries e = refl
closed false false bad heavy conn id entries e = refl
closed false true true heavy conn id entries e = refl
closed false true false heavy conn id entries e = rw e refl

pub beyond : (b : Broker) (conn id moment : ℕ) (entries : List (List ℕ × ℕ)) → heavy_in conn entries b ≡ true
    → step b (Packet conn (Subscribe id entries) moment) ≡ acts (shut conn) (noted b (Packet conn (Subscribe id entries) moment))
unfolding step
beyond b conn id moment entries heavy =
    let t = noted b (Packet conn (Subscribe id entries) moment) in
    ap (λ l. acts l t)
    (closed (is_some (first_of (unwritable (Subscribe id entries)))) (is_some (session_by conn t.broker.sessions)) (list_any (λ (e : List ℕ × ℕ). is_some (filter_refusal e.0)) entries) (heavy_in conn entries t.broker)
    conn id entries (heard_as b conn moment (Subscribe id entries) entries ∙ heavy))

pub nothing : (b : Broker) (conn id moment : ℕ) (entries : List (List ℕ × ℕ)) → length (filter (sits conn) b.sessions) ≤ 1 → heavy_in conn entries b ≡ true
    → GetsNothing conn (step b (Packet conn (Subscribe id entries) moment)).sends
nothing b conn id moment entries n heavy =
    subst (λ (u : Turn). GetsNothing conn u.sends) (sym (beyond b conn id moment entries heavy))
    (shut_off conn (noted b (Packet conn (Subscribe id entries) moment)) refl (heard_one b conn moment (Subscribe id entries) n))
