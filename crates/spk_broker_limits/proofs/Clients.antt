-- What each act but a new session keeps of the client ids of sessions, and of how many are kept.
use Rattle.std.proofs.Common.{◌≡◌, ◌≢◌, ◌⊎◌, inl, inr, ℕ, zero, suc, ◌+◌, ◌≤◌, ◌==◌, Bool, true, false, cond, List, [], ◌∷◌, ◌++◌, length, refl, sym, ap, ◌∙◌, subst, arith, Option, Some, None}
use Rattle.std.specs.List.{filter, find, fold, flat_map, AllByRecursion}
use Rattle.std.specs.Option.{option_map}
use Rattle.std.proofs.lemmas.Bool.{ne_eqb}
use Rattle.std.proofs.lemmas.Bool.Decides.{eqb_tells}
use Rattle.std.proofs.lemmas.List.Concat.{flat_map_single}
use Rattle.spk_packets.specs.Spelling.{is_empty}
use Rattle.spk_session.specs.PacketIds.{next_id}
use Rattle.spk_session.specs.Step.{has_room}
use Rattle.spk_broker_rules.specs.Data.{AppMessage, Connection, Newcomer, Session, Broker}
use Rattle.spk_broker_rules.specs.Words.{best, level, sent_as, granted_of, offers_to}
use Rattle.spk_broker_rules.specs.Plan.{Act, Opens, At, Hear, Drop, Say, Leave, Tell, Queue, Route, Forget, Accept, Give, Take, Ack}
use Rattle.spk_broker_rules.specs.Step.{Turn, act, acts, on_connections, newcomer_heard, connection_heard, newcomer_dropped, connection_dropped, swap, left_behind, leave_at, session_by, sits, is_away, forget_at, other_grants, give_at, take_at, ack_at, offer, offer_at, with_key, hand, hand_at, serve, serve_at, numbered, bursts, retained_with, route_one, route_some, route}
use Rattle.spk_broker_limits.specs.Limits.{Singles, kept_count}
use Rattle.spk_broker_limits.proofs.Totals.{Apart, IsHeld, found, no_some, some_is, in_place, held_by, offered_at, granted}

-- ---- lists

-- an away session is kept
abbrev pub IsAwayKept : Session → Type 0
IsAwayKept s = s.here ≡ None → s.kept ≡ true

-- the same session changed, or gone: of its client, kept as it was
abbrev pub IsLike : Session → List Session → Type 0
IsLike s [] = Unit {0}
IsLike s (x ∷ []) = (x.client ≡ s.client) × (x.kept ≡ s.kept) × (IsAwayKept s → IsAwayKept x)
IsLike s (x ∷ y ∷ zs) = ⊥

abbrev pub AreLike : (Session → List Session) → List Session → Type 0
AreLike f ss = AllByRecursion (λ (s : Session). IsLike s (f s)) ss

abbrev pub Off : List ℕ → List Session → Type 0
Off client ss = AllByRecursion (λ (t : Session). client ≢ t.client) ss

pub off_flat : (client : List ℕ) (f : Session → List Session) (ss : List Session) → AreLike f ss → Off client ss → Off client (flat_map f ss)
off_flat client f [] like a = tt
off_flat client f (s ∷ ss) like a = by (f s) like.0 (off_flat client f ss like.1 a.1)
  where
    by : (xs : List Session) → IsLike s xs → Off client (flat_map f ss) → Off client (xs ++ flat_map f ss)
    by [] h rest = rest
    by (x ∷ []) h rest = ((λ e. a.0 (e ∙ h.0)), rest)
    by (x ∷ y ∷ zs) h rest = elim h [ ]

single_flat : (f : Session → List Session) (ss : List Session) → AreLike f ss → Singles ss → Singles (flat_map f ss)
single_flat f [] like a = tt
single_flat f (s ∷ ss) like a = by (f s) like.0 (λ e. off_flat s.client f ss like.1 (a.0 e)) (single_flat f ss like.1 a.1)
  where
    by : (xs : List Session) → IsLike s xs → (is_empty s.client ≡ false → Off s.client (flat_map f ss)) → Singles (flat_map f ss) → Singles (xs ++ flat_map f ss)
    by [] h off rest = rest
    by (x ∷ []) h off rest = ((λ e. subst (λ c. Off c (flat_map f ss)) (sym h.0) (off (ap is_empty (sym h.0) ∙ e))), rest)
    by (x ∷ y ∷ zs) h off rest = elim h [ ]

away_flat : (f : Session → List Session) (ss : List Session) → AreLike f ss → AllByRecursion IsAwayKept ss → AllByRecursion IsAwayKept (flat_map f ss)
away_flat f [] like a = tt
away_flat f (s ∷ ss) like a = by (f s) like.0 (away_flat f ss like.1 a.1)
  where
    by : (xs : List Session) → IsLike s xs → AllByRecursion IsAwayKept (flat_map f ss) → AllByRecursion IsAwayKept (xs ++ flat_map f ss)
    by [] h rest = rest
    by (x ∷ []) h rest = (h.2 a.0, rest)
    by (x ∷ y ∷ zs) h rest = elim h [ ]

-- how many sessions there are of some that are told by their client, and by whether they are kept
abbrev pub counted : (Bool → List ℕ → Bool) → List Session → ℕ
counted q ss = length (filter (λ (s : Session). q s.kept s.client) ss)

skip : (b : Bool) (s : Session) (n m : List Session) → length n ≤ length m → length n ≤ length (cond b (s ∷ m) m)
skip true s n m h = omega arith
skip false s n m h = h

step_on : (b : Bool) (s x : Session) (n m : List Session) → length n ≤ length m → length (cond b (x ∷ n) n) ≤ length (cond b (s ∷ m) m)
step_on true s x n m h = omega arith
step_on false s x n m h = h

pub count_flat : (q : Bool → List ℕ → Bool) (f : Session → List Session) (ss : List Session) → AreLike f ss → counted q (flat_map f ss) ≤ counted q ss
count_flat q f [] like = omega arith
count_flat q f (s ∷ ss) like = by (f s) like.0 (count_flat q f ss like.1)
  where
    by : (xs : List Session) → IsLike s xs → counted q (flat_map f ss) ≤ counted q ss → counted q (xs ++ flat_map f ss) ≤ counted q (s ∷ ss)
    by [] h rest = skip (q s.kept s.client) s (filter (λ (t : Session). q t.kept t.client) (flat_map f ss)) (filter (λ (t : Session). q t.kept t.client) ss) rest
    by (x ∷ []) h rest =
        subst (λ b. length (cond b (x ∷ filter (λ (t : Session). q t.kept t.client) (flat_map f ss)) (filter (λ (t : Session). q t.kept t.client) (flat_map f ss))) ≤ counted q (s ∷ ss))
        (ap (λ k. q k s.client) (sym h.1) ∙ ap (q x.kept) (sym h.0))
        (step_on (q s.kept s.client) s x (filter (λ (t : Session). q t.kept t.client) (flat_map f ss)) (filter (λ (t : Session). q t.kept t.client) ss) rest)
    by (x ∷ y ∷ zs) h rest = elim h [ ]

itself : (s : Session) → IsLike s (s ∷ [])
itself s = (refl, refl, (λ a. a))

all_itself : (key : ℕ) (new ss : List Session) → AllByRecursion (λ (t : Session). key ≢ t.key) ss → AreLike (in_place key new) ss
all_itself key new [] a = tt
all_itself key new (s ∷ ss) a =
    (subst (λ b. IsLike s (cond b new (s ∷ []))) (sym (ne_eqb s.key key (λ e. a.0 (sym e)))) (itself s), all_itself key new ss a.1)

-- one session that is found is changed, and the others stay
pub placed : (p : Session → Bool) (new ss : List Session) (s : Session) → Apart ss → find p ss ≡ Some s → IsLike s new → AreLike (in_place s.key new) ss
placed p new [] s a e like = no_some s e
placed p new (t ∷ ts) s a e like = by (p t) e (λ h. placed p new ts s a.1 h like)
  where
    same : (k : ℕ) → (k == k) ≡ true
    same k = is (eqb_tells k k)
      where
        is : (((k == k) ≡ true) × (k ≡ k)) ⊎ (((k == k) ≡ false) × (k ≢ k)) → (k == k) ≡ true
        is (inl f) = f.0
        is (inr f) = absurd (f.1 refl)

    first : t ≡ s → AreLike (in_place s.key new) (t ∷ ts)
    first is = (
      subst (λ (u : Session). IsLike u (in_place s.key new u)) (sym is) (subst (λ b. IsLike s (cond b new (s ∷ []))) (sym (same s.key)) like),
      all_itself s.key new ts (subst (λ (u : Session). AllByRecursion (λ (v : Session). u.key ≢ v.key) ts) is a.0),
    )

    later : find p ts ≡ Some s → AreLike (in_place s.key new) ts → AreLike (in_place s.key new) (t ∷ ts)
    later h rest = (subst (λ b. IsLike t (cond b new (t ∷ []))) (sym (ne_eqb t.key s.key (found (λ (u : Session). t.key ≢ u.key) p ts s a.0 h))) (itself t), rest)

    by : (b : Bool) → cond b (Some t) (find p ts) ≡ Some s → (find p ts ≡ Some s → AreLike (in_place s.key new) ts) → AreLike (in_place s.key new) (t ∷ ts)
    by true h rest = first (some_is t s h)
    by false h rest = later h (rest h)

-- ---- the data

pub record IsSingle (b : Broker) : Type 0 where
  pub single : Singles b.sessions
  pub away : AllByRecursion IsAwayKept b.sessions
  pub few : kept_count b.sessions ≤ 1000

pub each : (b : Broker) (f : Session → List Session) → AreLike f b.sessions → IsSingle b → IsSingle (record b { sessions = flat_map f b.sessions })
each b f like h = record {
  single = single_flat f b.sessions like h.single;
  away = away_flat f b.sessions like h.away;
  few = (let less : kept_count (flat_map f b.sessions) ≤ kept_count b.sessions = count_flat (λ kept client. kept) f b.sessions like in let most = h.few in omega arith);
}

pub one : (b : Broker) (p : Session → Bool) (s : Session) (new : List Session) → IsHeld b → find p b.sessions ≡ Some s → IsLike s new → IsSingle b
    → IsSingle (record b { sessions = swap s.key new b.sessions })
one b p s new held e like h = each b (in_place s.key new) (placed p new b.sessions s held.apart e like) h

-- ---- changes

pub like_hand : (q : ℕ) (m : AppMessage) (s : Session) → IsLike s (hand_at q m s).left
like_hand zero m s = itself s
like_hand (suc q) m s = by (has_room s.used)
  where
    by : (b : Bool) → IsLike s (cond b (numbered s m (next_id s.used s.last)) (bursts s)).left
    by true = (refl, refl, (λ a. a))
    by false = tt

pub like_serve : (m : AppMessage) (s : Session) → IsLike s (serve m s).left
like_serve m s = by (level m.qos (best m.topic s.grants))
  where
    by : (o : Option ℕ) → IsLike s (serve_at o m s).left
    by None = itself s
    by (Some q) = like_hand q (sent_as m q false) s

pub like_left : (s : Session) → IsLike s (left_behind s)
like_left s = by s.kept refl
  where
    by : (b : Bool) → s.kept ≡ b → IsLike s (cond b ((record s { here = None }) ∷ []) [])
    by true e = (refl, refl, (λ a n. e))
    by false e = tt

all_like : (f : Session → List Session) → ((s : Session) → IsLike s (f s)) → (ss : List Session) → AreLike f ss
all_like f like [] = tt
all_like f like (s ∷ ss) = (like s, all_like f like ss)

routed_some : (n : ℕ) (t : Turn) → IsSingle t.broker → IsSingle (route_some n t).broker
unfolding route_some
routed_some zero t h = h
routed_some (suc n) t h = by t.waiting (λ m ms. routed_some n (route_one m (record t { waiting = ms })) (once m))
  where
    once : (m : AppMessage) → IsSingle (record t.broker { sessions = flat_map (λ (s : Session). (serve m s).left) t.broker.sessions; retained = retained_with t.broker.retained m })
    once m = let next = each t.broker (λ (s : Session). (serve m s).left) (all_like (λ (s : Session). (serve m s).left) (like_serve m) t.broker.sessions) h in
        record { single = next.single; away = next.away; few = next.few }

    by : (ws : List AppMessage) → ((m : AppMessage) (ms : List AppMessage) → IsSingle (route_some n (route_one m (record t { waiting = ms }))).broker)
        → IsSingle (elim ws as (λ _. Turn) [ [] ↦ t | m ∷ ms ↦ route_some n (route_one m (record t { waiting = ms })) ]).broker
    by [] rest = h
    by (m ∷ ms) rest = rest m ms

pub routed : (t : Turn) → IsSingle t.broker → IsSingle (route t).broker
unfolding route
routed t h = routed_some (length t.waiting + length t.broker.sessions) t h

on_each : (f : Newcomer → Newcomer) (g : Connection → Connection) (t : Turn) → IsSingle t.broker → IsSingle (on_connections f g t).broker
on_each f g t h =
    let put : Session → Session = λ (s : Session). record s { here = option_map g s.here } in
    let next = each t.broker (λ (s : Session). record s { here = option_map g s.here } ∷ []) (all_like (λ (s : Session). record s { here = option_map g s.here } ∷ []) like t.broker.sessions) h in
    let is = flat_map_single (λ (s : Session). record s { here = option_map g s.here }) t.broker.sessions in
    record { single = subst Singles is next.single; away = subst (AllByRecursion IsAwayKept) is next.away; few = subst (λ ss. kept_count ss ≤ 1000) is next.few }
  where
    none : (o : Option Connection) → option_map g o ≡ None → o ≡ None
    none None e = refl
    none (Some l) e = absurd cc

    like : (s : Session) → IsLike s (record s { here = option_map g s.here } ∷ [])
    like s = (refl, refl, (λ a n. a (none s.here n)))

left : (c : ℕ) (wills : Bool) (t : Turn) (o : Option Session) → session_by c t.broker.sessions ≡ o → IsHeld t.broker → IsSingle t.broker → IsSingle (leave_at o c wills t).broker
left c wills t None e held h = record { single = h.single; away = h.away; few = h.few }
left c wills t (Some s) e held h = one t.broker (sits c) s (left_behind s) held e (like_left s) h

forgotten : (client : List ℕ) (t : Turn) (o : Option Session) → find (is_away client) t.broker.sessions ≡ o → IsHeld t.broker → IsSingle t.broker → IsSingle (forget_at o t).broker
forgotten client t None e held h = h
forgotten client t (Some s) e held h = one t.broker (is_away client) s [] held e tt h

same_of : (key : ℕ) (ss : List Session) (s : Session) → find (λ (x : Session). x.key == key) ss ≡ Some s → s.key ≡ key
same_of key [] s e = no_some s e
same_of key (t ∷ ts) s e = by (eqb_tells t.key key) (λ h. same_of key ts s h)
  where
    by : (((t.key == key) ≡ true) × (t.key ≡ key)) ⊎ (((t.key == key) ≡ false) × (t.key ≢ key)) → (find (λ (x : Session). x.key == key) ts ≡ Some s → s.key ≡ key) → s.key ≡ key
    by (inl f) rest = ap (λ (u : Session). u.key) (sym (some_is t s (sym (ap (λ b. cond b (Some t) (find (λ (x : Session). x.key == key) ts)) f.0) ∙ e))) ∙ f.1
    by (inr f) rest = rest (sym (ap (λ b. cond b (Some t) (find (λ (x : Session). x.key == key) ts)) f.0) ∙ e)

offer_single : (key : ℕ) (app_message : AppMessage) (t : Turn) (o : Option Session) → with_key key t.broker.sessions ≡ o → IsHeld t.broker → IsSingle t.broker → IsSingle (offer_at o key app_message t).broker
offer_single key app_message t None e held h = h
offer_single key app_message t (Some s) e held h =
    subst (λ k. IsSingle (record t.broker { sessions = swap k (hand app_message s).left t.broker.sessions })) (same_of key t.broker.sessions s e)
    (one t.broker (λ (x : Session). x.key == key) s (hand app_message s).left held e (like_hand app_message.qos app_message s) h)

offers : (key : ℕ) (app_messages : List AppMessage) (t : Turn) → IsHeld t.broker → IsSingle t.broker → IsSingle (fold (offer key) t app_messages).broker
offers key [] t held h = h
offers key (p ∷ ps) t held h =
    offers key ps (offer key t p) (offered_at key p t (with_key key t.broker.sessions) refl held) (offer_single key p t (with_key key t.broker.sessions) refl held h)

given : (c id : ℕ) (entries : List (List ℕ × ℕ)) (t : Turn) (o : Option Session) → session_by c t.broker.sessions ≡ o → IsHeld t.broker → IsSingle t.broker → IsSingle (give_at o c id entries t).broker
given c id entries t None e held h = h
given c id entries t (Some s) e held h =
    offers s.key (flat_map (offers_to t.broker.retained) (granted_of (other_grants s t.broker.sessions) s.grants entries)) _ (granted c t s entries e held)
    (one t.broker (sits c) s _ held e (refl, refl, (λ a. a)) h)

taken : (c : ℕ) (filters : List (List ℕ)) (t : Turn) (o : Option Session) → session_by c t.broker.sessions ≡ o → IsHeld t.broker → IsSingle t.broker → IsSingle (take_at o filters t).broker
taken c filters t None e held h = h
taken c filters t (Some s) e held h = one t.broker (sits c) s _ held e (refl, refl, (λ a. a)) h

acked : (c id : ℕ) (t : Turn) (o : Option Session) → session_by c t.broker.sessions ≡ o → IsHeld t.broker → IsSingle t.broker → IsSingle (ack_at o id t).broker
acked c id t None e held h = h
acked c id t (Some s) e held h = one t.broker (sits c) s _ held e (refl, refl, (λ a. a)) h

-- an act that makes no session
abbrev pub IsOther : Act → Type 0
IsOther (Accept conn client kept alive will) = ⊥
IsOther _ = Unit {0}

pub kept_by : (a : Act) → IsOther a → (t : Turn) → IsHeld t.broker → IsSingle t.broker → IsSingle (act a t).broker
kept_by Opens o t held h = record { single = h.single; away = h.away; few = h.few }
kept_by (At moment) o t held h = record { single = h.single; away = h.away; few = h.few }
kept_by (Hear c) o t held h = on_each (newcomer_heard c t.broker.clock) (connection_heard c t.broker.clock) t h
kept_by (Drop c) o t held h = on_each (newcomer_dropped c) (connection_dropped c) t h
kept_by (Say c p) o t held h = h
kept_by (Leave c wills) o t held h = left c wills t (session_by c t.broker.sessions) refl held h
kept_by (Tell c) o t held h = h
kept_by (Queue app_message) o t held h = h
kept_by Route o t held h = routed t h
kept_by (Forget client) o t held h = forgotten client t (find (is_away client) t.broker.sessions) refl held h
kept_by (Accept c client kept alive will) o t held h = elim o [ ]
kept_by (Give c id entries) o t held h = given c id entries t (session_by c t.broker.sessions) refl held h
kept_by (Take c filters) o t held h = taken c filters t (session_by c t.broker.sessions) refl held h
kept_by (Ack c id) o t held h = acked c id t (session_by c t.broker.sessions) refl held h

abbrev pub AreOthers : List Act → Type 0
AreOthers [] = Unit {0}
AreOthers (a ∷ as_list) = IsOther a × AreOthers as_list

pub kept_by_all : (as_list : List Act) → AreOthers as_list → (t : Turn) → IsHeld t.broker → IsSingle t.broker → IsSingle (acts as_list t).broker
kept_by_all [] o t held h = h
kept_by_all (a ∷ as_list) o t held h = kept_by_all as_list o.1 (act a t) (held_by a t held) (kept_by a o.0 t held h)
