-- A new session: none of its client stands beside it, and there is room where it is kept.
use Rattle.std.proofs.Common.{◌≡◌, ◌≢◌, ◌⊎◌, inl, inr, ℕ, zero, suc, ◌+◌, ◌≤◌, ◌<◌, ◌==◌, Bool, true, false, not, ◌&&◌, ◌||◌, cond, ltb, List, [], ◌∷◌, ◌++◌, map, length, refl, sym, ap, ◌∙◌, subst, arith, Option, Some, None, is_some}
use Rattle.std.specs.List.{filter, find, list_any, AllByRecursion}
use Rattle.std.specs.Option.{option_map, option_map_or}
use Rattle.std.specs.Str.{bytes_eq}
use Rattle.std.proofs.lemmas.Bool.{eqb-false, ltb-true, ne_eqb}
use Rattle.std.proofs.lemmas.Slice.Eq.{bytes_eq-Decides}
use Rattle.spk_packets.specs.Spelling.{is_empty}
use Rattle.spk_session.specs.PacketIds.{next_id}
use Rattle.spk_session.specs.Step.{has_room}
use Rattle.spk_broker_rules.specs.Data.{AppMessage, Connection, Newcomer, Session}
use Rattle.spk_broker_rules.specs.Words.{handed_out, most_kept}
use Rattle.spk_broker_rules.specs.Plan.{Leave, Route, Forget, take_over}
use Rattle.spk_broker_rules.specs.Step.{Turn, act, acts, swap, left_behind, leave_at, session_by, sits, conn_at, is_away, forget_at, connection_of, new_session, take_up, away_for, accept_of, older_in, welcome_in, is_kept_of, hand_at, serve, numbered, bursts, route_one, route_some, route}
use Rattle.spk_broker_limits.specs.Limits.{Singles, kept_count}
use Rattle.spk_broker_limits.proofs.Sessions.{All, routed}
use Rattle.spk_broker_limits.proofs.Totals.{Apart, IsHeld, found, no_some, some_is, in_place, held_by, swap_off}
use Rattle.spk_broker_limits.proofs.Clients.{IsAwayKept, AreLike, Off, IsSingle, counted, count_flat, placed, one, like_left, like_serve, kept_by}

-- ---- texts and tests

same_text : (a b : List ℕ) → bytes_eq a b ≡ true → a ≡ b
same_text a b e = (bytes_eq-Decides a b).0 e

text_is : (a b : List ℕ) → a ≡ b → bytes_eq a b ≡ true
text_is a b e = (bytes_eq-Decides a b).1 e

clash : true ≡ false → ⊥
clash e = absurd cc

both : (a b : Bool) → (a && b) ≡ true → (a ≡ true) × (b ≡ true)
both true b e = (refl, e)
both false b e = absurd (clash (sym e))

-- a test that no element passes
misses : (p : Session → Bool) (ss : List Session) → find p ss ≡ None → AllByRecursion (λ (s : Session). p s ≡ false) ss
misses p [] e = tt
misses p (s ∷ ss) e = by (p s) refl e (λ h. misses p ss h)
  where
    by : (b : Bool) → p s ≡ b → cond b (Some s) (find p ss) ≡ None → (find p ss ≡ None → AllByRecursion (λ (u : Session). p u ≡ false) ss) → AllByRecursion (λ (u : Session). p u ≡ false) (s ∷ ss)
    by true f h rest = absurd (no s h)
      where
        no : (x : Session) → Some x ≡ None → ⊥
        no x g = absurd cc
    by false f h rest = (f, rest h)

passes : (p : Session → Bool) (ss : List Session) (s : Session) → find p ss ≡ Some s → p s ≡ true
passes p [] s e = no_some s e
passes p (t ∷ ts) s e = by (p t) refl e (λ h. passes p ts s h)
  where
    by : (b : Bool) → p t ≡ b → cond b (Some t) (find p ts) ≡ Some s → (find p ts ≡ Some s → p s ≡ true) → p s ≡ true
    by true f h rest = ap p (sym (some_is t s h)) ∙ f
    by false f h rest = rest h

-- ---- connections that are gone

-- no session of this client has a connection
abbrev AreAway : List ℕ → List Session → Type 0
AreAway client ss = AllByRecursion (λ (s : Session). s.client ≡ client → s.here ≡ None) ss

nothing : (o : Option Connection) → is_some o ≡ false → o ≡ None
nothing None e = refl
nothing (Some l) e = absurd (clash e)

no_older : (client : List ℕ) (ss : List Session) → find (λ (s : Session). is_some s.here && bytes_eq s.client client) ss ≡ None → AreAway client ss
no_older client ss e = also ss (misses (λ (s : Session). is_some s.here && bytes_eq s.client client) ss e)
  where
    gone : (a b : Bool) → (a && b) ≡ false → b ≡ true → a ≡ false
    gone true b f g = absurd (clash (sym g ∙ f))
    gone false b f g = refl

    also : (xs : List Session) → AllByRecursion (λ (s : Session). (is_some s.here && bytes_eq s.client client) ≡ false) xs → AllByRecursion (λ (s : Session). s.client ≡ client → s.here ≡ None) xs
    also [] a = tt
    also (s ∷ xs) a = ((λ same. nothing s.here (gone (is_some s.here) (bytes_eq s.client client) a.0 (text_is s.client client same))), also xs a.1)

off_away : (client : List ℕ) (ss : List Session) → Off client ss → AreAway client ss
off_away client [] a = tt
off_away client (s ∷ ss) a = ((λ e. absurd (a.0 (sym e))), off_away client ss a.1)

both_away : (client : List ℕ) (xs ys : List Session) → AreAway client xs → AreAway client ys → AreAway client (xs ++ ys)
both_away client [] ys a b = b
both_away client (x ∷ xs) ys a b = (a.0, both_away client xs ys a.1 b)

away_behind : (client : List ℕ) (s : Session) → AreAway client (left_behind s)
away_behind client s = by s.kept
  where
    by : (b : Bool) → AllByRecursion (λ (u : Session). u.client ≡ client → u.here ≡ None) (cond b ((record s { here = None }) ∷ []) [])
    by true = ((λ e. refl), tt)
    by false = tt

same : (k : ℕ) → (k == k) ≡ true
same k = is (k == k) refl
  where
    is : (b : Bool) → (k == k) ≡ b → (k == k) ≡ true
    is true e = e
    is false e = absurd (eqb-false k k e refl)

-- the session of a client whose connection leaves was its only one
alone : (p : Session → Bool) (new ss : List Session) (s : Session) → Singles ss → Apart ss → is_empty s.client ≡ false → find p ss ≡ Some s
    → (n : List Session) → n ≡ swap s.key new ss → (R : List Session → Type 0) → R new → ((xs : List Session) → Off s.client xs → R xs)
    → ((xs ys : List Session) → R xs → R ys → R (xs ++ ys)) → R n
alone p new [] s si a f e n is R rn off join_ = no_some s e
alone p new (t ∷ ts) s si a f e n is R rn off join_ = subst R (sym is) (by (p t) e (λ h. alone p new ts s si.1 a.1 f h (swap s.key new ts) refl R rn off join_))
  where
    first : t ≡ s → R (swap s.key new (t ∷ ts))
    first same_ =
        let on : swap s.key new (t ∷ ts) ≡ new ++ swap s.key new ts = ap (λ b. cond b new (t ∷ []) ++ swap s.key new ts) (ap (λ (u : Session). u.key == s.key) same_ ∙ same s.key) in
        let rest : swap s.key new ts ≡ ts = swap_off s.key new ts (subst (λ (u : Session). AllByRecursion (λ (v : Session). u.key ≢ v.key) ts) same_ a.0) in
        let others : Off s.client ts = subst (λ (u : Session). Off u.client ts) same_ (si.0 (ap (λ (u : Session). is_empty u.client) same_ ∙ f)) in
        subst R (sym (on ∙ ap (λ r. new ++ r) rest)) (join_ new ts rn (off ts others))

    later : find p ts ≡ Some s → R (swap s.key new ts) → R (swap s.key new (t ∷ ts))
    later h rest =
        let other : t.key ≢ s.key = found (λ (u : Session). t.key ≢ u.key) p ts s a.0 h in
        let apart : s.client ≢ t.client = λ g. found (λ (u : Session). t.client ≢ u.client) p ts s (si.0 (ap is_empty (sym g) ∙ f)) h (sym g) in
        subst R (sym (ap (λ b. cond b new (t ∷ []) ++ swap s.key new ts) (ne_eqb t.key s.key other))) (join_ (t ∷ []) (swap s.key new ts) (off (t ∷ []) (apart, tt)) rest)

    by : (b : Bool) → cond b (Some t) (find p ts) ≡ Some s → (find p ts ≡ Some s → R (swap s.key new ts)) → R (swap s.key new (t ∷ ts))
    by true h rest = first (some_is t s h)
    by false h rest = later h (rest h)

both_off : (client : List ℕ) (xs ys : List Session) → Off client xs → Off client ys → Off client (xs ++ ys)
both_off client [] ys a b = b
both_off client (x ∷ xs) ys a b = (a.0, both_off client xs ys a.1 b)

-- ---- the connection that is taken over

-- each connection stands at one session at most
abbrev pub AreOnce : List Session → Type 0
AreOnce ss = (conn : ℕ) → length (filter (sits conn) ss) ≤ 1

some_sit : (conn : ℕ) (p : Session → Bool) (ss : List Session) (s : Session) → find p ss ≡ Some s → sits conn s ≡ true → 1 ≤ length (filter (sits conn) ss)
some_sit conn p [] s e f = no_some s e
some_sit conn p (t ∷ ts) s e f = by (p t) e (λ h. some_sit conn p ts s h f)
  where
    more : (b : Bool) → 1 ≤ length (filter (sits conn) ts) → 1 ≤ length (cond b (t ∷ filter (sits conn) ts) (filter (sits conn) ts))
    more true h = omega arith
    more false h = h

    by : (b : Bool) → cond b (Some t) (find p ts) ≡ Some s → (find p ts ≡ Some s → 1 ≤ length (filter (sits conn) ts)) → 1 ≤ length (filter (sits conn) (t ∷ ts))
    by true h rest = subst (λ b. 1 ≤ length (cond b (t ∷ filter (sits conn) ts) (filter (sits conn) ts))) (sym (ap (sits conn) (some_is t s h) ∙ f)) (omega arith)
    by false h rest = more (sits conn t) (rest h)

sat : (conn : ℕ) (t s : Session) (ts : List Session) (b : Bool) → sits conn t ≡ b → length (filter (sits conn) (t ∷ ts)) ≤ 1 → 1 ≤ length (filter (sits conn) ts)
    → (length (filter (sits conn) ts) ≤ 1 → find (sits conn) ts ≡ Some s) → find (sits conn) (t ∷ ts) ≡ Some s
sat conn t s ts true g le more rest =
    let two : length (t ∷ filter (sits conn) ts) ≤ 1 = subst (λ b. length (cond b (t ∷ filter (sits conn) ts) (filter (sits conn) ts)) ≤ 1) g le in
    absurd (omega arith)
sat conn t s ts false g le more rest =
    let less : length (filter (sits conn) ts) ≤ 1 = subst (λ b. length (cond b (t ∷ filter (sits conn) ts) (filter (sits conn) ts)) ≤ 1) g le in
    ap (λ b. cond b (Some t) (find (sits conn) ts)) g ∙ rest less

session_is : (conn : ℕ) (p : Session → Bool) (ss : List Session) (s : Session) → length (filter (sits conn) ss) ≤ 1 → find p ss ≡ Some s → sits conn s ≡ true → find (sits conn) ss ≡ Some s
session_is conn p [] s le e f = no_some s e
session_is conn p (t ∷ ts) s le e f = by (p t) e (λ h less. session_is conn p ts s less h f)
  where
    first : t ≡ s → find (sits conn) (t ∷ ts) ≡ Some s
    first is = ap (λ b. cond b (Some t) (find (sits conn) ts)) (ap (sits conn) is ∙ f) ∙ ap Some is

    by : (b : Bool) → cond b (Some t) (find p ts) ≡ Some s → (find p ts ≡ Some s → length (filter (sits conn) ts) ≤ 1 → find (sits conn) ts ≡ Some s) → find (sits conn) (t ∷ ts) ≡ Some s
    by true h rest = first (some_is t s h)
    by false h rest = sat conn t s ts (sits conn t) refl le (some_sit conn p ts s h f) (rest h)

-- ---- routing

away_handed : (client : List ℕ) (q : ℕ) (m : AppMessage) (s : Session) → (s.client ≡ client → s.here ≡ None) → All (λ (u : Session). u.client ≡ client → u.here ≡ None) (hand_at q m s).left
away_handed client zero m s p = (p, tt)
away_handed client (suc q) m s p = by (has_room s.used)
  where
    by : (b : Bool) → All (λ (u : Session). u.client ≡ client → u.here ≡ None) (cond b (numbered s m (next_id s.used s.last)) (bursts s)).left
    by true = (p, tt)
    by false = tt

away_routed : (client : List ℕ) (t : Turn) → AreAway client t.broker.sessions → AreAway client (route t).broker.sessions
away_routed client t a = routed (λ (s : Session). s.client ≡ client → s.here ≡ None) (λ m s p. away_handed client m.qos m s p) t a

likes : (m : AppMessage) (ss : List Session) → AreLike (λ (s : Session). (serve m s).left) ss
likes m [] = tt
likes m (s ∷ ss) = (like_serve m s, likes m ss)

less_of : (a b c : ℕ) → a ≤ b → b ≤ c → a ≤ c
less_of a b c h g = omega arith

count_some : (q : Bool → List ℕ → Bool) (n : ℕ) (t : Turn) → counted q (route_some n t).broker.sessions ≤ counted q t.broker.sessions
unfolding route_some
count_some q zero t = omega arith
count_some q (suc n) t = by t.waiting (λ m ms. less_of _ _ _ (count_some q n (route_one m (record t { waiting = ms }))) (count_flat q (λ (s : Session). (serve m s).left) t.broker.sessions (likes m t.broker.sessions)))
  where
    by : (ws : List AppMessage) → ((m : AppMessage) (ms : List AppMessage) → counted q (route_some n (route_one m (record t { waiting = ms }))).broker.sessions ≤ counted q t.broker.sessions)
        → counted q (elim ws as (λ _. Turn) [ [] ↦ t | m ∷ ms ↦ route_some n (route_one m (record t { waiting = ms })) ]).broker.sessions ≤ counted q t.broker.sessions
    by [] rest = omega arith
    by (m ∷ ms) rest = rest m ms

count_routed : (q : Bool → List ℕ → Bool) (t : Turn) → counted q (route t).broker.sessions ≤ counted q t.broker.sessions
unfolding route
count_routed q t = count_some q (length t.waiting + length t.broker.sessions) t

-- ---- taking over

-- none of the client is connected any more, and no more sessions are kept than before
pub record IsReady (client : List ℕ) (before now : Turn) : Type 0 where
  pub held : IsHeld now.broker
  pub single : IsSingle now.broker
  pub away : is_empty client ≡ false → AreAway client now.broker.sessions
  pub fewer : (q : Bool → List ℕ → Bool) → counted q now.broker.sessions ≤ counted q before.broker.sessions

sits_on : (conn : ℕ) (o : Option Connection) → option_map (λ (l : Connection). l.conn) o ≡ Some conn → option_map_or (λ (l : Connection). l.conn == conn) o false ≡ true
sits_on conn None e = no_some conn e
sits_on conn (Some l) e = ap (λ c. c == conn) (is l.conn e) ∙ same conn
  where
    is : (c : ℕ) → Some c ≡ Some conn → c ≡ conn
    is c f = cc

is_there : (o : Option Connection) → is_some o ≡ true → option_map (λ (l : Connection). l.conn) o ≡ None → ⊥
is_there None e f = clash (sym e)
is_there (Some l) e f = absurd cc

left_by : (client : List ℕ) (conn : ℕ) (s : Session) (t : Turn) → is_empty client ≡ false → s.client ≡ client → IsHeld t.broker → IsSingle t.broker → session_by conn t.broker.sessions ≡ Some s
    → IsReady client t (act Route (act (Leave conn true) t))
left_by client conn s t f is held single e =
    let sessions_are : (act (Leave conn true) t).broker.sessions ≡ swap s.key (left_behind s) t.broker.sessions = ap (λ x. (leave_at x conn true t).broker.sessions) e in
    let held' = held_by (Leave conn true) t held in
    let single' = kept_by (Leave conn true) tt t held single in
    let gone : AreAway client (swap s.key (left_behind s) t.broker.sessions) =
    alone (sits conn) (left_behind s) t.broker.sessions s single.single held.apart (ap is_empty is ∙ f) e (swap s.key (left_behind s) t.broker.sessions) refl
    (AreAway client) (away_behind client s) (λ xs o. off_away client xs (subst (λ c. Off c xs) is o)) (λ xs ys a b. both_away client xs ys a b) in
    record {
      held = held_by Route (act (Leave conn true) t) held';
      single = kept_by Route tt (act (Leave conn true) t) held' single';
      away = λ g. away_routed client (act (Leave conn true) t) (subst (AreAway client) (sym sessions_are) gone);
      fewer = λ q. less_of _ _ _ (count_routed q (act (Leave conn true) t))
          (subst (λ ss. counted q ss ≤ counted q t.broker.sessions) (sym sessions_are) (count_flat q (in_place s.key (left_behind s)) t.broker.sessions (placed (sits conn) (left_behind s) t.broker.sessions s held.apart e (like_left s))));
    }

pub taken_over : (client : List ℕ) (older : Option ℕ) (t : Turn) → older_in client t.broker.sessions ≡ older → AreOnce t.broker.sessions → IsHeld t.broker → IsSingle t.broker
    → IsReady client t (acts (take_over older) t)
taken_over client None t e once held single = record {
  held = held;
  single = single;
  away = λ f. by (find (λ (s : Session). is_some s.here && bytes_eq s.client client) t.broker.sessions) refl
      (sym (ap (λ b. cond b None (option_map_or conn_at (find (λ (s : Session). is_some s.here && bytes_eq s.client client) t.broker.sessions) None)) f) ∙ e);
  fewer = λ q. omega arith;
}
  where
    by : (o : Option Session) → find (λ (s : Session). is_some s.here && bytes_eq s.client client) t.broker.sessions ≡ o
        → option_map_or conn_at (find (λ (s : Session). is_some s.here && bytes_eq s.client client) t.broker.sessions) None ≡ None → AreAway client t.broker.sessions
    by None g h = no_older client t.broker.sessions g
    by (Some s) g h =
        let here = (both (is_some s.here) (bytes_eq s.client client) (passes (λ (u : Session). is_some u.here && bytes_eq u.client client) t.broker.sessions s g)).0 in
        absurd (is_there s.here here (sym (ap (λ o. option_map_or conn_at o None) g) ∙ h))
taken_over client (Some conn) t e once held single = by (is_empty client) refl (find (λ (s : Session). is_some s.here && bytes_eq s.client client) t.broker.sessions) refl
  where
    by : (b : Bool) → is_empty client ≡ b → (o : Option Session) → find (λ (s : Session). is_some s.here && bytes_eq s.client client) t.broker.sessions ≡ o → IsReady client t (acts (take_over (Some conn)) t)
    by true f o g = no_some conn (sym (ap (λ b. cond b None (option_map_or conn_at (find (λ (s : Session). is_some s.here && bytes_eq s.client client) t.broker.sessions) None)) f) ∙ e)
    by false f None g = no_some conn (sym (ap (λ b. cond b None (option_map_or conn_at (find (λ (s : Session). is_some s.here && bytes_eq s.client client) t.broker.sessions) None)) f
        ∙ ap (λ o. option_map_or conn_at o None) g) ∙ e)
    by false f (Some s) g =
        let at : conn_at s ≡ Some conn = sym (ap (λ b. cond b None (option_map_or conn_at (find (λ (s : Session). is_some s.here && bytes_eq s.client client) t.broker.sessions) None)) f
        ∙ ap (λ o. option_map_or conn_at o None) g) ∙ e in
        let told = both (is_some s.here) (bytes_eq s.client client) (passes (λ (u : Session). is_some u.here && bytes_eq u.client client) t.broker.sessions s g) in
        let session = session_is conn (λ (u : Session). is_some u.here && bytes_eq u.client client) t.broker.sessions s (once conn) g (sits_on conn s.here at) in
        left_by client conn s t f (same_text s.client client told.1) held single session

-- ---- the place of a new session

none_away : (client : List ℕ) (ss : List Session) → AreAway client ss → AllByRecursion IsAwayKept ss → find (is_away client) ss ≡ None → Off client ss
none_away client ss a k e = also ss a k (misses (is_away client) ss e)
  where
    tells : (kept here text : Bool) → kept ≡ true → here ≡ false → text ≡ true → (kept && (not here && text)) ≡ false → ⊥
    tells kept here text f g h i = clash (sym (ap (λ b. b && (not here && text)) f ∙ ap (λ b. not b && text) g ∙ h) ∙ i)

    also : (xs : List Session) → AreAway client xs → AllByRecursion IsAwayKept xs → AllByRecursion (λ (s : Session). is_away client s ≡ false) xs → Off client xs
    also [] a k m = tt
    also (s ∷ xs) a k m = (
      (λ e. let none : s.here ≡ None = a.0 (sym e) in
          tells s.kept (is_some s.here) (bytes_eq s.client client) (k.0 none) (ap is_some none) (text_is s.client client (sym e)) m.0),
      also xs a.1 k.1 m.1,
    )

pub cleared : (client : List ℕ) (t : Turn) → is_empty client ≡ false → AreAway client t.broker.sessions → IsHeld t.broker → IsSingle t.broker → Off client (act (Forget client) t).broker.sessions
cleared client t f a held single = by (find (is_away client) t.broker.sessions) refl
  where
    by : (o : Option Session) → find (is_away client) t.broker.sessions ≡ o → Off client (forget_at (find (is_away client) t.broker.sessions) t).broker.sessions
    by None e = subst (λ o. Off client (forget_at o t).broker.sessions) (sym e) (none_away client t.broker.sessions a single.away e)
    by (Some x) e =
        let is : x.client ≡ client = same_text x.client client (both (not (is_some x.here)) (bytes_eq x.client client) (both x.kept (not (is_some x.here) && bytes_eq x.client client) (passes (is_away client) t.broker.sessions x e)).1).1 in
        subst (λ o. Off client (forget_at o t).broker.sessions) (sym e)
        (alone (is_away client) [] t.broker.sessions x single.single held.apart (ap is_empty is ∙ f) e (swap x.key [] t.broker.sessions) refl (Off client) tt
        (λ xs o. subst (λ c. Off c xs) is o) (both_off client))

off_more : (client : List ℕ) (ss : List Session) (x : Session) → Off client ss → client ≢ x.client → Off client (ss ++ x ∷ [])
off_more client [] x a e = (e, tt)
off_more client (s ∷ ss) x a e = (a.0, off_more client ss x a.1 e)

single_new : (ss : List Session) (x : Session) → Singles ss → (is_empty x.client ≡ false → Off x.client ss) → Singles (ss ++ x ∷ [])
single_new [] x si off = ((λ e. tt), tt)
single_new (s ∷ ss) x si off =
    ((λ e. off_more s.client ss x (si.0 e) (λ g. (off (ap is_empty (sym g) ∙ e)).0 (sym g))), single_new ss x si.1 (λ e. (off e).1))

away_new : (ss : List Session) (x : Session) → AllByRecursion IsAwayKept ss → IsAwayKept x → AllByRecursion IsAwayKept (ss ++ x ∷ [])
away_new [] x a k = (k, tt)
away_new (s ∷ ss) x a k = (a.0, away_new ss x a.1 k)

grown : (b : Bool) (s : Session) (n m : List Session) (k : ℕ) → length n ≤ length m + k → length (cond b (s ∷ n) n) ≤ length (cond b (s ∷ m) m) + k
grown true s n m k h = omega arith
grown false s n m k h = h

last_of : (b : Bool) (x : Session) → length (cond b (x ∷ []) []) ≤ cond b 1 0
last_of true x = omega arith
last_of false x = omega arith

kept_new : (ss : List Session) (x : Session) → kept_count (ss ++ x ∷ []) ≤ kept_count ss + cond x.kept 1 0
kept_new [] x = let is = last_of x.kept x in omega arith
kept_new (s ∷ ss) x = grown s.kept s (filter (λ (u : Session). u.kept) (ss ++ x ∷ [])) (filter (λ (u : Session). u.kept) ss) (cond x.kept 1 0) (kept_new ss x)

-- there is no session of the client, and room for one more where it is kept
abbrev HasPlace : Bool → List ℕ → List Session → Type 0
HasPlace kept client ss = (is_empty client ≡ false → Off client ss) × (kept ≡ true → kept_count ss ≤ 999)

up : (kept : Bool) (client : List ℕ) (connection : Connection) (t : Turn) (o : Option Session) → away_for kept client t.broker.sessions ≡ o → IsHeld t.broker → IsSingle t.broker
    → (o ≡ None → HasPlace kept client t.broker.sessions) → IsSingle (take_up o client kept connection t).broker
up kept client connection t None e held h place =
    let x : Session = new_session (t.broker.made + 1) client kept connection in
    record {
      single = single_new t.broker.sessions x h.single (place refl).0;
      away = away_new t.broker.sessions x h.away (λ n. absurd cc);
      few = room kept (place refl).1 (kept_new t.broker.sessions x);
    }
  where
    room : (b : Bool) → (b ≡ true → kept_count t.broker.sessions ≤ 999) → kept_count (t.broker.sessions ++ new_session (t.broker.made + 1) client kept connection ∷ []) ≤ kept_count t.broker.sessions + cond b 1 0
        → kept_count (t.broker.sessions ++ new_session (t.broker.made + 1) client kept connection ∷ []) ≤ 1000
    room true r le = let most = r refl in omega arith
    room false r le = let most = h.few in omega arith
up true client connection t (Some s) e held h place =
    let next = one t.broker (is_away client) s ((record s { here = Some connection; in_flight = map handed_out s.in_flight }) ∷ []) held e (refl, refl, (λ a n. absurd cc)) h in
    record { single = next.single; away = next.away; few = next.few }
up false client connection t (Some s) e held h place = no_some s e

pub accepted : (o : Option Newcomer) (client : List ℕ) (kept : Bool) (alive : ℕ) (will : Option AppMessage) (t : Turn) → IsHeld t.broker → IsSingle t.broker
    → (away_for kept client t.broker.sessions ≡ None → HasPlace kept client t.broker.sessions) → IsSingle (accept_of o client kept alive will t).broker
accepted None client kept alive will t held h place = h
accepted (Some g) client kept alive will t held h place = up kept client (connection_of g alive will) t (away_for kept client t.broker.sessions) refl held h place

-- ---- room for a kept session

kept_or : (client : List ℕ) (s : Session) (n m : List Session) → length n ≤ length m → length (cond (s.kept && not (bytes_eq s.client client)) (s ∷ n) n) ≤ length (cond s.kept (s ∷ m) m)
kept_or client s n m h = by s.kept (bytes_eq s.client client)
  where
    by : (k e : Bool) → length (cond (k && not e) (s ∷ n) n) ≤ length (cond k (s ∷ m) m)
    by true true = omega arith
    by true false = omega arith
    by false e = h

le_others : (client : List ℕ) (ss : List Session) → counted (λ kept c. kept && not (bytes_eq c client)) ss ≤ kept_count ss
le_others client [] = omega arith
le_others client (s ∷ ss) = kept_or client s (filter (λ (t : Session). t.kept && not (bytes_eq t.client client)) ss) (filter (λ (t : Session). t.kept) ss) (le_others client ss)

any_kept : (k e a : Bool) (s : Session) (n m : List Session) → ((k && e) || a) ≡ true → length n ≤ length m → (a ≡ true → length n + 1 ≤ length m)
    → length (cond (k && not e) (s ∷ n) n) + 1 ≤ length (cond k (s ∷ m) m)
any_kept true true a s n m f h g = omega arith
any_kept true false a s n m f h g = let more = g f in omega arith
any_kept false e a s n m f h g = g f

any_others : (client : List ℕ) (ss : List Session) → list_any (is_kept_of client) ss ≡ true → counted (λ kept c. kept && not (bytes_eq c client)) ss + 1 ≤ kept_count ss
any_others client [] e = absurd (clash (sym e))
any_others client (s ∷ ss) e =
    any_kept s.kept (bytes_eq s.client client) (list_any (is_kept_of client) ss) s (filter (λ (t : Session). t.kept && not (bytes_eq t.client client)) ss) (filter (λ (t : Session). t.kept) ss) e
    (le_others client ss) (λ f. any_others client ss f)

not_same : (a b : List ℕ) → b ≢ a → bytes_eq a b ≡ false
not_same a b ne = by (bytes_eq a b) refl
  where
    by : (r : Bool) → bytes_eq a b ≡ r → bytes_eq a b ≡ false
    by true e = absurd (ne (sym (same_text a b e)))
    by false e = e

off_others : (client : List ℕ) (ss : List Session) → Off client ss → kept_count ss ≤ counted (λ kept c. kept && not (bytes_eq c client)) ss
off_others client [] a = omega arith
off_others client (s ∷ ss) a =
    subst (λ b. length (cond s.kept (s ∷ filter (λ (t : Session). t.kept) ss) (filter (λ (t : Session). t.kept) ss))
    ≤ length (cond (s.kept && not b) (s ∷ filter (λ (t : Session). t.kept && not (bytes_eq t.client client)) ss) (filter (λ (t : Session). t.kept && not (bytes_eq t.client client)) ss)))
    (sym (not_same s.client client a.0)) (by s.kept (off_others client ss a.1))
  where
    by : (k : Bool) → kept_count ss ≤ counted (λ kept c. kept && not (bytes_eq c client)) ss
        → length (cond k (s ∷ filter (λ (t : Session). t.kept) ss) (filter (λ (t : Session). t.kept) ss))
        ≤ length (cond (k && true) (s ∷ filter (λ (t : Session). t.kept && not (bytes_eq t.client client)) ss) (filter (λ (t : Session). t.kept && not (bytes_eq t.client client)) ss))
    by true h = omega arith
    by false h = h

either : (a b : Bool) → (a || b) ≡ true → (a ≡ true) ⊎ (b ≡ true)
either true b e = inl refl
either false b e = inr e

pub room : (client : List ℕ) (before now : Turn) → is_empty client ≡ false → welcome_in client before.broker.sessions ≡ true → kept_count before.broker.sessions ≤ 1000 → IsReady client before now
    → find (is_away client) now.broker.sessions ≡ None → HasPlace true client now.broker.sessions
room client before now f welcome most ready e =
    let off : Off client now.broker.sessions = none_away client now.broker.sessions (ready.away f) ready.single.away e in
    ((λ g. off), (λ g. by off (either (list_any (is_kept_of client) before.broker.sessions) (ltb (kept_count before.broker.sessions) most_kept) welcome)))
  where
    by : Off client now.broker.sessions → (list_any (is_kept_of client) before.broker.sessions ≡ true) ⊎ (ltb (kept_count before.broker.sessions) most_kept ≡ true) → kept_count now.broker.sessions ≤ 999
    by off (inl h) =
        let were : counted (λ kept c. kept && not (bytes_eq c client)) before.broker.sessions + 1 ≤ kept_count before.broker.sessions = any_others client before.broker.sessions h in
        let less : counted (λ kept c. kept && not (bytes_eq c client)) now.broker.sessions ≤ counted (λ kept c. kept && not (bytes_eq c client)) before.broker.sessions = ready.fewer (λ kept c. kept && not (bytes_eq c client)) in
        let all : kept_count now.broker.sessions ≤ counted (λ kept c. kept && not (bytes_eq c client)) now.broker.sessions = off_others client now.broker.sessions off in
        omega arith
    by off (inr h) =
        let few : kept_count before.broker.sessions < 1000 = ltb-true (kept_count before.broker.sessions) most_kept h in
        let less : kept_count now.broker.sessions ≤ kept_count before.broker.sessions = ready.fewer (λ kept c. kept) in
        omega arith
