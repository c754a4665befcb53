-- What each act keeps of the keys of sessions, and of how many grants there are in all.
use Rattle.std.proofs.Common.{◌≡◌, ◌≢◌, ℕ, zero, suc, ◌+◌, ◌-◌, ◌≤◌, ◌<◌, ◌==◌, Bool, true, false, not, ◌||◌, cond, ltb, List, [], ◌∷◌, ◌++◌, ◌⊎◌, inl, inr, map, length, refl, sym, ap, ◌∙◌, subst, arith, min, Option, Some, None}
use Rattle.std.specs.List.{find, fold, flat_map, AllByRecursion}
use Rattle.std.specs.Option.{option_map}
use Rattle.std.specs.Str.{bytes_eq}
use Rattle.std.proofs.lemmas.Bool.{ltb-true, ne_eqb}
use Rattle.std.proofs.lemmas.Bool.Decides.{eqb_tells}
use Rattle.std.proofs.lemmas.List.{length-append, length-map}
use Rattle.spk_session.specs.PacketIds.{next_id}
use Rattle.spk_session.specs.Step.{has_room, without}
use Rattle.spk_broker_rules.specs.Data.{AppMessage, Connection, Newcomer, Session, Broker}
use Rattle.spk_broker_rules.specs.Table.{Table, has, remove, replaced}
use Rattle.spk_broker_rules.specs.Words.{handed_out, without_id, best, level, sent_as, granted_of, offers_to, with_entry, most_grants}
use Rattle.spk_broker_rules.specs.Plan.{Event, Act, Opens, At, Hear, Drop, Say, Leave, Tell, Queue, Route, Forget, Accept, Give, Take, Ack, before, plan}
use Rattle.spk_broker_rules.specs.Step.{Turn, act, acts, after, step, noted, begun, seen, on_connections, newcomer_heard, connection_heard, newcomer_dropped, connection_dropped, swap, leave_at, session_by, sits, is_newcomer, is_away, forget_at, connection_of, new_session, take_up, away_for, accept_of, other_grants, all_grants, give_at, take_at, ack_at, offer, offer_at, with_key, hand, hand_at, serve, serve_at, numbered, bursts, in_flight_with, retained_with, route_one, route_some, route}

-- ---- keys

-- no two sessions have one key
abbrev pub Apart : List Session → Type 0
Apart [] = Unit {0}
Apart (s ∷ ss) = AllByRecursion (λ (t : Session). s.key ≢ t.key) ss × Apart ss

-- what may stand in place of a session: one of its key, or none
abbrev pub IsOne : ℕ → List Session → Type 0
IsOne key [] = Unit {0}
IsOne key (x ∷ []) = x.key ≡ key
IsOne key (x ∷ y ∷ zs) = ⊥

one_as : (k j : ℕ) (xs : List Session) → k ≡ j → IsOne k xs → IsOne j xs
one_as k j [] e h = tt
one_as k j (x ∷ []) e h = h ∙ e
one_as k j (x ∷ y ∷ zs) e h = elim h [ ]

avoids : (k : ℕ) (f : Session → List Session) → ((s : Session) → IsOne s.key (f s)) → (ss : List Session) → AllByRecursion (λ (t : Session). k ≢ t.key) ss
    → AllByRecursion (λ (t : Session). k ≢ t.key) (flat_map f ss)
avoids k f one [] a = tt
avoids k f one (s ∷ ss) a = by (f s) (one s) (avoids k f one ss a.1)
  where
    by : (xs : List Session) → IsOne s.key xs → AllByRecursion (λ (t : Session). k ≢ t.key) (flat_map f ss) → AllByRecursion (λ (t : Session). k ≢ t.key) (xs ++ flat_map f ss)
    by [] h rest = rest
    by (x ∷ []) h rest = ((λ e. a.0 (e ∙ h)), rest)
    by (x ∷ y ∷ zs) h rest = elim h [ ]

apart_flat : (f : Session → List Session) → ((s : Session) → IsOne s.key (f s)) → (ss : List Session) → Apart ss → Apart (flat_map f ss)
apart_flat f one [] a = tt
apart_flat f one (s ∷ ss) a = by (f s) (one s) (avoids s.key f one ss a.0) (apart_flat f one ss a.1)
  where
    by : (xs : List Session) → IsOne s.key xs → AllByRecursion (λ (t : Session). s.key ≢ t.key) (flat_map f ss) → Apart (flat_map f ss) → Apart (xs ++ flat_map f ss)
    by [] h off rest = rest
    by (x ∷ []) h off rest = (subst (λ k. AllByRecursion (λ (t : Session). k ≢ t.key) (flat_map f ss)) (sym h) off, rest)
    by (x ∷ y ∷ zs) h off rest = elim h [ ]

low_flat : (top : ℕ) (f : Session → List Session) → ((s : Session) → IsOne s.key (f s)) → (ss : List Session) → AllByRecursion (λ (t : Session). t.key ≤ top) ss
    → AllByRecursion (λ (t : Session). t.key ≤ top) (flat_map f ss)
low_flat top f one [] a = tt
low_flat top f one (s ∷ ss) a = by (f s) (one s) (low_flat top f one ss a.1)
  where
    by : (xs : List Session) → IsOne s.key xs → AllByRecursion (λ (t : Session). t.key ≤ top) (flat_map f ss) → AllByRecursion (λ (t : Session). t.key ≤ top) (xs ++ flat_map f ss)
    by [] h rest = rest
    by (x ∷ []) h rest = (subst (λ k. k ≤ top) (sym h) a.0, rest)
    by (x ∷ y ∷ zs) h rest = elim h [ ]

-- what stands in place of a session of this key
abbrev pub in_place : ℕ → List Session → Session → List Session
in_place key new s = cond (s.key == key) new (s ∷ [])

one_in_place : (key : ℕ) (new : List Session) → IsOne key new → (s : Session) → IsOne s.key (in_place key new s)
one_in_place key new one s = by (eqb_tells s.key key)
  where
    by : (((s.key == key) ≡ true) × (s.key ≡ key)) ⊎ (((s.key == key) ≡ false) × (s.key ≢ key)) → IsOne s.key (in_place key new s)
    by (inl e) = subst (λ b. IsOne s.key (cond b new (s ∷ []))) (sym e.0) (one_as key s.key new (sym e.1) one)
    by (inr e) = subst (λ b. IsOne s.key (cond b new (s ∷ []))) (sym e.0) refl

-- ---- how many grants

total_more : (s : Session) (ss : List Session) → all_grants (s ∷ ss) ≡ length s.grants + all_grants ss
total_more s ss = length-append s.grants (flat_map (λ (t : Session). t.grants) ss)

total_both : (xs ys : List Session) → all_grants (xs ++ ys) ≡ all_grants xs + all_grants ys
total_both [] ys = let none : all_grants [] ≡ 0 = refl in omega arith
total_both (x ∷ xs) ys =
    let more : all_grants (x ∷ (xs ++ ys)) ≡ length x.grants + all_grants (xs ++ ys) = total_more x (xs ++ ys) in
    let rest : all_grants (xs ++ ys) ≡ all_grants xs + all_grants ys = total_both xs ys in
    let here : all_grants (x ∷ xs) ≡ length x.grants + all_grants xs = total_more x xs in
    omega arith

-- with no more grants
abbrev pub Lighter : Session → List Session → Type 0
Lighter s xs = all_grants xs ≤ length s.grants

total_flat : (f : Session → List Session) → ((s : Session) → Lighter s (f s)) → (ss : List Session) → all_grants (flat_map f ss) ≤ all_grants ss
total_flat f light [] = omega arith
total_flat f light (s ∷ ss) =
    let one : all_grants (f s) ≤ length s.grants = light s in
    let rest : all_grants (flat_map f ss) ≤ all_grants ss = total_flat f light ss in
    let sum : all_grants (f s ++ flat_map f ss) ≡ all_grants (f s) + all_grants (flat_map f ss) = total_both (f s) (flat_map f ss) in
    let here : all_grants (s ∷ ss) ≡ length s.grants + all_grants ss = total_more s ss in
    omega arith

-- a session of another key stands as it was
pub swap_off : (key : ℕ) (new ss : List Session) → AllByRecursion (λ (t : Session). key ≢ t.key) ss → swap key new ss ≡ ss
swap_off key new [] a = refl
swap_off key new (s ∷ ss) a =
    ap (λ b. cond b new (s ∷ []) ++ swap key new ss) (ne_eqb s.key key (λ e. a.0 (sym e))) ∙ ap (λ r. s ∷ r) (swap_off key new ss a.1)

swap_on : (key : ℕ) (new : List Session) (s : Session) (ss : List Session) → s.key ≡ key → swap key new (s ∷ ss) ≡ new ++ swap key new ss
swap_on key new s ss e = ap (λ b. cond b new (s ∷ []) ++ swap key new ss) (is_same (eqb_tells s.key key))
  where
    is_same : (((s.key == key) ≡ true) × (s.key ≡ key)) ⊎ (((s.key == key) ≡ false) × (s.key ≢ key)) → (s.key == key) ≡ true
    is_same (inl f) = f.0
    is_same (inr f) = absurd (f.1 e)

pub no_some : {X Y : Type 0} (x : X) → None ≡ Some x → Y
no_some x e = absurd cc

pub some_is : {X : Type 0} (x y : X) → Some x ≡ Some y → x ≡ y
some_is x y e = cc

pub found : (P : Session → Type 0) (p : Session → Bool) (ss : List Session) (s : Session) → AllByRecursion P ss → find p ss ≡ Some s → P s
found P p [] s a e = no_some s e
found P p (t ∷ ts) s a e = by (p t) e (λ h. found P p ts s a.1 h)
  where
    by : (b : Bool) → cond b (Some t) (find p ts) ≡ Some s → (find p ts ≡ Some s → P s) → P s
    by true h rest = subst P (some_is t s h) a.0
    by false h rest = rest h

-- one session's grants are changed for those of what stands in its place
swap_total : (p : Session → Bool) (new ss : List Session) (s : Session) → Apart ss → find p ss ≡ Some s
    → all_grants (swap s.key new ss) + length s.grants ≡ all_grants ss + all_grants new
swap_total p new [] s a e = no_some s e
swap_total p new (t ∷ ts) s a e = by (p t) e (λ h. swap_total p new ts s a.1 h)
  where
    here : all_grants (t ∷ ts) ≡ length t.grants + all_grants ts
    here = total_more t ts

    first : t ≡ s → all_grants (swap s.key new (t ∷ ts)) + length s.grants ≡ all_grants (t ∷ ts) + all_grants new
    first same =
        let on : all_grants (swap t.key new (t ∷ ts)) ≡ all_grants (new ++ swap t.key new ts) = ap all_grants (swap_on t.key new t ts refl) in
        let off : all_grants (swap t.key new ts) ≡ all_grants ts = ap all_grants (swap_off t.key new ts a.0) in
        let sum : all_grants (new ++ swap t.key new ts) ≡ all_grants new + all_grants (swap t.key new ts) = total_both new (swap t.key new ts) in
        let whole : all_grants (t ∷ ts) ≡ length t.grants + all_grants ts = here in
        subst (λ (u : Session). all_grants (swap u.key new (t ∷ ts)) + length u.grants ≡ all_grants (t ∷ ts) + all_grants new) same (omega arith)

    later : find p ts ≡ Some s → all_grants (swap s.key new ts) + length s.grants ≡ all_grants ts + all_grants new
        → all_grants (swap s.key new (t ∷ ts)) + length s.grants ≡ all_grants (t ∷ ts) + all_grants new
    later h rest =
        let other : t.key ≢ s.key = found (λ (u : Session). t.key ≢ u.key) p ts s a.0 h in
        let kept : all_grants (swap s.key new (t ∷ ts)) ≡ all_grants (t ∷ swap s.key new ts) =
        ap (λ b. all_grants (cond b new (t ∷ []) ++ swap s.key new ts)) (ne_eqb t.key s.key other) in
        let more : all_grants (t ∷ swap s.key new ts) ≡ length t.grants + all_grants (swap s.key new ts) = total_more t (swap s.key new ts) in
        let whole : all_grants (t ∷ ts) ≡ length t.grants + all_grants ts = here in
        omega arith

    by : (b : Bool) → cond b (Some t) (find p ts) ≡ Some s → (find p ts ≡ Some s → all_grants (swap s.key new ts) + length s.grants ≡ all_grants ts + all_grants new)
        → all_grants (swap s.key new (t ∷ ts)) + length s.grants ≡ all_grants (t ∷ ts) + all_grants new
    by true h rest = first (some_is t s h)
    by false h rest = later h (rest h)

pub of_one : (s : Session) → all_grants (s ∷ []) ≡ length s.grants
of_one s = let more : all_grants (s ∷ []) ≡ length s.grants + 0 = total_more s [] in omega arith

-- one of the sessions has no more grants than all
pub within : (p : Session → Bool) (ss : List Session) (s : Session) → find p ss ≡ Some s → length s.grants ≤ all_grants ss
within p [] s e = no_some s e
within p (t ∷ ts) s e = by (p t) e (λ h. within p ts s h)
  where
    by : (b : Bool) → cond b (Some t) (find p ts) ≡ Some s → (find p ts ≡ Some s → length s.grants ≤ all_grants ts) → length s.grants ≤ all_grants (t ∷ ts)
    by true h rest =
        let more : all_grants (t ∷ ts) ≡ length t.grants + all_grants ts = total_more t ts in
        subst (λ (u : Session). length u.grants ≤ all_grants (t ∷ ts)) (some_is t s h) (omega arith)
    by false h rest =
        let more : all_grants (t ∷ ts) ≡ length t.grants + all_grants ts = total_more t ts in
        let le = rest h in
        omega arith

-- ---- the data

pub record IsHeld (b : Broker) : Type 0 where
  pub apart : Apart b.sessions
  pub low : AllByRecursion (λ (s : Session). s.key ≤ b.made) b.sessions
  pub few : all_grants b.sessions ≤ 10000

-- each session changed, or gone
each : (b : Broker) (f : Session → List Session) → ((s : Session) → IsOne s.key (f s)) → ((s : Session) → Lighter s (f s)) → IsHeld b → IsHeld (record b { sessions = flat_map f b.sessions })
each b f one light h = record {
  apart = apart_flat f one b.sessions h.apart;
  low = low_flat b.made f one b.sessions h.low;
  few = (let le = total_flat f light b.sessions in let most = h.few in omega arith);
}

-- one session changed, or gone: of so many grants that all are few enough
one_of : (b : Broker) (p : Session → Bool) (s : Session) (new : List Session) → IsOne s.key new → find p b.sessions ≡ Some s
    → all_grants b.sessions + all_grants new ≤ 10000 + length s.grants → IsHeld b → IsHeld (record b { sessions = swap s.key new b.sessions })
one_of b p s new one e room h = record {
  apart = apart_flat (in_place s.key new) (one_in_place s.key new one) b.sessions h.apart;
  low = low_flat b.made (in_place s.key new) (one_in_place s.key new one) b.sessions h.low;
  few = (let sum = swap_total p new b.sessions s h.apart e in omega arith);
}

lighter : (b : Broker) (p : Session → Bool) (s : Session) (new : List Session) → IsOne s.key new → Lighter s new → find p b.sessions ≡ Some s → IsHeld b → IsHeld (record b { sessions = swap s.key new b.sessions })
lighter b p s new one light e h = one_of b p s new one e (let le : all_grants new ≤ length s.grants = light in let most = h.few in omega arith) h

-- ---- routing

one_hand : (q : ℕ) (m : AppMessage) (s : Session) → IsOne s.key (hand_at q m s).left
one_hand zero m s = refl
one_hand (suc q) m s = by (has_room s.used)
  where
    by : (b : Bool) → IsOne s.key (cond b (numbered s m (next_id s.used s.last)) (bursts s)).left
    by true = refl
    by false = tt

light_hand : (q : ℕ) (m : AppMessage) (s : Session) → Lighter s (hand_at q m s).left
light_hand zero m s = let is = of_one s in omega arith
light_hand (suc q) m s = by (has_room s.used)
  where
    by : (b : Bool) → Lighter s (cond b (numbered s m (next_id s.used s.last)) (bursts s)).left
    by true =
        let new : Session = record s { used = s.used ++ next_id s.used s.last ∷ []; last = next_id s.used s.last; in_flight = in_flight_with s (next_id s.used s.last) m } in
        let is : all_grants (new ∷ []) ≡ length s.grants = of_one new in
        omega arith
    by false = let none : all_grants [] ≡ 0 = refl in omega arith

one_serve : (m : AppMessage) (s : Session) → IsOne s.key (serve m s).left
one_serve m s = by (level m.qos (best m.topic s.grants))
  where
    by : (o : Option ℕ) → IsOne s.key (serve_at o m s).left
    by None = refl
    by (Some q) = one_hand q (sent_as m q false) s

light_serve : (m : AppMessage) (s : Session) → Lighter s (serve m s).left
light_serve m s = by (level m.qos (best m.topic s.grants))
  where
    by : (o : Option ℕ) → Lighter s (serve_at o m s).left
    by None = let is = of_one s in omega arith
    by (Some q) = light_hand q (sent_as m q false) s

routed_some : (n : ℕ) (t : Turn) → IsHeld t.broker → IsHeld (route_some n t).broker
unfolding route_some
routed_some zero t h = h
routed_some (suc n) t h =
    by t.waiting (λ m ms. routed_some n (route_one m (record t { waiting = ms })) (one m))
  where
    one : (m : AppMessage) → IsHeld (record t.broker { sessions = flat_map (λ (s : Session). (serve m s).left) t.broker.sessions; retained = retained_with t.broker.retained m })
    one m = let next = each t.broker (λ (s : Session). (serve m s).left) (one_serve m) (light_serve m) h in record { apart = next.apart; low = next.low; few = next.few }

    by : (ws : List AppMessage) → ((m : AppMessage) (ms : List AppMessage) → IsHeld (route_some n (route_one m (record t { waiting = ms }))).broker)
        → IsHeld (elim ws as (λ _. Turn) [ [] ↦ t | m ∷ ms ↦ route_some n (route_one m (record t { waiting = ms })) ]).broker
    by [] rest = h
    by (m ∷ ms) rest = rest m ms

routed : (t : Turn) → IsHeld t.broker → IsHeld (route t).broker
unfolding route
routed t h = routed_some (length t.waiting + length t.broker.sessions) t h

-- ---- the acts

on_each : (f : Newcomer → Newcomer) (g : Connection → Connection) (t : Turn) → IsHeld t.broker → IsHeld (on_connections f g t).broker
on_each f g t h = record { apart = apart_map t.broker.sessions h.apart; low = low_map t.broker.sessions h.low; few = (let same = total_map t.broker.sessions in let most = h.few in omega arith) }
  where
    put : Session → Session
    put s = record s { here = option_map g s.here }

    off_map : (k : ℕ) (ss : List Session) → AllByRecursion (λ (t : Session). k ≢ t.key) ss → AllByRecursion (λ (t : Session). k ≢ t.key) (map (λ (s : Session). record s { here = option_map g s.here }) ss)
    off_map k [] a = tt
    off_map k (s ∷ ss) a = (a.0, off_map k ss a.1)

    apart_map : (ss : List Session) → Apart ss → Apart (map (λ (s : Session). record s { here = option_map g s.here }) ss)
    apart_map [] a = tt
    apart_map (s ∷ ss) a = (off_map s.key ss a.0, apart_map ss a.1)

    low_map : (ss : List Session) → AllByRecursion (λ (s : Session). s.key ≤ t.broker.made) ss → AllByRecursion (λ (s : Session). s.key ≤ t.broker.made) (map (λ (s : Session). record s { here = option_map g s.here }) ss)
    low_map [] a = tt
    low_map (s ∷ ss) a = (a.0, low_map ss a.1)

    total_map : (ss : List Session) → all_grants (map (λ (s : Session). record s { here = option_map g s.here }) ss) ≡ all_grants ss
    total_map [] = refl
    total_map (s ∷ ss) = ap (λ r. length (s.grants ++ r)) refl ∙ more s ss (total_map ss)
      where
        more : (s : Session) (ss : List Session) → all_grants (map (λ (s : Session). record s { here = option_map g s.here }) ss) ≡ all_grants ss
            → all_grants (record s { here = option_map g s.here } ∷ map (λ (s : Session). record s { here = option_map g s.here }) ss) ≡ all_grants (s ∷ ss)
        more s ss e =
            let one : all_grants (record s { here = option_map g s.here } ∷ map (λ (s : Session). record s { here = option_map g s.here }) ss) ≡ length s.grants + all_grants (map (λ (s : Session). record s { here = option_map g s.here }) ss) =
            total_more (record s { here = option_map g s.here }) (map (λ (s : Session). record s { here = option_map g s.here }) ss) in
            let two : all_grants (s ∷ ss) ≡ length s.grants + all_grants ss = total_more s ss in
            omega arith

gone : (b : Broker) (p : Session → Bool) (s : Session) → find p b.sessions ≡ Some s → IsHeld b → IsHeld (record b { sessions = swap s.key [] b.sessions })
gone b p s e h = lighter b p s [] tt (let none : all_grants [] ≡ 0 = refl in omega arith) e h

like : (b : Broker) (p : Session → Bool) (s x : Session) → x.key ≡ s.key → length x.grants ≡ length s.grants → find p b.sessions ≡ Some s → IsHeld b
    → IsHeld (record b { sessions = swap s.key (x ∷ []) b.sessions })
like b p s x key same e h = lighter b p s (x ∷ []) key (let is = of_one x in omega arith) e h

left : (c : ℕ) (wills : Bool) (t : Turn) (o : Option Session) → session_by c t.broker.sessions ≡ o → IsHeld t.broker → IsHeld (leave_at o c wills t).broker
left c wills t None e h = record { apart = h.apart; low = h.low; few = h.few }
left c wills t (Some s) e h = by s.kept
  where
    by : (b : Bool) → IsHeld (record t.broker { sessions = swap s.key (cond b ((record s { here = None }) ∷ []) []) t.broker.sessions })
    by true = like t.broker (sits c) s (record s { here = None }) refl refl e h
    by false = gone t.broker (sits c) s e h

forgotten : (client : List ℕ) (t : Turn) (o : Option Session) → find (is_away client) t.broker.sessions ≡ o → IsHeld t.broker → IsHeld (forget_at o t).broker
forgotten client t None e h = h
forgotten client t (Some s) e h = gone t.broker (is_away client) s e h

off_all : (k top : ℕ) (ss : List Session) (x : Session) → k ≤ top → x.key ≡ top + 1 → AllByRecursion (λ (t : Session). k ≢ t.key) ss → AllByRecursion (λ (t : Session). k ≢ t.key) (ss ++ x ∷ [])
off_all k top [] x le e a = ((λ f. let same : k ≡ top + 1 = f ∙ e in absurd (above k top le same)), tt)
  where
    above : (k top : ℕ) → k ≤ top → k ≡ top + 1 → ⊥
    above k top le same = omega arith
off_all k top (s ∷ ss) x le e a = (a.0, off_all k top ss x le e a.1)

apart_new : (top : ℕ) (ss : List Session) (x : Session) → x.key ≡ top + 1 → AllByRecursion (λ (s : Session). s.key ≤ top) ss → Apart ss → Apart (ss ++ x ∷ [])
apart_new top [] x e low a = (tt, tt)
apart_new top (s ∷ ss) x e low a = (off_all s.key top ss x low.0 e a.0, apart_new top ss x e low.1 a.1)

low_new : (top : ℕ) (ss : List Session) (x : Session) → x.key ≡ top + 1 → AllByRecursion (λ (s : Session). s.key ≤ top) ss → AllByRecursion (λ (s : Session). s.key ≤ top + 1) (ss ++ x ∷ [])
low_new top [] x e low = (subst (λ k. k ≤ top + 1) (sym e) (omega arith), tt)
low_new top (s ∷ ss) x e low = ((let le = low.0 in omega arith), low_new top ss x e low.1)

up : (kept : Bool) (client : List ℕ) (connection : Connection) (t : Turn) (o : Option Session) → away_for kept client t.broker.sessions ≡ o → IsHeld t.broker → IsHeld (take_up o client kept connection t).broker
up kept client connection t None e h =
    let x : Session = new_session (t.broker.made + 1) client kept connection in
    let sum : all_grants (t.broker.sessions ++ x ∷ []) ≡ all_grants t.broker.sessions + all_grants (x ∷ []) = total_both t.broker.sessions (x ∷ []) in
    let none : all_grants (x ∷ []) ≡ 0 = of_one x in
    record {
      apart = apart_new t.broker.made t.broker.sessions x refl h.low h.apart;
      low = low_new t.broker.made t.broker.sessions x refl h.low;
      few = (let most = h.few in omega arith);
    }
up true client connection t (Some s) e h =
    let next = like t.broker (is_away client) s (record s { here = Some connection; in_flight = map handed_out s.in_flight }) refl refl e h in
    record { apart = next.apart; low = next.low; few = next.few }
up false client connection t (Some s) e h = no_some s e

accepted : (c : ℕ) (o : Option Newcomer) (client : List ℕ) (kept : Bool) (alive : ℕ) (will : Option AppMessage) (t : Turn) → IsHeld t.broker → IsHeld (accept_of o client kept alive will t).broker
accepted c None client kept alive will t h = h
accepted c (Some g) client kept alive will t h = up kept client (connection_of g alive will) t (away_for kept client t.broker.sessions) refl h

same_of : (key : ℕ) (ss : List Session) (s : Session) → find (λ (x : Session). x.key == key) ss ≡ Some s → s.key ≡ key
same_of key [] s e = no_some s e
same_of key (t ∷ ts) s e = by (eqb_tells t.key key) (λ h. same_of key ts s h)
  where
    by : (((t.key == key) ≡ true) × (t.key ≡ key)) ⊎ (((t.key == key) ≡ false) × (t.key ≢ key)) → (find (λ (x : Session). x.key == key) ts ≡ Some s → s.key ≡ key) → s.key ≡ key
    by (inl f) rest = ap (λ (u : Session). u.key) (sym (some_is t s (sym (ap (λ b. cond b (Some t) (find (λ (x : Session). x.key == key) ts)) f.0) ∙ e))) ∙ f.1
    by (inr f) rest = rest (sym (ap (λ b. cond b (Some t) (find (λ (x : Session). x.key == key) ts)) f.0) ∙ e)

pub offered_at : (key : ℕ) (app_message : AppMessage) (t : Turn) (o : Option Session) → with_key key t.broker.sessions ≡ o → IsHeld t.broker → IsHeld (offer_at o key app_message t).broker
offered_at key app_message t None e h = h
offered_at key app_message t (Some s) e h =
    let same : s.key ≡ key = same_of key t.broker.sessions s e in
    subst (λ k. IsHeld (record t.broker { sessions = swap k (hand app_message s).left t.broker.sessions })) same
    (lighter t.broker (λ (x : Session). x.key == key) s (hand app_message s).left (one_hand app_message.qos app_message s) (light_hand app_message.qos app_message s) e h)

offers : (key : ℕ) (app_messages : List AppMessage) (t : Turn) → IsHeld t.broker → IsHeld (fold (offer key) t app_messages).broker
offers key [] t h = h
offers key (p ∷ ps) t h = offers key ps (offer key t p) (offered_at key p t (with_key key t.broker.sessions) refl h)

-- a filter that stands keeps its place, a new one is granted only where there are few enough
entry_fits : (others : ℕ) (grants : Table ℕ) (e : List ℕ × ℕ) → others + length grants ≤ 10000 → others + length (with_entry others grants e) ≤ 10000
entry_fits others grants e le = known (has e.0 grants) refl (ltb (others + length grants) most_grants) refl
  where
    long : length (grants ++ (e.0, min 1 e.1) ∷ []) ≡ length grants + 1
    long = length-append grants ((e.0, min 1 e.1) ∷ [])

    same : length (map (replaced e.0 (min 1 e.1)) grants) ≡ length grants
    same = length-map grants (replaced e.0 (min 1 e.1))

    known : (b : Bool) → has e.0 grants ≡ b → (r : Bool) → ltb (others + length grants) most_grants ≡ r
        → others + length (cond (b || r) (cond b (map (replaced e.0 (min 1 e.1)) grants) (grants ++ (e.0, min 1 e.1) ∷ [])) grants) ≤ 10000
    known true f r g = let is = same in omega arith
    known false f true g = let room : others + length grants < 10000 = ltb-true (others + length grants) most_grants g in let is = long in omega arith
    known false f false g = le

entries_fit : (others : ℕ) (grants : Table ℕ) (entries : List (List ℕ × ℕ)) → others + length grants ≤ 10000 → others + length (fold (with_entry others) grants entries) ≤ 10000
entries_fit others grants [] le = le
entries_fit others grants (e ∷ es) le = entries_fit others (with_entry others grants e) es (entry_fits others grants e le)

pub granted : (c : ℕ) (t : Turn) (s : Session) (entries : List (List ℕ × ℕ)) → session_by c t.broker.sessions ≡ Some s → IsHeld t.broker
    → IsHeld (record t.broker { sessions = swap s.key ((record s { grants = fold (with_entry (other_grants s t.broker.sessions)) s.grants entries }) ∷ []) t.broker.sessions })
granted c t s entries e h =
    let others = other_grants s t.broker.sessions in
    let new : Table ℕ = fold (with_entry others) s.grants entries in
    let mine : length s.grants ≤ all_grants t.broker.sessions = within (sits c) t.broker.sessions s e in
    let most : all_grants t.broker.sessions ≤ 10000 = h.few in
    let split : others + length s.grants ≡ all_grants t.broker.sessions = (let is : others ≡ all_grants t.broker.sessions - length s.grants = refl in omega arith) in
    let fits : others + length new ≤ 10000 = entries_fit others s.grants entries (omega arith) in
    let is : all_grants ((record s { grants = new }) ∷ []) ≡ length new = of_one (record s { grants = new }) in
    one_of t.broker (sits c) s ((record s { grants = new }) ∷ []) refl e (omega arith) h

given : (c id : ℕ) (entries : List (List ℕ × ℕ)) (t : Turn) (o : Option Session) → session_by c t.broker.sessions ≡ o → IsHeld t.broker → IsHeld (give_at o c id entries t).broker
given c id entries t None e h = h
given c id entries t (Some s) e h =
    offers s.key (flat_map (offers_to t.broker.retained) (granted_of (other_grants s t.broker.sessions) s.grants entries)) _ (granted c t s entries e h)

fewer : (b : Bool) (x : List ℕ × ℕ) (kept xs : Table ℕ) → length kept ≤ length xs → length (cond b (x ∷ kept) kept) ≤ suc (length xs)
fewer true x kept xs h = omega arith
fewer false x kept xs h = omega arith

removed : (key : List ℕ) (grants : Table ℕ) → length (remove key grants) ≤ length grants
removed key [] = omega arith
removed key (e ∷ es) = fewer (not (bytes_eq e.0 key)) e (remove key es) es (removed key es)

all_removed : (filters : List (List ℕ)) (grants : Table ℕ) → length (fold (λ g f. remove f g) grants filters) ≤ length grants
all_removed [] grants = omega arith
all_removed (f ∷ fs) grants = let one = removed f grants in let rest = all_removed fs (remove f grants) in omega arith

taken : (c : ℕ) (filters : List (List ℕ)) (t : Turn) (o : Option Session) → session_by c t.broker.sessions ≡ o → IsHeld t.broker → IsHeld (take_at o filters t).broker
taken c filters t None e h = h
taken c filters t (Some s) e h =
    let x : Session = record s { grants = fold (λ g f. remove f g) s.grants filters } in
    lighter t.broker (sits c) s (x ∷ []) refl (let is = of_one x in let less = all_removed filters s.grants in omega arith) e h

acked : (c id : ℕ) (t : Turn) (o : Option Session) → session_by c t.broker.sessions ≡ o → IsHeld t.broker → IsHeld (ack_at o id t).broker
acked c id t None e h = h
acked c id t (Some s) e h = like t.broker (sits c) s (record s { used = without id s.used; in_flight = without_id id s.in_flight }) refl refl e h

pub held_by : (a : Act) (t : Turn) → IsHeld t.broker → IsHeld (act a t).broker
held_by Opens t h = record { apart = h.apart; low = h.low; few = h.few }
held_by (At moment) t h = record { apart = h.apart; low = h.low; few = h.few }
held_by (Hear c) t h = on_each (newcomer_heard c t.broker.clock) (connection_heard c t.broker.clock) t h
held_by (Drop c) t h = on_each (newcomer_dropped c) (connection_dropped c) t h
held_by (Say c p) t h = h
held_by (Leave c wills) t h = left c wills t (session_by c t.broker.sessions) refl h
held_by (Tell c) t h = h
held_by (Queue app_message) t h = h
held_by Route t h = routed t h
held_by (Forget client) t h = forgotten client t (find (is_away client) t.broker.sessions) refl h
held_by (Accept c client kept alive will) t h = accepted c (find (is_newcomer c) t.broker.newcomers) client kept alive will t h
held_by (Give c id entries) t h = given c id entries t (session_by c t.broker.sessions) refl h
held_by (Take c filters) t h = taken c filters t (session_by c t.broker.sessions) refl h
held_by (Ack c id) t h = acked c id t (session_by c t.broker.sessions) refl h

pub held_by_all : (as_list : List Act) (t : Turn) → IsHeld t.broker → IsHeld (acts as_list t).broker
held_by_all [] t h = h
held_by_all (a ∷ as_list) t h = held_by_all as_list (act a t) (held_by a t h)

pub stepped : (b : Broker) (e : Event) → IsHeld b → IsHeld (step b e).broker
unfolding step
stepped b e h = held_by_all (plan (seen (noted b e).broker e) e) (noted b e) (held_by_all (before e) (begun b) h)

pub held : (limit : ℕ) (es : List Event) → IsHeld (after limit es)
held limit [] = record { apart = tt; low = tt; few = (let none : all_grants [] ≡ 0 = refl in omega arith) }
held limit (e ∷ es) = stepped (after limit es) e (held limit es)

pub few_grants : (limit : ℕ) (es : List Event) → all_grants (after limit es).sessions ≤ 10000
few_grants limit es = (held limit es).few
