-- A tick at which somebody is silent, and what is noted of it.
use Rattle.std.proofs.Common.{◌≡◌, ℕ, suc, ◌+◌, ◌-◌, ◌≤◌, max, Bool, true, false, not, ◌||◌, cond, eqb, nat_lt, List, [], ◌∷◌, ◌++◌, map, length, refl, sym, ◌∙◌, ap, ap₂, arith, subst, append_assoc, Option, Some, None}
use Rattle.std.specs.List.{find, flat_map, list_any, AllByRecursion}
use Rattle.std.specs.Option.{option_map, option_map_or, is_some}
use Rattle.std.proofs.lemmas.Bool.{lt-ltb, or_left, or_right}
use Rattle.std.proofs.lemmas.List.{length-append}
use Rattle.std.proofs.lemmas.List.Folds.{list_any-append}
use Rattle.spk_packets.specs.Fault.{first_of}
use Rattle.spk_packets.specs.Message.{PingReq, PingResp}
use Rattle.spk_packets.specs.Spelling.{unwritable, spelling, body, shortest, has_bad_text, has_bad_body, is_qos_two}
use Rattle.spk_broker_rules.specs.Data.{Connection, Session, Broker}
use Rattle.spk_broker_rules.specs.Lawful.{IsLawful}
use Rattle.spk_broker_rules.specs.Words.{is_silent}
use Rattle.spk_broker_rules.specs.Plan.{Event, Tick, At, Hear, Leave, Tell, Say, shut, tick}
use Rattle.spk_broker_rules.specs.Step.{Turn, acts, connection_heard, sits, session_by, silent_at, noted, begun, step}
use Rattle.spk_broker_rules.proofs.Lists.{eqb-flip, eqb-self, flat_map-append, all-also, all-flat}
use Rattle.spk_broker_rules.proofs.Places.{bit, tally, tally-cons, tally-append, bit-one}
use Rattle.spk_broker_rules.proofs.Routing.{route-done}
use Rattle.spk_broker_replay.specs.Replay.{Follows, IsTimed, bare_connection, bare_session, heard_at, late, notes, pause, ping, run}
use Rattle.spk_broker_replay.proofs.Bare.{strip}
use Rattle.spk_broker_replay.proofs.Follow.{bares, begun-alike, begun-timed, both, bare-of, follows-of, neither, noted-same, step-is}
use Rattle.spk_broker_replay.proofs.Plans.{joined-alike}
use Rattle.spk_broker_replay.proofs.Timed.{acts-timed, Connected}

-- ---- a ping

abbrev told_session : ℕ → ℕ → Session → Session
told_session c k s = record s { here = option_map (connection_heard c k) s.here }

-- heard for each of these connections
abbrev told : List ℕ → ℕ → Session → Session
told [] k s = s
told (c ∷ cs) k s = told cs k (told_session c k s)

ping-written : is_some (first_of (unwritable PingReq)) ≡ false
unfolding has_bad_text has_bad_body is_qos_two spelling body shortest
ping-written = refl

ping-plan : (u j : Bool) (c : ℕ) → u ≡ false → j ≡ true → cond u (shut c) (cond j (Say c PingResp ∷ []) (shut c)) ≡ Say c PingResp ∷ []
ping-plan u j c a b = rw (a, b) refl

joined-told : (c k : ℕ) (n : Broker) → is_some (session_by c n.sessions) ≡ true → is_some (session_by c (noted n (ping k c)).broker.sessions) ≡ true
joined-told c k n h = sym (joined-alike c n (noted n (ping k c)).broker (sym (bare-of (noted n (ping k c)) (begun n) (noted-same n (ping k c))))) ∙ h

pinged : (c k : ℕ) (n : Broker) → is_some (session_by c n.sessions) ≡ true → step n (ping k c) ≡ acts (Say c PingResp ∷ []) (noted n (ping k c))
pinged c k n h = step-is n (ping k c)
    ∙ ap (λ l. acts l (noted n (ping k c))) (ping-plan (is_some (first_of (unwritable PingReq))) (is_some (session_by c (noted n (ping k c)).broker.sessions)) c ping-written (joined-told c k n h))

abbrev Joined : Broker → List ℕ → Type 0
Joined n cs = AllByRecursion (λ c. is_some (session_by c n.sessions) ≡ true) cs

-- after these pings
record Told (b n x : Broker) (cs : List ℕ) (k : ℕ) : Type 0 where
  follows : Follows b x
  clock : x.clock ≤ k
  sessions : x.sessions ≡ map (told cs k) n.sessions

map-none : (k : ℕ) (ss : List Session) → map (told [] k) ss ≡ ss
map-none k [] = refl
map-none k (s ∷ ss) = ap (λ xs. s ∷ xs) (map-none k ss)

map-told : (c k : ℕ) (cs : List ℕ) (ss : List Session) → map (told cs k) (map (told_session c k) ss) ≡ map (told (c ∷ cs) k) ss
map-told c k cs [] = refl
map-told c k cs (s ∷ ss) = ap (λ xs. told cs k (told_session c k s) ∷ xs) (map-told c k cs ss)

ping-follows : (c k : ℕ) (b n : Broker) → Follows b n → is_some (session_by c n.sessions) ≡ true → Follows b (step n (ping k c)).broker
ping-follows c k b n fine h = subst (λ (t : Turn). Follows b t.broker) (sym (pinged c k n h))
    (follows-of (begun b) (acts (Say c PingResp ∷ []) (noted n (ping k c)))
    (begun-alike b n fine.same ∙ sym (noted-same n (ping k c)))
    (acts-timed (At k ∷ Hear c ∷ Say c PingResp ∷ []) (begun n) (begun-timed b n fine)))

top : (a k : ℕ) → a ≤ k → max a k ≡ k
top a k h = omega arith

ping-clock : (c k : ℕ) (n : Broker) → is_some (session_by c n.sessions) ≡ true → n.clock ≤ k → (step n (ping k c)).broker.clock ≤ k
ping-clock c k n h low = let e : (step n (ping k c)).broker.clock ≡ max n.clock k = ap (λ (t : Turn). t.broker.clock) (pinged c k n h) in omega arith

ping-sessions : (c k : ℕ) (n : Broker) → is_some (session_by c n.sessions) ≡ true → n.clock ≤ k → (step n (ping k c)).broker.sessions ≡ map (told_session c k) n.sessions
ping-sessions c k n h low = ap (λ (t : Turn). t.broker.sessions) (pinged c k n h) ∙ ap (λ m. map (told_session c m) n.sessions) (top n.clock k low)

joined-same : (b n x : Broker) (cs : List ℕ) → Follows b n → Follows b x → Joined n cs → Joined x cs
joined-same b n x cs f g all = all-also (λ c. is_some (session_by c n.sessions) ≡ true) (λ c. is_some (session_by c x.sessions) ≡ true) (λ c h. joined-alike c x n (sym g.same ∙ f.same) ∙ h) cs all

pings : (cs : List ℕ) (k : ℕ) (b n : Broker) → Follows b n → n.clock ≤ k → Joined n cs → Told b n (run n (map (ping k) cs)) cs k
pings [] k b n fine low all = record { follows = fine; clock = low; sessions = sym (map-none k n.sessions) }
pings (c ∷ cs) k b n fine low all =
    let next : Follows b (step n (ping k c)).broker = ping-follows c k b n fine all.0 in
    let rest : Told b (step n (ping k c)).broker (run (step n (ping k c)).broker (map (ping k) cs)) cs k =
    pings cs k b (step n (ping k c)).broker next (ping-clock c k n all.0 low) (joined-same b n (step n (ping k c)).broker cs fine next all.1) in
    record { follows = rest.follows; clock = rest.clock; sessions = rest.sessions ∙ ap (map (told cs k)) (ping-sessions c k n all.0 low) ∙ map-told c k cs n.sessions }

-- each front of the pings, and of the pings and the tick
pub pings-front : (cs : List ℕ) (k : ℕ) (b n : Broker) (left : List Event) (x : Event) (rest : List Event) → Follows b n → n.clock ≤ k → Joined n cs
    → map (ping k) cs ++ Tick k ∷ [] ≡ left ++ x ∷ rest → Follows b (run n left)
pings-front cs k b n [] x rest fine low all e = fine
pings-front [] k b n (l ∷ left) x rest fine low all e =
    absurd (let a : 1 ≡ suc (length (left ++ x ∷ rest)) = ap length e in let d = length-append left (x ∷ rest) in omega arith)
pings-front (c ∷ cs) k b n (l ∷ left) x rest fine low all e =
    let first : ping k c ≡ l = cc in
    let others : map (ping k) cs ++ Tick k ∷ [] ≡ left ++ x ∷ rest = cc in
    let next : Follows b (step n (ping k c)).broker = ping-follows c k b n fine all.0 in
    subst (λ y. Follows b (run (step n y).broker left)) first
    (pings-front cs k b (step n (ping k c)).broker left x rest next (ping-clock c k n all.0 low) (joined-same b n (step n (ping k c)).broker cs fine next all.1) others)

-- ---- who is heard, and who is silent

-- a connection of these data: it sits there, and is among those that are heard exactly where it isn't silent
abbrev Fact : List Session → List ℕ → ℕ → Option Connection → Type 0
Fact sessions heard k None = Unit {0}
Fact sessions heard k (Some l) = (is_some (session_by l.conn sessions) ≡ true) × (list_any (λ c. eqb l.conn c) heard ≡ not (is_silent k l.alive l.heard))

found-mid : (p : Session → Bool) (pre ss : List Session) (s : Session) → p s ≡ true → is_some (find p (pre ++ s ∷ ss)) ≡ true
found-mid p [] ss s h = ap (λ b. is_some (cond b (Some s) (find p ss))) h
found-mid p (x ∷ pre) ss s h = by (p x) (found-mid p pre ss s h)
  where
    by : (b : Bool) → is_some (find p (pre ++ s ∷ ss)) ≡ true → is_some (cond b (Some x) (find p (pre ++ s ∷ ss))) ≡ true
    by true rest = refl
    by false rest = rest

any-mid : (q : ℕ → Bool) (f : Session → List ℕ) (pre ss : List Session) (s : Session)
    → list_any q (flat_map f (pre ++ s ∷ ss)) ≡ (list_any q (flat_map f pre) || (list_any q (f s) || list_any q (flat_map f ss)))
any-mid q f pre ss s =
    ap (list_any q) (flat_map-append f pre (s ∷ ss))
    ∙ list_any-append q (flat_map f pre) (f s ++ flat_map f ss)
    ∙ ap (λ b. list_any q (flat_map f pre) || b) (list_any-append q (f s) (flat_map f ss))

none-heard : (c k : ℕ) (xs : List Session) → tally (sits c) xs ≡ 0 → list_any (λ d. eqb c d) (flat_map (heard_at k) xs) ≡ false
none-heard c k [] h = refl
none-heard c k (x ∷ xs) h = by x.here refl (none-heard c k xs few)
  where
    few : tally (sits c) xs ≡ 0
    few = let a = tally-cons (sits c) x xs in omega arith

    away : sits c x ≡ false
    away = off (sits c x) (let a = tally-cons (sits c) x xs in omega arith)
      where
        off : (b : Bool) → bit b ≡ 0 → b ≡ false
        off true e = absurd (omega arith)
        off false e = refl

    one : (l : Connection) (v : Bool) → eqb l.conn c ≡ false → list_any (λ d. eqb c d) (flat_map (heard_at k) xs) ≡ false → list_any (λ d. eqb c d) (cond v [] (l.conn ∷ []) ++ flat_map (heard_at k) xs) ≡ false
    one l true e rest = rest
    one l false e rest = ap (λ b. b || list_any (λ d. eqb c d) (flat_map (heard_at k) xs)) (eqb-flip c l.conn ∙ e) ∙ rest

    by : (o : Option Connection) → x.here ≡ o → list_any (λ d. eqb c d) (flat_map (heard_at k) xs) ≡ false
        → list_any (λ d. eqb c d) (option_map_or (λ (l : Connection). cond (is_silent k l.alive l.heard) [] (l.conn ∷ [])) o [] ++ flat_map (heard_at k) xs) ≡ false
    by None e rest = rest
    by (Some l) e rest = one l (is_silent k l.alive l.heard) (sym (ap (λ o. option_map_or (λ (z : Connection). eqb z.conn c) o false) e) ∙ away) rest

fact-at : (all pre ss : List Session) (s : Session) (k : ℕ) → all ≡ pre ++ s ∷ ss → ((c : ℕ) → tally (sits c) all ≤ 1) → Fact all (flat_map (heard_at k) all) k s.here
fact-at all pre ss s k e few = by s.here refl
  where
    by : (o : Option Connection) → s.here ≡ o → Fact all (flat_map (heard_at k) all) k o
    by None h = tt
    by (Some l) h = (ap (λ xs. is_some (session_by l.conn xs)) e ∙ found-mid (sits l.conn) pre ss s sat, ap (λ xs. list_any (λ c. eqb l.conn c) (flat_map (heard_at k) xs)) e ∙ any-mid (λ c. eqb l.conn c) (heard_at k) pre ss s ∙ told_of (is_silent k l.alive l.heard) refl)
      where
        sat : sits l.conn s ≡ true
        sat = ap (λ o. option_map_or (λ (z : Connection). eqb z.conn l.conn) o false) h ∙ eqb-self l.conn

        count : tally (sits l.conn) pre + suc (tally (sits l.conn) ss) ≤ 1
        count =
            let a = few l.conn in
            let b : tally (sits l.conn) all ≡ tally (sits l.conn) (pre ++ s ∷ ss) = ap (tally (sits l.conn)) e in
            let d = tally-append (sits l.conn) pre (s ∷ ss) in
            let f = tally-cons (sits l.conn) s ss in
            let g = bit-one (sits l.conn s) sat in
            omega arith

        here : heard_at k s ≡ cond (is_silent k l.alive l.heard) [] (l.conn ∷ [])
        here = ap (λ o. option_map_or (λ (z : Connection). cond (is_silent k z.alive z.heard) [] (z.conn ∷ [])) o []) h

        told_of : (v : Bool) → is_silent k l.alive l.heard ≡ v
            → (list_any (λ c. eqb l.conn c) (flat_map (heard_at k) pre) || (list_any (λ c. eqb l.conn c) (heard_at k s) || list_any (λ c. eqb l.conn c) (flat_map (heard_at k) ss))) ≡ not (is_silent k l.alive l.heard)
        told_of true v =
            ap₂ (λ x y. x || (list_any (λ c. eqb l.conn c) (heard_at k s) || y)) (none-heard l.conn k pre (let a = count in omega arith)) (none-heard l.conn k ss (let a = count in omega arith))
            ∙ ap (λ xs. list_any (λ c. eqb l.conn c) xs || false) (here ∙ ap (λ b. cond b [] (l.conn ∷ [])) v)
            ∙ ap not (sym v)
        told_of false v =
            or_right (list_any (λ c. eqb l.conn c) (flat_map (heard_at k) pre)) _
            (or_left (list_any (λ c. eqb l.conn c) (heard_at k s)) _ (ap (list_any (λ c. eqb l.conn c)) (here ∙ ap (λ b. cond b [] (l.conn ∷ [])) v) ∙ or_left (eqb l.conn l.conn) false (eqb-self l.conn)))
            ∙ ap not (sym v)

facts : (all pre ss : List Session) (k : ℕ) → all ≡ pre ++ ss → ((c : ℕ) → tally (sits c) all ≤ 1) → AllByRecursion (λ (s : Session). Fact all (flat_map (heard_at k) all) k s.here) ss
facts all pre [] k e few = tt
facts all pre (s ∷ ss) k e few = (fact-at all pre ss s k e few, facts all (pre ++ s ∷ []) ss k (e ∙ sym (append_assoc pre (s ∷ []) ss)) few)

-- all that are heard sit there
heard-joined : (all ss : List Session) (heard : List ℕ) (k : ℕ) → AllByRecursion (λ (s : Session). Fact all heard k s.here) ss → AllByRecursion (λ c. is_some (session_by c all) ≡ true) (flat_map (heard_at k) ss)
heard-joined all ss heard k h = all-flat (λ (s : Session). Fact all heard k s.here) (λ c. is_some (session_by c all) ≡ true) (heard_at k) (λ s f. by s.here f) ss h
  where
    one : (l : Connection) (v : Bool) → is_some (session_by l.conn all) ≡ true → AllByRecursion (λ c. is_some (session_by c all) ≡ true) (cond v [] (l.conn ∷ []))
    one l true e = tt
    one l false e = (e, tt)

    by : (o : Option Connection) → Fact all heard k o → AllByRecursion (λ c. is_some (session_by c all) ≡ true) (option_map_or (λ (l : Connection). cond (is_silent k l.alive l.heard) [] (l.conn ∷ [])) o [])
    by None f = tt
    by (Some l) f = one l (is_silent k l.alive l.heard) f.0

-- ---- silence after the pings

told-here : (cs : List ℕ) (k : ℕ) (s : Session) → (told cs k s).here ≡ option_map (λ (l : Connection). record l { heard = cond (list_any (λ c. eqb l.conn c) cs) k l.heard }) s.here
told-here [] k s = by s.here
  where
    by : (o : Option Connection) → o ≡ option_map (λ (l : Connection). record l { heard = l.heard }) o
    by None = refl
    by (Some l) = refl
told-here (c ∷ cs) k s = told-here cs k (told_session c k s) ∙ by s.here
  where
    same : (b : Bool) → cond b k k ≡ k
    same true = refl
    same false = refl

    one : (l : Connection) (v : Bool) → (record (cond v (record l { heard = k }) l) { heard = cond (list_any (λ d. eqb (cond v (record l { heard = k }) l).conn d) cs) k (cond v (record l { heard = k }) l).heard })
        ≡ record l { heard = cond (v || list_any (λ d. eqb l.conn d) cs) k l.heard }
    one l true = ap (λ h. record l { heard = h }) (same (list_any (λ d. eqb l.conn d) cs))
    one l false = refl

    by : (o : Option Connection) → option_map (λ (l : Connection). record l { heard = cond (list_any (λ d. eqb l.conn d) cs) k l.heard }) (option_map (connection_heard c k) o)
        ≡ option_map (λ (l : Connection). record l { heard = cond (list_any (λ d. eqb l.conn d) (c ∷ cs)) k l.heard }) o
    by None = refl
    by (Some l) = ap Some (one l (eqb l.conn c))

fresh : (k : ℕ) → is_silent k 1 k ≡ false
fresh k = ap (λ d. nat_lt 1500 d) none
  where
    none : k - k ≡ 0
    none = omega arith

old : (j h : ℕ) → h ≤ j → is_silent (j + 2000) 1 h ≡ true
old j h low = lt-ltb 1500 (j + 2000 - h) (omega arith)

silent-one : (cs : List ℕ) (all : List Session) (k j : ℕ) (b x : Session) → option_map bare_connection b.here ≡ option_map bare_connection x.here → Fact all cs k b.here → IsTimed j x.here
    → silent_at (j + pause) (told cs (j + pause) x) ≡ silent_at k b
silent-one cs all k j b x same fact timed = ap (λ o. option_map_or (λ (l : Connection). cond (is_silent (j + 2000) l.alive l.heard) (l.conn ∷ []) []) o []) (told-here cs (j + 2000) x) ∙ by b.here x.here same fact timed
  where
    one : (l y : Connection) (v a : Bool) → l.conn ≡ y.conn → y.alive ≡ 1 → y.heard ≤ j → a ≡ not v
        → cond (is_silent (j + 2000) y.alive (cond a (j + 2000) y.heard)) (y.conn ∷ []) [] ≡ cond v (l.conn ∷ []) []
    one l y true a c sec low e =
        ap₂ (λ (t : ℕ) (b : Bool). cond (is_silent (j + 2000) t (cond b (j + 2000) y.heard)) (y.conn ∷ []) []) sec e
        ∙ ap (λ b. cond b (y.conn ∷ []) []) (old j y.heard low) ∙ ap (λ n. n ∷ []) (sym c)
    one l y false a c sec low e =
        ap₂ (λ (t : ℕ) (b : Bool). cond (is_silent (j + 2000) t (cond b (j + 2000) y.heard)) (y.conn ∷ []) []) sec e
        ∙ ap (λ b. cond b (y.conn ∷ []) []) (fresh (j + 2000))

    by : (o p : Option Connection) → option_map bare_connection o ≡ option_map bare_connection p → Fact all cs k o → IsTimed j p
        → option_map_or (λ (l : Connection). cond (is_silent (j + 2000) l.alive l.heard) (l.conn ∷ []) []) (option_map (λ (l : Connection). record l { heard = cond (list_any (λ c. eqb l.conn c) cs) (j + 2000) l.heard }) p) []
        ≡ option_map_or (λ (l : Connection). cond (is_silent k l.alive l.heard) (l.conn ∷ []) []) o []
    by None None e f t = refl
    by None (Some y) e f t = absurd (none e)
      where
        none : {X : Type 0} {z : X} → None ≡ Some z → ⊥
        none h = cc
    by (Some l) None e f t = absurd (some e)
      where
        some : {X : Type 0} {z : X} → Some z ≡ None → ⊥
        some h = cc
    by (Some l) (Some y) e f t =
        let c : l.conn ≡ y.conn = ap (λ o. option_map_or (λ (z : Connection). z.conn) o 0) e in
        one l y (is_silent k l.alive l.heard) (list_any (λ d. eqb y.conn d) cs) c t.0 t.1 (ap (λ n. list_any (λ d. eqb n d) cs) (sym c) ∙ f.1)

silents : (cs : List ℕ) (all : List Session) (k j : ℕ) (bs xs : List Session) → map bare_session bs ≡ map bare_session xs → AllByRecursion (λ (s : Session). Fact all cs k s.here) bs → Connected j xs
    → flat_map (silent_at (j + pause)) (map (told cs (j + pause)) xs) ≡ flat_map (silent_at k) bs
silents cs all k j [] [] e f t = refl
silents cs all k j [] (x ∷ xs) e f t = absurd (none e)
  where
    none : {X : Type 0} {y : X} {ys : List X} → [] ≡ y ∷ ys → ⊥
    none h = cc
silents cs all k j (b ∷ bs) [] e f t = absurd (some e)
  where
    some : {X : Type 0} {y : X} {ys : List X} → y ∷ ys ≡ [] → ⊥
    some h = cc
silents cs all k j (b ∷ bs) (x ∷ xs) e f t =
    let first : bare_session b ≡ bare_session x = cc in
    let rest : map bare_session bs ≡ map bare_session xs = cc in
    ap₂ (λ xs ys. xs ++ ys) (silent-one cs all k j b x (ap (λ (s : Session). s.here) first) f.0 t.0) (silents cs all k j bs xs rest f.1 t.1)

-- ---- the tick

pub run-append : (n : Broker) (es fs : List Event) → run n (es ++ fs) ≡ run (run n es) fs
run-append n [] fs = refl
run-append n (e ∷ es) fs = run-append (step n e).broker es fs

tick-bare : (cs : List ℕ) → tick cs ≡ bares (tick cs)
tick-bare [] = refl
tick-bare (c ∷ cs) = ap (λ l. Leave c true ∷ Tell c ∷ l) (tick-bare cs)

few-sessions : (b : Broker) → IsLawful b → (c : ℕ) → tally (sits c) b.sessions ≤ 1
few-sessions b lawful c = let a = lawful.apart c in omega arith

tick-none : (b : Broker) (moment : ℕ) → flat_map (silent_at (max b.clock moment)) b.sessions ≡ [] → strip (step b (Tick moment)) ≡ strip (begun b)
tick-none b moment none =
    ap strip (step-is b (Tick moment) ∙ ap (λ cs. acts (tick cs) (noted b (Tick moment))) none)
    ∙ ap strip (route-done (noted b (Tick moment)) refl)
    ∙ noted-same b (Tick moment)

tick-late : (b n : Broker) (moment : ℕ) → IsLawful b → Follows b n
    → Follows (step b (Tick moment)).broker (run n (map (ping (n.clock + pause)) (flat_map (heard_at (max b.clock moment)) b.sessions) ++ Tick (n.clock + pause) ∷ []))
tick-late b n moment lawful fine = subst (Follows (step b (Tick moment)).broker) (sym (run-append n (map (ping m) heard) (Tick m ∷ [])))
    (both b x (Tick moment) (Tick m) after.follows
    (ap tick (ap₂ (λ t ss. flat_map (silent_at t) ss) (top x.clock m after.clock) after.sessions ∙ silents heard b.sessions k n.clock b.sessions n.sessions (ap (λ (z : Broker). z.sessions) fine.same) all fine.connections)
    ∙ tick-bare (flat_map (silent_at k) b.sessions)))
  where
    k : ℕ
    k = max b.clock moment

    m : ℕ
    m = n.clock + pause

    heard : List ℕ
    heard = flat_map (heard_at (max b.clock moment)) b.sessions

    all : AllByRecursion (λ (s : Session). Fact b.sessions (flat_map (heard_at (max b.clock moment)) b.sessions) (max b.clock moment) s.here) b.sessions
    all = facts b.sessions [] b.sessions (max b.clock moment) refl (few-sessions b lawful)

    x : Broker
    x = run n (map (ping (n.clock + pause)) (flat_map (heard_at (max b.clock moment)) b.sessions))

    after : Told b n (run n (map (ping (n.clock + pause)) (flat_map (heard_at (max b.clock moment)) b.sessions))) (flat_map (heard_at (max b.clock moment)) b.sessions) (n.clock + pause)
    after = pings (flat_map (heard_at (max b.clock moment)) b.sessions) (n.clock + pause) b n fine (omega arith)
        (all-also (λ c. is_some (session_by c b.sessions) ≡ true) (λ c. is_some (session_by c n.sessions) ≡ true) (λ c h. joined-alike c n b (sym fine.same) ∙ h)
        (flat_map (heard_at (max b.clock moment)) b.sessions) (heard-joined b.sessions b.sessions (flat_map (heard_at (max b.clock moment)) b.sessions) (max b.clock moment) all))

pub next-tick : (b n : Broker) (moment : ℕ) → IsLawful b → Follows b n → Follows (step b (Tick moment)).broker (run n (notes b n.clock (Tick moment)))
next-tick b n moment lawful fine = by (flat_map (silent_at (max b.clock moment)) b.sessions) refl
  where
    by : (cs : List ℕ) → flat_map (silent_at (max b.clock moment)) b.sessions ≡ cs → Follows (step b (Tick moment)).broker (run n (late cs (max b.clock moment) (n.clock + pause) b.sessions))
    by [] e = neither b n (Tick moment) fine (tick-none b moment e)
    by (c ∷ cs) e = tick-late b n moment lawful fine

-- a front of what is noted of a tick
pub tick-front : (b n : Broker) (moment : ℕ) (left : List Event) (x : Event) (rest : List Event) → IsLawful b → Follows b n
    → notes b n.clock (Tick moment) ≡ left ++ x ∷ rest → Follows b (run n left)
tick-front b n moment left x rest lawful fine e = by (flat_map (silent_at (max b.clock moment)) b.sessions) e
  where
    all : AllByRecursion (λ (s : Session). Fact b.sessions (flat_map (heard_at (max b.clock moment)) b.sessions) (max b.clock moment) s.here) b.sessions
    all = facts b.sessions [] b.sessions (max b.clock moment) refl (few-sessions b lawful)

    by : (cs : List ℕ) → late cs (max b.clock moment) (n.clock + pause) b.sessions ≡ left ++ x ∷ rest → Follows b (run n left)
    by [] h = absurd (let a : length (left ++ x ∷ rest) ≡ 0 = ap length (sym h) in let d = length-append left (x ∷ rest) in omega arith)
    by (c ∷ cs) h = pings-front (flat_map (heard_at (max b.clock moment)) b.sessions) (n.clock + pause) b n left x rest fine (omega arith)
        (all-also (λ c. is_some (session_by c b.sessions) ≡ true) (λ c. is_some (session_by c n.sessions) ≡ true) (λ c g. joined-alike c n b (sym fine.same) ∙ g)
        (flat_map (heard_at (max b.clock moment)) b.sessions) (heard-joined b.sessions b.sessions (flat_map (heard_at (max b.clock moment)) b.sessions) (max b.clock moment) all)) h
