-- What a will adds to the end of its connection is its routing.
use Rattle.std.proofs.Common.{◌≡◌, inl, inr, ℕ, ◌+◌, ◌≤◌, ◌==◌, Bool, true, false, not, ◌&&◌, cond, List, [], ◌∷◌, ◌++◌, map, max, length, refl, sym, ap, ◌∙◌, subst, arith, Option, Some, None}
use Rattle.std.specs.List.{filter}
use Rattle.std.specs.Option.{option_map, option_map_or, is_some}
use Rattle.std.proofs.lemmas.Bool.Decides.{eqb_tells}
use Rattle.spk_packets.specs.declared.fault.PacketFault.{PacketFault}
use Rattle.spk_packets.specs.Fault.{first_of}
use Rattle.spk_packets.specs.Message.{Disconnect}
use Rattle.spk_packets.specs.Spelling.{unwritable, has_bad_text, has_bad_body, is_qos_two, spelling, body, shortest}
use Rattle.spk_session.specs.declared.answer.Sort.TheVariants as sort
use Rattle.spk_broker_rules.specs.Data.{Connection, Session, Broker}
use Rattle.spk_broker_rules.specs.Words.{option_list}
use Rattle.spk_broker_rules.specs.Listening.{is_joined}
use Rattle.spk_broker_rules.specs.Plan.{Event, Open, Packet, Fault, Closed, Tick, Refused, Leave, Tell, is_bad_level, shut, turn_away}
use Rattle.spk_broker_rules.specs.Step.{Turn, act, acts, begun, leave_at, left_behind, connection_heard, noted, route, session_by, sits, step, swap, will_at, with_sessions}
use Rattle.spk_broker_limits.specs.Wills.{is_its_end, unwilled, will_in, without_will}
use Rattle.spk_broker_limits.proofs.Plans.{mapped, heard_conn}
use Rattle.spk_broker_limits.proofs.Summing.{Told, none_some, is_the, passes, yes_no}

abbrev strip : ℕ → Session → Session
strip c s = record s { here = option_map (unwilled c) s.here }

same_conn : (c : ℕ) (l : Connection) → (unwilled c l).conn ≡ l.conn
same_conn c l = by (l.conn == c)
  where
    by : (b : Bool) → (cond b (record l { will = None }) l).conn ≡ l.conn
    by true = refl
    by false = refl

same_sits : (c : ℕ) (o : Option Connection) → option_map_or (λ (l : Connection). l.conn == c) (option_map (unwilled c) o) false ≡ option_map_or (λ (l : Connection). l.conn == c) o false
same_sits c None = refl
same_sits c (Some l) = ap (λ d. d == c) (same_conn c l)

same_connection : (c : ℕ) (o : Option Connection) → option_map_or (λ (l : Connection). l.conn == c) o false ≡ false → option_map (unwilled c) o ≡ o
same_connection c None e = refl
same_connection c (Some l) e = ap (λ b. Some (cond b (record l { will = None }) l)) e

-- another's session stays as it is
same_session : (c : ℕ) (s : Session) → sits c s ≡ false → strip c s ≡ s
same_session c s e = ap (λ o. record s { here = o }) (same_connection c s.here e)

same_sessions : (c : ℕ) (ss : List Session) → length (filter (sits c) ss) ≡ 0 → map (strip c) ss ≡ ss
same_sessions c [] e = refl
same_sessions c (s ∷ ss) e = by (sits c s) refl e (same_sessions c ss)
  where
    by : (b : Bool) → sits c s ≡ b → length (cond b (s ∷ filter (sits c) ss) (filter (sits c) ss)) ≡ 0 → (length (filter (sits c) ss) ≡ 0 → map (strip c) ss ≡ ss) → strip c s ∷ map (strip c) ss ≡ s ∷ ss
    by true i f rest = absurd (omega arith)
    by false i f rest = ap (λ x. x ∷ map (strip c) ss) (same_session c s i) ∙ ap (λ xs. s ∷ xs) (rest f)

stripped : (c : ℕ) (s : Session) (ss : List Session) → session_by c ss ≡ Some s → session_by c (map (strip c) ss) ≡ Some (strip c s)
stripped c s [] e = none_some s e
stripped c s (t ∷ ts) e = ap (λ b. cond b (Some (strip c t)) (session_by c (map (strip c) ts))) (same_sits c t.here) ∙ by (sits c t) e (stripped c s ts)
  where
    by : (b : Bool) → cond b (Some t) (session_by c ts) ≡ Some s → (session_by c ts ≡ Some s → session_by c (map (strip c) ts) ≡ Some (strip c s)) → cond b (Some (strip c t)) (session_by c (map (strip c) ts)) ≡ Some (strip c s)
    by true f rest = ap (λ x. Some (strip c x)) (is_the t s f)
    by false f rest = rest f

-- the session of a key goes, and with it the only one that isn't the same
same_swap : (c : ℕ) (s : Session) (new ss : List Session) → length (filter (sits c) ss) ≤ 1 → session_by c ss ≡ Some s → swap s.key new (map (strip c) ss) ≡ swap s.key new ss
same_swap c s new [] n e = none_some s e
same_swap c s new (t ∷ ts) n e = by (sits c t) refl n e (same_swap c s new ts)
  where
    by : (b : Bool) → sits c t ≡ b → length (cond b (t ∷ filter (sits c) ts) (filter (sits c) ts)) ≤ 1 → cond b (Some t) (session_by c ts) ≡ Some s
        → (length (filter (sits c) ts) ≤ 1 → session_by c ts ≡ Some s → swap s.key new (map (strip c) ts) ≡ swap s.key new ts) → swap s.key new (strip c t ∷ map (strip c) ts) ≡ swap s.key new (t ∷ ts)
    by true i m f rest = subst (λ (u : Session). swap u.key new (strip c t ∷ map (strip c) ts) ≡ swap u.key new (t ∷ ts)) (is_the t s f) (first (omega arith))
      where
        gone : (b : Bool) (x : Session) → (x.key == x.key) ≡ b → b ≡ true → cond (x.key == x.key) new (strip c x ∷ []) ≡ cond (x.key == x.key) new (x ∷ [])
        gone b x k g = ap (λ d. cond d new (strip c x ∷ [])) (k ∙ g) ∙ sym (ap (λ d. cond d new (x ∷ [])) (k ∙ g))

        is : Told t.key t.key → (t.key == t.key) ≡ true
        is (inl h) = h.0
        is (inr h) = absurd (h.1 refl)

        first : length (filter (sits c) ts) ≡ 0 → swap t.key new (strip c t ∷ map (strip c) ts) ≡ swap t.key new (t ∷ ts)
        first none =
            ap (λ xs. xs ++ swap t.key new (map (strip c) ts)) (gone (t.key == t.key) t refl (is (eqb_tells t.key t.key)))
            ∙ ap (λ xs. cond (t.key == t.key) new (t ∷ []) ++ swap t.key new xs) (same_sessions c ts none)
    by false i m f rest = ap (λ (x : Session). cond (x.key == s.key) new (x ∷ []) ++ swap s.key new (map (strip c) ts)) (same_session c t i) ∙ ap (λ xs. cond (t.key == s.key) new (t ∷ []) ++ xs) (rest m f)

-- ---- leaving

-- a broker at a moment
abbrev at : ℕ → Broker → Turn
at moment b = begun (record b { clock = max b.clock moment })

record Parts (c moment : ℕ) (b : Broker) : Type 0 where
  whole : act (Leave c true) (at moment b) ≡ record (act (Leave c true) (at moment (without_will c b))) { waiting = option_list (will_in b c) }
  none : (act (Leave c true) (at moment (without_will c b))).waiting ≡ []

parts : (c moment : ℕ) (b : Broker) → length (filter (sits c) b.sessions) ≤ 1 → is_joined b c ≡ true → Parts c moment b
parts c moment b n j = by (session_by c b.sessions) refl j
  where
    its : (s : Session) (o : Option Connection) → s.here ≡ o → option_map_or (λ (l : Connection). l.conn == c) o false ≡ true → will_at true (strip c s) ≡ []
    its s None i f = yes_no (sym f)
    its s (Some l) i f =
        ap (λ o. option_map_or (λ (k : Connection). option_list k.will) (option_map (unwilled c) o) []) i ∙ ap (λ d. option_list (cond d (record l { will = None }) l).will) f

    own : (o : Option Connection) → option_map_or (λ (l : Connection). option_list l.will) o [] ≡ option_list (option_map_or (λ (l : Connection). l.will) o None)
    own None = refl
    own (Some l) = refl

    by : (o : Option Session) → session_by c b.sessions ≡ o → is_some o ≡ true → Parts c moment b
    by None e f = yes_no (sym f)
    by (Some s) e f =
        let bare : session_by c (map (strip c) b.sessions) ≡ Some (strip c s) = stripped c s b.sessions e in
        let quiet : will_at true (strip c s) ≡ [] = its s s.here refl (passes (sits c) b.sessions s e) in
        let will : will_at true s ≡ option_list (will_in b c) = own s.here ∙ ap (λ o. option_list (option_map_or (λ (x : Session). option_map_or (λ (l : Connection). l.will) x.here None) o None)) (sym e) in
        record {
          whole =
              ap (λ o. leave_at o c true (at moment b)) e
              ∙ ap (λ ws. record (leave_at (Some s) c true (at moment b)) { waiting = ws }) will
              ∙ ap (λ ss. record (at moment b) { broker = record (at moment b).broker { sessions = ss }; waiting = option_list (will_in b c) }) (sym (same_swap c s (left_behind s) b.sessions n e))
              ∙ ap (λ o. record (leave_at o c true (at moment (without_will c b))) { waiting = option_list (will_in b c) }) (sym bare);
          none = ap (λ o. (leave_at o c true (at moment (without_will c b))).waiting) bare ∙ quiet;
        }

-- ---- events

abbrev Ends : Broker → ℕ → Event → Type 0
Ends b c e = step b e ≡ route (record (step (without_will c b) e) { waiting = option_list (will_in b c) })

abbrev pub Quiet : Type 0
Quiet = (t : Turn) → t.waiting ≡ [] → route t ≡ t

gone : Quiet → (b : Broker) (c moment : ℕ) → length (filter (sits c) b.sessions) ≤ 1 → is_joined b c ≡ true → Ends b c (Closed c moment)
unfolding step
gone done b c moment n j =
    let p = parts c moment b n j in
    ap route p.whole ∙ ap (λ (t : Turn). route (record t { waiting = option_list (will_in b c) })) (sym (done (act (Leave c true) (at moment (without_will c b))) p.none))

shut_off : Quiet → (b : Broker) (c moment : ℕ) → length (filter (sits c) b.sessions) ≤ 1 → is_joined b c ≡ true
    → acts (shut c) (at moment b) ≡ route (record (acts (shut c) (at moment (without_will c b))) { waiting = option_list (will_in b c) })
shut_off done b c moment n j =
    let p = parts c moment b n j in
    ap (λ (t : Turn). route (act (Tell c) t)) p.whole
    ∙ ap (λ (t : Turn). route (record t { waiting = option_list (will_in b c) })) (sym (done (act (Tell c) (act (Leave c true) (at moment (without_will c b)))) p.none))

joined_too : (b : Broker) (c : ℕ) → is_joined b c ≡ true → is_joined (without_will c b) c ≡ true
joined_too b c j = by (session_by c b.sessions) refl j
  where
    by : (o : Option Session) → session_by c b.sessions ≡ o → is_some o ≡ true → is_joined (without_will c b) c ≡ true
    by None e f = yes_no (sym f)
    by (Some s) e f = ap is_some (stripped c s b.sessions e)

bad : Quiet → (b : Broker) (c : ℕ) (k : PacketFault) (moment : ℕ) → length (filter (sits c) b.sessions) ≤ 1 → is_joined b c ≡ true → Ends b c (Fault c k moment)
unfolding step
bad done b c k moment n j =
    ap (λ l. acts l (at moment b)) (plan_is (is_joined b c) j) ∙ shut_off done b c moment n j
    ∙ ap (λ l. route (record (acts l (at moment (without_will c b))) { waiting = option_list (will_in b c) })) (sym (plan_is (is_joined (without_will c b) c) (joined_too b c j)))
  where
    never : (x : Bool) → (x && false) ≡ false
    never true = refl
    never false = refl

    plan_is : (y : Bool) → y ≡ true → cond (is_bad_level k && not y) (turn_away c 1) (shut c) ≡ shut c
    plan_is y e = ap (λ z. cond (is_bad_level k && not z) (turn_away c 1) (shut c)) e ∙ ap (λ z. cond z (turn_away c 1) (shut c)) (never (is_bad_level k))

refused_other : Quiet → (b : Broker) (c moment : ℕ) → length (filter (sits c) b.sessions) ≤ 1 → is_joined b c ≡ true → Ends b c (Refused c sort.Other moment)
unfolding step
refused_other done b c moment n j = shut_off done b c moment n j

the : (c d : ℕ) → Told d c → (d == c) ≡ true → d ≡ c
the c d (inl f) e = f.1
the c d (inr f) e = yes_no (sym e ∙ f.0)

pub adds : Quiet → (b : Broker) (c : ℕ) (e : Event) → length (filter (sits c) b.sessions) ≤ 1 → is_joined b c ≡ true → is_its_end c e ≡ true → Ends b c e
adds done b c (Open moment) n j f = yes_no (sym f)
adds done b c (Packet d p moment) n j f = yes_no (sym f)
adds done b c (Fault d k moment) n j f = subst (λ x. Ends b c (Fault x k moment)) (sym (the c d (eqb_tells d c) f)) (bad done b c k moment n j)
adds done b c (Closed d moment) n j f = subst (λ x. Ends b c (Closed x moment)) (sym (the c d (eqb_tells d c) f)) (gone done b c moment n j)
adds done b c (Tick moment) n j f = yes_no (sym f)
adds done b c (Refused d sort.QosZero moment) n j f = yes_no (sym f)
adds done b c (Refused d sort.Other moment) n j f = subst (λ x. Ends b c (Refused x sort.Other moment)) (sym (the c d (eqb_tells d c) f)) (refused_other done b c moment n j)

-- ---- DISCONNECT

swap_quiet : (c : ℕ) (t : Turn) → length (filter (sits c) t.broker.sessions) ≤ 1 → (o : Option Session) → session_by c t.broker.sessions ≡ o → is_some o ≡ true
    → leave_at (option_map (strip c) o) c false (with_sessions (map (strip c) t.broker.sessions) t) ≡ leave_at o c false t
swap_quiet c t n None e f = yes_no (sym f)
swap_quiet c t n (Some s) e f = ap (λ ss. record (with_sessions ss t) { waiting = t.waiting ++ [] }) (same_swap c s (left_behind s) t.broker.sessions n e)

bare_found : (c : ℕ) (ss : List Session) → (o : Option Session) → session_by c ss ≡ o → is_some o ≡ true → session_by c (map (strip c) ss) ≡ option_map (strip c) o
bare_found c ss None e f = yes_no (sym f)
bare_found c ss (Some s) e f = stripped c s ss e

leave_quiet : (c : ℕ) (t : Turn) → length (filter (sits c) t.broker.sessions) ≤ 1 → is_some (session_by c t.broker.sessions) ≡ true
    → act (Leave c false) (with_sessions (map (strip c) t.broker.sessions) t) ≡ act (Leave c false) t
leave_quiet c t n j =
    ap (λ o. leave_at o c false (with_sessions (map (strip c) t.broker.sessions) t)) (bare_found c t.broker.sessions (session_by c t.broker.sessions) refl j)
    ∙ swap_quiet c t n (session_by c t.broker.sessions) refl j

abbrev hear : ℕ → ℕ → Session → Session
hear c clock s = record s { here = option_map (connection_heard c clock) s.here }

either_way : (c clock : ℕ) (ss : List Session) → map (hear c clock) (map (strip c) ss) ≡ map (strip c) (map (hear c clock) ss)
either_way c clock [] = refl
either_way c clock (s ∷ ss) = ap (λ o. record s { here = o } ∷ map (hear c clock) (map (strip c) ss)) (by s.here) ∙ ap (λ xs. strip c (hear c clock s) ∷ xs) (either_way c clock ss)
  where
    connection : (l : Connection) (b : Bool) → (l.conn == c) ≡ b → connection_heard c clock (unwilled c l) ≡ unwilled c (connection_heard c clock l)
    connection l true e =
        ap (connection_heard c clock) (ap (λ b. cond b (record l { will = None }) l) e)
        ∙ ap (λ b. cond b (record (record l { will = None }) { heard = clock }) (record l { will = None })) e
        ∙ sym (ap (unwilled c) (ap (λ b. cond b (record l { heard = clock }) l) e) ∙ ap (λ b. cond b (record (record l { heard = clock }) { will = None }) (record l { heard = clock })) e)
    connection l false e =
        ap (connection_heard c clock) (ap (λ b. cond b (record l { will = None }) l) e) ∙ ap (λ b. cond b (record l { heard = clock }) l) e
        ∙ sym (ap (unwilled c) (ap (λ b. cond b (record l { heard = clock }) l) e) ∙ ap (λ b. cond b (record l { will = None }) l) e)

    by : (o : Option Connection) → option_map (connection_heard c clock) (option_map (unwilled c) o) ≡ option_map (unwilled c) (option_map (connection_heard c clock) o)
    by None = refl
    by (Some l) = ap (λ (k : Connection). Some k) (connection l (l.conn == c) refl)

can_disconnect : is_some (first_of (unwritable Disconnect)) ≡ false
unfolding has_bad_text has_bad_body is_qos_two spelling body shortest
can_disconnect = refl

plan_leaves : (c : ℕ) (y : Bool) → y ≡ true → cond (is_some (first_of (unwritable Disconnect))) (shut c) (cond y (Leave c false ∷ []) (shut c)) ≡ Leave c false ∷ []
plan_leaves c y e = ap (λ x. cond x (shut c) (cond y (Leave c false ∷ []) (shut c))) can_disconnect ∙ ap (λ x. cond x (Leave c false ∷ []) (shut c)) e

heard_session : (c clock : ℕ) (ss : List Session) → is_some (session_by c ss) ≡ true → is_some (session_by c (map (hear c clock) ss)) ≡ true
heard_session c clock [] e = e
heard_session c clock (s ∷ ss) e = ap (λ b. is_some (cond b (Some (hear c clock s)) (session_by c (map (hear c clock) ss)))) (on s.here) ∙ by (sits c s) e (heard_session c clock ss)
  where
    on : (o : Option Connection) → option_map_or (λ (l : Connection). l.conn == c) (option_map (connection_heard c clock) o) false ≡ option_map_or (λ (l : Connection). l.conn == c) o false
    on None = refl
    on (Some l) = ap (λ d. d == c) (heard_conn c clock l)

    by : (b : Bool) → is_some (cond b (Some s) (session_by c ss)) ≡ true → (is_some (session_by c ss) ≡ true → is_some (session_by c (map (hear c clock) ss)) ≡ true)
        → is_some (cond b (Some (hear c clock s)) (session_by c (map (hear c clock) ss))) ≡ true
    by true f rest = refl
    by false f rest = rest f

pub forgets : (b : Broker) (c moment : ℕ) → length (filter (sits c) b.sessions) ≤ 1 → is_joined b c ≡ true → step b (Packet c Disconnect moment) ≡ step (without_will c b) (Packet c Disconnect moment)
unfolding step
forgets b c moment n j =
    let few : length (filter (sits c) (map (hear c (max b.clock moment)) b.sessions)) ≤ 1 = subst (λ k. k ≤ 1) (sym (mapped (connection_heard c (max b.clock moment)) (heard_conn c (max b.clock moment)) c b.sessions)) n in
    let sat : is_some (session_by c (map (hear c (max b.clock moment)) b.sessions)) ≡ true = heard_session c (max b.clock moment) b.sessions j in
    let other : is_some (session_by c (map (hear c (max b.clock moment)) (map (strip c) b.sessions))) ≡ true = heard_session c (max b.clock moment) (map (strip c) b.sessions) (joined_too b c j) in
    ap (λ l. acts l (noted b (Packet c Disconnect moment))) (plan_leaves c (is_some (session_by c (map (hear c (max b.clock moment)) b.sessions))) sat)
    ∙ sym (leave_quiet c (noted b (Packet c Disconnect moment)) few sat)
    ∙ ap (λ ss. act (Leave c false) (with_sessions ss (noted b (Packet c Disconnect moment)))) (sym (either_way c (max b.clock moment) b.sessions))
    ∙ ap (λ l. acts l (noted (without_will c b) (Packet c Disconnect moment))) (sym (plan_leaves c (is_some (session_by c (map (hear c (max b.clock moment)) (map (strip c) b.sessions)))) other))
