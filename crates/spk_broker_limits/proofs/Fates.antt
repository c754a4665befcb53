-- What becomes of the will of each connection: routed at most once, not while it is joined, and not behind its DISCONNECT.
use Rattle.std.proofs.Common.{◌≡◌, ◌⊎◌, inl, inr, ℕ, zero, suc, ◌+◌, ◌≤◌, ◌==◌, Bool, true, false, not, ◌&&◌, ◌||◌, cond, List, [], ◌∷◌, ◌++◌, map, length, refl, sym, ap, ◌∙◌, subst, arith, Option, Some, None}
use Rattle.std.specs.List.{filter, find}
use Rattle.std.specs.Option.{option_map, option_map_or, is_some}
use Rattle.std.proofs.lemmas.Bool.Decides.{eqb_tells}
use Rattle.spk_packets.specs.Message.{Connect, Disconnect, WillData}
use Rattle.spk_broker_rules.specs.Data.{AppMessage, Connection, Session, Broker}
use Rattle.spk_broker_rules.specs.Knowing.{IsWelcomed, is_opening}
use Rattle.spk_broker_rules.specs.Lawful.{IsLow, IsLawful}
use Rattle.spk_broker_rules.specs.Listening.{is_closed_in, is_joined, lets_go}
use Rattle.spk_broker_rules.specs.Words.{option_list, will_message}
use Rattle.spk_broker_rules.specs.Plan.{Event, Packet}
use Rattle.spk_broker_rules.specs.Past.{Past, Joining, deeds, sessions, here, session_at, session_of, connection_of, is_open, broker_of}
use Rattle.spk_broker_rules.specs.Step.{after, is_newcomer, knows, session_by, sits, step}
use Rattle.spk_broker_rules.specs.Telling.{Leads}
use Rattle.spk_broker_limits.specs.Wills.{all_lost, disconnects, is_lost, lost, of_conn, will_in, will_where, wills_where}
use Rattle.spk_broker_limits.proofs.Totals.{found}
use Rattle.spk_broker_limits.proofs.Summing.{Told, same, none_some, is_the, yes_no, times, passes, Pair, has, pair_at, Apart}
use Rattle.spk_broker_limits.proofs.Facts.{Tidy}
use Rattle.spk_broker_limits.proofs.Runs.{Old, SaysIn, runs}
use Rattle.spk_broker_limits.proofs.Pairs.{pair_of, pairs_in, pairs, has_session, member, has_found}
use Rattle.spk_broker_limits.proofs.Routed.{Known, apart_pairs, tidy_after, joined_is, unknown}

-- ---- the wills of one connection among those that are meant

of_both : (c : ℕ) (xs ys : List (ℕ × AppMessage)) → of_conn c (xs ++ ys) ≡ of_conn c xs ++ of_conn c ys
of_both c [] ys = refl
of_both c (x ∷ xs) ys = by (x.0 == c) (of_both c xs ys)
  where
    by : (b : Bool) → of_conn c (xs ++ ys) ≡ of_conn c xs ++ of_conn c ys → cond b (x ∷ of_conn c (xs ++ ys)) (of_conn c (xs ++ ys)) ≡ cond b (x ∷ of_conn c xs) (of_conn c xs) ++ of_conn c ys
    by true rest = ap (λ zs. x ∷ zs) rest
    by false rest = rest

abbrev pub own : ℕ → Option AppMessage → List (ℕ × AppMessage)
own c will = map (λ (m : AppMessage). (c, m)) (option_list will)

abbrev will_at : Option Session → Option AppMessage
will_at o = option_map_or (λ (s : Session). option_map_or (λ (l : Connection). l.will) s.here None) o None

other : (meant : ℕ → Bool) (c : ℕ) (l : Connection) → (l.conn == c) ≡ false → of_conn c (will_where meant l) ≡ []
other meant c l e = by (meant l.conn) l.will
  where
    by : (b : Bool) (w : Option AppMessage) → of_conn c (cond b (map (λ (m : AppMessage). (l.conn, m)) (option_list w)) []) ≡ []
    by true None = refl
    by true (Some m) = ap (λ k. cond k ((l.conn, m) ∷ []) []) e
    by false w = refl

its_own : (meant : ℕ → Bool) (c : ℕ) (l : Connection) → l.conn ≡ c → of_conn c (will_where meant l) ≡ cond (meant c) (own c l.will) []
its_own meant c l e = subst (λ d. of_conn d (will_where meant l) ≡ cond (meant d) (own d l.will) []) e (by (meant l.conn) l.will)
  where
    by : (b : Bool) (w : Option AppMessage) → of_conn l.conn (cond b (map (λ (m : AppMessage). (l.conn, m)) (option_list w)) []) ≡ cond b (own l.conn w) []
    by true None = refl
    by true (Some m) = ap (λ k. cond k ((l.conn, m) ∷ []) []) (same l.conn)
    by false w = refl

none_of : (meant : ℕ → Bool) (c : ℕ) (ss : List Session) → length (filter (sits c) ss) ≡ 0 → of_conn c (wills_where meant ss) ≡ []
none_of meant c [] e = refl
none_of meant c (s ∷ ss) e = of_both c (option_map_or (will_where meant) s.here []) (wills_where meant ss) ∙ by s.here e (none_of meant c ss)
  where
    on : (l : Connection) (b : Bool) → (l.conn == c) ≡ b → length (cond b (s ∷ filter (sits c) ss) (filter (sits c) ss)) ≡ 0 → (length (filter (sits c) ss) ≡ 0 → of_conn c (wills_where meant ss) ≡ [])
        → of_conn c (will_where meant l) ++ of_conn c (wills_where meant ss) ≡ []
    on l true i f rest = absurd (omega arith)
    on l false i f rest = ap (λ xs. xs ++ of_conn c (wills_where meant ss)) (other meant c l i) ∙ rest f

    by : (o : Option Connection) → length (cond (option_map_or (λ (l : Connection). l.conn == c) o false) (s ∷ filter (sits c) ss) (filter (sits c) ss)) ≡ 0 → (length (filter (sits c) ss) ≡ 0 → of_conn c (wills_where meant ss) ≡ [])
        → of_conn c (option_map_or (will_where meant) o []) ++ of_conn c (wills_where meant ss) ≡ []
    by None f rest = rest f
    by (Some l) f rest = on l (l.conn == c) refl f rest

nil_end : (xs : List (ℕ × AppMessage)) → xs ++ [] ≡ xs
nil_end [] = refl
nil_end (x ∷ xs) = ap (λ zs. x ∷ zs) (nil_end xs)

none_either : (b : Bool) (xs : List (ℕ × AppMessage)) → xs ≡ [] → cond b xs [] ≡ []
none_either true xs e = e
none_either false xs e = refl

one_of : (meant : ℕ → Bool) (c : ℕ) (ss : List Session) → length (filter (sits c) ss) ≤ 1 → of_conn c (wills_where meant ss) ≡ cond (meant c) (own c (will_at (session_by c ss))) []
one_of meant c [] n = sym (none_either (meant c) (own c None) refl)
one_of meant c (s ∷ ss) n = of_both c (option_map_or (will_where meant) s.here []) (wills_where meant ss) ∙ by s.here refl n (one_of meant c ss)
  where
    on : (l : Connection) → s.here ≡ Some l → Told l.conn c → length (cond (l.conn == c) (s ∷ filter (sits c) ss) (filter (sits c) ss)) ≤ 1
        → (length (filter (sits c) ss) ≤ 1 → of_conn c (wills_where meant ss) ≡ cond (meant c) (own c (will_at (session_by c ss))) [])
        → of_conn c (will_where meant l) ++ of_conn c (wills_where meant ss) ≡ cond (meant c) (own c (will_at (cond (l.conn == c) (Some s) (session_by c ss)))) []
    on l i (inl t) m rest =
        let few : suc (length (filter (sits c) ss)) ≤ 1 = subst (λ b. length (cond b (s ∷ filter (sits c) ss) (filter (sits c) ss)) ≤ 1) t.0 m in
        ap (λ xs. of_conn c (will_where meant l) ++ xs) (none_of meant c ss (omega arith)) ∙ nil_end (of_conn c (will_where meant l)) ∙ its_own meant c l t.1
        ∙ ap (λ w. cond (meant c) (own c w) []) (ap (λ o. option_map_or (λ (k : Connection). k.will) o None) (sym i))
        ∙ ap (λ b. cond (meant c) (own c (will_at (cond b (Some s) (session_by c ss)))) []) (sym t.0)
    on l i (inr t) m rest =
        ap (λ xs. xs ++ of_conn c (wills_where meant ss)) (other meant c l t.0)
        ∙ rest (subst (λ b. length (cond b (s ∷ filter (sits c) ss) (filter (sits c) ss)) ≤ 1) t.0 m)
        ∙ ap (λ b. cond (meant c) (own c (will_at (cond b (Some s) (session_by c ss)))) []) (sym t.0)

    by : (o : Option Connection) → s.here ≡ o → length (cond (option_map_or (λ (l : Connection). l.conn == c) o false) (s ∷ filter (sits c) ss) (filter (sits c) ss)) ≤ 1
        → (length (filter (sits c) ss) ≤ 1 → of_conn c (wills_where meant ss) ≡ cond (meant c) (own c (will_at (session_by c ss))) [])
        → of_conn c (option_map_or (will_where meant) o []) ++ of_conn c (wills_where meant ss) ≡ cond (meant c) (own c (will_at (cond (option_map_or (λ (l : Connection). l.conn == c) o false) (Some s) (session_by c ss)))) []
    by None i m rest = rest m
    by (Some l) i m rest = on l i (eqb_tells l.conn c) m rest

-- ---- the laws that the data keep

pub record Lawfully (limit : ℕ) : Type 0 where
  pub lawful : (es : List Event) → IsLawful (after limit es)
  pub stays : (b : Broker) (conn : ℕ) (e : Event) → IsLawful b → is_joined b conn ≡ true → lets_go conn e ≡ false → (is_joined (step b e).broker conn ≡ true) ⊎ (is_closed_in conn (step b e) ≡ true)
  pub closed : (b : Broker) (conn : ℕ) (e : Event) → IsLawful b → is_closed_in conn (step b e) ≡ true → knows (step b e).broker conn ≡ false
  pub ended : (b : Broker) (conn : ℕ) (e : Event) → IsLawful b → lets_go conn e ≡ true → knows (step b e).broker conn ≡ false
  pub gone : (b : Broker) (conn : ℕ) (e : Event) → IsLawful b → conn ≤ b.given → knows b conn ≡ false → knows (step b e).broker conn ≡ false
  pub given : (b : Broker) (e : Event) → IsLawful b → (step b e).broker.given ≡ cond (is_opening e) (b.given + 1) b.given

-- its number was given, and it is known no more
abbrev pub IsOver : Broker → ℕ → Type 0
IsOver b c = (c ≤ b.given) × (knows b c ≡ false)

grows : (limit : ℕ) → Lawfully limit → (b : Broker) (e : Event) → IsLawful b → b.given ≤ (step b e).broker.given
grows limit k b e l = subst (λ n. b.given ≤ n) (sym (k.given b e l)) (by (is_opening e))
  where
    by : (o : Bool) → b.given ≤ cond o (b.given + 1) b.given
    by true = omega arith
    by false = omega arith

stays_over : (limit : ℕ) → Lawfully limit → (b : Broker) (c : ℕ) (e : Event) → IsLawful b → IsOver b c → IsOver (step b e).broker c
stays_over limit k b c e l o = (let low = o.0 in let le = grows limit k b e l in omega arith, k.gone b c e l o.0 o.1)

low : (b : Broker) (c : ℕ) → IsLawful b → is_joined b c ≡ true → c ≤ b.given
low b c l j = by (session_by c b.sessions) refl j
  where
    at : (s : Session) (o : Option Connection) → s.here ≡ o → IsLow b.given o → option_map_or (λ (x : Connection). x.conn == c) o false ≡ true → c ≤ b.given
    at s None i p t = yes_no (sym t)
    at s (Some x) i p t = is (eqb_tells x.conn c)
      where
        is : Told x.conn c → c ≤ b.given
        is (inl f) = subst (λ d. d ≤ b.given) f.1 p
        is (inr f) = yes_no (sym t ∙ f.0)

    by : (o : Option Session) → session_by c b.sessions ≡ o → is_some o ≡ true → c ≤ b.given
    by None e f = yes_no (sym f)
    by (Some s) e f = at s s.here refl (found (λ (x : Session). IsLow b.given x.here) (sits c) b.sessions s l.connections e) (passes (sits c) b.sessions s e)

-- who is joined no more is over
falls : (limit : ℕ) → Lawfully limit → (b : Broker) (c : ℕ) (e : Event) → IsLawful b → is_joined b c ≡ true → is_joined (step b e).broker c ≡ false → IsOver (step b e).broker c
falls limit k b c e l j n = (let least = low b c l j in let le = grows limit k b e l in omega arith, by (lets_go c e) refl)
  where
    or : (is_joined (step b e).broker c ≡ true) ⊎ (is_closed_in c (step b e) ≡ true) → knows (step b e).broker c ≡ false
    or (inl y) = yes_no (sym y ∙ n)
    or (inr y) = k.closed b c e l y

    by : (g : Bool) → lets_go c e ≡ g → knows (step b e).broker c ≡ false
    by true i = k.ended b c e l i
    by false i = or (k.stays b c e l j i)

-- ---- one event

pub lost_is : (limit : ℕ) → Lawfully limit → (es : List Event) (e : Event) (c : ℕ) → of_conn c (lost (after limit es) e) ≡ cond (is_lost (after limit es) e c) (own c (will_in (after limit es) c)) []
lost_is limit k es e c =
    let most : length (filter (is_newcomer c) (after limit es).newcomers) + length (filter (sits c) (after limit es).sessions) ≤ 1 = (k.lawful es).apart c in
    one_of (is_lost (after limit es) e) c (after limit es).sessions (omega arith)

not_joined : (b : Broker) (c : ℕ) → is_joined b c ≡ false → will_in b c ≡ None
not_joined b c e = by (session_by c b.sessions) e
  where
    by : (o : Option Session) → is_some o ≡ false → will_at o ≡ None
    by None f = refl
    by (Some s) f = yes_no f

pub nobody_lost : (limit : ℕ) → Lawfully limit → (es : List Event) (e : Event) (c : ℕ) → is_joined (after limit es) c ≡ false → of_conn c (lost (after limit es) e) ≡ []
nobody_lost limit k es e c j = lost_is limit k es e c ∙ ap (λ w. cond (is_lost (after limit es) e c) (own c w) []) (not_joined (after limit es) c j) ∙ none_either (is_lost (after limit es) e c) (own c None) refl

-- ---- over events

-- none of its wills was routed, or one, and then it is over
abbrev Fate : ℕ → ℕ → List Event → Type 0
Fate limit c es = (of_conn c (all_lost limit es) ≡ []) ⊎ (IsOver (after limit es) c × (length (of_conn c (all_lost limit es)) ≡ 1))

both_parts : (limit c : ℕ) (es : List Event) (e : Event) → of_conn c (all_lost limit (e ∷ es)) ≡ of_conn c (lost (after limit es) e) ++ of_conn c (all_lost limit es)
both_parts limit c es e = of_both c (lost (after limit es) e) (all_lost limit es)

over_not_joined : (b : Broker) (c : ℕ) → IsOver b c → is_joined b c ≡ false
over_not_joined b c o = unknown b c o.1

and_not : (a b : Bool) → (not a && b) ≡ true → a ≡ false
and_not true b e = yes_no (sym e)
and_not false b e = refl

fate : (limit : ℕ) → Lawfully limit → (c : ℕ) (es : List Event) → Fate limit c es
fate limit k c [] = inl refl
fate limit k c (e ∷ es) = by (fate limit k c es)
  where
    new : of_conn c (all_lost limit es) ≡ [] → is_joined (after limit es) c ≡ true → (b : Bool) → is_lost (after limit es) e c ≡ b → (w : Option AppMessage) → will_in (after limit es) c ≡ w → Fate limit c (e ∷ es)
    new f j false i w g = inl (both_parts limit c es e ∙ ap (λ xs. xs ++ of_conn c (all_lost limit es)) (lost_is limit k es e c ∙ ap (λ b. cond b (own c (will_in (after limit es) c)) []) i) ∙ f)
    new f j true i None g = inl (both_parts limit c es e ∙ ap (λ xs. xs ++ of_conn c (all_lost limit es)) (lost_is limit k es e c ∙ ap (λ b. cond b (own c (will_in (after limit es) c)) []) i ∙ ap (own c) g) ∙ f)
    new f j true i (Some m) g = inr (
      falls limit k (after limit es) c e (k.lawful es) j (and_not (is_joined (step (after limit es) e).broker c) (not (disconnects c e)) i),
      ap length (both_parts limit c es e ∙ ap (λ xs. xs ++ of_conn c (all_lost limit es)) (lost_is limit k es e c ∙ ap (λ b. cond b (own c (will_in (after limit es) c)) []) i ∙ ap (own c) g) ∙ ap (λ xs. (c, m) ∷ xs) f),
    )

    fresh : of_conn c (all_lost limit es) ≡ [] → (b : Bool) → is_joined (after limit es) c ≡ b → Fate limit c (e ∷ es)
    fresh f true j = new f j (is_lost (after limit es) e c) refl (will_in (after limit es) c) refl
    fresh f false j = inl (both_parts limit c es e ∙ ap (λ xs. xs ++ of_conn c (all_lost limit es)) (nobody_lost limit k es e c j) ∙ f)

    by : Fate limit c es → Fate limit c (e ∷ es)
    by (inl f) = fresh f (is_joined (after limit es) c) refl
    by (inr f) = inr (
      stays_over limit k (after limit es) c e (k.lawful es) f.0,
      ap length (both_parts limit c es e ∙ ap (λ xs. xs ++ of_conn c (all_lost limit es)) (nobody_lost limit k es e c (over_not_joined (after limit es) c f.0))) ∙ f.1,
    )

pub once : (limit : ℕ) → Lawfully limit → (es : List Event) (c : ℕ) → length (of_conn c (all_lost limit es)) ≤ 1
once limit k es c = by (fate limit k c es)
  where
    by : Fate limit c es → length (of_conn c (all_lost limit es)) ≤ 1
    by (inl f) = let n : length (of_conn c (all_lost limit es)) ≡ 0 = ap length f in omega arith
    by (inr f) = let n = f.1 in omega arith

pub stands : (limit : ℕ) → Lawfully limit → (es : List Event) (c : ℕ) → is_joined (after limit es) c ≡ true → of_conn c (all_lost limit es) ≡ []
stands limit k es c j = by (fate limit k c es)
  where
    by : Fate limit c es → of_conn c (all_lost limit es) ≡ []
    by (inl f) = f
    by (inr f) = yes_no (sym j ∙ over_not_joined (after limit es) c f.0)

-- nothing more comes of a connection that is over
record Rest (limit c : ℕ) (es more : List Event) : Type 0 where
  over : IsOver (after limit (more ++ es)) c
  rest : of_conn c (all_lost limit (more ++ es)) ≡ of_conn c (all_lost limit es)

over_rest : (limit : ℕ) → Lawfully limit → (c : ℕ) (es more : List Event) → IsOver (after limit es) c → Rest limit c es more
over_rest limit k c es [] o = record { over = o; rest = refl }
over_rest limit k c es (e ∷ more) o =
    let r = over_rest limit k c es more o in
    record {
      over = stays_over limit k (after limit (more ++ es)) c e (k.lawful (more ++ es)) r.over;
      rest = both_parts limit c (more ++ es) e ∙ ap (λ xs. xs ++ of_conn c (all_lost limit (more ++ es))) (nobody_lost limit k (more ++ es) e c (over_not_joined (after limit (more ++ es)) c r.over)) ∙ r.rest;
    }

pub discarded : (limit : ℕ) → Lawfully limit → (es : List Event) (c moment : ℕ) (more : List Event) → is_joined (after limit es) c ≡ true → of_conn c (all_lost limit (more ++ Packet c Disconnect moment ∷ es)) ≡ []
discarded limit k es c moment more j =
    let goes : lets_go c (Packet c Disconnect moment) ≡ true = ap (λ b. b && true) (same c) in
    let unknown_ : knows (step (after limit es) (Packet c Disconnect moment)).broker c ≡ false = k.ended (after limit es) c (Packet c Disconnect moment) (k.lawful es) goes in
    let over : IsOver (step (after limit es) (Packet c Disconnect moment)).broker c =
    falls limit k (after limit es) c (Packet c Disconnect moment) (k.lawful es) j (unknown (step (after limit es) (Packet c Disconnect moment)).broker c unknown_) in
    let kept : is_lost (after limit es) (Packet c Disconnect moment) c ≡ false = and_false (not (is_joined (step (after limit es) (Packet c Disconnect moment)).broker c)) (disconnects c (Packet c Disconnect moment)) goes in
    (over_rest limit k c (Packet c Disconnect moment ∷ es) more over).rest
    ∙ both_parts limit c es (Packet c Disconnect moment)
    ∙ ap (λ xs. xs ++ of_conn c (all_lost limit es)) (lost_is limit k es (Packet c Disconnect moment) c ∙ ap (λ b. cond b (own c (will_in (after limit es) c)) []) kept)
    ∙ stands limit k es c j
  where
    and_false : (a b : Bool) → b ≡ true → (a && not b) ≡ false
    and_false true b e = ap not e
    and_false false b e = refl

pub now_lost : (limit : ℕ) → Lawfully limit → (es : List Event) (e : Event) (c : ℕ) (will : AppMessage) → will_in (after limit es) c ≡ Some will → is_joined (after limit (e ∷ es)) c ≡ false → disconnects c e ≡ false
    → of_conn c (lost (after limit es) e) ≡ (c, will) ∷ []
now_lost limit k es e c will w n d =
    let lost_ : is_lost (after limit es) e c ≡ true = ap (λ b. not b && not (disconnects c e)) n ∙ ap not d in
    lost_is limit k es e c ∙ ap (λ b. cond b (own c (will_in (after limit es) c)) []) lost_ ∙ ap (own c) w

pub ended : (limit : ℕ) → Lawfully limit → (es : List Event) (e : Event) (c : ℕ) (will : AppMessage) (more : List Event) → is_joined (after limit es) c ≡ true → will_in (after limit es) c ≡ Some will
    → is_joined (after limit (e ∷ es)) c ≡ false → disconnects c e ≡ false → of_conn c (all_lost limit (more ++ e ∷ es)) ≡ (c, will) ∷ []
ended limit k es e c will more j w n d =
    let over : IsOver (step (after limit es) e).broker c = falls limit k (after limit es) c e (k.lawful es) j n in
    (over_rest limit k c (e ∷ es) more over).rest
    ∙ both_parts limit c es e
    ∙ ap (λ xs. xs ++ of_conn c (all_lost limit es)) (now_lost limit k es e c will w n d)
    ∙ ap (λ xs. (c, will) ∷ xs) (stands limit k es c j)

-- ---- which will it is

-- a connection that sits, as the past has it
record Sat (h : Past) (c : ℕ) (w : Option AppMessage) : Type 0 where
  session : ℕ
  who : Joining
  is : here (deeds h session) ≡ Some who
  conn : who.conn ≡ c
  will : who.will ≡ w

sat : (h : Past) (c : ℕ) (ss : List ℕ) → has c (pairs_in h ss) ≡ true → Sat h c (will_at (find (sits c) (map (session_of h) ss)))
sat h c [] e = yes_no (sym e)
sat h c (s ∷ ss) e = by (here (deeds h s)) refl e (sat h c ss)
  where
    on : (j : Joining) → here (deeds h s) ≡ Some j → (b : Bool) → (j.conn == c) ≡ b → Told j.conn c → (b || has c (pairs_in h ss)) ≡ true
        → (has c (pairs_in h ss) ≡ true → Sat h c (will_at (find (sits c) (map (session_of h) ss)))) → Sat h c (will_at (cond b (Some (session_of h s)) (find (sits c) (map (session_of h) ss))))
    on j i true t (inl f) g rest = record { session = s; who = j; is = i; conn = f.1; will = sym (ap (λ o. option_map_or (λ (l : Connection). l.will) (option_map (connection_of h) o) None) i) }
    on j i true t (inr f) g rest = yes_no (sym t ∙ f.0)
    on j i false t f g rest = rest g

    by : (o : Option Joining) → here (deeds h s) ≡ o → has c (pair_of o ++ pairs_in h ss) ≡ true → (has c (pairs_in h ss) ≡ true → Sat h c (will_at (find (sits c) (map (session_of h) ss))))
        → Sat h c (will_at (cond (option_map_or (λ (l : Connection). l.conn == c) (option_map (connection_of h) o) false) (Some (session_of h s)) (find (sits c) (map (session_of h) ss))))
    by None i g rest = rest g
    by (Some j) i g rest = on j i (j.conn == c) refl (eqb_tells j.conn c) g rest

sat_in : (limit : ℕ) (b : Broker) (h : Past) (c : ℕ) → b ≡ broker_of limit h → is_joined b c ≡ true → Sat h c (will_in b c)
sat_in limit b h c e j = subst (λ (x : Broker). Sat h c (will_in x c)) (sym e) (sat h c (sessions h) (sym (joined_is limit b h c e) ∙ j))

there : (h : Past) (s : ℕ) (j : Joining) → Tidy h → here (deeds h s) ≡ Some j → 1 ≤ times s (sessions h)
there h s j tidy e = at (times s (sessions h)) refl
  where
    at : (n : ℕ) → times s (sessions h) ≡ n → 1 ≤ n
    at zero f = none_some j (sym (tidy.gone s f) ∙ e)
    at (suc n) f = omega arith

-- the one that sat before, or the one that its CONNECT brought
abbrev pub Is : ℕ → List Event → Event → ℕ → Type 0
Is limit es e c =
    (is_joined (after limit es) c ≡ true → will_in (after limit (e ∷ es)) c ≡ will_in (after limit es) c)
    × (is_joined (after limit es) c ≡ false → (j : Joining) × (j.conn ≡ c) × (j.will ≡ will_in (after limit (e ∷ es)) c) × SaysIn e j)

one_joining : (h : Past) (s t : ℕ) (i j : Joining) → Apart (pairs h) → Tidy h → here (deeds h s) ≡ Some i → here (deeds h t) ≡ Some j → i.conn ≡ j.conn → i.will ≡ j.will
one_joining h s t i j a tidy e f g =
    let m = member h s i (sessions h) e (there h s i tidy e) a in
    let n = member h t j (sessions h) f (there h t j tidy f) a in
    ap (λ (x : Pair). x.1) (is_the (i.conn, i.will) (j.conn, j.will) (sym m ∙ ap (λ c. pair_at c (pairs h)) g ∙ n))

pub its_will : (limit : ℕ) → Known limit → (es : List Event) (e : Event) (h : Past) (c : ℕ) → Leads limit (e ∷ es) h → is_joined (after limit (e ∷ es)) c ≡ true → Is limit es e c
its_will limit k es e h c (g, l, m, t, is) j =
    let lh : Leads limit (e ∷ es) t.end.past = (g, l, m, t, refl) in
    let now_ : after limit es ≡ broker_of limit g = k.asked es g l in
    let then_ : after limit (e ∷ es) ≡ broker_of limit t.end.past = k.asked (e ∷ es) t.end.past lh in
    let tidy = tidy_after limit es g l in
    let r = runs limit (λ q. true) g e t tidy in
    let s : Sat t.end.past c (will_in (after limit (e ∷ es)) c) = sat_in limit (after limit (e ∷ es)) t.end.past c then_ j in
    by g now_ tidy (apart_pairs limit k es g l) r.fresh s (r.old s.session s.who s.is) (λ f. (r.new s.who f).0) (λ f. r.says s.who f)
  where
    by : (g : Past) → after limit es ≡ broker_of limit g → Tidy g → Apart (pairs g) → (fresh : Option Joining) → {x : Past} → (s : Sat x c (will_in (after limit (e ∷ es)) c)) → Old g fresh s.session s.who
        → (fresh ≡ Some s.who → is_some (session_at g s.who.conn) ≡ false) → (fresh ≡ Some s.who → SaysIn e s.who) → Is limit es e c
    by g now_ tidy a fresh s (inl f) new says = (
      λ y. (let u : Sat g c (will_in (after limit es) c) = sat_in limit (after limit es) g c now_ y in
          sym s.will ∙ one_joining g s.session u.session s.who u.who a tidy f u.is (s.conn ∙ sym u.conn) ∙ u.will),
      λ n. yes_no (sym (has_found c (pairs g) (s.who.conn, s.who.will) (subst (λ d. pair_at d (pairs g) ≡ Some (s.who.conn, s.who.will)) s.conn
          (member g s.session s.who (sessions g) f (there g s.session s.who tidy f) a))) ∙ sym (joined_is limit (after limit es) g c now_) ∙ n),
    )
    by g now_ tidy a fresh s (inr f) new says = (
      λ y. yes_no (sym y ∙ joined_is limit (after limit es) g c now_ ∙ ap (λ d. has d (pairs g)) (sym s.conn) ∙ has_session g s.who.conn (sessions g) ∙ new f),
      λ n. (s.who, s.conn, s.will, says f),
    )

pub accepted : (limit : ℕ) → Known limit
    → ((b : Broker) (conn moment : ℕ) (client : List ℕ) (clean : Bool) (alive : ℕ) (will : Option WillData) → IsLawful b → knows b conn ≡ true → is_joined b conn ≡ false
    → IsWelcomed b client clean alive will → is_joined (step b (Packet conn (Connect client clean alive will) moment)).broker conn ≡ true)
    → ((es : List Event) (h : Past) (conn : ℕ) → Leads limit es h → knows (after limit es) conn ≡ is_open h conn)
    → (es : List Event) (h : Past) (conn moment : ℕ) (client : List ℕ) (clean : Bool) (alive : ℕ) (will : Option WillData) → Leads limit (Packet conn (Connect client clean alive will) moment ∷ es) h
    → is_joined (after limit es) conn ≡ false → IsWelcomed (after limit es) client clean alive will
    → will_in (after limit (Packet conn (Connect client clean alive will) moment ∷ es)) conn ≡ option_map will_message will
accepted limit k joins known es h conn moment client clean alive will (g, l, m, t, is) n w =
    let j : is_joined (step (after limit es) (Packet conn (Connect client clean alive will) moment)).broker conn ≡ true =
    joins (after limit es) conn moment client clean alive will (k.lawful es) (known es g conn l ∙ m) n w in
    let (who, c, v, says) = (its_will limit k es (Packet conn (Connect client clean alive will) moment) h conn (g, l, m, t, is) j).1 n in
    sym v ∙ says.1
