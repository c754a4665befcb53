-- Events in a row: what is noted of them, a front of it, and the end of all connections.
use Rattle.std.proofs.Common.{◌≡◌, ◌⊎◌, inl, inr, ℕ, suc, ◌+◌, ◌≤◌, Bool, true, false, not, ◌&&◌, ◌||◌, cond, eqb, List, [], ◌∷◌, ◌++◌, map, length, refl, sym, ◌∙◌, ap, ap₂, arith, subst, Option, Some, None, append_assoc}
use Rattle.std.specs.List.{flat_map, list_any, AllByRecursion}
use Rattle.std.specs.Option.{option_map, option_map_or, is_some}
use Rattle.std.proofs.lemmas.Bool.{or_left, or_right}
use Rattle.std.proofs.lemmas.List.{length-append}
use Rattle.spk_session.specs.declared.answer.Sort.TheVariants as sort
use Rattle.spk_broker_rules.specs.Data.{Connection, Newcomer, Session, Broker, fresh_broker}
use Rattle.spk_broker_rules.specs.Knowing.{is_opening}
use Rattle.spk_broker_rules.specs.Lawful.{IsLow, IsLawful}
use Rattle.spk_broker_rules.specs.Listening.{is_closed_in, lets_go}
use Rattle.spk_broker_rules.specs.Plan.{Event, Open, Packet, Fault, Closed, Tick, Refused}
use Rattle.spk_broker_rules.specs.Step.{conn_at, sits, is_newcomer, session_by, knows, step}
use Rattle.spk_broker_rules.specs.Words.{option_list}
use Rattle.spk_broker_rules.proofs.Lists.{eqb-self, flat_map-map, map-map}
use Rattle.spk_broker_replay.specs.Replay.{Follows, IsTimed, bare, bare_newcomer, bare_connection, bare_session, connections, ends, is_idle, journal, notes, restored, run, timed_connection, timed_session, timeless}
use Rattle.spk_broker_replay.proofs.Bare.{conn-bare, newcomers-twice}
use Rattle.spk_broker_replay.proofs.Follow.{next-closed, next-drop, next-fault, next-open, next-other, next-packet, no}
use Rattle.spk_broker_replay.proofs.Late.{next-tick, run-append, tick-front}

pub first : (limit other : ℕ) → Follows (fresh_broker limit) (fresh_broker other)
first limit other = record { same = refl; newcomers = tt; connections = tt }

-- ---- data that were kept as they stood

bare-timed : (s : Session) → bare_session (timed_session s) ≡ bare_session s
bare-timed s = ap (λ o. record s { here = o }) (by s.here)
  where
    by : (o : Option Connection) → option_map bare_connection (option_map timed_connection o) ≡ option_map bare_connection o
    by None = refl
    by (Some l) = refl

none-heard : (gs : List Newcomer) → AllByRecursion (λ (g : Newcomer). g.heard ≤ 0) (map bare_newcomer gs)
none-heard [] = tt
none-heard (g ∷ gs) = ((omega arith), none-heard gs)

all-timed : (ss : List Session) → AllByRecursion (λ (s : Session). IsTimed 0 s.here) (map timed_session ss)
all-timed [] = tt
all-timed (s ∷ ss) = (by s.here, all-timed ss)
  where
    by : (o : Option Connection) → IsTimed 0 (option_map timed_connection o)
    by None = tt
    by (Some l) = (refl, omega arith)

pub begins : (limit : ℕ) (b : Broker) → Follows b (restored limit b)
begins limit b = record {
  same = ap₂ (λ gs ss. record (bare b) { newcomers = gs; sessions = ss }) (sym (newcomers-twice b.newcomers)) (sym (map-map timed_session bare_session bare_session bare-timed b.sessions));
  newcomers = none-heard b.newcomers;
  connections = all-timed b.sessions;
}

-- ---- one event

pub next : (b n : Broker) (e : Event) → IsLawful b → Follows b n → Follows (step b e).broker (run n (notes b n.clock e))
next b n (Open moment) lawful fine = next-open b n moment fine
next b n (Packet c p moment) lawful fine = next-packet b n c p moment fine
next b n (Fault c f moment) lawful fine = next-fault b n c f moment fine
next b n (Closed c moment) lawful fine = next-closed b n c moment fine
next b n (Tick moment) lawful fine = next-tick b n moment lawful fine
next b n (Refused c sort.QosZero moment) lawful fine = next-drop b n c moment fine
next b n (Refused c sort.Other moment) lawful fine = next-other b n c moment fine

-- ---- a front of what is noted of one event

short : (b : Broker) (notes left : List Event) (x : Event) (rest : List Event) (n : Broker) → Follows b n → length notes ≤ 1 → notes ≡ left ++ x ∷ rest → Follows b (run n left)
short b notes [] x rest n fine few e = fine
short b notes (l ∷ left) x rest n fine few e =
    absurd (let a : length notes ≡ suc (length (left ++ x ∷ rest)) = ap length e in let d = length-append left (x ∷ rest) in omega arith)

few-one : (v : Bool) (f : Event) → length (cond v [] (f ∷ [])) ≤ 1
few-one true f = omega arith
few-one false f = omega arith

few-other : (v : Bool) (f : Event) → length (cond v (f ∷ []) []) ≤ 1
few-other true f = omega arith
few-other false f = omega arith

part : (b n : Broker) (e : Event) (left : List Event) (x : Event) (rest : List Event) → IsLawful b → Follows b n → notes b n.clock e ≡ left ++ x ∷ rest → Follows b (run n left)
part b n (Open moment) left x rest lawful fine is = short b (Open 0 ∷ []) left x rest n fine (omega arith) is
part b n (Packet c p moment) left x rest lawful fine is =
    short b (notes b n.clock (Packet c p moment)) left x rest n fine (few-one (is_idle p && not (is_closed_in c (step b (Packet c p moment)))) (Packet c (timeless p) 0)) is
part b n (Fault c f moment) left x rest lawful fine is = short b (Fault c f 0 ∷ []) left x rest n fine (omega arith) is
part b n (Closed c moment) left x rest lawful fine is = short b (Closed c 0 ∷ []) left x rest n fine (omega arith) is
part b n (Tick moment) left x rest lawful fine is = tick-front b n moment left x rest lawful fine is
part b n (Refused c sort.QosZero moment) left x rest lawful fine is =
    short b (notes b n.clock (Refused c sort.QosZero moment)) left x rest n fine (few-other (is_closed_in c (step b (Refused c sort.QosZero moment))) (Refused c sort.Other 0)) is
part b n (Refused c sort.Other moment) left x rest lawful fine is = short b (Refused c sort.Other 0 ∷ []) left x rest n fine (omega arith) is

-- ---- two lists that are two others

pub record Beyond (xs ys left lost : List Event) : Type 0 where
  tail : List Event
  is : left ≡ xs ++ tail
  rest : ys ≡ tail ++ lost

pub record Within (xs left : List Event) : Type 0 where
  first : Event
  rest : List Event
  is : xs ≡ left ++ first ∷ rest

beyond-cons : (x : Event) (xs ys left lost : List Event) → Beyond xs ys left lost → Beyond (x ∷ xs) ys (x ∷ left) lost
beyond-cons x xs ys left lost b = record { tail = b.tail; is = ap (λ zs. x ∷ zs) b.is; rest = b.rest }

within-cons : (x : Event) (xs left : List Event) → Within xs left → Within (x ∷ xs) (x ∷ left)
within-cons x xs left w = record { first = w.first; rest = w.rest; is = ap (λ zs. x ∷ zs) w.is }

split : (xs ys left lost : List Event) → xs ++ ys ≡ left ++ lost → Beyond xs ys left lost ⊎ Within xs left
split [] ys left lost e = inl (record { tail = left; is = refl; rest = e })
split (x ∷ xs) ys [] lost e = inr (record { first = x; rest = xs; is = refl })
split (x ∷ xs) ys (l ∷ left) lost e =
    let one : x ≡ l = cc in
    let others : xs ++ ys ≡ left ++ lost = cc in
    elim (split xs ys left lost others) [
      | inl b ↦ inl (subst (λ z. Beyond (x ∷ xs) ys (z ∷ left) lost) one (beyond-cons x xs ys left lost b))
      | inr w ↦ inr (subst (λ z. Within (x ∷ xs) (z ∷ left)) one (within-cons x xs left w))
    ]

-- ---- events in a row

abbrev Front : (b n : Broker) (es left : List Event) → Type 0
Front b n es left = (done rest : List Event) × (es ≡ done ++ rest) × Follows (run b done) (run n left)

module _ (step-lawful : (b : Broker) (e : Event) → IsLawful b → IsLawful (step b e).broker) where
  pub run-lawful : (es : List Event) (b : Broker) → IsLawful b → IsLawful (run b es)
  run-lawful [] b lawful = lawful
  run-lawful (e ∷ es) b lawful = run-lawful es (step b e).broker (step-lawful b e lawful)

  all-from : (es : List Event) (b n : Broker) → IsLawful b → Follows b n → Follows (run b es) (run n (journal b n es))
  all-from [] b n lawful fine = fine
  all-from (e ∷ es) b n lawful fine =
      subst (Follows (run (step b e).broker es)) (sym (run-append n (notes b n.clock e) (journal (step b e).broker (run n (notes b n.clock e)) es)))
      (all-from es (step b e).broker (run n (notes b n.clock e)) (step-lawful b e lawful) (next b n e lawful fine))

  pub all : (b n : Broker) (es : List Event) → IsLawful b → Follows b n → Follows (run b es) (run n (journal b n es))
  all b n es lawful fine = all-from es b n lawful fine

  front-from : (es : List Event) (b n : Broker) (left lost : List Event) → IsLawful b → Follows b n → journal b n es ≡ left ++ lost → Front b n es left
  front-from [] b n [] lost lawful fine e = ([], [], refl, fine)
  front-from [] b n (l ∷ left) lost lawful fine e = absurd (let a : 0 ≡ suc (length (left ++ lost)) = ap length e in omega arith)
  front-from (e ∷ es) b n left lost lawful fine is = elim (split (notes b n.clock e) (journal (step b e).broker (run n (notes b n.clock e)) es) left lost is) [
    | inl beyond ↦
        let more : Front (step b e).broker (run n (notes b n.clock e)) es beyond.tail =
        front-from es (step b e).broker (run n (notes b n.clock e)) beyond.tail lost (step-lawful b e lawful) (next b n e lawful fine) beyond.rest in
        (e ∷ more.0, more.1, ap (λ zs. e ∷ zs) more.2, subst (Follows (run (step b e).broker more.0)) (sym (run-append n (notes b n.clock e) beyond.tail) ∙ ap (run n) (sym beyond.is)) more.3)
    | inr within ↦ ([], e ∷ es, refl, part b n e left within.first within.rest lawful fine within.is)
  ]

  pub front : (b n : Broker) (es left lost : List Event) → IsLawful b → Follows b n → journal b n es ≡ left ++ lost → Front b n es left
  front b n es left lost lawful fine is = front-from es b n left lost lawful fine is

  -- what is noted of some events, and then of others
  journal-append : (early others : List Event) (b n : Broker) → journal b n (early ++ others) ≡ journal b n early ++ journal (run b early) (run n (journal b n early)) others
  journal-append [] others b n = refl
  journal-append (e ∷ early) others b n =
      ap (λ es. notes b n.clock e ++ es) (journal-append early others (step b e).broker (run n (notes b n.clock e)))
      ∙ sym (append_assoc (notes b n.clock e) (journal (step b e).broker (run n (notes b n.clock e)) early) (journal (run (step b e).broker early) (run (run n (notes b n.clock e)) (journal (step b e).broker (run n (notes b n.clock e)) early)) others))
      ∙ ap (λ x. (notes b n.clock e ++ journal (step b e).broker (run n (notes b n.clock e)) early) ++ journal (run (step b e).broker early) x others)
      (sym (run-append n (notes b n.clock e) (journal (step b e).broker (run n (notes b n.clock e)) early)))

  cancel : (xs ys zs : List Event) → xs ++ ys ≡ xs ++ zs → ys ≡ zs
  cancel [] ys zs e = e
  cancel (x ∷ xs) ys zs e = let rest : xs ++ ys ≡ xs ++ zs = cc in cancel xs ys zs rest

  pub synced : (b n : Broker) (early others left lost : List Event) → IsLawful b → Follows b n → journal b n (early ++ others) ≡ (journal b n early ++ left) ++ lost
      → (done rest : List Event) × (others ≡ done ++ rest) × Follows (run b (early ++ done)) (run n (journal b n early ++ left))
  synced b n early others left lost lawful fine is =
      let behind : journal (run b early) (run n (journal b n early)) others ≡ left ++ lost =
      cancel (journal b n early) (journal (run b early) (run n (journal b n early)) others) (left ++ lost)
      (sym (journal-append early others b n) ∙ is ∙ append_assoc (journal b n early) left lost) in
      let more : Front (run b early) (run n (journal b n early)) others left =
      front-from others (run b early) (run n (journal b n early)) left lost (run-lawful early b lawful) (all-from early b n lawful fine) behind in (
        more.0,
        more.1,
        more.2,
        subst (λ x. Follows x (run n (journal b n early ++ left))) (sym (run-append b early more.0))
            (subst (Follows (run (run b early) more.0)) (sym (run-append n (journal b n early) left)) more.3),
      )

  -- ---- the end of all connections

  abbrev closings : List ℕ → List Event
  closings cs = map (λ c. Closed c 0) cs

  journal-closings : (cs : List ℕ) (b n : Broker) → journal b n (closings cs) ≡ closings cs
  journal-closings [] b n = refl
  journal-closings (c ∷ cs) b n = ap (λ es. Closed c 0 ∷ es) (journal-closings cs (step b (Closed c 0)).broker (run n (Closed c 0 ∷ [])))

  connections-bare : (b : Broker) → connections (bare b) ≡ connections b
  connections-bare b = ap₂ (λ xs ys. xs ++ ys) (map-map bare_newcomer (λ (g : Newcomer). g.conn) (λ (g : Newcomer). g.conn) (λ g. refl) b.newcomers)
      (flat_map-map bare_session (λ (s : Session). option_list (conn_at s)) (λ (s : Session). option_list (conn_at s)) (λ s. ap option_list (conn-bare s)) b.sessions)

  connections-alike : (b n : Broker) → bare b ≡ bare n → connections b ≡ connections n
  connections-alike b n e = sym (connections-bare b) ∙ ap connections e ∙ connections-bare n

  closed-alike : (b n : Broker) → IsLawful b → Follows b n → Follows (run b (ends b)) (run n (ends n))
  closed-alike b n lawful fine =
      subst (λ es. Follows (run b (ends b)) (run n es)) (journal-closings (connections b) b n ∙ ap closings (connections-alike b n fine.same)) (all-from (ends b) b n lawful fine)

  module _ (ended-gone : (b : Broker) (c : ℕ) (e : Event) → IsLawful b → lets_go c e ≡ true → knows (step b e).broker c ≡ false)
      (gone-stays : (b : Broker) (c : ℕ) (e : Event) → IsLawful b → c ≤ b.given → knows b c ≡ false → knows (step b e).broker c ≡ false)
      (given-step : (b : Broker) (e : Event) → IsLawful b → (step b e).broker.given ≡ cond (is_opening e) (b.given + 1) b.given) where
    stays-gone : (cs : List ℕ) (b : Broker) (c : ℕ) → IsLawful b → c ≤ b.given → knows b c ≡ false → knows (run b (closings cs)) c ≡ false
    stays-gone [] b c lawful low h = h
    stays-gone (d ∷ cs) b c lawful low h = stays-gone cs (step b (Closed d 0)).broker c (step-lawful b (Closed d 0) lawful)
        (let a = given-step b (Closed d 0) lawful in omega arith) (gone-stays b c (Closed d 0) lawful low h)

    one-gone : (cs : List ℕ) (b : Broker) (c : ℕ) → IsLawful b → c ≤ b.given → list_any (λ d. eqb d c) cs ≡ true → knows (run b (closings cs)) c ≡ false
    one-gone [] b c lawful low h = no (sym h)
    one-gone (d ∷ cs) b c lawful low h = by (eqb d c) refl h (one-gone cs (step b (Closed d 0)).broker c (step-lawful b (Closed d 0) lawful) (let a = given-step b (Closed d 0) lawful in omega arith))
      where
        by : (v : Bool) → eqb d c ≡ v → (v || list_any (λ x. eqb x c) cs) ≡ true → (list_any (λ x. eqb x c) cs ≡ true → knows (run (step b (Closed d 0)).broker (closings cs)) c ≡ false)
            → knows (run (step b (Closed d 0)).broker (closings cs)) c ≡ false
        by true e f rest = stays-gone cs (step b (Closed d 0)).broker c (step-lawful b (Closed d 0) lawful) (let a = given-step b (Closed d 0) lawful in omega arith) (ended-gone b c (Closed d 0) lawful e)
        by false e f rest = rest f

    -- who is known is among the connections
    known-newcomer : (c : ℕ) (gs : List Newcomer) (ds : List ℕ) → list_any (is_newcomer c) gs ≡ true → list_any (λ d. eqb d c) (map (λ (g : Newcomer). g.conn) gs ++ ds) ≡ true
    known-newcomer c [] ds h = no (sym h)
    known-newcomer c (g ∷ gs) ds h = by (eqb g.conn c) h (known-newcomer c gs ds)
      where
        by : (v : Bool) → (v || list_any (is_newcomer c) gs) ≡ true → (list_any (is_newcomer c) gs ≡ true → list_any (λ d. eqb d c) (map (λ (x : Newcomer). x.conn) gs ++ ds) ≡ true)
            → (v || list_any (λ d. eqb d c) (map (λ (x : Newcomer). x.conn) gs ++ ds)) ≡ true
        by true f rest = refl
        by false f rest = rest f

    behind : (c : ℕ) (xs ds : List ℕ) → list_any (λ d. eqb d c) ds ≡ true → list_any (λ d. eqb d c) (xs ++ ds) ≡ true
    behind c [] ds h = h
    behind c (x ∷ xs) ds h = or_right (eqb x c) (list_any (λ d. eqb d c) (xs ++ ds)) (behind c xs ds h)

    known-session : (c : ℕ) (ss : List Session) → is_some (session_by c ss) ≡ true → list_any (λ d. eqb d c) (flat_map (λ (s : Session). option_list (conn_at s)) ss) ≡ true
    known-session c [] h = no (sym h)
    known-session c (s ∷ ss) h = by s.here (sits c s) refl refl h (known-session c ss)
      where
        ds : List ℕ
        ds = flat_map (λ (x : Session). option_list (conn_at x)) ss

        by : (o : Option Connection) (v : Bool) → s.here ≡ o → sits c s ≡ v → is_some (cond v (Some s) (session_by c ss)) ≡ true
            → (is_some (session_by c ss) ≡ true → list_any (λ d. eqb d c) (flat_map (λ (x : Session). option_list (conn_at x)) ss) ≡ true)
            → list_any (λ d. eqb d c) (option_list (option_map (λ (l : Connection). l.conn) o) ++ flat_map (λ (x : Session). option_list (conn_at x)) ss) ≡ true
        by o false e f g rest = behind c (option_list (option_map (λ (l : Connection). l.conn) o)) (flat_map (λ (x : Session). option_list (conn_at x)) ss) (rest g)
        by None true e f g rest = no (sym f ∙ ap (λ o. option_map_or (λ (l : Connection). eqb l.conn c) o false) e)
        by (Some l) true e f g rest = or_left (eqb l.conn c) _ (sym (ap (λ o. option_map_or (λ (z : Connection). eqb z.conn c) o false) e) ∙ f)

    known-in : (b : Broker) (c : ℕ) → knows b c ≡ true → list_any (λ d. eqb d c) (connections b) ≡ true
    known-in b c h = by (list_any (is_newcomer c) b.newcomers) refl h
      where
        by : (v : Bool) → list_any (is_newcomer c) b.newcomers ≡ v → (v || is_some (session_by c b.sessions)) ≡ true → list_any (λ d. eqb d c) (connections b) ≡ true
        by true e f = known-newcomer c b.newcomers (flat_map (λ (s : Session). option_list (conn_at s)) b.sessions) e
        by false e f = behind c (map (λ (g : Newcomer). g.conn) b.newcomers) (flat_map (λ (s : Session). option_list (conn_at s)) b.sessions) (known-session c b.sessions f)

    nobody : (b : Broker) (c : ℕ) → IsLawful b → c ≤ b.given → knows (run b (ends b)) c ≡ false
    nobody b c lawful low = by (knows b c) refl
      where
        by : (v : Bool) → knows b c ≡ v → knows (run b (ends b)) c ≡ false
        by true e = one-gone (connections b) b c lawful low (known-in b c e)
        by false e = stays-gone (connections b) b c lawful low e

    -- nobody is known, so nobody is there
    no-newcomers : (gs : List Newcomer) (top : ℕ) → AllByRecursion (λ (g : Newcomer). g.conn ≤ top) gs → ((c : ℕ) → c ≤ top → list_any (is_newcomer c) gs ≡ false) → map (λ (g : Newcomer). g.conn) gs ≡ []
    no-newcomers [] top low h = refl
    no-newcomers (g ∷ gs) top low h = no (sym (or_left (eqb g.conn g.conn) (list_any (is_newcomer g.conn) gs) (eqb-self g.conn)) ∙ h g.conn low.0)

    no-sessions : (ss : List Session) (top : ℕ) → AllByRecursion (λ (s : Session). IsLow top s.here) ss → ((c : ℕ) → c ≤ top → is_some (session_by c ss) ≡ false) → flat_map (λ (s : Session). option_list (conn_at s)) ss ≡ []
    no-sessions [] top low h = refl
    no-sessions (s ∷ ss) top low h = by s.here refl low.0 (no-sessions ss top low.1 (λ c under. past c (sits c s) (h c under)))
      where
        past : (c : ℕ) (v : Bool) → is_some (cond v (Some s) (session_by c ss)) ≡ false → is_some (session_by c ss) ≡ false
        past c true e = no e
        past c false e = e

        by : (o : Option Connection) → s.here ≡ o → IsLow top o → flat_map (λ (x : Session). option_list (conn_at x)) ss ≡ []
            → option_list (option_map (λ (l : Connection). l.conn) o) ++ flat_map (λ (x : Session). option_list (conn_at x)) ss ≡ []
        by None e under rest = rest
        by (Some l) e under rest = no (sym (ap (λ v. is_some (cond v (Some s) (session_by l.conn ss))) (ap (λ o. option_map_or (λ (z : Connection). eqb z.conn l.conn) o false) e ∙ eqb-self l.conn)) ∙ h l.conn under)

    given-same : (cs : List ℕ) (b : Broker) → IsLawful b → (run b (closings cs)).given ≡ b.given
    given-same [] b lawful = refl
    given-same (c ∷ cs) b lawful = given-same cs (step b (Closed c 0)).broker (step-lawful b (Closed c 0) lawful) ∙ given-step b (Closed c 0) lawful

    or-left-no : (a v : Bool) → (a || v) ≡ false → a ≡ false
    or-left-no true v e = no e
    or-left-no false v e = refl

    or-right-no : (a v : Bool) → (a || v) ≡ false → v ≡ false
    or-right-no true v e = no e
    or-right-no false v e = e

    none-left : (b : Broker) → IsLawful b → connections (run b (ends b)) ≡ []
    none-left b lawful = ap₂ (λ xs ys. xs ++ ys)
        (no-newcomers x.newcomers x.given after.newcomers (λ c low. or-left-no (list_any (is_newcomer c) x.newcomers) _ (gone c low)))
        (no-sessions x.sessions x.given after.connections (λ c low. or-right-no (list_any (is_newcomer c) x.newcomers) _ (gone c low)))
      where
        x : Broker
        x = run b (ends b)

        after : IsLawful (run b (ends b))
        after = run-lawful (ends b) b lawful

        gone : (c : ℕ) → c ≤ (run b (ends b)).given → knows (run b (ends b)) c ≡ false
        gone c low = nobody b c lawful (let a = given-same (connections b) b lawful in omega arith)

    pub ended : (b n : Broker) → IsLawful b → Follows b n → (bare (run n (ends n)) ≡ bare (run b (ends b))) × (connections (run n (ends n)) ≡ [])
    ended b n lawful fine =
        let same : bare (run b (ends b)) ≡ bare (run n (ends n)) = (closed-alike b n lawful fine).same in
        (sym same, connections-alike (run n (ends n)) (run b (ends b)) (sym same) ∙ none-left b lawful)
