-- A connection that was found at a place sits nowhere else.
use Rattle.std.proofs.Common.{◌≡◌, ℕ, zero, suc, ◌+◌, ◌<◌, ◌≤◌, Bool, true, false, not, ◌||◌, cond, eqb, ltb, List, [], ◌∷◌, ◌++◌, length, length-set, map, get_or, set, refl, sym, ap, ◌∙◌, subst, Option, Some, None, arith}
use Rattle.std.specs.List.{filter, find, flat_map, list_any, position, position_or_len}
use Rattle.std.specs.Option.{is_none, is_some, option_map, option_map_or}
use Rattle.std.proofs.lemmas.Bool.{cases_lt}
use Rattle.std.proofs.lemmas.List.Folds.{position_or_len-set}
use Rattle.std.proofs.lemmas.List.Quantifiers.{position-Some}
use mathlib.Core.Logic.{⊎_elim}
use Rattle.spk_session.specs.Step.{one_more}
use Rattle.spk_broker_rules.specs.Data as plain
use Rattle.spk_broker_rules.specs.Lawful.{places}
use Rattle.spk_broker_rules.specs.Plan.{Drop, Hear}
use Rattle.spk_broker_rules.specs.Step.{Turn, act, drops_in, newcomer_dropped, newcomer_heard, is_newcomer, connection_dropped, connection_heard, session_by, sits}
use Rattle.spk_broker_rules.specs.Words.{option_list}
use Rattle.spk_broker.specs.Asking.{SitsAt, drops_at, passes, place_in, session_here, sessions_now}
use Rattle.spk_broker.specs.Both.{Both}
use Rattle.spk_broker.specs.Sessions.{session_dropped, session_heard}
use Rattle.spk_broker.specs.View.{Stands, state_now, newcomer_now}
use Rattle.spk_broker.specs.declared.state.State.{State}
use Rattle.spk_broker.specs.declared.out.Draft.{Draft}
use Rattle.spk_broker.proofs.Alive.{find-any, found-alive, lost-alive, place-find, place-none, some-alive}
use Rattle.spk_broker.proofs.Standing.{drop-stands, hear-stands}

-- what passes at a place passes somewhere
pub any-at : {X : Type 0} (p : X → Bool) (xs : List X) (i : ℕ) (d : X) → i < length xs → p (get_or xs i d) ≡ true → list_any p xs ≡ true
any-at p [] i d low e = absurd (omega (arith, low))
any-at p (x ∷ xs) zero d low e = ap (λ b. b || list_any p xs) e
any-at p (x ∷ xs) (suc i) d low e = ap (λ b. p x || b) (any-at p xs i d (omega (arith, low)) e) ∙ either (p x)
  where
    either : (b : Bool) → b || true ≡ true
    either true = refl
    either false = refl

-- the place that was found
pub found-sits : (conn : ℕ) (bs : List Both) (i : ℕ) → position (passes (sits conn)) bs ≡ Some i → SitsAt conn i bs
found-sits conn bs i e = (by bs e, λ d. (position-Some (passes (sits conn)) bs i d e).1)
  where
    by : (xs : List Both) → position (passes (sits conn)) xs ≡ Some i → i < length xs
    by [] f = cc
    by (x ∷ xs) f = (position-Some (passes (sits conn)) (x ∷ xs) i x f).0

-- some session sits, so the number is at least 1
pub some-sits : (conn : ℕ) (bs : List Both) (i : ℕ) (d : Both) → i < length bs → passes (sits conn) (get_or bs i d) ≡ true → 1 ≤ length (filter (sits conn) (sessions_now bs))
some-sits conn [] i d low e = absurd (omega (arith, low))
some-sits conn (b ∷ bs) zero d low e = by b.now e
  where
    at : (s : plain.Session) (t : Bool) → sits conn s ≡ t → sits conn s ≡ true → 1 ≤ length (cond t (s ∷ filter (sits conn) (sessions_now bs)) (filter (sits conn) (sessions_now bs)))
    at s true f g = omega arith
    at s false f g = absurd (let z : ⊥ = cc in z)

    by : (o : Option plain.Session) → option_map_or (sits conn) o false ≡ true → 1 ≤ length (filter (sits conn) (option_list o ++ sessions_now bs))
    by None f = absurd (let z : ⊥ = cc in z)
    by (Some s) f = at s (sits conn s) refl f
some-sits conn (b ∷ bs) (suc i) d low e = by b.now (some-sits conn bs i d (omega (arith, low)) e)
  where
    at : (s : plain.Session) (t : Bool) → 1 ≤ length (filter (sits conn) (sessions_now bs)) → 1 ≤ length (cond t (s ∷ filter (sits conn) (sessions_now bs)) (filter (sits conn) (sessions_now bs)))
    at s true f = omega arith
    at s false f = f

    by : (o : Option plain.Session) → 1 ≤ length (filter (sits conn) (sessions_now bs)) → 1 ≤ length (filter (sits conn) (option_list o ++ sessions_now bs))
    by None f = f
    by (Some s) f = at s (sits conn s) f

-- at two places it sits in two sessions
two-sit : (conn : ℕ) (bs : List Both) (j i : ℕ) (d : Both) → j < i → i < length bs → passes (sits conn) (get_or bs j d) ≡ true → passes (sits conn) (get_or bs i d) ≡ true
    → 2 ≤ length (filter (sits conn) (sessions_now bs))
two-sit conn [] j i d less low a b = absurd (omega (arith, low))
two-sit conn (x ∷ xs) j zero d less low a b = absurd (omega (arith, less))
two-sit conn (x ∷ xs) zero (suc i) d less low a b = by x.now a (some-sits conn xs i d (omega (arith, low)) b)
  where
    at : (s : plain.Session) (t : Bool) → sits conn s ≡ t → sits conn s ≡ true → 1 ≤ length (filter (sits conn) (sessions_now xs))
        → 2 ≤ length (cond t (s ∷ filter (sits conn) (sessions_now xs)) (filter (sits conn) (sessions_now xs)))
    at s true f g n = omega (arith, n)
    at s false f g n = absurd (let z : ⊥ = cc in z)

    by : (o : Option plain.Session) → option_map_or (sits conn) o false ≡ true → 1 ≤ length (filter (sits conn) (sessions_now xs)) → 2 ≤ length (filter (sits conn) (option_list o ++ sessions_now xs))
    by None f n = absurd (let z : ⊥ = cc in z)
    by (Some s) f n = at s (sits conn s) refl f n
two-sit conn (x ∷ xs) (suc j) (suc i) d less low a b = by x.now (two-sit conn xs j i d (omega (arith, less)) (omega (arith, low)) a b)
  where
    at : (s : plain.Session) (t : Bool) → 2 ≤ length (filter (sits conn) (sessions_now xs)) → 2 ≤ length (cond t (s ∷ filter (sits conn) (sessions_now xs)) (filter (sits conn) (sessions_now xs)))
    at s true n = omega (arith, n)
    at s false n = n

    by : (o : Option plain.Session) → 2 ≤ length (filter (sits conn) (sessions_now xs)) → 2 ≤ length (filter (sits conn) (option_list o ++ sessions_now xs))
    by None n = n
    by (Some s) n = at s (sits conn s) n

-- where it sits at no more than one place, the place that is known is the one that is found
pub sits-place : (conn : ℕ) (bs : List Both) (i : ℕ) → SitsAt conn i bs → length (filter (sits conn) (sessions_now bs)) ≤ 1 → Some i ≡ place_in conn bs
sits-place conn [] i at few = absurd (let low : i < 0 = at.0 in omega (arith, low))
sits-place conn (x ∷ xs) i at few = by (place_in conn (x ∷ xs)) refl
  where
    bs : List Both
    bs = x ∷ xs

    before : (j : ℕ) → j < i → passes (sits conn) (get_or bs j x) ≡ true → ⊥
    before j less e = let two = two-sit conn bs j i x less at.0 e (at.1 x) in omega (arith, few, two)

    same : (j : ℕ) → place_in conn bs ≡ Some j → i ≡ j
    same j e =
        let found = position-Some (passes (sits conn)) bs j x e in
        ⊎_elim (λ less. absurd (let f = found.2 i less in let t = at.1 x in let z : ⊥ = cc in z))
        (λ ge. ⊎_elim (λ less. absurd (before j less found.1)) (λ le. omega (arith, ge, le)) (cases_lt j i))
        (cases_lt i j)

    by : (o : Option ℕ) → place_in conn bs ≡ o → Some i ≡ o
    by None e =
        let some = any-at (passes (sits conn)) bs i x at.0 (at.1 x) in
        let none : false ≡ list_any (passes (sits conn)) bs = ap is_some (sym (place-none (passes (sits conn)) bs e)) ∙ find-any (passes (sits conn)) bs in
        absurd (let z : ⊥ = cc in z)
    by (Some j) e = ap (λ k. Some k) (same j e)

-- who sits somewhere has an accepted CONNECT
pub joined-in : (conn : ℕ) (bs : List Both) (o : Option ℕ) → place_in conn bs ≡ o → is_some o ≡ is_some (session_by conn (sessions_now bs))
joined-in conn [] o e = ap is_some (sym e)
joined-in conn (x ∷ xs) None e = ap is_some (sym (lost-alive session_here (sits conn) (x ∷ xs) e))
joined-in conn (x ∷ xs) (Some i) e = ap is_some (sym (place-find (passes (sits conn)) (x ∷ xs) i x e).1) ∙ find-any (passes (sits conn)) (x ∷ xs) ∙ sym (some-alive session_here (sits conn) (x ∷ xs))

pub unjoined-in : (conn : ℕ) (bs : List Both) (o : Option ℕ) → place_in conn bs ≡ o → is_none o ≡ not (is_some (session_by conn (sessions_now bs)))
unjoined-in conn bs o e = by o ∙ ap not (joined-in conn bs o e)
  where
    by : (p : Option ℕ) → is_none p ≡ not (is_some p)
    by None = refl
    by (Some i) = refl

-- nobody is found, and nobody sits
none-found : {X : Type 0} (p : X → Bool) (xs : List X) → find p xs ≡ None → length (filter p xs) ≤ 0
none-found p [] e = omega arith
none-found p (x ∷ xs) e = by (p x) e (λ f. none-found p xs f)
  where
    by : (b : Bool) → cond b (Some x) (find p xs) ≡ None → (find p xs ≡ None → length (filter p xs) ≤ 0) → length (cond b (x ∷ filter p xs) (filter p xs)) ≤ 0
    by true f rest = absurd (let z : ⊥ = cc in z)
    by false f rest = rest f

none-sits : (conn : ℕ) (bs : List Both) → place_in conn bs ≡ None → length (filter (sits conn) (sessions_now bs)) ≤ 0
none-sits conn bs e = none-found (sits conn) (sessions_now bs) (lost-alive session_here (sits conn) bs e)

no-one : {X : Type 0} (p : X → Bool) (xs : List X) → length (filter p xs) ≤ 0 → find p xs ≡ None
no-one p [] le = refl
no-one p (x ∷ xs) le = by (p x) le (λ low. no-one p xs low)
  where
    by : (b : Bool) → length (cond b (x ∷ filter p xs) (filter p xs)) ≤ 0 → (length (filter p xs) ≤ 0 → find p xs ≡ None) → cond b (Some x) (find p xs) ≡ None
    by true low rest = absurd (omega (arith, low))
    by false low rest = rest low

-- where one sits there is no such connection without CONNECT
pub no-newcomer : (conn : ℕ) (d : State) (i : ℕ) → place_in conn d.sessions.items ≡ Some i → places conn (state_now d) ≤ 1 → length (filter (is_newcomer conn) (flat_map newcomer_now d.newcomers.items)) ≤ 0
no-newcomer conn d i e apart = by d.sessions.items e apart
  where
    by : (bs : List Both) → place_in conn bs ≡ Some i → length (filter (is_newcomer conn) (flat_map newcomer_now d.newcomers.items)) + length (filter (sits conn) (sessions_now bs)) ≤ 1
        → length (filter (is_newcomer conn) (flat_map newcomer_now d.newcomers.items)) ≤ 0
    by [] f a = cc
    by (x ∷ xs) f a =
        let at = found-sits conn (x ∷ xs) i f in
        let some = some-sits conn (x ∷ xs) i x at.0 (at.1 x) in
        omega (arith, a, some)

pub few-sit : (conn : ℕ) (b : plain.Broker) → places conn b ≤ 1 → length (filter (sits conn) b.sessions) ≤ 1
few-sit conn b apart = omega (arith, apart)

pub apart-stands : (d : State) (x : Draft) (t : Turn) (conn : ℕ) → Stands d x t → places conn (state_now d) ≤ 1
apart-stands d x t conn s = subst (λ (y : plain.Broker). places conn y ≤ 1) (sym s.broker) (s.lawful.apart conn)

-- ---- a change of the one that sits

-- a change that leaves each session as it is in which the connection doesn't sit
abbrev pub OfConnection : ℕ → (plain.Session → plain.Session) → Type 0
OfConnection conn f = (s : plain.Session) → sits conn s ≡ false → f s ≡ s

abbrev pub OfNewcomer : ℕ → (plain.Newcomer → plain.Newcomer) → Type 0
OfNewcomer conn f = (g : plain.Newcomer) → is_newcomer conn g ≡ false → f g ≡ g

pub unchanged-all : (conn : ℕ) (f : plain.Session → plain.Session) → OfConnection conn f → (ss : List plain.Session) → length (filter (sits conn) ss) ≤ 0 → map f ss ≡ ss
unchanged-all conn f of [] le = refl
unchanged-all conn f of (s ∷ ss) le = by (sits conn s) refl le (λ low. unchanged-all conn f of ss low)
  where
    by : (b : Bool) → sits conn s ≡ b → length (cond b (s ∷ filter (sits conn) ss) (filter (sits conn) ss)) ≤ 0
        → (length (filter (sits conn) ss) ≤ 0 → map f ss ≡ ss) → f s ∷ map f ss ≡ s ∷ ss
    by true e low rest = absurd (omega (arith, low))
    by false e low rest = ap (λ x. x ∷ map f ss) (of s e) ∙ ap (λ l. s ∷ l) (rest low)

unchanged-newcomers : (conn : ℕ) (f : plain.Newcomer → plain.Newcomer) → OfNewcomer conn f → (gs : List plain.Newcomer) → length (filter (is_newcomer conn) gs) ≤ 0 → gs ≡ map f gs
unchanged-newcomers conn f of [] le = refl
unchanged-newcomers conn f of (g ∷ gs) le = by (is_newcomer conn g) refl le (λ low. unchanged-newcomers conn f of gs low)
  where
    by : (b : Bool) → is_newcomer conn g ≡ b → length (cond b (g ∷ filter (is_newcomer conn) gs) (filter (is_newcomer conn) gs)) ≤ 0
        → (length (filter (is_newcomer conn) gs) ≤ 0 → gs ≡ map f gs) → g ∷ gs ≡ f g ∷ map f gs
    by true e low rest = absurd (omega (arith, low))
    by false e low rest = ap (λ l. g ∷ l) (rest low) ∙ ap (λ x. x ∷ map f gs) (sym (of g e))

-- the one that sits is changed, and no other would be
changed-at : (conn : ℕ) (f : plain.Session → plain.Session) → OfConnection conn f → (bs : List Both) (i : ℕ) (d b : Both) → i < length bs → passes (sits conn) (get_or bs i d) ≡ true
    → length (filter (sits conn) (sessions_now bs)) ≤ 1 → b.now ≡ option_map f (get_or bs i d).now → sessions_now (set bs i b) ≡ map f (sessions_now bs)
changed-at conn f of [] i d b low e few new = absurd (omega (arith, low))
changed-at conn f of (x ∷ xs) zero d b low e few new = by x.now new e few
  where
    at : (s : plain.Session) (t : Bool) → sits conn s ≡ t → sits conn s ≡ true → length (cond t (s ∷ filter (sits conn) (sessions_now xs)) (filter (sits conn) (sessions_now xs))) ≤ 1
        → length (filter (sits conn) (sessions_now xs)) ≤ 0
    at s true f g le = omega (arith, le)
    at s false f g le = absurd (let z : ⊥ = cc in z)

    by : (o : Option plain.Session) → b.now ≡ option_map f o → option_map_or (sits conn) o false ≡ true → length (filter (sits conn) (option_list o ++ sessions_now xs)) ≤ 1
        → option_list b.now ++ sessions_now xs ≡ map f (option_list o ++ sessions_now xs)
    by None n g le = absurd (let z : ⊥ = cc in z)
    by (Some s) n g le = ap (λ o. option_list o ++ sessions_now xs) n
        ∙ ap (λ l. f s ∷ l) (sym (unchanged-all conn f of (sessions_now xs) (at s (sits conn s) refl g le)))
changed-at conn f of (x ∷ xs) (suc i) d b low e few new =
    by x.now few (some-sits conn xs i d (omega (arith, low)) e) (λ le. changed-at conn f of xs i d b (omega (arith, low)) e le new)
  where
    at : (s : plain.Session) (t : Bool) → sits conn s ≡ t → length (cond t (s ∷ filter (sits conn) (sessions_now xs)) (filter (sits conn) (sessions_now xs))) ≤ 1 → 1 ≤ length (filter (sits conn) (sessions_now xs))
        → (sits conn s ≡ false) × (length (filter (sits conn) (sessions_now xs)) ≤ 1)
    at s true f le some = absurd (omega (arith, le, some))
    at s false f le some = (f, le)

    by : (o : Option plain.Session) → length (filter (sits conn) (option_list o ++ sessions_now xs)) ≤ 1 → 1 ≤ length (filter (sits conn) (sessions_now xs))
        → (length (filter (sits conn) (sessions_now xs)) ≤ 1 → sessions_now (set xs i b) ≡ map f (sessions_now xs))
        → option_list o ++ sessions_now (set xs i b) ≡ map f (option_list o ++ sessions_now xs)
    by None le some rest = rest le
    by (Some s) le some rest =
        let none = at s (sits conn s) refl le some in
        ap (λ l. s ∷ l) (rest none.1) ∙ ap (λ y. y ∷ map f (sessions_now xs)) (sym (of s none.0))

-- where one is written that sits as the one before did, each sits where it sat
pub place-set : (conn : ℕ) (bs : List Both) (i : ℕ) (d b : Both) → passes (sits conn) b ≡ passes (sits conn) (get_or bs i d) → place_in conn (set bs i b) ≡ place_in conn bs
place-set conn bs i d b e =
    ap (λ n. cond (ltb n (length (set bs i b))) (Some n) None) (position_or_len-set (passes (sits conn)) bs i b d e)
    ∙ ap (λ m. cond (ltb (position_or_len (passes (sits conn)) bs) m) (Some (position_or_len (passes (sits conn)) bs)) None) (length-set bs i b)

-- ---- a packet is heard, and a send is dropped

heard-connection : (conn clock : ℕ) → OfConnection conn (session_heard conn clock)
heard-connection conn clock s e = ap (λ (o : Option plain.Connection). record s { here = o }) (by s.here e)
  where
    by : (o : Option plain.Connection) → option_map_or (λ (l : plain.Connection). eqb l.conn conn) o false ≡ false → option_map (connection_heard conn clock) o ≡ o
    by None f = refl
    by (Some l) f = ap (λ b. Some (cond b (record l { heard = clock }) l)) f

heard-newcomer : (conn clock : ℕ) → OfNewcomer conn (newcomer_heard conn clock)
heard-newcomer conn clock g e = ap (λ b. cond b (record g { heard = clock }) g) e

dropped-connection : (conn : ℕ) → OfConnection conn (session_dropped conn)
dropped-connection conn s e = ap (λ (o : Option plain.Connection). record s { here = o }) (by s.here e)
  where
    by : (o : Option plain.Connection) → option_map_or (λ (l : plain.Connection). eqb l.conn conn) o false ≡ false → option_map (connection_dropped conn) o ≡ o
    by None f = refl
    by (Some l) f = ap (λ b. Some (cond b (record l { drops = one_more l.drops }) l)) f

dropped-newcomer : (conn : ℕ) → OfNewcomer conn (newcomer_dropped conn)
dropped-newcomer conn g e = ap (λ b. cond b (record g { drops = one_more g.drops }) g) e

pub heard-sits : (conn who clock : ℕ) (o : Option plain.Session) → option_map_or (sits conn) (option_map (session_heard who clock) o) false ≡ option_map_or (sits conn) o false
heard-sits conn who clock None = refl
heard-sits conn who clock (Some s) = by s.here
  where
    at : (l : plain.Connection) (t : Bool) → eqb (cond t (record l { heard = clock }) l).conn conn ≡ eqb l.conn conn
    at l true = refl
    at l false = refl

    by : (h : Option plain.Connection) → option_map_or (λ (l : plain.Connection). eqb l.conn conn) (option_map (connection_heard who clock) h) false ≡ option_map_or (λ (l : plain.Connection). eqb l.conn conn) h false
    by None = refl
    by (Some l) = at l (eqb l.conn who)

pub dropped-sits : (conn who : ℕ) (o : Option plain.Session) → option_map_or (sits conn) (option_map (session_dropped who) o) false ≡ option_map_or (sits conn) o false
dropped-sits conn who None = refl
dropped-sits conn who (Some s) = by s.here
  where
    at : (l : plain.Connection) (t : Bool) → eqb (cond t (record l { drops = one_more l.drops }) l).conn conn ≡ eqb l.conn conn
    at l true = refl
    at l false = refl

    by : (h : Option plain.Connection) → option_map_or (λ (l : plain.Connection). eqb l.conn conn) (option_map (connection_dropped who) h) false ≡ option_map_or (λ (l : plain.Connection). eqb l.conn conn) h false
    by None = refl
    by (Some l) = at l (eqb l.conn who)

-- ---- the state stands for the turn in which the packet was heard

pub hear-at-stands : (d0 d1 : State) (conn place : ℕ) (e b : Both) → place_in conn d0.sessions.items ≡ Some place
    → state_now d1 ≡ record (state_now d0) { newcomers = flat_map newcomer_now d1.newcomers.items; sessions = sessions_now d1.sessions.items } → d1.newcomers ≡ d0.newcomers → d1.sessions.items ≡ set d0.sessions.items place b
    → b.now ≡ option_map (session_heard conn d0.clock) (get_or d0.sessions.items place e).now → d1.retained ≡ d0.retained
    → (x : Draft) (t : Turn) → Stands d0 x t → Stands d1 x (act (Hear conn) t)
hear-at-stands d0 d1 conn place e b found shape newcomers sessions new same x t s =
    let apart = apart-stands d0 x t conn s in
    let at = found-sits conn d0.sessions.items place found in
    hear-stands d0 d1 conn shape
    (ap (λ g. flat_map newcomer_now g.items) newcomers ∙ unchanged-newcomers conn (newcomer_heard conn d0.clock) (heard-newcomer conn d0.clock) (flat_map newcomer_now d0.newcomers.items) (no-newcomer conn d0 place found apart))
    (ap sessions_now sessions ∙ changed-at conn (session_heard conn d0.clock) (heard-connection conn d0.clock) d0.sessions.items place e b at.0 (at.1 e) (few-sit conn (state_now d0) apart) new)
    same x t s

pub hear-newcomer-stands : (d0 d1 : State) (conn : ℕ) → place_in conn d0.sessions.items ≡ None
    → state_now d1 ≡ record (state_now d0) { newcomers = flat_map newcomer_now d1.newcomers.items; sessions = sessions_now d1.sessions.items }
    → flat_map newcomer_now d1.newcomers.items ≡ map (newcomer_heard conn d0.clock) (flat_map newcomer_now d0.newcomers.items) → d1.sessions ≡ d0.sessions → d1.retained ≡ d0.retained
    → (x : Draft) (t : Turn) → Stands d0 x t → Stands d1 x (act (Hear conn) t)
hear-newcomer-stands d0 d1 conn none shape newcomers sessions same x t s =
    hear-stands d0 d1 conn shape newcomers
    (ap (λ v. sessions_now v.items) sessions ∙ sym (unchanged-all conn (session_heard conn d0.clock) (heard-connection conn d0.clock) (sessions_now d0.sessions.items) (none-sits conn d0.sessions.items none)))
    same x t s

pub drop-at-stands : (d0 d1 : State) (conn place : ℕ) (e b : Both) → place_in conn d0.sessions.items ≡ Some place
    → state_now d1 ≡ record (state_now d0) { newcomers = flat_map newcomer_now d1.newcomers.items; sessions = sessions_now d1.sessions.items } → d1.newcomers ≡ d0.newcomers → d1.sessions.items ≡ set d0.sessions.items place b
    → b.now ≡ option_map (session_dropped conn) (get_or d0.sessions.items place e).now → d1.retained ≡ d0.retained
    → (x : Draft) (t : Turn) → Stands d0 x t → Stands d1 x (act (Drop conn) t)
drop-at-stands d0 d1 conn place e b found shape newcomers sessions new same x t s =
    let apart = apart-stands d0 x t conn s in
    let at = found-sits conn d0.sessions.items place found in
    drop-stands d0 d1 conn shape
    (ap (λ g. flat_map newcomer_now g.items) newcomers ∙ unchanged-newcomers conn (newcomer_dropped conn) (dropped-newcomer conn) (flat_map newcomer_now d0.newcomers.items) (no-newcomer conn d0 place found apart))
    (ap sessions_now sessions ∙ changed-at conn (session_dropped conn) (dropped-connection conn) d0.sessions.items place e b at.0 (at.1 e) (few-sit conn (state_now d0) apart) new)
    same x t s

pub drop-newcomer-stands : (d0 d1 : State) (conn : ℕ) → place_in conn d0.sessions.items ≡ None
    → state_now d1 ≡ record (state_now d0) { newcomers = flat_map newcomer_now d1.newcomers.items; sessions = sessions_now d1.sessions.items }
    → flat_map newcomer_now d1.newcomers.items ≡ map (newcomer_dropped conn) (flat_map newcomer_now d0.newcomers.items) → d1.sessions ≡ d0.sessions → d1.retained ≡ d0.retained
    → (x : Draft) (t : Turn) → Stands d0 x t → Stands d1 x (act (Drop conn) t)
drop-newcomer-stands d0 d1 conn none shape newcomers sessions same x t s =
    drop-stands d0 d1 conn shape newcomers
    (ap (λ v. sessions_now v.items) sessions ∙ sym (unchanged-all conn (session_dropped conn) (dropped-connection conn) (sessions_now d0.sessions.items) (none-sits conn d0.sessions.items none)))
    same x t s

-- ---- how many sends were dropped

pub drops-at-place : (conn : ℕ) (d : State) (i : ℕ) (e : Both) → place_in conn d.sessions.items ≡ Some i → places conn (state_now d) ≤ 1
    → option_map_or drops_at (get_or d.sessions.items i e).now 0 ≡ drops_in conn (state_now d)
drops-at-place conn d i e found apart =
    ap (λ o. option_map_or drops_at o 0) (sym (found-alive session_here (sits conn) d.sessions.items i e found).1)
    ∙ ap (λ o. option_map_or (λ (g : plain.Newcomer). g.drops) o (option_map_or drops_at (session_by conn (sessions_now d.sessions.items)) 0))
    (sym (no-one (is_newcomer conn) (flat_map newcomer_now d.newcomers.items) (no-newcomer conn d i found apart)))

pub drops-nowhere : (conn : ℕ) (d : State) → place_in conn d.sessions.items ≡ None
    → option_map_or (λ (g : plain.Newcomer). g.drops) (find (is_newcomer conn) (flat_map newcomer_now d.newcomers.items)) 0 ≡ drops_in conn (state_now d)
drops-nowhere conn d none =
    ap (λ n. option_map_or (λ (g : plain.Newcomer). g.drops) (find (is_newcomer conn) (flat_map newcomer_now d.newcomers.items)) n)
    (sym (ap (λ o. option_map_or drops_at o 0) (lost-alive session_here (sits conn) d.sessions.items none)))

-- who is there without an accepted CONNECT sits nowhere
any-some : {X : Type 0} (p : X → Bool) (xs : List X) → list_any p xs ≡ true → 1 ≤ length (filter p xs)
any-some p [] e = absurd (let z : ⊥ = cc in z)
any-some p (x ∷ xs) e = by (p x) e (any-some p xs)
  where
    by : (b : Bool) → b || list_any p xs ≡ true → (list_any p xs ≡ true → 1 ≤ length (filter p xs)) → 1 ≤ length (cond b (x ∷ filter p xs) (filter p xs))
    by true f rest = omega arith
    by false f rest = rest f

pub newcomer-nowhere : (conn : ℕ) (b : plain.Broker) (bs : List Both) → b.sessions ≡ sessions_now bs → places conn b ≤ 1 → list_any (is_newcomer conn) b.newcomers ≡ true → None ≡ place_in conn bs
newcomer-nowhere conn b [] same few any = refl
newcomer-nowhere conn b (x ∷ xs) same few any = by (place_in conn (x ∷ xs)) refl
  where
    by : (o : Option ℕ) → place_in conn (x ∷ xs) ≡ o → None ≡ o
    by None e = refl
    by (Some i) e =
        let at = found-sits conn (x ∷ xs) i e in
        let one = some-sits conn (x ∷ xs) i x at.0 (at.1 x) in
        let other = any-some (is_newcomer conn) b.newcomers any in
        let here : length (filter (sits conn) b.sessions) ≡ length (filter (sits conn) (sessions_now (x ∷ xs))) = ap (λ ss. length (filter (sits conn) ss)) same in
        absurd (omega (arith, few, one, other, here))
