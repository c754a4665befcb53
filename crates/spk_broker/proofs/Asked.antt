-- What is asked of the sessions by now, by places.
use Rattle.std.proofs.Common.{◌≡◌, ℕ, ◌+◌, ◌<◌, Bool, true, false, ◌&&◌, ◌||◌, not, ◌==◌, cond, List, [], ◌∷◌, ◌++◌, length, take, get_or, ltb, count_by, refl, sym, ◌∙◌, ap, append-nil, arith, Option, Some, None, is_some}
use Rattle.std.specs.List.{find, flat_map, list_any, position, position_from}
use Rattle.std.specs.Option.{option_map_or, option_and_then}
use Rattle.std.proofs.lemmas.Bool.{lt-ltb}
use Rattle.std.proofs.lemmas.Iterator.Adapters.{position_from-zero}
use Rattle.std.proofs.lemmas.List.Sums.{count_by-le-length}
use Rattle.std.proofs.lemmas.List.{take_more}
use Rattle.spk_broker_rules.specs.Data as plain
use Rattle.spk_broker_rules.specs.Step.{conn_at, is_away, is_newcomer, is_kept_of, older_in, session_by, silent_at, sits, welcome_in}
use Rattle.spk_packets.specs.Spelling.{is_empty}
use Rattle.spk_broker_rules.proofs.Lists.{eqb-is, flat_map-append}
use Rattle.spk_broker.specs.Both.{Both}
use Rattle.spk_broker.specs.Asking.{drops_at, newcomer_here, newcomers_now, is_joined_by, is_named, passes, session_here, sessions_now, test_at}
use Rattle.spk_broker.specs.View.{session_now}
use Rattle.spk_broker.proofs.Alive.{any-alive, count-alive, found-alive, newcomers-alive, lost-alive, plain_of}
use Rattle.spk_broker.specs.declared.newcomer.Newcomer.{Newcomer}
use Rattle.std.proofs.lemmas.List.Quantifiers.{position-Some}

or-then : {X Y : Type 0} (f : X → Option Y) (o : Option X) → option_map_or f o None ≡ option_and_then f o
or-then f None = refl
or-then f (Some x) = refl

full : (client : List ℕ) → (length client == 0) ≡ false → is_empty client ≡ false
full [] e = cc
full (x ∷ xs) e = refl

none : (client : List ℕ) → (length client == 0) ≡ true → is_empty client ≡ true
none [] e = refl
none (x ∷ xs) e = absurd (nil-not x xs (eqb-is (length (x ∷ xs)) 0 e))
  where
    nil-not : (x : ℕ) (xs : List ℕ) → length (x ∷ xs) ≡ 0 → ⊥
    nil-not x xs e = omega arith

pub older-none : (client : List ℕ) (bs : List Both) → (length client == 0) ≡ true → older_in client (sessions_now bs) ≡ None
older-none client bs e = ap (λ b. cond b None (option_map_or conn_at (find (is_joined_by client) (sessions_now bs)) None)) (none client e)

older-full : (client : List ℕ) (bs : List Both) → (length client == 0) ≡ false
    → older_in client (sessions_now bs) ≡ option_and_then conn_at (find (is_joined_by client) (sessions_now bs))
older-full client bs e = ap (λ b. cond b None (option_map_or conn_at (find (is_joined_by client) (sessions_now bs)) None)) (full client e)
    ∙ or-then conn_at (find (is_joined_by client) (sessions_now bs))

pub older-found : (client : List ℕ) (bs : List Both) (i : ℕ) (d : Both) → (length client == 0) ≡ false → position (passes (is_joined_by client)) bs ≡ Some i
    → older_in client (sessions_now bs) ≡ option_and_then conn_at (get_or bs i d).now
older-found client bs i d e f = older-full client bs e ∙ ap (option_and_then conn_at) (found-alive session_here (is_joined_by client) bs i d f).1

pub older-lost : (client : List ℕ) (bs : List Both) → (length client == 0) ≡ false → position (passes (is_joined_by client)) bs ≡ None
    → older_in client (sessions_now bs) ≡ None
older-lost client bs e f = older-full client bs e ∙ ap (option_and_then conn_at) (lost-alive session_here (is_joined_by client) bs f)

-- whether a client is welcome, by all sessions
pub welcome-is : (client : List ℕ) (bs : List Both)
    → list_any (passes (is_kept_of client)) bs || ltb (count_by (passes (λ s. s.kept)) bs) 1000 ≡ welcome_in client (sessions_now bs)
welcome-is client bs = ap (λ b. b || ltb (count_by (passes (λ s. s.kept)) bs) 1000) (sym (any-alive session_here (is_kept_of client) bs))
    ∙ ap (λ n. list_any (is_kept_of client) (sessions_now bs) || ltb n 1000) (count-alive session_here (λ s. s.kept) bs)

pub welcome-then : (client : List ℕ) (bs : List Both) → list_any (passes (is_kept_of client)) bs ≡ true → true ≡ welcome_in client (sessions_now bs)
welcome-then client bs e = ap (λ b. b || ltb (count_by (passes (λ s. s.kept)) bs) 1000) (sym e) ∙ welcome-is client bs

pub welcome-else : (client : List ℕ) (bs : List Both) → list_any (passes (is_kept_of client)) bs ≡ false
    → ltb (count_by (passes (λ s. s.kept)) bs) 1000 ≡ welcome_in client (sessions_now bs)
welcome-else client bs e = ap (λ b. b || ltb (count_by (passes (λ s. s.kept)) bs) 1000) (sym e) ∙ welcome-is client bs

-- where there are fewer sessions than may be kept, each is
pub welcome-few : (client : List ℕ) (bs : List Both) → length bs < 1000 → true ≡ welcome_in client (sessions_now bs)
welcome-few client bs low =
    let few = count_by-le-length (passes (λ s. s.kept)) bs in
    let less : ltb (count_by (passes (λ s. s.kept)) bs) 1000 ≡ true = lt-ltb (count_by (passes (λ s. s.kept)) bs) 1000 (omega (arith, few, low)) in
    by (list_any (passes (is_kept_of client)) bs) ∙ ap (λ b. list_any (passes (is_kept_of client)) bs || b) (sym less) ∙ welcome-is client bs
  where
    by : (b : Bool) → true ≡ b || true
    by true = refl
    by false = refl

none-from : {X : Type 0} (p q : X → Bool) → ((x : X) → p x ≡ false → q x ≡ false) → (i : ℕ) (xs : List X)
    → list_any p xs ≡ false → None ≡ position_from q i xs
none-from p q less i [] e = refl
none-from p q less i (x ∷ xs) e = by (p x) refl e (none-from p q less (i + 1) xs)
  where
    by : (b : Bool) → p x ≡ b → b || list_any p xs ≡ false → (list_any p xs ≡ false → None ≡ position_from q (i + 1) xs)
        → None ≡ cond (q x) (Some i) (position_from q (i + 1) xs)
    by true is e rest = cc
    by false is e rest = rest e ∙ ap (λ b. cond b (Some i) (position_from q (i + 1) xs)) (sym (less x is))

-- where no session passes, none passes more
none-of : {X : Type 0} (p q : X → Bool) → ((x : X) → p x ≡ false → q x ≡ false) → (xs : List X)
    → list_any p xs ≡ false → None ≡ position q xs
none-of p q less xs e = none-from p q less 0 xs e ∙ sym (position_from-zero q xs)

unnamed-joins : (client : List ℕ) (b : Both) → passes (is_named client) b ≡ false → passes (is_joined_by client) b ≡ false
unnamed-joins client b e = at b.now e
  where
    last : (x : Bool) → x && false ≡ false
    last true = refl
    last false = refl

    at : (o : Option plain.Session) → option_map_or (is_named client) o false ≡ false → option_map_or (is_joined_by client) o false ≡ false
    at None e = refl
    at (Some s) e = ap (λ x. is_some s.here && x) e ∙ last (is_some s.here)

unnamed-away : (client : List ℕ) (b : Both) → passes (is_named client) b ≡ false → passes (is_away client) b ≡ false
unnamed-away client b e = at b.now e
  where
    last : (x y : Bool) → x && (y && false) ≡ false
    last true true = refl
    last true false = refl
    last false y = refl

    at : (o : Option plain.Session) → option_map_or (is_named client) o false ≡ false → option_map_or (is_away client) o false ≡ false
    at None e = refl
    at (Some s) e = ap (λ x. s.kept && (not (is_some s.here) && x)) e ∙ last s.kept (not (is_some s.here))

-- a client without a session sits nowhere
pub none-joined : (client : List ℕ) (bs : List Both) → list_any (passes (is_named client)) bs ≡ false → None ≡ position (passes (is_joined_by client)) bs
none-joined client = none-of (passes (is_named client)) (passes (is_joined_by client)) (unnamed-joins client)

-- a client without a session is away from none
pub none-away : (client : List ℕ) (bs : List Both) → list_any (passes (is_named client)) bs ≡ false → None ≡ position (passes (is_away client)) bs
none-away client = none-of (passes (is_named client)) (passes (is_away client)) (unnamed-away client)

-- the silent ones of one session more
pub silent-more : (clock : ℕ) (bs : List Both) (i : ℕ) (d : Both) → i < length bs
    → flat_map (silent_at clock) (sessions_now (take (i + 1) bs)) ≡ flat_map (silent_at clock) (sessions_now (take i bs)) ++ flat_map (silent_at clock) (session_now (get_or bs i d))
silent-more clock bs i d low =
    ap (λ xs. flat_map (silent_at clock) (sessions_now xs)) (take_more bs i d low)
    ∙ ap (flat_map (silent_at clock)) (flat_map-append session_now (take i bs) (get_or bs i d ∷ []) ∙ ap (λ xs. sessions_now (take i bs) ++ xs) (append-nil (session_now (get_or bs i d))))
    ∙ flat_map-append (silent_at clock) (sessions_now (take i bs)) (session_now (get_or bs i d))

pub drops-found : (conn : ℕ) (bs : List Both) (i : ℕ) (d : Both) → position (passes (sits conn)) bs ≡ Some i
    → option_map_or drops_at (get_or bs i d).now 0 ≡ option_map_or drops_at (session_by conn (sessions_now bs)) 0
drops-found conn bs i d e = ap (λ o. option_map_or drops_at o 0) (sym (found-alive session_here (sits conn) bs i d e).1)

pub drops-lost : (conn : ℕ) (bs : List Both) → position (passes (sits conn)) bs ≡ None → option_map_or drops_at (session_by conn (sessions_now bs)) 0 ≡ 0
drops-lost conn bs e = ap (λ o. option_map_or drops_at o 0) (lost-alive session_here (sits conn) bs e)

-- the drops of a newcomer, where one was found
pub newcomer-found : (conn : ℕ) (gs : List Newcomer) (i : ℕ) (d : Newcomer) (e : ℕ) → position (test_at newcomer_here (is_newcomer conn)) gs ≡ Some i
    → (get_or gs i d).drops ≡ option_map_or (λ (g : plain.Newcomer). g.drops) (find (is_newcomer conn) (newcomers_now gs)) e
newcomer-found conn gs i d e f =
    sym (there (get_or gs i d) (position-Some (test_at newcomer_here (is_newcomer conn)) gs i d f).1)
    ∙ ap (λ o. option_map_or (λ (g : plain.Newcomer). g.drops) o e) (sym (found-alive newcomer_here (is_newcomer conn) gs i d f).1)
    ∙ ap (λ xs. option_map_or (λ (g : plain.Newcomer). g.drops) (find (is_newcomer conn) xs) e) (sym (newcomers-alive gs))
  where
    there : (g : Newcomer) → test_at newcomer_here (is_newcomer conn) g ≡ true → option_map_or (λ (x : plain.Newcomer). x.drops) (newcomer_here g) e ≡ g.drops
    there g t = by g.gone t
      where
        by : (b : Bool) → option_map_or (is_newcomer conn) (cond b None (Some (plain_of g))) false ≡ true → option_map_or (λ (x : plain.Newcomer). x.drops) (cond b None (Some (plain_of g))) e ≡ g.drops
        by true t = cc
        by false t = refl

pub newcomer-lost : (conn : ℕ) (gs : List Newcomer) (e : ℕ) → position (test_at newcomer_here (is_newcomer conn)) gs ≡ None
    → e ≡ option_map_or (λ (g : plain.Newcomer). g.drops) (find (is_newcomer conn) (newcomers_now gs)) e
newcomer-lost conn gs e f = ap (λ o. option_map_or (λ (g : plain.Newcomer). g.drops) o e) (sym (lost-alive newcomer_here (is_newcomer conn) gs f))
    ∙ ap (λ xs. option_map_or (λ (g : plain.Newcomer). g.drops) (find (is_newcomer conn) xs) e) (sym (newcomers-alive gs))
