-- Connections that sit, each with its will: what the past says, and what the data say.
use Rattle.std.proofs.Common.{◌≡◌, inl, inr, ℕ, ◌+◌, ◌≤◌, ◌==◌, Bool, true, false, ◌||◌, cond, List, [], ◌∷◌, ◌++◌, map, length, refl, sym, ap, ◌∙◌, subst, arith, Option, Some, None}
use Rattle.std.specs.List.{filter, find, flat_map, AllByRecursion}
use Rattle.std.specs.Option.{option_map, option_map_or, is_some}
use Rattle.std.proofs.lemmas.Bool.Decides.{eqb_tells}
use Rattle.std.proofs.lemmas.List.{map-append}
use Rattle.spk_broker_rules.specs.Data.{AppMessage, Connection}
use Rattle.spk_broker_rules.specs.Words.{option_list}
use Rattle.spk_broker_rules.specs.Past.{Past, Joining, deeds, sessions, here, connection_of, session_of, sits_at, session_at}
use Rattle.spk_broker_rules.specs.Step.{sits}
use Rattle.spk_broker_limits.specs.Wills.{count, messages, will_where, wills_where}
use Rattle.spk_broker_limits.proofs.Summing.{Told, same, none_some, yes_no, bit, sum, times, passes, found_times, Pair, total, named, has, pair_at, Apart, total_append, named_append, only, only_none, only_one, none_has}
use Rattle.spk_broker_limits.proofs.Facts.{count_append, worth}
use Rattle.spk_broker_limits.proofs.Ledger.{worth_at}

abbrev pub pair_of : Option Joining → List Pair
pair_of None = []
pair_of (Some j) = (j.conn, j.will) ∷ []

abbrev pub pairs_in : Past → List ℕ → List Pair
pairs_in h ss = flat_map (λ s. pair_of (here (deeds h s))) ss

abbrev pub pairs : Past → List Pair
pairs h = pairs_in h (sessions h)

abbrev pub weight : (AppMessage → Bool) → Pair → ℕ
weight q x = count q (option_list x.1)

-- ---- what the past says

pub standing_is : (q : AppMessage → Bool) (h : Past) (ss : List ℕ) → sum (λ s. worth q (here (deeds h s))) ss ≡ total (weight q) (pairs_in h ss)
standing_is q h [] = refl
standing_is q h (s ∷ ss) =
    let rest : sum (λ t. worth q (here (deeds h t))) ss ≡ total (weight q) (pairs_in h ss) = standing_is q h ss in
    let both : total (weight q) (pair_of (here (deeds h s)) ++ pairs_in h ss) ≡ total (weight q) (pair_of (here (deeds h s))) + total (weight q) (pairs_in h ss) =
    total_append (weight q) (pair_of (here (deeds h s))) (pairs_in h ss) in
    let one : total (weight q) (pair_of (here (deeds h s))) ≡ worth q (here (deeds h s)) = by (here (deeds h s)) in
    omega arith
  where
    by : (o : Option Joining) → total (weight q) (pair_of o) ≡ worth q o
    by None = refl
    by (Some j) = omega arith

pub has_session : (h : Past) (c : ℕ) (ss : List ℕ) → has c (pairs_in h ss) ≡ is_some (find (sits_at h c) ss)
has_session h c [] = refl
has_session h c (s ∷ ss) = by (here (deeds h s)) (has_session h c ss)
  where
    on : (b : Bool) → has c (pairs_in h ss) ≡ is_some (find (sits_at h c) ss) → (b || has c (pairs_in h ss)) ≡ is_some (cond b (Some s) (find (sits_at h c) ss))
    on true rest = refl
    on false rest = rest

    by : (o : Option Joining) → has c (pairs_in h ss) ≡ is_some (find (sits_at h c) ss)
        → has c (pair_of o ++ pairs_in h ss) ≡ is_some (cond (option_map_or (λ (j : Joining). j.conn == c) o false) (Some s) (find (sits_at h c) ss))
    by None rest = rest
    by (Some j) rest = on (j.conn == c) rest

-- who sits at a session that stands is found
pub member : (h : Past) (s : ℕ) (j : Joining) (ss : List ℕ) → here (deeds h s) ≡ Some j → 1 ≤ times s ss → Apart (pairs_in h ss) → pair_at j.conn (pairs_in h ss) ≡ Some (j.conn, j.will)
member h s j [] e n a = absurd (omega arith)
member h s j (t ∷ ts) e n a = by (eqb_tells s t) (member h s j ts e)
  where
    first : here (deeds h t) ≡ Some j → pair_at j.conn (pairs_in h (t ∷ ts)) ≡ Some (j.conn, j.will)
    first f =
        ap (λ o. pair_at j.conn (pair_of o ++ pairs_in h ts)) f
        ∙ ap (λ b. cond b (Some (j.conn, j.will)) (pair_at j.conn (pairs_in h ts))) (same j.conn)

    fewer : Apart (pairs_in h ts)
    fewer c =
        let both : named c (pair_of (here (deeds h t)) ++ pairs_in h ts) ≡ named c (pair_of (here (deeds h t))) + named c (pairs_in h ts) = named_append c (pair_of (here (deeds h t))) (pairs_in h ts) in
        let most : named c (pair_of (here (deeds h t)) ++ pairs_in h ts) ≤ 1 = a c in
        omega arith

    found_named : (xs : List Pair) (y : Pair) → pair_at j.conn xs ≡ Some y → 1 ≤ named j.conn xs
    found_named [] y f = none_some y f
    found_named (x ∷ xs) y f = at (x.0 == j.conn) f (found_named xs y)
      where
        at : (b : Bool) → cond b (Some x) (pair_at j.conn xs) ≡ Some y → (pair_at j.conn xs ≡ Some y → 1 ≤ named j.conn xs) → 1 ≤ bit b + named j.conn xs
        at true f rest = omega arith
        at false f rest = let le = rest f in omega arith

    on : (i : Joining) (b : Bool) → bit b + named j.conn (pairs_in h ts) ≤ 1 → pair_at j.conn (pairs_in h ts) ≡ Some (j.conn, j.will)
        → cond b (Some (i.conn, i.will)) (pair_at j.conn (pairs_in h ts)) ≡ Some (j.conn, j.will)
    on i true m f = let some = found_named (pairs_in h ts) (j.conn, j.will) f in absurd (omega arith)
    on i false m f = f

    late : (o : Option Joining) → named j.conn (pair_of o ++ pairs_in h ts) ≤ 1 → pair_at j.conn (pairs_in h ts) ≡ Some (j.conn, j.will) → pair_at j.conn (pair_of o ++ pairs_in h ts) ≡ Some (j.conn, j.will)
    late None m f = f
    late (Some i) m f = on i (i.conn == j.conn) m f

    by : Told s t → (1 ≤ times s ts → Apart (pairs_in h ts) → pair_at j.conn (pairs_in h ts) ≡ Some (j.conn, j.will)) → pair_at j.conn (pairs_in h (t ∷ ts)) ≡ Some (j.conn, j.will)
    by (inl f) rest = first (ap (λ u. here (deeds h u)) (sym f.1) ∙ e)
    by (inr f) rest =
        let none : bit (s == t) ≡ 0 = ap bit f.0 in
        late (here (deeds h t)) (a j.conn) (rest (omega arith) fewer)

pub all_found : (h : Past) (xs : List Pair) → ((s : ℕ) (j : Joining) → here (deeds h s) ≡ Some j → pair_at j.conn xs ≡ Some (j.conn, j.will)) → (ss : List ℕ)
    → AllByRecursion (λ (y : Pair). pair_at y.0 xs ≡ Some y) (pairs_in h ss)
all_found h xs f [] = tt
all_found h xs f (s ∷ ss) = by (here (deeds h s)) refl (all_found h xs f ss)
  where
    by : (o : Option Joining) → here (deeds h s) ≡ o → AllByRecursion (λ (y : Pair). pair_at y.0 xs ≡ Some y) (pairs_in h ss) → AllByRecursion (λ (y : Pair). pair_at y.0 xs ≡ Some y) (pair_of o ++ pairs_in h ss)
    by None e rest = rest
    by (Some j) e rest = (f s j e, rest)

-- the will of the connection whose session this is
pub alone : (q : AppMessage → Bool) (h : Past) (c : ℕ) → Apart (pairs h) → total (only (weight q) c) (pairs h) ≡ worth_at q h (session_at h c)
alone q h c a = by (session_at h c) refl
  where
    sat : (s : ℕ) (o : Option Joining) → here (deeds h s) ≡ o → option_map_or (λ (j : Joining). j.conn == c) o false ≡ true → 1 ≤ times s (sessions h) → total (only (weight q) c) (pairs h) ≡ worth q o
    sat s None e f n = yes_no (sym f)
    sat s (Some j) e f n = is (eqb_tells j.conn c)
      where
        is : Told j.conn c → total (only (weight q) c) (pairs h) ≡ worth q (Some j)
        is (inl g) = only_one (weight q) c (pairs h) (j.conn, j.will) (a c) (subst (λ d. pair_at d (pairs h) ≡ Some (j.conn, j.will)) g.1 (member h s j (sessions h) e n a))
        is (inr g) = yes_no (sym f ∙ g.0)

    by : (o : Option ℕ) → session_at h c ≡ o → total (only (weight q) c) (pairs h) ≡ worth_at q h o
    by None e = only_none (weight q) c (pairs h) (none_has c (pairs h) (has_session h c (sessions h) ∙ ap is_some e))
    by (Some s) e = sat s (here (deeds h s)) refl (passes (sits_at h c) (sessions h) s e) (found_times (sits_at h c) (sessions h) s e)

pub has_found : (c : ℕ) (xs : List Pair) (y : Pair) → pair_at c xs ≡ Some y → has c xs ≡ true
has_found c [] y e = none_some y e
has_found c (x ∷ xs) y e = by (x.0 == c) e (has_found c xs y)
  where
    by : (b : Bool) → cond b (Some x) (pair_at c xs) ≡ Some y → (pair_at c xs ≡ Some y → has c xs ≡ true) → (b || has c xs) ≡ true
    by true f rest = refl
    by false f rest = rest f

-- ---- what the data say

pub named_sessions : (h : Past) (c : ℕ) (ss : List ℕ) → named c (pairs_in h ss) ≡ length (filter (sits c) (map (session_of h) ss))
named_sessions h c [] = refl
named_sessions h c (s ∷ ss) = by (here (deeds h s)) (named_sessions h c ss)
  where
    on : (b : Bool) → named c (pairs_in h ss) ≡ length (filter (sits c) (map (session_of h) ss))
        → bit b + named c (pairs_in h ss) ≡ length (cond b (session_of h s ∷ filter (sits c) (map (session_of h) ss)) (filter (sits c) (map (session_of h) ss)))
    on true rest = omega arith
    on false rest = omega arith

    by : (o : Option Joining) → named c (pairs_in h ss) ≡ length (filter (sits c) (map (session_of h) ss))
        → named c (pair_of o ++ pairs_in h ss)
        ≡ length (cond (option_map_or (λ (l : Connection). l.conn == c) (option_map (connection_of h) o) false) (session_of h s ∷ filter (sits c) (map (session_of h) ss)) (filter (sits c) (map (session_of h) ss)))
    by None rest = rest
    by (Some j) rest = on (j.conn == c) rest

pub holds_session : (h : Past) (c : ℕ) (ss : List ℕ) → has c (pairs_in h ss) ≡ is_some (find (sits c) (map (session_of h) ss))
holds_session h c [] = refl
holds_session h c (s ∷ ss) = by (here (deeds h s)) (holds_session h c ss)
  where
    on : (b : Bool) → has c (pairs_in h ss) ≡ is_some (find (sits c) (map (session_of h) ss)) → (b || has c (pairs_in h ss)) ≡ is_some (cond b (Some (session_of h s)) (find (sits c) (map (session_of h) ss)))
    on true rest = refl
    on false rest = rest

    by : (o : Option Joining) → has c (pairs_in h ss) ≡ is_some (find (sits c) (map (session_of h) ss))
        → has c (pair_of o ++ pairs_in h ss) ≡ is_some (cond (option_map_or (λ (l : Connection). l.conn == c) (option_map (connection_of h) o) false) (Some (session_of h s)) (find (sits c) (map (session_of h) ss)))
    by None rest = rest
    by (Some j) rest = on (j.conn == c) rest

-- those that are meant
abbrev pub where_ : (AppMessage → Bool) → (ℕ → Bool) → Pair → ℕ
where_ q meant x = cond (meant x.0) (weight q x) 0

pub wills_are : (q : AppMessage → Bool) (meant : ℕ → Bool) (h : Past) (ss : List ℕ) → count q (messages (wills_where meant (map (session_of h) ss))) ≡ total (where_ q meant) (pairs_in h ss)
wills_are q meant h [] = refl
wills_are q meant h (s ∷ ss) =
    let rest : count q (messages (wills_where meant (map (session_of h) ss))) ≡ total (where_ q meant) (pairs_in h ss) = wills_are q meant h ss in
    let one : count q (messages (option_map_or (will_where meant) (option_map (connection_of h) (here (deeds h s))) [])) ≡ total (where_ q meant) (pair_of (here (deeds h s))) = by (here (deeds h s)) in
    let both : total (where_ q meant) (pair_of (here (deeds h s)) ++ pairs_in h ss) ≡ total (where_ q meant) (pair_of (here (deeds h s))) + total (where_ q meant) (pairs_in h ss) =
    total_append (where_ q meant) (pair_of (here (deeds h s))) (pairs_in h ss) in
    let parts : count q (messages (option_map_or (will_where meant) (option_map (connection_of h) (here (deeds h s))) [] ++ wills_where meant (map (session_of h) ss)))
    ≡ count q (messages (option_map_or (will_where meant) (option_map (connection_of h) (here (deeds h s))) [])) + count q (messages (wills_where meant (map (session_of h) ss))) =
    ap (count q) (map-append (λ (w : ℕ × AppMessage). w.1) (option_map_or (will_where meant) (option_map (connection_of h) (here (deeds h s))) []) (wills_where meant (map (session_of h) ss)))
    ∙ count_append q (messages (option_map_or (will_where meant) (option_map (connection_of h) (here (deeds h s))) [])) (messages (wills_where meant (map (session_of h) ss))) in
    omega arith
  where
    will : (c : ℕ) (w : Option AppMessage) → count q (messages (map (λ (m : AppMessage). (c, m)) (option_list w))) ≡ count q (option_list w)
    will c None = refl
    will c (Some m) = refl

    on : (c : ℕ) (w : Option AppMessage) (b : Bool) → count q (messages (cond b (map (λ (m : AppMessage). (c, m)) (option_list w)) [])) ≡ cond b (count q (option_list w)) 0 + 0
    on c w true = let is = will c w in omega arith
    on c w false = omega arith

    by : (o : Option Joining) → count q (messages (option_map_or (will_where meant) (option_map (connection_of h) o) [])) ≡ total (where_ q meant) (pair_of o)
    by None = refl
    by (Some j) = on j.conn j.will (meant j.conn)
