-- One message for all sessions: each session's facts leave the others as they are.
use Rattle.std.proofs.Common.{◌≡◌, ℕ, ◌<◌, Bool, true, false, not, ◌&&◌, ◌||◌, cond, eqb, ltb, List, [], ◌∷◌, ◌++◌, map, length, refl, sym, ◌∙◌, ap, ap₂, arith, Some, None, append_assoc, ne_eqb}
use Rattle.std.specs.List.{filter, list_any, flat_map, AllByRecursion}
use Rattle.std.specs.Str.{bytes_eq}
use Rattle.std.proofs.Math.Bool.{or-false}
use Rattle.spk_session.specs.Step.{without}
use Rattle.spk_broker_rules.specs.Data.{AppMessage, Newcomer, Session, Broker, Send}
use Rattle.spk_broker_rules.specs.Lawful.{Rises, IsLawful}
use Rattle.spk_broker_rules.specs.Table.{has, put, remove}
use Rattle.spk_packets.specs.Spelling.{is_empty}
use Rattle.spk_broker_rules.specs.Words.{stored, most_topics}
use Rattle.spk_broker_rules.specs.Step.{Turn, Served, serve, retain_in, retained_with, route_one}
use Rattle.spk_broker_rules.specs.Past.{Past, ConnDeed, heard, drops, Deed, conn_deeds, deeds, clock, given, made, newcomers, sessions, routed, retained_notes, note_if, counts, staying, table, newcomer_of, connection_of, session_with, session_of, broker_of}
use Rattle.spk_broker_rules.specs.Story.{Story, share, session_facts, told_one}
use Rattle.spk_broker_rules.proofs.Lists.{eqb-flip, eqb-self, map-same, flat_map-map, all-also, all-map}
use Rattle.spk_broker_rules.proofs.Tables.{has-table, length-table, table-put, table-remove}
use Rattle.spk_broker_rules.proofs.Sessions.{deeds-selves, deeds-others, conns-same, session-from}
use Rattle.spk_broker_rules.proofs.Gifts.{is_over, AreCalm, given-same, clock-same, routed-same, made-calm, newcomers-calm, sessions-calm, same_broker, left_with, serve-same, calm-share}
use Rattle.spk_broker_rules.proofs.Turns.{turn_of}

abbrev turn_from : Broker → List Send → List ℕ → List AppMessage → Turn
turn_from b xs cs ps = record { broker = b; sends = xs; closes = cs; waiting = ps }

-- no two are equal
abbrev pub AreApart : List ℕ → Type 0
AreApart [] = Unit {0}
AreApart (x ∷ xs) = AllByRecursion (λ y. eqb x y ≡ false) xs × AreApart xs

pub all-zip : {X : Type 0} (P Q R : X → Type 0) → ((x : X) → P x → Q x → R x) → (xs : List X) → AllByRecursion P xs → AllByRecursion Q xs → AllByRecursion R xs
all-zip P Q R f [] a b = tt
all-zip P Q R f (x ∷ xs) a b = (f x a.0 b.0, all-zip P Q R f xs a.1 b.1)

filter-same_in : {X : Type 0} (p q : X → Bool) (xs : List X) → AllByRecursion (λ x. p x ≡ q x) xs → filter p xs ≡ filter q xs
filter-same_in p q [] h = refl
filter-same_in p q (x ∷ xs) h = ap (λ b. cond b (x ∷ filter p xs) (filter p xs)) h.0 ∙ ap (λ ys. cond (q x) (x ∷ ys) ys) (filter-same_in p q xs h.1)

all-any : {X : Type 0} (P : X → Type 0) → ((x : X) → P x) → (xs : List X) → AllByRecursion P xs
all-any P f [] = tt
all-any P f (x ∷ xs) = (f x, all-any P f xs)

module _ (D : ℕ → List Deed) (calm : (s : ℕ) → AreCalm (D s)) (h : Past) where
  abbrev pub round : List ℕ → Past
  round xs = flat_map (λ s. session_facts s (D s)) xs ++ h

  pub round-cons : (x : ℕ) (xs : List ℕ) → round (x ∷ xs) ≡ session_facts x (D x) ++ round xs
  round-cons x xs = append_assoc (session_facts x (D x)) (flat_map (λ s. session_facts s (D s)) xs) h

  round-conns : (xs : List ℕ) (c : ℕ) → conn_deeds (round xs) c ≡ conn_deeds h c
  round-conns [] c = refl
  round-conns (x ∷ xs) c = ap (λ g. conn_deeds g c) (round-cons x xs) ∙ conns-same (D x) (round xs) x c ∙ round-conns xs c

  round-given : (xs : List ℕ) → given (round xs) ≡ given h
  round-given [] = refl
  round-given (x ∷ xs) = ap given (round-cons x xs) ∙ given-same (D x) x (round xs) ∙ round-given xs

  round-clock : (xs : List ℕ) → clock (round xs) ≡ clock h
  round-clock [] = refl
  round-clock (x ∷ xs) = ap clock (round-cons x xs) ∙ clock-same (D x) x (round xs) ∙ round-clock xs

  round-made : (xs : List ℕ) → made (round xs) ≡ made h
  round-made [] = refl
  round-made (x ∷ xs) = ap made (round-cons x xs) ∙ made-calm (D x) x (round xs) (calm x) ∙ round-made xs

  pub round-newcomers : (xs : List ℕ) → newcomers (round xs) ≡ newcomers h
  round-newcomers [] = refl
  round-newcomers (x ∷ xs) = ap newcomers (round-cons x xs) ∙ newcomers-calm (D x) x (round xs) (calm x) ∙ round-newcomers xs

  round-routed : (xs : List ℕ) → routed (round xs) ≡ routed h
  round-routed [] = refl
  round-routed (x ∷ xs) = ap routed (round-cons x xs) ∙ routed-same (D x) x (round xs) ∙ round-routed xs

  -- a session that is none of these
  pub round-out : (xs : List ℕ) (t : ℕ) → AllByRecursion (λ x. eqb x t ≡ false) xs → deeds (round xs) t ≡ deeds h t
  round-out [] t e = refl
  round-out (x ∷ xs) t e = ap (λ g. deeds g t) (round-cons x xs) ∙ deeds-others (D x) (round xs) x t e.0 ∙ round-out xs t e.1

  round-in : (xs : List ℕ) → AreApart xs → AllByRecursion (λ t. deeds (round xs) t ≡ D t ++ deeds h t) xs
  round-in [] apart = tt
  round-in (x ∷ xs) apart = (
    ap (λ g. deeds g x) (round-cons x xs) ∙ deeds-selves (D x) (round xs) x
        ∙ ap (λ ds. D x ++ ds) (round-out xs x (all-also (λ y. eqb x y ≡ false) (λ y. eqb y x ≡ false) (λ y e. eqb-flip y x ∙ e) xs apart.0)),
    all-zip (λ t. eqb x t ≡ false) (λ t. deeds (round xs) t ≡ D t ++ deeds h t) (λ t. deeds (round (x ∷ xs)) t ≡ D t ++ deeds h t)
        (λ t e is. ap (λ g. deeds g t) (round-cons x xs) ∙ deeds-others (D x) (round xs) x t e ∙ is) xs apart.0 (round-in xs apart.1),
  )

  -- which of them are over
  abbrev pub over : List ℕ → ℕ → Bool
  over [] t = false
  over (x ∷ xs) t = (eqb t x && is_over (D x)) || over xs t

  pub over-out : (xs : List ℕ) (t : ℕ) → AllByRecursion (λ y. eqb t y ≡ false) xs → over xs t ≡ false
  over-out [] t e = refl
  over-out (x ∷ xs) t e = ap (λ b. (b && is_over (D x)) || over xs t) e.0 ∙ over-out xs t e.1

  over-in : (xs : List ℕ) → AreApart xs → AllByRecursion (λ t. over xs t ≡ is_over (D t)) xs
  over-in [] apart = tt
  over-in (x ∷ xs) apart = (
    ap (λ b. (b && is_over (D x)) || over xs x) (eqb-self x) ∙ ap (λ b. is_over (D x) || b) (over-out xs x apart.0) ∙ or-false (is_over (D x)),
    all-zip (λ t. eqb x t ≡ false) (λ t. over xs t ≡ is_over (D t)) (λ t. over (x ∷ xs) t ≡ is_over (D t))
        (λ t e is. ap (λ b. (b && is_over (D x)) || over xs t) (eqb-flip t x ∙ e) ∙ is) xs apart.0 (over-in xs apart.1),
  )

  without-too : (x : ℕ) (o : ℕ → Bool) (ss : List ℕ) → without x (filter (λ t. not (o t)) ss) ≡ filter (λ t. not ((eqb t x && true) || o t)) ss
  without-too x o [] = refl
  without-too x o (s ∷ ss) = by (o s) (eqb s x) refl (without-too x o ss)
    where
      by : (a b : Bool) → eqb s x ≡ b → without x (filter (λ t. not (o t)) ss) ≡ filter (λ t. not ((eqb t x && true) || o t)) ss
          → without x (cond (not a) (s ∷ filter (λ t. not (o t)) ss) (filter (λ t. not (o t)) ss))
          ≡ cond (not ((b && true) || a)) (s ∷ filter (λ t. not ((eqb t x && true) || o t)) ss) (filter (λ t. not ((eqb t x && true) || o t)) ss)
      by true true is rest = rest
      by true false is rest = rest
      by false true is rest = ap (λ b. cond (not b) (s ∷ without x (filter (λ t. not (o t)) ss)) (without x (filter (λ t. not (o t)) ss))) is ∙ rest
      by false false is rest = ap (λ b. cond (not b) (s ∷ without x (filter (λ t. not (o t)) ss)) (without x (filter (λ t. not (o t)) ss))) is ∙ ap (λ ys. s ∷ ys) rest

  nothing-too : (x : ℕ) (o : ℕ → Bool) (t : ℕ) → not (o t) ≡ not ((eqb t x && false) || o t)
  nothing-too x o t = by (eqb t x)
    where
      by : (b : Bool) → not (o t) ≡ not ((b && false) || o t)
      by true = refl
      by false = refl

  pub round-sessions : (xs : List ℕ) → sessions (round xs) ≡ filter (λ t. not (over xs t)) (sessions h)
  round-sessions [] = sym (all-kept (sessions h))
    where
      all-kept : (ss : List ℕ) → filter (λ t. true) ss ≡ ss
      all-kept [] = refl
      all-kept (s ∷ ss) = ap (λ ys. s ∷ ys) (all-kept ss)
  round-sessions (x ∷ xs) = ap sessions (round-cons x xs) ∙ sessions-calm (D x) x (round xs) (calm x)
      ∙ ap (λ ss. cond (is_over (D x)) (without x ss) ss) (round-sessions xs) ∙ by (is_over (D x))
    where
      by : (b : Bool) → cond b (without x (filter (λ t. not (over xs t)) (sessions h))) (filter (λ t. not (over xs t)) (sessions h))
          ≡ filter (λ t. not ((eqb t x && b) || over xs t)) (sessions h)
      by true = without-too x (over xs) (sessions h)
      by false = filter-same_in (λ t. not (over xs t)) (λ t. not ((eqb t x && false) || over xs t)) (sessions h)
          (all-any (λ t. not (over xs t) ≡ not ((eqb t x && false) || over xs t)) (nothing-too x (over xs)) (sessions h))

  left-each : (g : Past) (ss : List ℕ) → AllByRecursion (λ t. session_of g t ≡ session_with (connection_of h) t (D t ++ deeds h t)) ss
      → map (session_of g) (filter (λ t. not (is_over (D t))) ss) ≡ flat_map (λ t. left_with h t (D t)) ss
  left-each g [] e = refl
  left-each g (s ∷ ss) e = by (is_over (D s)) (left-each g ss e.1)
    where
      by : (b : Bool) → map (session_of g) (filter (λ t. not (is_over (D t))) ss) ≡ flat_map (λ t. left_with h t (D t)) ss
          → map (session_of g) (cond (not b) (s ∷ filter (λ t. not (is_over (D t))) ss) (filter (λ t. not (is_over (D t))) ss))
          ≡ cond b [] (session_with (connection_of h) s (D s ++ deeds h s) ∷ []) ++ flat_map (λ t. left_with h t (D t)) ss
      by true rest = rest
      by false rest = ap₂ (λ x xs. x ∷ xs) e.0 rest

  pub round-whole : AreApart (sessions h) → map (session_of (round (sessions h))) (sessions (round (sessions h))) ≡ flat_map (λ t. left_with h t (D t)) (sessions h)
  round-whole apart =
      ap (map (session_of (round (sessions h)))) (round-sessions (sessions h)
      ∙ filter-same_in (λ t. not (over (sessions h) t)) (λ t. not (is_over (D t))) (sessions h)
      (all-also (λ t. over (sessions h) t ≡ is_over (D t)) (λ t. not (over (sessions h) t) ≡ not (is_over (D t))) (λ t e. ap not e) (sessions h) (over-in (sessions h) apart)))
      ∙ left-each (round (sessions h)) (sessions h)
      (all-also (λ t. deeds (round (sessions h)) t ≡ D t ++ deeds h t) (λ t. session_of (round (sessions h)) t ≡ session_with (connection_of h) t (D t ++ deeds h t))
      (λ t e. session-from h (round (sessions h)) t (D t ++ deeds h t) (round-conns (sessions h)) e) (sessions h) (round-in (sessions h) apart))

  abbrev newcomer_by : List ConnDeed → ℕ → Newcomer
  newcomer_by ds c = record { conn = c; heard = heard ds; drops = drops ds }

  round-newcomer : (xs : List ℕ) (c : ℕ) → newcomer_of (round xs) c ≡ newcomer_of h c
  round-newcomer xs c = ap (λ ds. newcomer_by ds c) (round-conns xs c)

-- ---- retained messages

pub retained-more : (m : AppMessage) (ms : List AppMessage) → table (retained_notes (m ∷ ms)) ≡ retained_with (table (retained_notes ms)) m
retained-more m ms = by m.retain
  where
    room : (b : Bool) → table (cond b ((m.topic, Some (stored m)) ∷ retained_notes ms) (retained_notes ms)) ≡ cond b (put m.topic (stored m) (table (retained_notes ms))) (table (retained_notes ms))
    room true = table-put (retained_notes ms) m.topic (stored m)
    room false = refl

    full : (b : Bool) → table (cond (b || (list_any (λ k. bytes_eq k m.topic) (staying (retained_notes ms)) || ltb (length (staying (retained_notes ms))) most_topics)) ((m.topic, cond b None (Some (stored m))) ∷ retained_notes ms) (retained_notes ms)) ≡ cond b (remove m.topic (table (retained_notes ms)))
        (cond (has m.topic (table (retained_notes ms)) || ltb (length (table (retained_notes ms))) most_topics) (put m.topic (stored m) (table (retained_notes ms))) (table (retained_notes ms)))
    full true = table-remove (retained_notes ms) m.topic
    full false = room (list_any (λ k. bytes_eq k m.topic) (staying (retained_notes ms)) || ltb (length (staying (retained_notes ms))) most_topics)
        ∙ ap₂ (λ a n. cond (a || ltb n most_topics) (put m.topic (stored m) (table (retained_notes ms))) (table (retained_notes ms))) (sym (has-table (retained_notes ms) m.topic)) (sym (length-table (retained_notes ms)))

    by : (b : Bool) → table (note_if (b && counts (staying (retained_notes ms)) m) m (retained_notes ms)) ≡ cond b (retain_in (table (retained_notes ms)) m) (table (retained_notes ms))
    by true = full (is_empty m.payload)
    by false = refl

-- ---- the whole message

rises-above : (low top : ℕ) (ss : List Session) → Rises low top ss → AllByRecursion (λ (s : Session). low < s.key) ss
rises-above low top [] h = tt
rises-above low top (s ∷ ss) h = (h.0, all-also (λ (x : Session). s.key < x.key) (λ (x : Session). low < x.key) (λ x e. let a = h.0 in omega arith) ss (rises-above s.key top ss h.1))

pub apart-sessions : (low top : ℕ) (h : Past) (ss : List ℕ) → Rises low top (map (session_of h) ss) → AreApart ss
apart-sessions low top h [] r = tt
apart-sessions low top h (s ∷ ss) r = (
  all-also (λ t. s < t) (λ t. eqb s t ≡ false) (λ t e. ne_eqb s t (λ same. omega arith)) ss
      (all-map (λ (x : Session). s < x.key) (session_of h) ss (rises-above s top (map (session_of h) ss) r.1)),
  apart-sessions s top h ss r.1,
)

pub one-told : (limit : ℕ) (m : AppMessage) (t : Story) → IsLawful (broker_of limit t.past) → turn_of limit (told_one m t) ≡ route_one m (turn_of limit t)
one-told limit m t lawful = same_turn _ _
    (same_broker _ _ refl (round-given D calm h ss) (round-made D calm h ss) (round-clock D calm h ss)
    (ap (map (newcomer_of g)) (round-newcomers D calm h ss) ∙ map-same (newcomer_of g) (newcomer_of h) (round-newcomer D calm h ss) (newcomers h))
    (round-whole D calm h (apart-sessions 0 (made h) h ss lawful.keys) ∙ sym (flat_map-map (session_of h) (λ (s : Session). (serve m s).left) (λ s. left_with h s (D s)) (λ s. ap (λ (x : Served). x.left) (serve-same h m s)) ss))
    (ap (λ ms. table (retained_notes (m ∷ ms))) (round-routed D calm h ss) ∙ retained-more m (routed h)))
    (ap (λ xs. t.sends ++ xs) (sym (flat_map-map (session_of h) (λ (s : Session). (serve m s).sends) (λ s. (share h m s).sends) (λ s. ap (λ (x : Served). x.sends) (serve-same h m s)) ss)))
    (ap (λ xs. t.closes ++ xs) (sym (flat_map-map (session_of h) (λ (s : Session). (serve m s).closes) (λ s. (share h m s).closes) (λ s. ap (λ (x : Served). x.closes) (serve-same h m s)) ss)))
    (ap (λ xs. t.waiting ++ xs) (sym (flat_map-map (session_of h) (λ (s : Session). (serve m s).wills) (λ s. (share h m s).wills) (λ s. ap (λ (x : Served). x.wills) (serve-same h m s)) ss)))
  where
    h : Past
    h = t.past

    ss : List ℕ
    ss = sessions t.past

    D : ℕ → List Deed
    D s = (share t.past m s).deeds

    calm : (s : ℕ) → AreCalm (share t.past m s).deeds
    calm s = calm-share t.past m s

    g : Past
    g = flat_map (λ s. session_facts s (share t.past m s).deeds) (sessions t.past) ++ t.past

    same_turn : (a b : Turn) → a.broker ≡ b.broker → a.sends ≡ b.sends → a.closes ≡ b.closes → a.waiting ≡ b.waiting → a ≡ b
    same_turn a b e f i j = ap (λ x. turn_from x a.sends a.closes a.waiting) e ∙ ap (λ x. turn_from b.broker x a.closes a.waiting) f
        ∙ ap (λ x. turn_from b.broker b.sends x a.waiting) i ∙ ap (turn_from b.broker b.sends b.closes) j
