-- How many of a call's offers go to a client.
use Rattle.std.proofs.Common.{◌≡◌, sym, ap, refl, subst, ◌∙◌, ℕ, ◌+◌, ◌<◌, ◌≤◌, Bool, true, false, ◌&&◌, ◌||◌, cond, eqb, List, [], ◌∷◌, ◌++◌, map, length, Option, Some, None, arith, true≢false, eq-eqb, eqb-true}
use Rattle.std.specs.List.{filter, flat_map, list_any}
use Rattle.std.specs.Option.{option_map, option_map_or}
use Rattle.std.proofs.lemmas.Bool.{or_left, or_right}
use Rattle.spk_broker.specs.Sent.{Sent, outgoing}
use Rattle.spk_broker_rules.specs.Data.{Connection, Session, Send}
use Rattle.spk_broker_rules.specs.Listening.{given_to, is_listening, plain_publish}
use Rattle.spk_broker_rules.specs.Step.{sits}
use Rattle.spk_broker_rules.specs.Words.{to_connection}
use Rattle.spk_plant_broker.specs.Data.{Offer}
use Rattle.spk_plant_broker.specs.Step.{client_of, is_client, offer_of, ring_of}

pub no-yes : false ≡ true → ⊥
no-yes e = true≢false (sym e)

-- ---- counting

abbrev pub goes : ℕ → Offer → Bool
goes h o = is_client h o.to

-- how many go to the client
abbrev pub aimed : ℕ → List Offer → ℕ
aimed h [] = 0
aimed h (o ∷ os) = cond (goes h o) (aimed h os + 1) (aimed h os)

-- how many go to the client on this connection
abbrev pub aimed_at : ℕ → ℕ → List Offer → ℕ
aimed_at h c [] = 0
aimed_at h c (o ∷ os) = cond (goes h o && eqb o.conn c) (aimed_at h c os + 1) (aimed_at h c os)

-- all that go to the client go on this connection
abbrev pub Aim : ℕ → ℕ → List Offer → Type 0
Aim h c [] = Unit {0}
Aim h c (o ∷ os) = (goes h o ≡ true → o.conn ≡ c) × Aim h c os

pub aimed-snoc : (h : ℕ) (os : List Offer) (o : Offer) → aimed h (os ++ o ∷ []) ≡ cond (goes h o) (aimed h os + 1) (aimed h os)
aimed-snoc h [] o = refl
aimed-snoc h (x ∷ os) o = by (goes h x) (goes h o) (aimed h os) (aimed h (os ++ o ∷ [])) (aimed-snoc h os o)
  where
    by : (a b : Bool) (n m : ℕ) → m ≡ cond b (n + 1) n → cond a (m + 1) m ≡ cond b (cond a (n + 1) n + 1) (cond a (n + 1) n)
    by true true n m e = ap (λ k. k + 1) e
    by true false n m e = ap (λ k. k + 1) e
    by false true n m e = e
    by false false n m e = e

pub aimed_at-snoc : (h c : ℕ) (os : List Offer) (o : Offer) → aimed_at h c (os ++ o ∷ []) ≡ cond (goes h o && eqb o.conn c) (aimed_at h c os + 1) (aimed_at h c os)
aimed_at-snoc h c [] o = refl
aimed_at-snoc h c (x ∷ os) o = by (goes h x && eqb x.conn c) (goes h o && eqb o.conn c) (aimed_at h c os) (aimed_at h c (os ++ o ∷ [])) (aimed_at-snoc h c os o)
  where
    by : (a b : Bool) (n m : ℕ) → m ≡ cond b (n + 1) n → cond a (m + 1) m ≡ cond b (cond a (n + 1) n + 1) (cond a (n + 1) n)
    by true true n m e = ap (λ k. k + 1) e
    by true false n m e = ap (λ k. k + 1) e
    by false true n m e = e
    by false false n m e = e

pub fewer-at : (h c : ℕ) (os : List Offer) → aimed_at h c os ≤ aimed h os
fewer-at h c [] = omega arith
fewer-at h c (o ∷ os) = by (goes h o) (eqb o.conn c) (aimed_at h c os) (aimed h os) (fewer-at h c os)
  where
    by : (a b : Bool) (n m : ℕ) → n ≤ m → cond (a && b) (n + 1) n ≤ cond a (m + 1) m
    by true true n m e = omega (arith, e)
    by true false n m e = omega (arith, e)
    by false true n m e = e
    by false false n m e = e

-- ---- whose ring an offer goes to

pub goes-to : (dropped : ℕ → Bool) (os : List ℕ) (h d : ℕ) → is_client h (ring_of dropped (client_of os d)) ≡ true → (client_of os d ≡ Some h) × (dropped h ≡ false)
goes-to dropped os h d = by (client_of os d)
  where
    with_ring : (j : ℕ) (b : Bool) → dropped j ≡ b → is_client h (cond b None (Some j)) ≡ true → (◌≡◌ {A = Option ℕ} (Some j) (Some h)) × (dropped h ≡ false)
    with_ring j true at e = absurd (no-yes e)
    with_ring j false at e = let same = eqb-true j h e in (ap (λ x. Some x) same, subst (λ x. dropped x ≡ false) same at)

    by : (o : Option ℕ) → is_client h (ring_of dropped o) ≡ true → (o ≡ Some h) × (dropped h ≡ false)
    by None e = absurd (no-yes e)
    by (Some j) e = with_ring j (dropped j) refl e

pub goes-there : (dropped : ℕ → Bool) (os : List ℕ) (h d : ℕ) → client_of os d ≡ Some h → dropped h ≡ false → is_client h (ring_of dropped (client_of os d)) ≡ true
goes-there dropped os h d is open_ring =
    ap (λ o. is_client h (ring_of dropped o)) is ∙ ap (λ b. is_client h (cond b None (Some h))) open_ring ∙ eq-eqb h h refl

pub none-dropped : (dropped : ℕ → Bool) (os : List ℕ) (h : ℕ) → dropped h ≡ true → (ss : List Sent) → aimed h (map (offer_of os dropped) ss) ≡ 0
none-dropped dropped os h gone [] = refl
none-dropped dropped os h gone (s ∷ ss) = by (is_client h (ring_of dropped (client_of os s.conn))) refl (aimed h (map (offer_of os dropped) ss)) (none-dropped dropped os h gone ss)
  where
    by : (b : Bool) → is_client h (ring_of dropped (client_of os s.conn)) ≡ b → (n : ℕ) → n ≡ 0 → cond b (n + 1) n ≡ 0
    by true at n e = absurd (true≢false (sym gone ∙ (goes-to dropped os h s.conn at).1))
    by false at n e = e

-- ---- the offers of a plain publish

-- those of these sessions
abbrev pub offers_of : (dropped : ℕ → Bool) (os : List ℕ) (topic payload : List ℕ) → List Session → List Offer
offers_of dropped os topic payload xs = map (offer_of os dropped) (map outgoing (flat_map (given_to topic payload) xs))

-- a session's offer, in front of those of the others
abbrev pub front : (dropped : ℕ → Bool) (os : List ℕ) (topic payload : List ℕ) → Bool → Option Connection → List Send → List Offer
front dropped os topic payload b here rest =
    map (offer_of os dropped) (map outgoing (cond b (to_connection (option_map (λ (l : Connection). l.conn) here) (plain_publish topic payload)) [] ++ rest))

pub at-most : (dropped : ℕ → Bool) (os : List ℕ) (topic payload : List ℕ) (h c : ℕ) (xs : List Session) →
    ((d : ℕ) → list_any (sits d) xs ≡ true → client_of os d ≡ Some h → d ≡ c) →
    aimed h (offers_of dropped os topic payload xs) ≤ length (filter (sits c) xs)
at-most dropped os topic payload h c [] one = omega arith
at-most dropped os topic payload h c (s ∷ xs) one =
    by (is_listening topic s) s.here (λ d e. one d (or_left _ _ e)) (flat_map (given_to topic payload) xs)
    (at-most dropped os topic payload h c xs (λ d e. one d (or_right _ _ e)))
  where
    sat : (l : Connection) (xs : List Session) (b : Bool) → b ≡ true → (n m : ℕ) → n ≤ m → m ≡ length xs → n + 1 ≤ length (cond b (s ∷ xs) xs)
    sat l xs true e n m low size = omega (arith, low, size)
    sat l xs false e n m low size = absurd (no-yes e)

    unsat : (xs : List Session) (b : Bool) → (n : ℕ) → n ≤ length xs → n ≤ length (cond b (s ∷ xs) xs)
    unsat xs true n low = omega (arith, low)
    unsat xs false n low = low

    to : (l : Connection) (g : Bool) → is_client h (ring_of dropped (client_of os l.conn)) ≡ g
        → ((d : ℕ) → eqb l.conn d ≡ true → client_of os d ≡ Some h → d ≡ c)
        → (n : ℕ) → n ≤ length (filter (sits c) xs)
        → cond g (n + 1) n ≤ length (cond (eqb l.conn c) (s ∷ filter (sits c) xs) (filter (sits c) xs))
    to l true at own n low =
        let same = own l.conn (eq-eqb l.conn l.conn refl) (goes-to dropped os h l.conn at).0 in
        sat l (filter (sits c) xs) (eqb l.conn c) (eq-eqb l.conn c same) n (length (filter (sits c) xs)) low refl
    to l false at own n low = unsat (filter (sits c) xs) (eqb l.conn c) n low

    by : (b : Bool) (here : Option Connection) → ((d : ℕ) → option_map_or (λ (l : Connection). eqb l.conn d) here false ≡ true → client_of os d ≡ Some h → d ≡ c)
        → (rest : List Send) → aimed h (map (offer_of os dropped) (map outgoing rest)) ≤ length (filter (sits c) xs)
        → aimed h (front dropped os topic payload b here rest)
        ≤ length (cond (option_map_or (λ (l : Connection). eqb l.conn c) here false) (s ∷ filter (sits c) xs) (filter (sits c) xs))
    by true (Some l) own rest low = to l (is_client h (ring_of dropped (client_of os l.conn))) refl own (aimed h (map (offer_of os dropped) (map outgoing rest))) low
    by true None own rest low = low
    by false (Some l) own rest low = unsat (filter (sits c) xs) (eqb l.conn c) _ low
    by false None own rest low = low

pub all-aim : (dropped : ℕ → Bool) (os : List ℕ) (topic payload : List ℕ) (h c : ℕ) (xs : List Session) →
    ((d : ℕ) → list_any (sits d) xs ≡ true → client_of os d ≡ Some h → d ≡ c) →
    Aim h c (offers_of dropped os topic payload xs)
all-aim dropped os topic payload h c [] one = tt
all-aim dropped os topic payload h c (s ∷ xs) one =
    by (is_listening topic s) s.here (λ d e. one d (or_left _ _ e)) (flat_map (given_to topic payload) xs)
    (all-aim dropped os topic payload h c xs (λ d e. one d (or_right _ _ e)))
  where
    by : (b : Bool) (here : Option Connection) → ((d : ℕ) → option_map_or (λ (l : Connection). eqb l.conn d) here false ≡ true → client_of os d ≡ Some h → d ≡ c)
        → (rest : List Send) → Aim h c (map (offer_of os dropped) (map outgoing rest)) → Aim h c (front dropped os topic payload b here rest)
    by true (Some l) own rest all = ((λ at. own l.conn (eq-eqb l.conn l.conn refl) (goes-to dropped os h l.conn at).0), all)
    by true None own rest all = all
    by false (Some l) own rest all = all
    by false None own rest all = all

pub at-least : (dropped : ℕ → Bool) (os : List ℕ) (topic payload : List ℕ) (h c : ℕ) (xs : List Session) →
    list_any (λ (s : Session). sits c s && is_listening topic s) xs ≡ true → client_of os c ≡ Some h → dropped h ≡ false →
    0 < aimed h (offers_of dropped os topic payload xs)
at-least dropped os topic payload h c [] e is open_ring = absurd (no-yes e)
at-least dropped os topic payload h c (s ∷ xs) e is open_ring =
    by (is_listening topic s) s.here e (flat_map (given_to topic payload) xs) (λ f. at-least dropped os topic payload h c xs f is open_ring)
  where
    more : (g : Bool) (n : ℕ) → 0 < n → 0 < cond g (n + 1) n
    more true n low = omega arith
    more false n low = low

    here-one : (d : ℕ) (g : Bool) → is_client h (ring_of dropped (client_of os d)) ≡ g → d ≡ c → (n : ℕ) → 0 < cond g (n + 1) n
    here-one d true at same n = omega arith
    here-one d false at same n = absurd (true≢false (sym (subst (λ x. is_client h (ring_of dropped (client_of os x)) ≡ true) (sym same) (goes-there dropped os h c is open_ring)) ∙ at))

    to : (l : Connection) (a : Bool) → eqb l.conn c ≡ a → (a && true || list_any (λ (s : Session). sits c s && is_listening topic s) xs) ≡ true
        → (n : ℕ) → (list_any (λ (s : Session). sits c s && is_listening topic s) xs ≡ true → 0 < n)
        → 0 < cond (is_client h (ring_of dropped (client_of os l.conn))) (n + 1) n
    to l true at f n rest = here-one l.conn (is_client h (ring_of dropped (client_of os l.conn))) refl (eqb-true l.conn c at) n
    to l false at f n rest = more (is_client h (ring_of dropped (client_of os l.conn))) n (rest f)

    none : (a : Bool) → (a && false || list_any (λ (s : Session). sits c s && is_listening topic s) xs) ≡ true → list_any (λ (s : Session). sits c s && is_listening topic s) xs ≡ true
    none true f = f
    none false f = f

    by : (b : Bool) (here : Option Connection)
        → (option_map_or (λ (l : Connection). eqb l.conn c) here false && b || list_any (λ (s : Session). sits c s && is_listening topic s) xs) ≡ true
        → (rest : List Send)
        → (list_any (λ (s : Session). sits c s && is_listening topic s) xs ≡ true → 0 < aimed h (map (offer_of os dropped) (map outgoing rest)))
        → 0 < aimed h (front dropped os topic payload b here rest)
    by true (Some l) f rest more = to l (eqb l.conn c) refl f _ more
    by true None f rest more = more f
    by false (Some l) f rest more = more (none (eqb l.conn c) f)
    by false None f rest more = more f

-- a session that it goes to listens on a connection of the client
pub who-listens : (dropped : ℕ → Bool) (os : List ℕ) (topic payload : List ℕ) (h : ℕ) (xs : List Session) →
    0 < aimed h (offers_of dropped os topic payload xs) →
    (d : ℕ) × (client_of os d ≡ Some h) × (dropped h ≡ false) × (list_any (λ (s : Session). sits d s && is_listening topic s) xs ≡ true)
who-listens dropped os topic payload h [] low = absurd (omega (arith, low))
who-listens dropped os topic payload h (s ∷ xs) low =
    by (is_listening topic s) s.here refl refl (flat_map (given_to topic payload) xs) low (λ f. later (who-listens dropped os topic payload h xs f))
  where
    Found : List Session → Type 0
    Found ys = (d : ℕ) × (client_of os d ≡ Some h) × (dropped h ≡ false) × (list_any (λ (s : Session). sits d s && is_listening topic s) ys ≡ true)

    later : Found xs → Found (s ∷ xs)
    later f = (f.0, f.1, f.2, or_right _ _ f.3)

    to : (l : Connection) → s.here ≡ Some l → is_listening topic s ≡ true → (g : Bool) → is_client h (ring_of dropped (client_of os l.conn)) ≡ g
        → (n : ℕ) → 0 < cond g (n + 1) n → (0 < n → Found (s ∷ xs)) → Found (s ∷ xs)
    to l here hears true at n low rest =
        let there = goes-to dropped os h l.conn at in
        let sat : sits l.conn s ≡ true = ap (λ o. option_map_or (λ (x : Connection). eqb x.conn l.conn) o false) here ∙ eq-eqb l.conn l.conn refl in
        (l.conn, there.0, there.1, or_left _ _ (ap (λ x. x && is_listening topic s) sat ∙ hears))
    to l here hears false at n low rest = rest low

    by : (b : Bool) (here : Option Connection) → is_listening topic s ≡ b → s.here ≡ here → (rest : List Send) → 0 < aimed h (front dropped os topic payload b here rest)
        → (0 < aimed h (map (offer_of os dropped) (map outgoing rest)) → Found (s ∷ xs)) → Found (s ∷ xs)
    by true (Some l) hears at rest low more = to l at hears (is_client h (ring_of dropped (client_of os l.conn))) refl _ low more
    by true None hears at rest low more = more low
    by false (Some l) hears at rest low more = more low
    by false None hears at rest low more = more low
