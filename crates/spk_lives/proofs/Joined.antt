-- Two node records end to end, the second one's births and sessions counted on: one node record.
use Rattle.std.proofs.Common.{◌≡◌, ◌⊎◌, ℕ, zero, suc, ◌+◌, ◌-◌, ◌<◌, ◌≤◌, ◌||◌, Bool, true, false, cond, List, [], ◌∷◌, ◌++◌, length, map, get_or, nat_lt, eqb, refl, sym, ◌∙◌, ap, subst, inl, inr, arith, length-append}
use Rattle.std.proofs.Math.ListN.{get_or-append}
use Rattle.std.proofs.lemmas.Bool.{cases_lt, cases_Bool, le-ltb, lt-ltb, ne_eqb}
use Rattle.std.proofs.lemmas.List.{get_or-append-add, length-map}
use Rattle.spk_sequence.specs.NodeRecord.{IsNodeRecord, Message, NodeRecord, birth_at, message_at, opens, session_at, stamp_at, start_of}

abbrev pub no_message : Message
no_message = record { birth = 0; session = 0; stamp = 0 }

-- a message behind so many births and sessions
abbrev pub shifted : ℕ → ℕ → Message → Message
shifted births sessions m = record { birth = births + m.birth; session = sessions + m.session; stamp = m.stamp }

abbrev pub both : NodeRecord → ℕ → ℕ → NodeRecord → NodeRecord
both a births sessions b = a ++ map (shifted births sessions) b

-- what is asked of the second: it goes on behind the first
pub record Follows (a : NodeRecord) (births sessions : ℕ) (b : NodeRecord) : Type 0 where
  pub first : IsNodeRecord a
  pub second : IsNodeRecord b
  pub none : length a ≡ 0 → births ≡ 0
  pub last : (p : ℕ) → p + 1 ≡ length a → birth_at a p + 1 ≡ births
  pub before : (p : ℕ) → p < length a → session_at a p < sessions
  pub newer : (p q : ℕ) → p < length a → q < length b → stamp_at a p < stamp_at b q

map-at : {X Y : Type 0} (f : X → Y) (xs : List X) (p : ℕ) (d : X) (e : Y) → p < length xs → get_or (map f xs) p e ≡ f (get_or xs p d)
map-at f [] p d e below = absurd (omega arith)
map-at f (x ∷ xs) zero d e below = refl
map-at f (x ∷ xs) (suc p) d e below = map-at f xs p d e (omega arith)

pub front : (a c : NodeRecord) (p : ℕ) → p < length a → message_at (a ++ c) p ≡ message_at a p
front a c p below = get_or-append a c no_message p below

pub back : (a : NodeRecord) (births sessions : ℕ) (b : NodeRecord) (q : ℕ) → q < length b → message_at (both a births sessions b) (length a + q) ≡ shifted births sessions (message_at b q)
back a births sessions b q below =
    get_or-append-add a (map (shifted births sessions) b) q no_message ∙ map-at (shifted births sessions) b q no_message no_message below

pub opens-suc : (published : NodeRecord) (p : ℕ) → opens published (suc p) ≡ nat_lt (birth_at published p) (birth_at published (suc p))
opens-suc published p =
    let no : eqb (suc p) 0 ≡ false = ne_eqb (suc p) 0 (λ e. omega (arith, e)) in
    let before : suc p - 1 ≡ p = omega arith in
    ap (λ b. b || nat_lt (birth_at published (suc p - 1)) (birth_at published (suc p))) no
    ∙ ap (λ q. nat_lt (birth_at published q) (birth_at published (suc p))) before

-- births never fall
births-step : (a : NodeRecord) → IsNodeRecord a → (p k : ℕ) → p + k < length a → birth_at a p ≤ birth_at a (p + k)
births-step a node p zero below = let e : p + zero ≡ p = omega arith in subst (λ q. birth_at a p ≤ birth_at a q) (sym e) (omega arith)
births-step a node p (suc k) below =
    let before : birth_at a p ≤ birth_at a (p + k) = births-step a node p k (omega arith) in
    let e : p + suc k ≡ (p + k) + 1 = omega arith in
    subst (λ q. birth_at a p ≤ birth_at a q) (sym e) (elim (node.births (p + k) (omega arith)) [
      | inl same ↦ omega (arith, before, same)
      | inr next ↦ omega (arith, before, next)
    ])

-- those of the first are all below where the second goes on
births-below : (a : NodeRecord) (births sessions : ℕ) (b : NodeRecord) → Follows a births sessions b → (p : ℕ) → p < length a → birth_at a p < births
births-below a births sessions b f p below =
    let k = length a - 1 - p in
    let e : (p + k) + 1 ≡ length a = omega arith in
    let low = births-step a f.first p k (omega (arith, e)) in
    let last = f.last (p + k) e in
    omega (arith, low, last)

-- a position is in the first, or some places into the second
pub data Place (n m p : ℕ) : Type 0 where
  InFirst : p < n → Place n m p
  InSecond : (q : ℕ) → p ≡ n + q → q < m → Place n m p

pub place : (n m p : ℕ) → p < n + m → Place n m p
place n m p below = elim (cases_lt p n) [
  | inl low ↦ InFirst low
  | inr high ↦ InSecond (p - n) (omega arith) (omega arith)
]

-- what a position has, in either case
pub record At (a : NodeRecord) (births sessions : ℕ) (b : NodeRecord) (p q : ℕ) : Type 0 where
  pub birth : birth_at (both a births sessions b) p ≡ births + birth_at b q
  pub session : session_at (both a births sessions b) p ≡ sessions + session_at b q
  pub stamp : stamp_at (both a births sessions b) p ≡ stamp_at b q

pub at-second : (a : NodeRecord) (births sessions : ℕ) (b : NodeRecord) (p q : ℕ) → p ≡ length a + q → q < length b → At a births sessions b p q
at-second a births sessions b p q e below =
    let m : message_at (both a births sessions b) p ≡ shifted births sessions (message_at b q) = ap (message_at (both a births sessions b)) e ∙ back a births sessions b q below in
    record { birth = ap (λ (x : Message). x.birth) m; session = ap (λ (x : Message). x.session) m; stamp = ap (λ (x : Message). x.stamp) m }

pub record AtFirst (a : NodeRecord) (births sessions : ℕ) (b : NodeRecord) (p : ℕ) : Type 0 where
  pub birth : birth_at (both a births sessions b) p ≡ birth_at a p
  pub session : session_at (both a births sessions b) p ≡ session_at a p
  pub stamp : stamp_at (both a births sessions b) p ≡ stamp_at a p

pub at-first : (a : NodeRecord) (births sessions : ℕ) (b : NodeRecord) (p : ℕ) → p < length a → AtFirst a births sessions b p
at-first a births sessions b p below =
    let m : message_at (both a births sessions b) p ≡ message_at a p = front a (map (shifted births sessions) b) p below in
    record { birth = ap (λ (x : Message). x.birth) m; session = ap (λ (x : Message). x.session) m; stamp = ap (λ (x : Message). x.stamp) m }

pub size : (a : NodeRecord) (births sessions : ℕ) (b : NodeRecord) → length (both a births sessions b) ≡ length a + length b
size a births sessions b = length-append a (map (shifted births sessions) b) ∙ ap (λ n. length a + n) (length-map b (shifted births sessions))

-- ---- births

-- the first of the second, or one behind another there
opens-second : (a : NodeRecord) (births sessions : ℕ) (b : NodeRecord) (q : ℕ) → suc q < length b
    → opens (both a births sessions b) (length a + suc q) ≡ opens b (suc q)
opens-second a births sessions b q below =
    let e : length a + suc q ≡ suc (length a + q) = omega arith in
    let x = (at-second a births sessions b (length a + q) q refl (omega arith)).birth in
    let y = (at-second a births sessions b (suc (length a + q)) (suc q) (sym e) below).birth in
    ap (opens (both a births sessions b)) e ∙ opens-suc (both a births sessions b) (length a + q)
    ∙ ap (λ n. nat_lt n (birth_at (both a births sessions b) (suc (length a + q)))) x
    ∙ ap (λ n. nat_lt (births + birth_at b q) n) y
    ∙ less births (birth_at b q) (birth_at b (suc q))
    ∙ sym (opens-suc b q)
  where
    less : (k m n : ℕ) → nat_lt (k + m) (k + n) ≡ nat_lt m n
    less k m n = elim (cases_lt m n) [
      | inl low ↦ lt-ltb (k + m) (k + n) (omega arith) ∙ sym (lt-ltb m n low)
      | inr high ↦ le-ltb (k + m) (k + n) (omega arith) ∙ sym (le-ltb m n high)
    ]

opens-first : (a : NodeRecord) (births sessions : ℕ) (b : NodeRecord) (p : ℕ) → p < length a → opens (both a births sessions b) p ≡ opens a p
opens-first a births sessions b zero below = refl
opens-first a births sessions b (suc p) below =
    opens-suc (both a births sessions b) p
    ∙ ap (λ n. nat_lt n (birth_at (both a births sessions b) (suc p))) (at-first a births sessions b p (omega arith)).birth
    ∙ ap (λ n. nat_lt (birth_at a p) n) (at-first a births sessions b (suc p) below).birth
    ∙ sym (opens-suc a p)

abbrev NextTo : ℕ → ℕ → Type 0
NextTo m n = (n ≡ m) ⊎ (n ≡ m + 1)

births-joined : (a : NodeRecord) (births sessions : ℕ) (b : NodeRecord) → Follows a births sessions b → (p : ℕ) → p + 1 < length (both a births sessions b)
    → NextTo (birth_at (both a births sessions b) p) (birth_at (both a births sessions b) (p + 1))
births-joined a births sessions b f p below = by (place (length a) (length b) p (omega (arith, sized))) (place (length a) (length b) (p + 1) (omega (arith, sized)))
  where
    sized : length (both a births sessions b) ≡ length a + length b
    sized = size a births sessions b

    by : Place (length a) (length b) p → Place (length a) (length b) (p + 1) → NextTo (birth_at (both a births sessions b) p) (birth_at (both a births sessions b) (p + 1))
    by (InFirst low) (InFirst next) =
        let x = (at-first a births sessions b p low).birth in
        let y = (at-first a births sessions b (p + 1) next).birth in
        elim (f.first.births p next) [
          | inl same ↦ inl (y ∙ same ∙ sym x)
          | inr more ↦ inr (y ∙ more ∙ ap (λ n. n + 1) (sym x))
        ]
    by (InFirst low) (InSecond q e within) =
        let x = (at-first a births sessions b p low).birth in
        let y = (at-second a births sessions b (p + 1) q e within).birth in
        let zeroth : q ≡ 0 = omega (arith, low, e) in
        let opening : birth_at b q ≡ 0 = ap (birth_at b) zeroth ∙ f.second.first_birth (omega (arith, within)) in
        let last = f.last p (omega (arith, low, e, zeroth)) in
        inr (omega (arith, x, y, opening, last))
    by (InSecond q e within) (InFirst next) = absurd (omega (arith, e, next))
    by (InSecond q e within) (InSecond r g inside) =
        let x = (at-second a births sessions b p q e within).birth in
        let y = (at-second a births sessions b (p + 1) (q + 1) (omega (arith, e)) (omega (arith, e, g, inside))).birth in
        elim (f.second.births q (omega (arith, e, g, inside))) [
          | inl same ↦ inl (y ∙ ap (λ n. births + n) same ∙ sym x)
          | inr more ↦ inr (omega (arith, x, y, more))
        ]

session-joined : (a : NodeRecord) (births sessions : ℕ) (b : NodeRecord) → Follows a births sessions b → (p q : ℕ) → p < length (both a births sessions b) → q < length (both a births sessions b)
    → birth_at (both a births sessions b) p ≡ birth_at (both a births sessions b) q → session_at (both a births sessions b) p ≡ session_at (both a births sessions b) q
session-joined a births sessions b f p q low high same = by (place (length a) (length b) p (omega (arith, sized, low))) (place (length a) (length b) q (omega (arith, sized, high)))
  where
    sized : length (both a births sessions b) ≡ length a + length b
    sized = size a births sessions b

    by : Place (length a) (length b) p → Place (length a) (length b) q → session_at (both a births sessions b) p ≡ session_at (both a births sessions b) q
    by (InFirst x) (InFirst y) =
        let i = at-first a births sessions b p x in
        let j = at-first a births sessions b q y in
        i.session ∙ f.first.one_session p q x y (sym i.birth ∙ same ∙ j.birth) ∙ sym j.session
    by (InFirst x) (InSecond k e y) =
        let i = (at-first a births sessions b p x).birth in
        let j = (at-second a births sessions b q k e y).birth in
        let l = births-below a births sessions b f p x in
        absurd (omega (arith, i, j, l, same))
    by (InSecond k e x) (InFirst y) =
        let i = (at-second a births sessions b p k e x).birth in
        let j = (at-first a births sessions b q y).birth in
        let l = births-below a births sessions b f q y in
        absurd (omega (arith, i, j, l, same))
    by (InSecond k e x) (InSecond l g y) =
        let i = at-second a births sessions b p k e x in
        let j = at-second a births sessions b q l g y in
        let u = i.birth in
        let v = j.birth in
        let births_same : birth_at b k ≡ birth_at b l = omega (arith, u, v, same) in
        i.session ∙ ap (λ n. sessions + n) (f.second.one_session k l x y births_same) ∙ sym j.session

-- ---- what never falls

sessions-joined : (a : NodeRecord) (births sessions : ℕ) (b : NodeRecord) → Follows a births sessions b → (p q : ℕ) → p ≤ q → q < length (both a births sessions b)
    → session_at (both a births sessions b) p ≤ session_at (both a births sessions b) q
sessions-joined a births sessions b f p q le high = by (place (length a) (length b) p (omega (arith, sized, le, high))) (place (length a) (length b) q (omega (arith, sized, high)))
  where
    sized : length (both a births sessions b) ≡ length a + length b
    sized = size a births sessions b

    by : Place (length a) (length b) p → Place (length a) (length b) q → session_at (both a births sessions b) p ≤ session_at (both a births sessions b) q
    by (InFirst x) (InFirst y) =
        let i = (at-first a births sessions b p x).session in
        let j = (at-first a births sessions b q y).session in
        let l = f.first.sessions p q le y in
        omega (arith, i, j, l)
    by (InFirst x) (InSecond k e y) =
        let i = (at-first a births sessions b p x).session in
        let j = (at-second a births sessions b q k e y).session in
        let l = f.before p x in
        omega (arith, i, j, l)
    by (InSecond k e x) (InFirst y) = absurd (omega (arith, e, le, y))
    by (InSecond k e x) (InSecond l g y) =
        let i = (at-second a births sessions b p k e x).session in
        let j = (at-second a births sessions b q l g y).session in
        let m = f.second.sessions k l (omega (arith, e, g, le)) y in
        omega (arith, i, j, m)

stamps-joined : (a : NodeRecord) (births sessions : ℕ) (b : NodeRecord) → Follows a births sessions b → (p q : ℕ) → p ≤ q → q < length (both a births sessions b)
    → stamp_at (both a births sessions b) p ≤ stamp_at (both a births sessions b) q
stamps-joined a births sessions b f p q le high = by (place (length a) (length b) p (omega (arith, sized, le, high))) (place (length a) (length b) q (omega (arith, sized, high)))
  where
    sized : length (both a births sessions b) ≡ length a + length b
    sized = size a births sessions b

    by : Place (length a) (length b) p → Place (length a) (length b) q → stamp_at (both a births sessions b) p ≤ stamp_at (both a births sessions b) q
    by (InFirst x) (InFirst y) =
        let i = (at-first a births sessions b p x).stamp in
        let j = (at-first a births sessions b q y).stamp in
        let l = f.first.stamps p q le y in
        omega (arith, i, j, l)
    by (InFirst x) (InSecond k e y) =
        let i = (at-first a births sessions b p x).stamp in
        let j = (at-second a births sessions b q k e y).stamp in
        let l = f.newer p k x y in
        omega (arith, i, j, l)
    by (InSecond k e x) (InFirst y) = absurd (omega (arith, e, le, y))
    by (InSecond k e x) (InSecond l g y) =
        let i = (at-second a births sessions b p k e x).stamp in
        let j = (at-second a births sessions b q l g y).stamp in
        let m = f.second.stamps k l (omega (arith, e, g, le)) y in
        omega (arith, i, j, m)

newer-joined : (a : NodeRecord) (births sessions : ℕ) (b : NodeRecord) → Follows a births sessions b → (p q : ℕ) → p < q → q < length (both a births sessions b)
    → opens (both a births sessions b) q ≡ true → stamp_at (both a births sessions b) p < stamp_at (both a births sessions b) q
newer-joined a births sessions b f p q lt high opening = by (place (length a) (length b) p (omega (arith, sized, lt, high))) (place (length a) (length b) q (omega (arith, sized, high)))
  where
    sized : length (both a births sessions b) ≡ length a + length b
    sized = size a births sessions b

    by : Place (length a) (length b) p → Place (length a) (length b) q → stamp_at (both a births sessions b) p < stamp_at (both a births sessions b) q
    by (InFirst x) (InFirst y) =
        let i = (at-first a births sessions b p x).stamp in
        let j = (at-first a births sessions b q y).stamp in
        let l = f.first.newer p q lt y (sym (opens-first a births sessions b q y) ∙ opening) in
        omega (arith, i, j, l)
    by (InFirst x) (InSecond k e y) =
        let i = (at-first a births sessions b p x).stamp in
        let j = (at-second a births sessions b q k e y).stamp in
        let l = f.newer p k x y in
        omega (arith, i, j, l)
    by (InSecond k e x) (InFirst y) = absurd (omega (arith, e, lt, y))
    by (InSecond k e x) (InSecond zero g y) = absurd (omega (arith, e, g, lt))
    by (InSecond k e x) (InSecond (suc l) g y) =
        let i = (at-second a births sessions b p k e x).stamp in
        let j = (at-second a births sessions b q (suc l) g y).stamp in
        let o : opens b (suc l) ≡ true = sym (opens-second a births sessions b l y) ∙ ap (opens (both a births sessions b)) (sym g) ∙ opening in
        let m = f.second.newer k (suc l) (omega (arith, e, g, lt)) y o in
        omega (arith, i, j, m)

pub joined : (a : NodeRecord) (births sessions : ℕ) (b : NodeRecord) → Follows a births sessions b → IsNodeRecord (both a births sessions b)
joined a births sessions b f = record {
  first_birth = λ some. by_first some (place (length a) (length b) 0 (omega (arith, sized, some)));
  births = births-joined a births sessions b f;
  one_session = session-joined a births sessions b f;
  sessions = sessions-joined a births sessions b f;
  stamps = stamps-joined a births sessions b f;
  newer = newer-joined a births sessions b f;
}
  where
    sized : length (both a births sessions b) ≡ length a + length b
    sized = size a births sessions b

    by_first : 0 < length (both a births sessions b) → Place (length a) (length b) 0 → birth_at (both a births sessions b) 0 ≡ 0
    by_first some (InFirst x) = (at-first a births sessions b 0 x).birth ∙ f.first.first_birth x
    by_first some (InSecond q e y) =
        let none = f.none (omega (arith, e)) in
        let z : q ≡ 0 = omega (arith, e) in
        let i = (at-second a births sessions b 0 q e y).birth in
        let o : birth_at b q ≡ 0 = ap (birth_at b) z ∙ f.second.first_birth (omega (arith, y)) in
        omega (arith, i, o, none)

-- ---- where a message's birth starts

opens-joint : (a : NodeRecord) (births sessions : ℕ) (b : NodeRecord) → Follows a births sessions b → 0 < length b → opens (both a births sessions b) (length a) ≡ true
opens-joint a births sessions b f some = by (length a) refl
  where
    by : (n : ℕ) → length a ≡ n → opens (both a births sessions b) n ≡ true
    by zero e = refl
    by (suc n) e =
        let x = (at-first a births sessions b n (omega (arith, e))).birth in
        let y = (at-second a births sessions b (suc n) 0 (omega (arith, e)) some).birth in
        let l = births-below a births sessions b f n (omega (arith, e)) in
        opens-suc (both a births sessions b) n ∙ lt-ltb (birth_at (both a births sessions b) n) (birth_at (both a births sessions b) (suc n)) (omega (arith, x, y, l))

start-opens : (published : NodeRecord) (p : ℕ) → opens published p ≡ true → start_of published p ≡ p
start-opens published zero e = refl
start-opens published (suc p) e = ap (λ b. cond b (suc p) (start_of published p)) e

pub start-second : (a : NodeRecord) (births sessions : ℕ) (b : NodeRecord) → Follows a births sessions b → (q : ℕ) → q < length b
    → start_of (both a births sessions b) (length a + q) ≡ length a + start_of b q
start-second a births sessions b f zero below =
    let e : length a + 0 ≡ length a = omega arith in
    ap (start_of (both a births sessions b)) e ∙ start-opens (both a births sessions b) (length a) (opens-joint a births sessions b f (omega (arith, below))) ∙ sym e
start-second a births sessions b f (suc q) below =
    let e : length a + suc q ≡ suc (length a + q) = omega arith in
    let o : opens (both a births sessions b) (suc (length a + q)) ≡ opens b (suc q) = ap (opens (both a births sessions b)) (sym e) ∙ opens-second a births sessions b q below in
    ap (start_of (both a births sessions b)) e
    ∙ ap (λ x. cond x (suc (length a + q)) (start_of (both a births sessions b) (length a + q))) o
    ∙ ap (λ n. cond (opens b (suc q)) (suc (length a + q)) n) (start-second a births sessions b f q (omega arith))
    ∙ ap (λ n. cond (opens b (suc q)) n (length a + start_of b q)) (sym e)
    ∙ out (opens b (suc q)) (length a) (suc q) (start_of b q)
  where
    out : (x : Bool) (n k m : ℕ) → cond x (n + k) (n + m) ≡ n + cond x k m
    out true n k m = refl
    out false n k m = refl

pub start-below : (published : NodeRecord) (p : ℕ) → start_of published p ≤ p
start-below published zero = omega arith
start-below published (suc p) = elim (cases_Bool (opens published (suc p))) [
  | inl here ↦ subst (λ b. cond b (suc p) (start_of published p) ≤ suc p) (sym here) (omega arith)
  | inr closed ↦ subst (λ b. cond b (suc p) (start_of published p) ≤ suc p) (sym closed) (let l : start_of published p ≤ p = start-below published p in omega arith)
]
