-- How often a connection stands in the data, and how often it is told: once at most, both together. With this each act keeps
-- the data lawful.
use Rattle.std.proofs.Common.{◌≡◌, ℕ, zero, suc, ◌+◌, ◌<◌, ◌≤◌, Bool, true, false, not, ◌&&◌, cond, eqb, List, [], ◌∷◌, ◌++◌, map, length, refl, sym, ◌∙◌, ap, ap₂, arith, subst, Option, Some, None, true≢false}
use Rattle.std.specs.List.{find, filter, fold, flat_map, AllByRecursion}
use Rattle.std.specs.Option.{option_map, option_map_or, is_some}
use Rattle.std.specs.Str.{bytes_eq}
use Rattle.std.proofs.lemmas.List.{length-append}
use Rattle.spk_packets.specs.Message.{SubAck}
use Rattle.spk_session.specs.PacketIds.{next_id}
use Rattle.spk_session.specs.Step.{has_room, without}
use Rattle.spk_broker_rules.specs.Data.{AppMessage, Connection, Newcomer, Session, Broker, fresh_broker}
use Rattle.spk_broker_rules.specs.Lawful.{IsLow, Rises, IsLawful, places}
use Rattle.spk_broker_rules.specs.Table.{remove}
use Rattle.spk_broker_rules.specs.Words.{handed_out, best, level, sent_as, option_list, granted_of, offers_to, with_entry, codes_of, without_id}
use Rattle.spk_broker_rules.specs.Plan.{Act, Opens, At, Hear, Drop, Say, Leave, Tell, Queue, Route, Forget, Accept, Give, Take, Ack}
use Rattle.spk_broker_rules.specs.Step.{Turn, act, acts, opens, on_connections, newcomer_heard, connection_heard, newcomer_dropped, connection_dropped, sits, swap, left_behind, other_newcomers, leave_at, session_by, is_newcomer, is_away, forget_at, connection_of, new_session, take_up, away_for, accept_of, other_grants, give_at, take_at, ack_at, offer, offer_at, with_key, hand, hand_at, serve, serve_at, numbered, bursts, route_one, route_some, route}
use Rattle.spk_broker_rules.proofs.Lists.{eqb-is, eqb-self, found-passes, all-also}
use Rattle.spk_broker_rules.proofs.Lawfuls.{IsOrdered, found-in, ordered-act, ordered-one, ordered-offer_at, ordered-found, heard-conn, heard-connection, dropped-conn, dropped-connection}

-- ---- counting

abbrev pub bit : Bool → ℕ
bit b = cond b 1 0

pub bit-one : (b : Bool) → b ≡ true → bit b ≡ 1
bit-one b e = ap bit e

pub bit-none : (b : Bool) → b ≡ false → bit b ≡ 0
bit-none b e = ap bit e

abbrev pub tally : {X : Type 0} → (X → Bool) → List X → ℕ
tally p xs = length (filter p xs)

pub tally-cons : {X : Type 0} (p : X → Bool) (x : X) (xs : List X) → tally p (x ∷ xs) ≡ bit (p x) + tally p xs
tally-cons {X} p x xs = by (p x)
  where
    by : (b : Bool) → length (cond b (x ∷ filter p xs) (filter p xs)) ≡ bit b + tally p xs
    by true = omega arith
    by false = omega arith

pub tally-append : {X : Type 0} (p : X → Bool) (xs ys : List X) → tally p (xs ++ ys) ≡ tally p xs + tally p ys
tally-append p [] ys = omega arith
tally-append p (x ∷ xs) ys =
    let a = tally-cons p x (xs ++ ys) in let b = tally-cons p x xs in let c = tally-append p xs ys in omega arith

pub tally-filter : {X : Type 0} (p q : X → Bool) (xs : List X) → tally p (filter q xs) ≤ tally p xs
tally-filter p q [] = omega arith
tally-filter {X} p q (x ∷ xs) = by (q x) (tally-filter p q xs)
  where
    by : (b : Bool) → tally p (filter q xs) ≤ tally p xs → tally p (cond b (x ∷ filter q xs) (filter q xs)) ≤ tally p (x ∷ xs)
    by true rest = let a = tally-cons p x (filter q xs) in let c = tally-cons p x xs in omega arith
    by false rest = let c = tally-cons p x xs in omega arith

-- those that pass, and the others
pub tally-others : {X : Type 0} (p : X → Bool) (xs : List X) → tally p xs + length (filter (λ x. not (p x)) xs) ≡ length xs
tally-others p [] = omega arith
tally-others {X} p (x ∷ xs) = by (p x) (tally-others p xs)
  where
    by : (b : Bool) → tally p xs + length (filter (λ y. not (p y)) xs) ≡ length xs
        → length (cond b (x ∷ filter p xs) (filter p xs)) + length (cond (not b) (x ∷ filter (λ y. not (p y)) xs) (filter (λ y. not (p y)) xs)) ≡ suc (length xs)
    by true rest = omega arith
    by false rest = omega arith

tally-none : {X : Type 0} (p : X → Bool) (xs : List X) → AllByRecursion (λ x. p x ≡ false) xs → tally p xs ≡ 0
tally-none p [] h = refl
tally-none p (x ∷ xs) h = ap (λ b. length (cond b (x ∷ filter p xs) (filter p xs))) h.0 ∙ tally-none p xs h.1

-- none of those that are kept
pub tally-out : {X : Type 0} (p : X → Bool) (xs : List X) → tally p (filter (λ x. not (p x)) xs) ≡ 0
tally-out p [] = refl
tally-out {X} p (x ∷ xs) = by (p x) refl (tally-out p xs)
  where
    by : (b : Bool) → p x ≡ b → tally p (filter (λ y. not (p y)) xs) ≡ 0 → tally p (cond (not b) (x ∷ filter (λ y. not (p y)) xs) (filter (λ y. not (p y)) xs)) ≡ 0
    by true e rest = rest
    by false e rest = ap (λ b. length (cond b (x ∷ filter p (filter (λ y. not (p y)) xs)) (filter p (filter (λ y. not (p y)) xs)))) e ∙ rest

pub tally-found : {X : Type 0} (p : X → Bool) (xs : List X) (x : X) → find p xs ≡ Some x → 1 ≤ tally p xs
tally-found p [] x e = absurd (no e)
  where
    no : {Y : Type 0} {y : Y} → None ≡ Some y → ⊥
    no h = cc
tally-found {X} p (y ∷ ys) x e = by (p y) e (tally-found p ys x)
  where
    by : (b : Bool) → cond b (Some y) (find p ys) ≡ Some x → (find p ys ≡ Some x → 1 ≤ tally p ys) → 1 ≤ length (cond b (y ∷ filter p ys) (filter p ys))
    by true f rest = omega arith
    by false f rest = rest f

pub tally-missed : {X : Type 0} (p : X → Bool) (xs : List X) → find p xs ≡ None → tally p xs ≡ 0
tally-missed p [] e = refl
tally-missed {X} p (y ∷ ys) e = by (p y) e (tally-missed p ys)
  where
    no : {Y : Type 0} {z : Y} → Some z ≡ None → ⊥
    no h = cc

    by : (b : Bool) → cond b (Some y) (find p ys) ≡ None → (find p ys ≡ None → tally p ys ≡ 0) → length (cond b (y ∷ filter p ys) (filter p ys)) ≡ 0
    by true f rest = absurd (no f)
    by false f rest = rest f

pub tally-map : {X : Type 0} (f : X → X) (p : X → Bool) → ((x : X) → p (f x) ≡ p x) → (xs : List X) → tally p (map f xs) ≡ tally p xs
tally-map f p same [] = refl
tally-map f p same (x ∷ xs) =
    let a = tally-cons p (f x) (map f xs) in let b = tally-cons p x xs in let c = tally-map f p same xs in let d = ap bit (same x) in omega arith

pub flat-few : {X Y Z : Type 0} (p : X → Bool) (q : Y → Bool) (r : Z → Bool) (f : X → List Y) (g : X → List Z) → ((x : X) → tally q (f x) + tally r (g x) ≤ bit (p x))
    → (xs : List X) → tally q (flat_map f xs) + tally r (flat_map g xs) ≤ tally p xs
flat-few p q r f g h [] = omega arith
flat-few p q r f g h (x ∷ xs) =
    let a = tally-append q (f x) (flat_map f xs) in let b = tally-append r (g x) (flat_map g xs) in let c = tally-cons p x xs in
    let d = h x in let e = flat-few p q r f g h xs in omega arith

-- ---- one session among the others

pub record Split (x : Session) (ss : List Session) : Type 0 where
  pub front : List Session
  pub back : List Session
  pub is : ss ≡ front ++ x ∷ back
  pub swapped : (new : List Session) → swap x.key new ss ≡ front ++ (new ++ back)

rises-high : (low top : ℕ) (ss : List Session) → Rises low top ss → AllByRecursion (λ (s : Session). low < s.key) ss
rises-high low top [] h = tt
rises-high low top (s ∷ ss) h = (h.0, all-also (λ (x : Session). s.key < x.key) (λ (x : Session). low < x.key) (λ x e. let a = h.0 in omega arith) ss (rises-high s.key top ss h.1))

above-other : (low k : ℕ) → low < k → eqb k low ≡ false
above-other low k h = by (eqb k low) refl
  where
    by : (b : Bool) → eqb k low ≡ b → b ≡ false
    by true e = let same : k ≡ low = eqb-is k low e in absurd (omega arith)
    by false e = refl

below-other : (low k : ℕ) → low < k → eqb low k ≡ false
below-other low k h = by (eqb low k) refl
  where
    by : (b : Bool) → eqb low k ≡ b → b ≡ false
    by true e = let same : low ≡ k = eqb-is low k e in absurd (omega arith)
    by false e = refl

swap-out : (key : ℕ) (new ss : List Session) → AllByRecursion (λ (s : Session). key < s.key) ss → swap key new ss ≡ ss
swap-out key new [] h = refl
swap-out key new (s ∷ ss) h = ap₂ (λ b xs. cond b new (s ∷ []) ++ xs) (above-other key s.key h.0) (swap-out key new ss h.1)

pub split : (p : Session → Bool) (low top : ℕ) (ss : List Session) (x : Session) → Rises low top ss → find p ss ≡ Some x → Split x ss
split p low top [] x r e = absurd (no e)
  where
    no : None ≡ Some x → ⊥
    no h = cc
split p low top (y ∷ ys) x r e = by (p y) e (split p y.key top ys x r.1)
  where
    high : AllByRecursion (λ (s : Session). y.key < s.key) ys
    high = rises-high y.key top ys r.1

    first : Split y (y ∷ ys)
    first = record {
      front = [];
      back = ys;
      is = refl;
      swapped = λ new. ap₂ (λ b xs. cond b new (y ∷ []) ++ xs) (eqb-self y.key) (swap-out y.key new ys high);
    }

    by : (b : Bool) → cond b (Some y) (find p ys) ≡ Some x → (find p ys ≡ Some x → Split x ys) → Split x (y ∷ ys)
    by true f rest = let same : y ≡ x = cc in subst (λ z. Split z (y ∷ ys)) same first
    by false f rest =
        let s : Split x ys = rest f in
        let above : y.key < x.key = found-in (λ (z : Session). y.key < z.key) p ys x high f in
        record {
          front = y ∷ s.front;
          back = s.back;
          is = ap (λ xs. y ∷ xs) s.is;
          swapped = λ new. ap₂ (λ b xs. cond b new (y ∷ []) ++ xs) (below-other y.key x.key above) (s.swapped new);
        }

pub tally-swap : (q : Session → Bool) (x : Session) (new ss : List Session) → Split x ss → tally q (swap x.key new ss) + bit (q x) ≡ tally q ss + tally q new
tally-swap q x new ss s =
    let a : tally q (swap x.key new ss) ≡ tally q (s.front ++ (new ++ s.back)) = ap (tally q) (s.swapped new) in
    let b : tally q ss ≡ tally q (s.front ++ (x ∷ s.back)) = ap (tally q) s.is in
    let c = tally-append q s.front (new ++ s.back) in let d = tally-append q new s.back in
    let e = tally-append q s.front (x ∷ s.back) in let f = tally-cons q x s.back in omega arith

-- ---- who is whose

both-sit : (c d : ℕ) (s : Session) → sits c s ≡ true → sits d s ≡ true → d ≡ c
both-sit c d s = by s.here
  where
    by : (o : Option Connection) → option_map_or (λ (l : Connection). eqb l.conn c) o false ≡ true → option_map_or (λ (l : Connection). eqb l.conn d) o false ≡ true → d ≡ c
    by None e f = absurd (true≢false (sym e))
    by (Some l) e f = sym (eqb-is l.conn d f) ∙ eqb-is l.conn c e

pub away-sits : (name : List ℕ) (c : ℕ) (s : Session) → is_away name s ≡ true → sits c s ≡ false
away-sits name c s = by s.kept s.here (bytes_eq s.client name)
  where
    by : (k : Bool) (o : Option Connection) (b : Bool) → (k && (not (is_some o) && b)) ≡ true → option_map_or (λ (l : Connection). eqb l.conn c) o false ≡ false
    by true None b e = refl
    by false None b e = refl
    by true (Some l) b e = absurd (true≢false (sym e))
    by false (Some l) b e = absurd (true≢false (sym e))

pub found-away : (keeps : Bool) (name : List ℕ) (ss : List Session) (s : Session) → away_for keeps name ss ≡ Some s → find (is_away name) ss ≡ Some s
found-away true name ss s e = e
found-away false name ss s e = absurd (no e)
  where
    no : None ≡ Some s → ⊥
    no h = cc

module _ (c : ℕ) where
  abbrev pub told : Turn → ℕ
  told t = tally (λ d. eqb d c) t.closes

  abbrev at : Turn → ℕ
  at t = places c t.broker

  -- A turn that goes on to another: where the connection stands and how often it was told don't grow together, and what was
  -- told stays told.
  pub record Down (t u : Turn) : Type 0 where
    pub sum : places c u.broker + told u ≤ places c t.broker + told t
    pub more : told t ≤ told u

  pub down-less : (t u : Turn) → Down t u → places c u.broker ≤ places c t.broker
  down-less t u d = let a = d.sum in let b = d.more in omega arith

  pub down-then : (t u v : Turn) → Down t u → Down u v → Down t v
  down-then t u v d e = record { sum = (let a = d.sum in let b = e.sum in omega arith); more = (let a = d.more in let b = e.more in omega arith) }

  down-self : (t : Turn) → Down t t
  down-self t = record { sum = omega arith; more = omega arith }

  -- nothing more was told
  down-silent : (t u : Turn) → t.closes ≡ u.closes → places c u.broker ≤ places c t.broker → Down t u
  down-silent t u e h = let a : told t ≡ told u = ap (tally (λ d. eqb d c)) e in record { sum = omega arith; more = omega arith }

  few-bursts : (s : Session) → tally (λ d. eqb d c) (bursts s).closes ≤ bit (sits c s)
  few-bursts s = by s.here
    where
      by : (o : Option Connection) → tally (λ d. eqb d c) (option_list (option_map (λ (l : Connection). l.conn) o)) ≤ bit (option_map_or (λ (l : Connection). eqb l.conn c) o false)
      by None = omega arith
      by (Some l) = let a = tally-cons (λ d. eqb d c) l.conn [] in omega arith

  few-self : (s : Session) → tally (sits c) (s ∷ []) + 0 ≤ bit (sits c s)
  few-self s = let a = tally-cons (sits c) s [] in omega arith

  few-hand : (q : ℕ) (app_message : AppMessage) (s : Session) → tally (sits c) (hand_at q app_message s).left + tally (λ d. eqb d c) (hand_at q app_message s).closes ≤ bit (sits c s)
  few-hand zero app_message s = few-self s
  few-hand (suc q) app_message s = by (has_room s.used)
    where
      by : (b : Bool) → tally (sits c) (cond b (numbered s app_message (next_id s.used s.last)) (bursts s)).left + tally (λ d. eqb d c) (cond b (numbered s app_message (next_id s.used s.last)) (bursts s)).closes ≤ bit (sits c s)
      by true = few-self (record s { used = _; last = _; in_flight = _ })
      by false = let a = few-bursts s in omega arith

  few-serve : (m : AppMessage) (s : Session) → tally (sits c) (serve m s).left + tally (λ d. eqb d c) (serve m s).closes ≤ bit (sits c s)
  few-serve m s = by (level m.qos (best m.topic s.grants))
    where
      by : (o : Option ℕ) → tally (sits c) (serve_at o m s).left + tally (λ d. eqb d c) (serve_at o m s).closes ≤ bit (sits c s)
      by None = few-self s
      by (Some q) = few-hand q (sent_as m q false) s

  pub down-one : (m : AppMessage) (t : Turn) → Down t (route_one m t)
  down-one m t =
      let a = flat-few (sits c) (sits c) (λ d. eqb d c) (λ (s : Session). (serve m s).left) (λ (s : Session). (serve m s).closes) (few-serve m) t.broker.sessions in
      let b = tally-append (λ d. eqb d c) t.closes (flat_map (λ (s : Session). (serve m s).closes) t.broker.sessions) in
      record { sum = omega arith; more = omega arith }

  down-some : (n : ℕ) (t : Turn) → Down t (route_some n t)
  unfolding route_some
  down-some zero t = down-self t
  down-some (suc n) t = by t.waiting (λ m ms. down-then t (route_one m (record t { waiting = ms })) _ (down-first m ms) (down-some n (route_one m (record t { waiting = ms }))))
    where
      down-first : (m : AppMessage) (ms : List AppMessage) → Down t (route_one m (record t { waiting = ms }))
      down-first m ms = let d = down-one m (record t { waiting = ms }) in record { sum = d.sum; more = d.more }

      by : (ws : List AppMessage) → ((m : AppMessage) (ms : List AppMessage) → Down t (route_some n (route_one m (record t { waiting = ms }))))
          → Down t (elim ws as (λ _. Turn) [ [] ↦ t | m ∷ ms ↦ route_some n (route_one m (record t { waiting = ms })) ])
      by [] rest = down-self t
      by (m ∷ ms) rest = rest m ms

  pub down-route : (t : Turn) → Down t (route t)
  unfolding route
  down-route t = down-some (length t.waiting + length t.broker.sessions) t

  -- ---- the acts

  none-left : (s : Session) → tally (sits c) (left_behind s) ≡ 0
  none-left s = by s.kept
    where
      by : (b : Bool) → tally (sits c) (cond b ((record s { here = None }) ∷ []) []) ≡ 0
      by true = refl
      by false = refl

  down-leave : (d : ℕ) (wills : Bool) (t : Turn) (o : Option Session) → IsOrdered t.broker → session_by d t.broker.sessions ≡ o → Down t (leave_at o d wills t)
  down-leave d wills t None l is = down-silent t _ refl (let a = tally-filter (is_newcomer c) (λ (g : Newcomer). not (eqb g.conn d)) t.broker.newcomers in omega arith)
  down-leave d wills t (Some s) l is = down-silent t _ refl
      (let a = tally-swap (sits c) s (left_behind s) t.broker.sessions (split (sits d) 0 t.broker.made t.broker.sessions s l.keys is) in let b = none-left s in omega arith)

  -- whoever leaves is gone
  pub gone-leave : (wills : Bool) (t : Turn) (o : Option Session) → IsOrdered t.broker → places c t.broker ≤ 1 → session_by c t.broker.sessions ≡ o → places c (leave_at o c wills t).broker ≡ 0
  gone-leave wills t None l one is = let a = tally-missed (sits c) t.broker.sessions is in let b = tally-out (is_newcomer c) t.broker.newcomers in omega arith
  gone-leave wills t (Some s) l one is =
      let a = tally-swap (sits c) s (left_behind s) t.broker.sessions (split (sits c) 0 t.broker.made t.broker.sessions s l.keys is) in let b = none-left s in
      let e : bit (sits c s) ≡ 1 = ap bit (found-passes (sits c) t.broker.sessions s is) in omega arith

  down-forget : (name : List ℕ) (t : Turn) (o : Option Session) → IsOrdered t.broker → find (is_away name) t.broker.sessions ≡ o → Down t (forget_at o t)
  down-forget name t None l is = down-self t
  down-forget name t (Some s) l is = down-silent t _ refl
      (let a = tally-swap (sits c) s [] t.broker.sessions (split (is_away name) 0 t.broker.made t.broker.sessions s l.keys is) in omega arith)

  -- a newcomer becomes a session's
  moved : (x : Connection) (gs : List Newcomer) (g : Newcomer) → find (is_newcomer x.conn) gs ≡ Some g → tally (is_newcomer c) (other_newcomers x.conn gs) + bit (eqb x.conn c) ≤ tally (is_newcomer c) gs
  moved x gs g is = by (eqb x.conn c) refl
    where
      by : (b : Bool) → eqb x.conn c ≡ b → tally (is_newcomer c) (other_newcomers x.conn gs) + bit b ≤ tally (is_newcomer c) gs
      by true e = subst (λ n. tally (is_newcomer n) (other_newcomers x.conn gs) + 1 ≤ tally (is_newcomer n) gs) (eqb-is x.conn c e)
          (let a = tally-out (is_newcomer x.conn) gs in let b = tally-found (is_newcomer x.conn) gs g is in omega arith)
      by false e = let a = tally-filter (is_newcomer c) (λ (y : Newcomer). not (eqb y.conn x.conn)) gs in omega arith

  down-up : (name : List ℕ) (keeps : Bool) (x : Connection) (g : Newcomer) (t : Turn) (o : Option Session) → IsOrdered t.broker → find (is_newcomer x.conn) t.broker.newcomers ≡ Some g
      → away_for keeps name t.broker.sessions ≡ o → Down t (take_up o name keeps x t)
  down-up name keeps x g t None l there is = down-silent t _ refl
      (let a = moved x t.broker.newcomers g there in let b = tally-append (sits c) t.broker.sessions (new_session (t.broker.made + 1) name keeps x ∷ []) in
      let e = tally-cons (sits c) (new_session (t.broker.made + 1) name keeps x) [] in omega arith)
  down-up name keeps x g t (Some s) l there is = down-silent t _ refl
      (let a = moved x t.broker.newcomers g there in
      let found : find (is_away name) t.broker.sessions ≡ Some s = found-away keeps name t.broker.sessions s is in
      let b = tally-swap (sits c) s ((record s { here = Some x; in_flight = map handed_out s.in_flight }) ∷ []) t.broker.sessions (split (is_away name) 0 t.broker.made t.broker.sessions s l.keys found) in
      let e = tally-cons (sits c) (record s { here = Some x; in_flight = map handed_out s.in_flight }) [] in omega arith)

  newcomer-is : (d : ℕ) (gs : List Newcomer) (g : Newcomer) → find (is_newcomer d) gs ≡ Some g → find (is_newcomer g.conn) gs ≡ Some g
  newcomer-is d gs g is = ap (λ n. find (is_newcomer n) gs) (eqb-is g.conn d (found-passes (is_newcomer d) gs g is)) ∙ is

  down-accept : (d : ℕ) (name : List ℕ) (keeps : Bool) (alive : ℕ) (will : Option AppMessage) (t : Turn) (o : Option Newcomer) → IsOrdered t.broker → find (is_newcomer d) t.broker.newcomers ≡ o
      → Down t (accept_of o name keeps alive will t)
  down-accept d name keeps alive will t None l is = down-self t
  down-accept d name keeps alive will t (Some g) l is =
      down-up name keeps (connection_of g alive will) g t (away_for keeps name t.broker.sessions) l (newcomer-is d t.broker.newcomers g is) refl

  pub down-offer_at : (key : ℕ) (app_message : AppMessage) (t : Turn) (o : Option Session) → IsOrdered t.broker → with_key key t.broker.sessions ≡ o → Down t (offer_at o key app_message t)
  down-offer_at key app_message t None l is = down-self t
  down-offer_at key app_message t (Some s) l is = subst (λ k. Down t (offer_at (Some s) k app_message t)) same
      (let a = tally-swap (sits c) s (hand app_message s).left t.broker.sessions (split (λ (x : Session). eqb x.key key) 0 t.broker.made t.broker.sessions s l.keys is) in
      let b = tally-append (λ d. eqb d c) t.closes (hand app_message s).closes in let e = few-hand app_message.qos app_message s in
      record { sum = omega arith; more = omega arith })
    where
      same : s.key ≡ key
      same = eqb-is s.key key (found-passes (λ (x : Session). eqb x.key key) t.broker.sessions s is)

  down-offers : (key : ℕ) (app_messages : List AppMessage) (t : Turn) → IsOrdered t.broker → Down t (fold (offer key) t app_messages)
  down-offers key [] t l = down-self t
  down-offers key (p ∷ ps) t l = down-then t (offer key t p) _ (down-offer_at key p t (with_key key t.broker.sessions) l refl)
      (down-offers key ps (offer key t p) (ordered-offer_at key p t (with_key key t.broker.sessions) l refl))

  -- a session that is found keeps its connection
  pub same-found : (d : ℕ) (s new : Session) (b : Broker) → new.here ≡ s.here → IsOrdered b → session_by d b.sessions ≡ Some s → tally (sits c) (swap s.key (new ∷ []) b.sessions) ≡ tally (sits c) b.sessions
  same-found d s new b here l is =
      let a = tally-swap (sits c) s (new ∷ []) b.sessions (split (sits d) 0 b.made b.sessions s l.keys is) in
      let e = tally-cons (sits c) new [] in
      let f : bit (sits c new) ≡ bit (sits c s) = ap (λ o. bit (option_map_or (λ (x : Connection). eqb x.conn c) o false)) here in omega arith

  down-give : (d id : ℕ) (entries : List (List ℕ × ℕ)) (t : Turn) (o : Option Session) → IsOrdered t.broker → session_by d t.broker.sessions ≡ o → Down t (give_at o d id entries t)
  down-give d id entries t None l is = down-self t
  down-give d id entries t (Some s) l is =
      down-then t u _ (down-silent t u refl (let a = same-found d s (record s { grants = fold (with_entry (other_grants s t.broker.sessions)) s.grants entries }) t.broker refl l is in omega arith))
      (down-offers s.key (flat_map (offers_to t.broker.retained) (granted_of (other_grants s t.broker.sessions) s.grants entries)) u (ordered-found d t s _ refl refl l is))
    where
      u : Turn
      u = record t {
        broker = record t.broker { sessions = swap s.key ((record s { grants = fold (with_entry (other_grants s t.broker.sessions)) s.grants entries }) ∷ []) t.broker.sessions };
        sends = t.sends ++ (record { conn = d; packet = SubAck id (codes_of (other_grants s t.broker.sessions) s.grants entries) }) ∷ [];
      }

  down-take : (d : ℕ) (filters : List (List ℕ)) (t : Turn) (o : Option Session) → IsOrdered t.broker → session_by d t.broker.sessions ≡ o → Down t (take_at o filters t)
  down-take d filters t None l is = down-self t
  down-take d filters t (Some s) l is = down-silent t _ refl (let a = same-found d s (record s { grants = fold (λ g f. remove f g) s.grants filters }) t.broker refl l is in omega arith)

  down-ack : (d id : ℕ) (t : Turn) (o : Option Session) → IsOrdered t.broker → session_by d t.broker.sessions ≡ o → Down t (ack_at o id t)
  down-ack d id t None l is = down-self t
  down-ack d id t (Some s) l is = down-silent t _ refl (let a = same-found d s (record s { used = without id s.used; in_flight = without_id id s.in_flight }) t.broker refl l is in omega arith)

  -- neither opens a connection nor tells of this one
  abbrev pub IsMute : Act → Type 0
  IsMute Opens = ⊥
  IsMute (At moment) = Unit {0}
  IsMute (Hear d) = Unit {0}
  IsMute (Drop d) = Unit {0}
  IsMute (Say d p) = Unit {0}
  IsMute (Leave d wills) = Unit {0}
  IsMute (Tell d) = eqb d c ≡ false
  IsMute (Queue app_message) = Unit {0}
  IsMute Route = Unit {0}
  IsMute (Forget name) = Unit {0}
  IsMute (Accept d name keeps alive will) = Unit {0}
  IsMute (Give d id entries) = Unit {0}
  IsMute (Take d filters) = Unit {0}
  IsMute (Ack d id) = Unit {0}

  down-connections : (on_newcomer : Newcomer → Newcomer) (change : Connection → Connection) → ((g : Newcomer) → (on_newcomer g).conn ≡ g.conn) → ((l : Connection) → (change l).conn ≡ l.conn) → (t : Turn)
      → Down t (on_connections on_newcomer change t)
  down-connections on_newcomer change newcomer connection t = down-silent t _ refl
      (let a = tally-map on_newcomer (is_newcomer c) (λ g. ap (λ n. eqb n c) (newcomer g)) t.broker.newcomers in
      let b = tally-map (λ (s : Session). record s { here = option_map change s.here }) (sits c) (λ s. by s.here) t.broker.sessions in omega arith)
    where
      by : (o : Option Connection) → option_map_or (λ (l : Connection). eqb l.conn c) (option_map change o) false ≡ option_map_or (λ (l : Connection). eqb l.conn c) o false
      by None = refl
      by (Some l) = ap (λ n. eqb n c) (connection l)

  down-tell : (d : ℕ) (t : Turn) → eqb d c ≡ false → Down t (act (Tell d) t)
  down-tell d t other =
      let a = tally-append (λ x. eqb x c) t.closes (d ∷ []) in let b = tally-cons (λ x. eqb x c) d [] in let e = ap bit other in
      record { sum = omega arith; more = omega arith }

  pub down-act : (a : Act) (t : Turn) → IsMute a → IsOrdered t.broker → Down t (act a t)
  down-act Opens t mute l = absurd mute
  down-act (At moment) t mute l = down-silent t _ refl (omega arith)
  down-act (Hear d) t mute l = down-connections (newcomer_heard d t.broker.clock) (connection_heard d t.broker.clock) (heard-conn d t.broker.clock) (heard-connection d t.broker.clock) t
  down-act (Drop d) t mute l = down-connections (newcomer_dropped d) (connection_dropped d) (dropped-conn d) (dropped-connection d) t
  down-act (Say d p) t mute l = down-silent t _ refl (omega arith)
  down-act (Leave d wills) t mute l = down-leave d wills t (session_by d t.broker.sessions) l refl
  down-act (Tell d) t mute l = down-tell d t mute
  down-act (Queue app_message) t mute l = down-silent t _ refl (omega arith)
  down-act Route t mute l = down-route t
  down-act (Forget name) t mute l = down-forget name t (find (is_away name) t.broker.sessions) l refl
  down-act (Accept d name keeps alive will) t mute l = down-accept d name keeps alive will t (find (is_newcomer d) t.broker.newcomers) l refl
  down-act (Give d id entries) t mute l = down-give d id entries t (session_by d t.broker.sessions) l refl
  down-act (Take d filters) t mute l = down-take d filters t (session_by d t.broker.sessions) l refl
  down-act (Ack d id) t mute l = down-ack d id t (session_by d t.broker.sessions) l refl

  pub down-acts : (as_list : List Act) (t : Turn) → AllByRecursion IsMute as_list → IsOrdered t.broker → Down t (acts as_list t)
  down-acts [] t mute l = down-self t
  down-acts (a ∷ as_list) t mute l = down-then t (act a t) _ (down-act a t mute.0 l) (down-acts as_list (act a t) mute.1 (ordered-act a t l))

-- ---- fresh numbers

above-none : (n : ℕ) (o : Option Connection) (c : ℕ) → n < c → IsLow n o → option_map_or (λ (l : Connection). eqb l.conn c) o false ≡ false
above-none n None c h low = refl
above-none n (Some l) c h low = below-other l.conn c (let e : l.conn ≤ n = low in omega arith)

-- a number that wasn't given yet stands nowhere
pub none-above : (c : ℕ) (b : Broker) → IsOrdered b → b.given < c → places c b ≡ 0
none-above c b l h =
    let a = tally-none (is_newcomer c) b.newcomers (all-also (λ (g : Newcomer). g.conn ≤ b.given) (λ (g : Newcomer). eqb g.conn c ≡ false) (λ g e. below-other g.conn c (omega arith)) b.newcomers l.newcomers) in
    let d = tally-none (sits c) b.sessions (all-also (λ (s : Session). IsLow b.given s.here) (λ (s : Session). sits c s ≡ false) (λ s e. above-none b.given s.here c h e) b.sessions l.connections) in omega arith

pub places-opens : (c : ℕ) (t : Turn) → places c (opens t).broker ≡ places c t.broker + bit (eqb (t.broker.given + 1) c)
places-opens c t =
    let a = tally-append (is_newcomer c) t.broker.newcomers ((record { conn = t.broker.given + 1; heard = t.broker.clock; drops = 0 }) ∷ []) in
    let b = tally-cons (is_newcomer c) (record { conn = t.broker.given + 1; heard = t.broker.clock; drops = 0 }) [] in omega arith

apart-opens : (c : ℕ) (t : Turn) → IsOrdered t.broker → places c t.broker ≤ 1 → places c (opens t).broker ≤ 1
apart-opens c t l one = by (eqb (t.broker.given + 1) c) refl
  where
    by : (b : Bool) → eqb (t.broker.given + 1) c ≡ b → places c (opens t).broker ≤ 1
    by true e = let same : t.broker.given + 1 ≡ c = eqb-is (t.broker.given + 1) c e in let a = none-above c t.broker l (omega arith) in
        let p = places-opens c t in let f = ap bit e in omega arith
    by false e = let p = places-opens c t in let f = ap bit e in omega arith

-- ---- lawful

pub ordered : (b : Broker) → IsLawful b → IsOrdered b
ordered b l = record { newcomers = l.newcomers; connections = l.connections; keys = l.keys }

abbrev Made : Broker → Type 0
Made b = b.made + length b.newcomers ≤ b.given

with-order : (b : Broker) → IsOrdered b → ((c : ℕ) → places c b ≤ 1) → Made b → IsLawful b
with-order b o apart made = record { newcomers = o.newcomers; connections = o.connections; keys = o.keys; apart = apart; made = made }

pub first-lawful : (limit : ℕ) → IsLawful (fresh_broker limit)
first-lawful limit = record { newcomers = tt; connections = tt; keys = omega arith; apart = λ c. omega arith; made = omega arith }

few-others : (d : ℕ) (gs : List Newcomer) → length (other_newcomers d gs) ≤ length gs
few-others d gs = let a = tally-others (is_newcomer d) gs in omega arith

made-accept : (d : ℕ) (name : List ℕ) (keeps : Bool) (alive : ℕ) (will : Option AppMessage) (t : Turn) (o : Option Newcomer) → find (is_newcomer d) t.broker.newcomers ≡ o → Made t.broker
    → Made (accept_of o name keeps alive will t).broker
made-accept d name keeps alive will t None is m = m
made-accept d name keeps alive will t (Some g) is m = by (away_for keeps name t.broker.sessions)
  where
    fewer : length (other_newcomers g.conn t.broker.newcomers) + 1 ≤ length t.broker.newcomers
    fewer =
        let a = tally-others (is_newcomer g.conn) t.broker.newcomers in
        let b = tally-found (is_newcomer g.conn) t.broker.newcomers g (ap (λ n. find (is_newcomer n) t.broker.newcomers) (eqb-is g.conn d (found-passes (is_newcomer d) t.broker.newcomers g is)) ∙ is) in omega arith

    by : (o : Option Session) → Made (take_up o name keeps (connection_of g alive will) t).broker
    by None = let a = fewer in omega arith
    by (Some s) = let a = fewer in omega arith

made-some : (n : ℕ) (t : Turn) → Made t.broker → Made (route_some n t).broker
unfolding route_some
made-some zero t m = m
made-some (suc n) t m = by t.waiting (λ p ps. made-some n (route_one p (record t { waiting = ps })) m)
  where
    by : (ws : List AppMessage) → ((p : AppMessage) (ps : List AppMessage) → Made (route_some n (route_one p (record t { waiting = ps }))).broker)
        → Made (elim ws as (λ _. Turn) [ [] ↦ t | p ∷ ps ↦ route_some n (route_one p (record t { waiting = ps })) ]).broker
    by [] rest = m
    by (p ∷ ps) rest = rest p ps

made-route : (t : Turn) → Made t.broker → Made (route t).broker
unfolding route
made-route t m = made-some (length t.waiting + length t.broker.sessions) t m

made-offers : (key : ℕ) (app_messages : List AppMessage) (t : Turn) → Made t.broker → Made (fold (offer key) t app_messages).broker
made-offers key [] t m = m
made-offers key (p ∷ ps) t m = made-offers key ps (offer key t p) (by (with_key key t.broker.sessions))
  where
    by : (o : Option Session) → Made (offer_at o key p t).broker
    by None = m
    by (Some s) = m

pub length-map : {X Y : Type 0} (f : X → Y) (xs : List X) → length (map f xs) ≡ length xs
length-map f [] = refl
length-map f (x ∷ xs) = ap suc (length-map f xs)

made-act : (a : Act) (t : Turn) → Made t.broker → Made (act a t).broker
made-act Opens t m = let a = length-append t.broker.newcomers ((record { conn = t.broker.given + 1; heard = t.broker.clock; drops = 0 }) ∷ []) in omega arith
made-act (At moment) t m = m
made-act (Hear d) t m = let a = length-map (newcomer_heard d t.broker.clock) t.broker.newcomers in omega arith
made-act (Drop d) t m = let a = length-map (newcomer_dropped d) t.broker.newcomers in omega arith
made-act (Say d p) t m = m
made-act (Leave d wills) t m = by (session_by d t.broker.sessions)
  where
    by : (o : Option Session) → Made (leave_at o d wills t).broker
    by None = let a = few-others d t.broker.newcomers in omega arith
    by (Some s) = m
made-act (Tell d) t m = m
made-act (Queue app_message) t m = m
made-act Route t m = made-route t m
made-act (Forget name) t m = by (find (is_away name) t.broker.sessions)
  where
    by : (o : Option Session) → Made (forget_at o t).broker
    by None = m
    by (Some s) = m
made-act (Accept d name keeps alive will) t m = made-accept d name keeps alive will t (find (is_newcomer d) t.broker.newcomers) refl m
made-act (Give d id entries) t m = by (session_by d t.broker.sessions)
  where
    by : (o : Option Session) → Made (give_at o d id entries t).broker
    by None = m
    by (Some s) = made-offers s.key (flat_map (offers_to t.broker.retained) (granted_of (other_grants s t.broker.sessions) s.grants entries)) _ m
made-act (Take d filters) t m = by (session_by d t.broker.sessions)
  where
    by : (o : Option Session) → Made (take_at o filters t).broker
    by None = m
    by (Some s) = m
made-act (Ack d id) t m = by (session_by d t.broker.sessions)
  where
    by : (o : Option Session) → Made (ack_at o id t).broker
    by None = m
    by (Some s) = m

apart-act : (c : ℕ) (a : Act) (t : Turn) → IsOrdered t.broker → places c t.broker ≤ 1 → places c (act a t).broker ≤ 1
apart-act c Opens t l one = apart-opens c t l one
apart-act c (At moment) t l one = one
apart-act c (Hear d) t l one = let a = down-less c t _ (down-act c (Hear d) t tt l) in omega arith
apart-act c (Drop d) t l one = let a = down-less c t _ (down-act c (Drop d) t tt l) in omega arith
apart-act c (Say d p) t l one = one
apart-act c (Leave d wills) t l one = let a = down-less c t _ (down-act c (Leave d wills) t tt l) in omega arith
apart-act c (Tell d) t l one = one
apart-act c (Queue app_message) t l one = one
apart-act c Route t l one = let a = down-less c t _ (down-act c Route t tt l) in omega arith
apart-act c (Forget name) t l one = let a = down-less c t _ (down-act c (Forget name) t tt l) in omega arith
apart-act c (Accept d name keeps alive will) t l one = let a = down-less c t _ (down-act c (Accept d name keeps alive will) t tt l) in omega arith
apart-act c (Give d id entries) t l one = let a = down-less c t _ (down-act c (Give d id entries) t tt l) in omega arith
apart-act c (Take d filters) t l one = let a = down-less c t _ (down-act c (Take d filters) t tt l) in omega arith
apart-act c (Ack d id) t l one = let a = down-less c t _ (down-act c (Ack d id) t tt l) in omega arith

pub lawful-act : (a : Act) (t : Turn) → IsLawful t.broker → IsLawful (act a t).broker
lawful-act a t l = with-order (act a t).broker (ordered-act a t (ordered t.broker l)) (λ c. apart-act c a t (ordered t.broker l) (l.apart c)) (made-act a t l.made)

pub lawful-acts : (as_list : List Act) (t : Turn) → IsLawful t.broker → IsLawful (acts as_list t).broker
lawful-acts [] t l = l
lawful-acts (a ∷ as_list) t l = lawful-acts as_list (act a t) (lawful-act a t l)

pub lawful-one : (m : AppMessage) (t : Turn) → IsLawful t.broker → IsLawful (route_one m t).broker
lawful-one m t l = with-order (route_one m t).broker (ordered-one m t (ordered t.broker l)) (λ c. let a = down-less c t _ (down-one c m t) in let b = l.apart c in omega arith) l.made

pub lawful-offer_at : (s : ℕ) (app_message : AppMessage) (t : Turn) (o : Option Session) → IsLawful t.broker → with_key s t.broker.sessions ≡ o → IsLawful (offer_at o s app_message t).broker
lawful-offer_at s app_message t o l is = with-order (offer_at o s app_message t).broker (ordered-offer_at s app_message t o (ordered t.broker l) is)
    (λ c. let a = down-less c t _ (down-offer_at c s app_message t o (ordered t.broker l) is) in let b = l.apart c in omega arith) (by o)
  where
    by : (k : Option Session) → Made (offer_at k s app_message t).broker
    by None = l.made
    by (Some x) = l.made

pub lawful-found : (c : ℕ) (t : Turn) (s new : Session) → new.key ≡ s.key → new.here ≡ s.here → IsLawful t.broker → session_by c t.broker.sessions ≡ Some s
    → IsLawful (record t.broker { sessions = swap s.key (new ∷ []) t.broker.sessions })
lawful-found c t s new key here l is = with-order _ (ordered-found c t s new key here (ordered t.broker l) is)
    (λ d. let a = same-found d c s new t.broker here (ordered t.broker l) is in let b = l.apart d in omega arith) l.made
