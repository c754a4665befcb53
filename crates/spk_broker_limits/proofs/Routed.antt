-- What is routed: the message of each PUBLISH that is taken, and the will of each connection that ends otherwise than by its DISCONNECT.
use Rattle.std.proofs.Common.{◌≡◌, inl, inr, ℕ, zero, suc, ◌+◌, ◌≤◌, ◌==◌, Bool, true, false, not, ◌&&◌, ◌||◌, cond, List, [], ◌∷◌, ◌++◌, map, length, refl, sym, ap, ◌∙◌, subst, arith, Option, Some, None}
use Rattle.std.specs.List.{filter, list_any}
use Rattle.std.specs.Option.{is_some}
use Rattle.std.proofs.lemmas.Bool.Decides.{eqb_tells}
use Rattle.std.proofs.lemmas.List.{map-append}
use Rattle.spk_packets.specs.Fault.{first_of}
use Rattle.spk_packets.specs.Message.{Message, Disconnect}
use Rattle.spk_packets.specs.Spelling.{unwritable}
use Rattle.spk_broker_rules.specs.Data.{AppMessage, Broker}
use Rattle.spk_broker_rules.specs.Words.{option_list}
use Rattle.spk_broker_rules.specs.Lawful.{IsLawful}
use Rattle.spk_broker_rules.specs.Plan.{Event, Open, Packet, Fault, Closed, Tick, Refused}
use Rattle.spk_broker_rules.specs.Past.{Past, Joining, deeds, sessions, here, routed, session_at, session_of, broker_of}
use Rattle.spk_broker_rules.specs.Listening.{is_disconnect, is_joined, lets_go}
use Rattle.spk_broker_rules.specs.Step.{is_newcomer, sits, session_by, after, step, knows}
use Rattle.spk_broker_rules.specs.Telling.{Telling, Leads, may_be}
use Rattle.spk_broker_limits.specs.Wills.{count, messages, message_of, disconnects, is_lost, wills_where, lost, all_lost, taken, all_taken}
use Rattle.spk_broker_limits.proofs.Summing.{Told, same, none_some, yes_no, bit, times, Pair, total, named, has, pair_at, Apart, total_same, total_both, total_none, total_append, named_append, only, none_has, also_in, within}
use Rattle.spk_broker_limits.proofs.Facts.{count_append, worth, standing, Tidy}
use Rattle.spk_broker_limits.proofs.Runs.{Old, Sits, gives_up, brought, discards, runs}
use Rattle.spk_broker_limits.proofs.Pairs.{pair_of, pairs, weight, standing_is, has_session, member, all_found, alone, has_found, named_sessions, holds_session, where_, wills_are}

-- ---- lists

find_front : (c : ℕ) (xs ys : List Pair) (y : Pair) → pair_at c xs ≡ Some y → pair_at c (xs ++ ys) ≡ Some y
find_front c [] ys y e = none_some y e
find_front c (x ∷ xs) ys y e = by (x.0 == c) e (find_front c xs ys y)
  where
    by : (b : Bool) → cond b (Some x) (pair_at c xs) ≡ Some y → (pair_at c xs ≡ Some y → pair_at c (xs ++ ys) ≡ Some y) → cond b (Some x) (pair_at c (xs ++ ys)) ≡ Some y
    by true f rest = f
    by false f rest = rest f

find_back : (c : ℕ) (xs ys : List Pair) → has c xs ≡ false → pair_at c (xs ++ ys) ≡ pair_at c ys
find_back c [] ys e = refl
find_back c (x ∷ xs) ys e = by (x.0 == c) e (find_back c xs ys)
  where
    by : (b : Bool) → (b || has c xs) ≡ false → (has c xs ≡ false → pair_at c (xs ++ ys) ≡ pair_at c ys) → cond b (Some x) (pair_at c (xs ++ ys)) ≡ pair_at c ys
    by true f rest = yes_no f
    by false f rest = rest f

-- ---- one event, from past to past

-- where the connections that sit are those that sat, the new one, or gone
pub record Sum (q : AppMessage → Bool) (h g : Past) (fresh : Option Joining) : Type 0 where
  pub stay : standing q g ≡ total (also_in (weight q) (pairs g)) (pairs h) + worth q fresh

sums : (q : AppMessage → Bool) (h g : Past) (fresh : Option Joining) → Tidy h → Apart (pairs h) → Apart (pairs g) → ((s : ℕ) (j : Joining) → here (deeds g s) ≡ Some j → Old h fresh s j)
    → ((j : Joining) → fresh ≡ Some j → (is_some (session_at h j.conn) ≡ false) × Sits g j) → Sum q h g fresh
sums q h g fresh tidy a b old new =
    let xs : List Pair = pairs h ++ pair_of fresh in
    let is : standing q g ≡ total (weight q) (pairs g) = standing_is q g (sessions g) in
    let in_ : total (weight q) (pairs g) ≡ total (also_in (weight q) (pairs g)) (pairs h ++ pair_of fresh) =
    within (weight q) (pairs h ++ pair_of fresh) (pairs g) (apart fresh new) b (all_found g (pairs h ++ pair_of fresh) found (sessions g)) in
    let both : total (also_in (weight q) (pairs g)) (pairs h ++ pair_of fresh) ≡ total (also_in (weight q) (pairs g)) (pairs h) + total (also_in (weight q) (pairs g)) (pair_of fresh) =
    total_append (also_in (weight q) (pairs g)) (pairs h) (pair_of fresh) in
    let one : total (also_in (weight q) (pairs g)) (pair_of fresh) ≡ worth q fresh = last fresh new in
    record { stay = omega arith }
  where
    unseen : (j : Joining) → fresh ≡ Some j → has j.conn (pairs h) ≡ false
    unseen j e = has_session h j.conn (sessions h) ∙ (new j e).0

    apart : (f : Option Joining) → ((j : Joining) → f ≡ Some j → (is_some (session_at h j.conn) ≡ false) × Sits g j) → Apart (pairs h ++ pair_of f)
    apart None n c = let both = named_append c (pairs h) [] in let most = a c in omega arith
    apart (Some j) n c = at (eqb_tells j.conn c)
      where
        at : Told j.conn c → named c (pairs h ++ (j.conn, j.will) ∷ []) ≤ 1
        at (inl f) =
            let both : named c (pairs h ++ (j.conn, j.will) ∷ []) ≡ named c (pairs h) + (bit (j.conn == c) + 0) = named_append c (pairs h) ((j.conn, j.will) ∷ []) in
            let none : named c (pairs h) ≡ 0 = none_has c (pairs h) (ap (λ d. has d (pairs h)) (sym f.1) ∙ has_session h j.conn (sessions h) ∙ (n j refl).0) in
            let one : bit (j.conn == c) ≡ 1 = ap bit f.0 in
            omega arith
        at (inr f) =
            let both : named c (pairs h ++ (j.conn, j.will) ∷ []) ≡ named c (pairs h) + (bit (j.conn == c) + 0) = named_append c (pairs h) ((j.conn, j.will) ∷ []) in
            let none : bit (j.conn == c) ≡ 0 = ap bit f.0 in
            let most = a c in
            omega arith

    there : (s : ℕ) (j : Joining) → here (deeds h s) ≡ Some j → 1 ≤ times s (sessions h)
    there s j e = at (times s (sessions h)) refl
      where
        at : (n : ℕ) → times s (sessions h) ≡ n → 1 ≤ n
        at zero f = none_some j (sym (tidy.gone s f) ∙ e)
        at (suc n) f = omega arith

    found : (s : ℕ) (j : Joining) → here (deeds g s) ≡ Some j → pair_at j.conn (pairs h ++ pair_of fresh) ≡ Some (j.conn, j.will)
    found s j e = at (old s j e)
      where
        at : Old h fresh s j → pair_at j.conn (pairs h ++ pair_of fresh) ≡ Some (j.conn, j.will)
        at (inl f) = find_front j.conn (pairs h) (pair_of fresh) (j.conn, j.will) (member h s j (sessions h) f (there s j f) a)
        at (inr f) =
            find_back j.conn (pairs h) (pair_of fresh) (unseen j f) ∙ ap (λ o. pair_at j.conn (pair_of o)) f
            ∙ ap (λ b. cond b (Some (j.conn, j.will)) None) (same j.conn)

    last : (f : Option Joining) → ((j : Joining) → f ≡ Some j → (is_some (session_at h j.conn) ≡ false) × Sits g j) → total (also_in (weight q) (pairs g)) (pair_of f) ≡ worth q f
    last None n = refl
    last (Some j) n =
        let s : Sits g j = (n j refl).1 in
        let some : 1 ≤ times s.session (sessions g) = (let one = s.there in omega arith) in
        let yes : has j.conn (pairs g) ≡ true = has_found j.conn (pairs g) (j.conn, j.will) (member g s.session j (sessions g) s.sits some b) in
        let is : cond (has j.conn (pairs g)) (count q (option_list j.will)) 0 ≡ count q (option_list j.will) = ap (λ k. cond k (count q (option_list j.will)) 0) yes in
        omega arith

-- what a DISCONNECT discards
given_up : (q : AppMessage → Bool) (h : Past) (conn : ℕ) (p : Message) → Apart (pairs h) → total (where_ q (λ c. (conn == c) && is_disconnect p)) (pairs h) ≡ gives_up q h conn p
given_up q h conn Disconnect a =
    total_same (where_ q (λ c. (conn == c) && true)) (only (weight q) conn) (λ x. by x (eqb_tells x.0 conn)) (pairs h) ∙ alone q h conn a
  where
    yes : (x : Pair) (b d : Bool) → b ≡ d → cond (b && true) (weight q x) 0 ≡ cond d (weight q x) 0
    yes x true d e = ap (λ k. cond k (weight q x) 0) e
    yes x false d e = ap (λ k. cond k (weight q x) 0) e

    flip : (a b : ℕ) → Told a b → Told b a → (b == a) ≡ (a == b)
    flip a b (inl f) (inl g) = g.0 ∙ sym f.0
    flip a b (inl f) (inr g) = absurd (g.1 (sym f.1))
    flip a b (inr f) (inl g) = absurd (f.1 (sym g.1))
    flip a b (inr f) (inr g) = g.0 ∙ sym f.0

    by : (x : Pair) → Told x.0 conn → cond ((conn == x.0) && true) (weight q x) 0 ≡ cond (x.0 == conn) (weight q x) 0
    by x t = yes x (conn == x.0) (x.0 == conn) (flip x.0 conn t (eqb_tells conn x.0))
given_up q h conn _ a = total_none (where_ q (λ c. (conn == c) && false)) (λ x. by x (conn == x.0)) (pairs h)
  where
    by : (x : Pair) (b : Bool) → cond (b && false) (weight q x) 0 ≡ 0
    by x true = refl
    by x false = refl

none_up : (q : AppMessage → Bool) (h : Past) → total (where_ q (λ c. false)) (pairs h) ≡ 0
none_up q h = total_none (where_ q (λ c. false)) (λ x. refl) (pairs h)

discarded : (q : AppMessage → Bool) (h : Past) (e : Event) → Apart (pairs h) → total (where_ q (λ c. disconnects c e)) (pairs h) ≡ discards q h e
discarded q h (Open moment) a = none_up q h
discarded q h (Packet conn p moment) a = given_up q h conn p a
discarded q h (Fault conn f moment) a = none_up q h
discarded q h (Closed conn moment) a = none_up q h
discarded q h (Tick moment) a = none_up q h
discarded q h (Refused conn s moment) a = none_up q h

-- a connection stays, or its DISCONNECT came, or its will is lost
shares : (q : AppMessage → Bool) (h g : Past) (e : Event) → ((c : ℕ) → disconnects c e ≡ true → has c (pairs g) ≡ false)
    → total (weight q) (pairs h) ≡ total (also_in (weight q) (pairs g)) (pairs h) + (total (where_ q (λ c. not (has c (pairs g)) && not (disconnects c e))) (pairs h) + total (where_ q (λ c. disconnects c e)) (pairs h))
shares q h g e ended =
    let first : total (weight q) (pairs h) ≡ total (also_in (weight q) (pairs g)) (pairs h) + total (where_ q (λ c. not (has c (pairs g)))) (pairs h) =
    total_both (weight q) (also_in (weight q) (pairs g)) (where_ q (λ c. not (has c (pairs g)))) (λ x. one x (has x.0 (pairs g))) (pairs h) in
    let second : total (where_ q (λ c. not (has c (pairs g)))) (pairs h) ≡ total (where_ q (λ c. not (has c (pairs g)) && not (disconnects c e))) (pairs h) + total (where_ q (λ c. disconnects c e)) (pairs h) =
    total_both (where_ q (λ c. not (has c (pairs g)))) (where_ q (λ c. not (has c (pairs g)) && not (disconnects c e))) (where_ q (λ c. disconnects c e))
    (λ x. two x (has x.0 (pairs g)) (disconnects x.0 e) (ended x.0)) (pairs h) in
    omega arith
  where
    one : (x : Pair) (b : Bool) → weight q x ≡ cond b (weight q x) 0 + cond (not b) (weight q x) 0
    one x true = omega arith
    one x false = omega arith

    two : (x : Pair) (b d : Bool) → (d ≡ true → b ≡ false) → cond (not b) (weight q x) 0 ≡ cond (not b && not d) (weight q x) 0 + cond d (weight q x) 0
    two x true true f = yes_no (f refl)
    two x true false f = omega arith
    two x false true f = omega arith
    two x false false f = omega arith

past_event : (q : AppMessage → Bool) (h g : Past) (e : Event) (b : List AppMessage) → Tidy h → Apart (pairs h) → Apart (pairs g) → ((c : ℕ) → disconnects c e ≡ true → has c (pairs g) ≡ false)
    → (fresh : Option Joining) → ((s : ℕ) (j : Joining) → here (deeds g s) ≡ Some j → Old h fresh s j) → ((j : Joining) → fresh ≡ Some j → (is_some (session_at h j.conn) ≡ false) × Sits g j)
    → count q (routed g) + (standing q g + discards q h e) ≡ count q (routed h) + (standing q h + (count q b + worth q fresh))
    → count q (routed g) ≡ count q (routed h) + (count q b + total (where_ q (λ c. not (has c (pairs g)) && not (disconnects c e))) (pairs h))
past_event q h g e b tidy ah ag ended fresh old new ledger =
    let s = (sums q h g fresh tidy ah ag old new).stay in
    let parts = shares q h g e ended in
    let up = discarded q h e ah in
    let is : standing q h ≡ total (weight q) (pairs h) = standing_is q h (sessions h) in
    omega arith

-- ---- the laws that the data keep

pub record Known (limit : ℕ) : Type 0 where
  pub asked : (es : List Event) (h : Past) → Leads limit es h → after limit es ≡ broker_of limit h
  pub lawful : (es : List Event) → IsLawful (after limit es)
  pub ended : (b : Broker) (conn : ℕ) (e : Event) → IsLawful b → lets_go conn e ≡ true → knows (step b e).broker conn ≡ false

pub apart_pairs : (limit : ℕ) → Known limit → (es : List Event) (h : Past) → Leads limit es h → Apart (pairs h)
apart_pairs limit k es h l c =
    let is = named_sessions h c (sessions h) in
    let most = (subst IsLawful (k.asked es h l) (k.lawful es)).apart c in
    let m : length (filter (is_newcomer c) (broker_of limit h).newcomers) + length (filter (sits c) (broker_of limit h).sessions) ≤ 1 = most in
    omega arith

pub tidy_after : (limit : ℕ) (es : List Event) (h : Past) → Leads limit es h → Tidy h
tidy_after limit [] h l = subst Tidy (sym l) (record { once = λ s. omega arith; fresh = λ s m. refl; gone = λ s e. refl })
tidy_after limit (e ∷ es) h (g, l, m, t, is) = subst Tidy is (runs limit (λ q. true) g e t (tidy_after limit es g l)).tidy

pub joined_is : (limit : ℕ) (b : Broker) (h : Past) (c : ℕ) → b ≡ broker_of limit h → is_joined b c ≡ has c (pairs h)
joined_is limit b h c e = ap (λ (x : Broker). is_joined x c) e ∙ sym (holds_session h c (sessions h))

disconnected : (e : Event) (c : ℕ) → disconnects c e ≡ true → lets_go c e ≡ true
disconnected (Open moment) c f = f
disconnected (Packet conn p moment) c f = f
disconnected (Fault conn k moment) c f = f
disconnected (Closed conn moment) c f = yes_no (sym f)
disconnected (Tick moment) c f = f
disconnected (Refused conn s moment) c f = f

pub unknown : (b : Broker) (c : ℕ) → knows b c ≡ false → is_joined b c ≡ false
unknown b c e = last (list_any (is_newcomer c) b.newcomers) (is_some (session_by c b.sessions)) e
  where
    last : (x y : Bool) → (x || y) ≡ false → y ≡ false
    last true y f = yes_no f
    last false y f = f

taken_is : (limit : ℕ) (b : Broker) (h : Past) (e : Event) → b ≡ broker_of limit h → taken b e ≡ brought h e
taken_is limit b h (Open moment) is = refl
taken_is limit b h (Packet conn p moment) is =
    ap (λ j. cond (is_some (first_of (unwritable p))) [] (cond j (message_of p) [])) (joined_is limit b h conn is ∙ has_session h conn (sessions h))
taken_is limit b h (Fault conn f moment) is = refl
taken_is limit b h (Closed conn moment) is = refl
taken_is limit b h (Tick moment) is = refl
taken_is limit b h (Refused conn s moment) is = refl

-- ---- an event, and a list of them

pub at_once : (limit : ℕ) → Known limit → (es : List Event) (h : Past) (e : Event) → Leads limit es h → may_be h e ≡ true → (t : Telling limit h e) (q : AppMessage → Bool)
    → count q (routed t.end.past) ≡ count q (routed h) + (count q (taken (after limit es) e) + count q (messages (lost (after limit es) e)))
at_once limit k es h e l m t q =
    let g : Past = t.end.past in
    let lg : Leads limit (e ∷ es) t.end.past = (h, l, m, t, refl) in
    let now_ : after limit es ≡ broker_of limit h = k.asked es h l in
    let then_ : (step (after limit es) e).broker ≡ broker_of limit t.end.past = k.asked (e ∷ es) t.end.past lg in
    let tidy = tidy_after limit es h l in
    let r = runs limit q h e t tidy in
    let sum_ : count q (routed t.end.past) ≡ count q (routed h) + (count q (brought h e) + total (where_ q (λ c. not (has c (pairs t.end.past)) && not (disconnects c e))) (pairs h)) =
    past_event q h t.end.past e (brought h e) tidy (apart_pairs limit k es h l) (apart_pairs limit k (e ∷ es) t.end.past lg)
    (λ c f. sym (joined_is limit (step (after limit es) e).broker t.end.past c then_) ∙ unknown (step (after limit es) e).broker c (k.ended (after limit es) c e (k.lawful es) (disconnected e c f)))
    r.fresh r.old r.new r.sum_ in
    let brought_ : count q (taken (after limit es) e) ≡ count q (brought h e) = ap (count q) (taken_is limit (after limit es) h e now_) in
    let sessions_are : (after limit es).sessions ≡ map (session_of h) (sessions h) = ap (λ (b : Broker). b.sessions) now_ in
    let lost_ : count q (messages (lost (after limit es) e)) ≡ total (where_ q (is_lost (after limit es) e)) (pairs h) =
    ap (λ ss. count q (messages (wills_where (is_lost (after limit es) e) ss))) sessions_are ∙ wills_are q (is_lost (after limit es) e) h (sessions h) in
    let same_ : total (where_ q (is_lost (after limit es) e)) (pairs h) ≡ total (where_ q (λ c. not (has c (pairs t.end.past)) && not (disconnects c e))) (pairs h) =
    total_same (where_ q (is_lost (after limit es) e)) (where_ q (λ c. not (has c (pairs t.end.past)) && not (disconnects c e)))
    (λ x. ap (λ b. cond (not b && not (disconnects x.0 e)) (weight q x) 0) (joined_is limit (step (after limit es) e).broker t.end.past x.0 then_)) (pairs h) in
    omega arith

pub in_all : (limit : ℕ) → Known limit → (es : List Event) (h : Past) → Leads limit es h → (q : AppMessage → Bool)
    → count q (routed h) ≡ count q (all_taken limit es) + count q (messages (all_lost limit es))
in_all limit k [] h l q = ap (λ g. count q (routed g)) l
in_all limit k (e ∷ es) h (g, l, m, t, is) q =
    let one : count q (routed t.end.past) ≡ count q (routed g) + (count q (taken (after limit es) e) + count q (messages (lost (after limit es) e))) = at_once limit k es g e l m t q in
    let rest : count q (routed g) ≡ count q (all_taken limit es) + count q (messages (all_lost limit es)) = in_all limit k es g l q in
    let here_ : count q (routed t.end.past) ≡ count q (routed h) = ap (λ x. count q (routed x)) is in
    let brought_ : count q (taken (after limit es) e ++ all_taken limit es) ≡ count q (taken (after limit es) e) + count q (all_taken limit es) = count_append q (taken (after limit es) e) (all_taken limit es) in
    let lost_ : count q (messages (lost (after limit es) e ++ all_lost limit es)) ≡ count q (messages (lost (after limit es) e)) + count q (messages (all_lost limit es)) =
    ap (count q) (map-append (λ (w : ℕ × AppMessage). w.1) (lost (after limit es) e) (all_lost limit es)) ∙ count_append q (messages (lost (after limit es) e)) (messages (all_lost limit es)) in
    omega arith
