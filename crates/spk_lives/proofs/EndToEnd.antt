-- All lives end to end: one node record, whose sessions and numbers are those that each life wrote.
use Rattle.std.proofs.Common.{◌≡◌, ℕ, zero, suc, ◌+◌, ◌-◌, ◌<◌, ◌≤◌, ◌%◌, List, [], ◌∷◌, ◌++◌, length, map, get_or, append_assoc, Option, Some, None, refl, sym, ◌∙◌, ap, subst, arith}
use Rattle.std.specs.Prelude.{slice_get}
use Rattle.std.specs.List.{AllByRecursion, range_with_len}
use Rattle.std.proofs.lemmas.List.{append-nil}
use Rattle.spk_sequence.specs.NodeRecord.{IsNodeRecord, NodeRecord, Restarts, birth_at, number_by, session_at, stamp_at, start_of}
use Rattle.spk_edge_rules.specs.Claims.{SaysSession}
use Rattle.spk_edge_rules.specs.Config.{Config, Setup}
use Rattle.spk_edge_rules.specs.Inputs.{Input}
use Rattle.spk_edge_rules.specs.Packets.{session_metric}
use Rattle.spk_edge_rules.specs.Run.{Message, number_at, opened, outline, published, run_of, session_number, setting_of, stamp_of}
use Rattle.spk_lives.specs.Lives.{AreApart, AreLives, AreNumbered, CoversRun, GoesOn, IsLife, IsUpTo, Life, bds_of, end_to_end, first_setup, moved, next_birth, run, said, sessions_in}
use Rattle.spk_lives.proofs.Joined.{Follows, InFirst, InSecond, Place, at-first, at-second, both, joined, place, shifted, size, start-below, start-second}
use Rattle.spk_lives.proofs.Published.{Laws, Opened, Past, all-append, all-opened, all-past, first-past, more-opened, outline-size, session-below, stamp-kept, up-to-last, up-to-more}
use Rattle.spk_lives.proofs.Survivors.{left-covers}

-- ---- the outline of two lists end to end

outline-moved : (births sessions : ℕ) (ms : List Message) → outline (map (moved births sessions) ms) ≡ map (shifted births sessions) (outline ms)
outline-moved births sessions [] = refl
outline-moved births sessions (m ∷ ms) = ap (λ (xs : NodeRecord). shifted births sessions (record { birth = m.birth; session = m.session; stamp = m.draft.stamp }) ∷ xs) (outline-moved births sessions ms)

outline-append : (xs ys : List Message) → outline (xs ++ ys) ≡ outline xs ++ outline ys
outline-append [] ys = refl
outline-append (x ∷ xs) ys = ap (λ (zs : NodeRecord). (record { birth = x.birth; session = x.session; stamp = x.draft.stamp }) ∷ zs) (outline-append xs ys)

outline-both : (births sessions : ℕ) (xs ys : List Message) → outline (xs ++ map (moved births sessions) ys) ≡ both (outline xs) births sessions (outline ys)
outline-both births sessions xs ys = outline-append xs (map (moved births sessions) ys) ∙ ap (λ zs. outline xs ++ zs) (outline-moved births sessions ys)

next-at : (ms : List Message) (p : ℕ) → p < length ms → get_or (map (λ (m : Message). m.birth + 1) ms) p 0 ≡ birth_at (outline ms) p + 1
next-at [] p below = absurd (omega arith)
next-at (m ∷ ms) zero below = refl
next-at (m ∷ ms) (suc p) below = next-at ms p (omega arith)

next-last : (ms : List Message) (p : ℕ) → p + 1 ≡ length (outline ms) → birth_at (outline ms) p + 1 ≡ next_birth ms
next-last ms p e =
    let sized = outline-size ms in
    let at : length ms - 1 ≡ p = omega (arith, e, sized) in
    sym (ap (λ n. get_or (map (λ (m : Message). m.birth + 1) ms) n 0) at ∙ next-at ms p (omega (arith, e, sized)))

next-none : (ms : List Message) → length (outline ms) ≡ 0 → next_birth ms ≡ 0
next-none [] e = refl
next-none (m ∷ ms) e = absurd (omega (arith, e))

-- ---- one life more

-- what holds of the lives so far, the last of which left that stamp
pub record Ready (ls : List Life) (stamp : Option ℕ) : Type 0 where
  pub node : IsNodeRecord (outline (end_to_end ls))
  pub before : (p : ℕ) → p < length (outline (end_to_end ls)) → session_at (outline (end_to_end ls)) p < sessions_in ls
  pub reserved : (p : ℕ) → p < length (outline (end_to_end ls)) → IsUpTo (Some (stamp_at (outline (end_to_end ls)) p)) stamp

nothing : (stamp : Option ℕ) → Ready [] stamp
nothing stamp = record {
  node = record {
    first_birth = λ some. absurd (omega (arith, some));
    births = λ p below. absurd (omega (arith, below));
    one_session = λ p q low high e. absurd (omega (arith, low));
    sessions = λ p q le high. absurd (omega (arith, high));
    stamps = λ p q le high. absurd (omega (arith, high));
    newer = λ p q lt high opening. absurd (omega (arith, high));
  };
  before = λ p below. absurd (omega (arith, below));
  reserved = λ p below. absurd (omega (arith, below));
}

behind : (o : Option ℕ) (m n : ℕ) → IsUpTo (Some m) o → Past o n → m < n
behind None m n up past = absurd up
behind (Some k) m n up past = omega (arith, up, past)

pub goes-behind : Laws → (l : Life) (ls : List Life) → Ready ls l.setup.stamp → Follows (outline (end_to_end ls)) (next_birth (end_to_end ls)) (sessions_in ls) (outline (published (run l)))
goes-behind laws l ls ready = record {
  first = ready.node;
  second = laws.node l.setup (said l.deeds);
  none = next-none (end_to_end ls);
  last = next-last (end_to_end ls);
  before = ready.before;
  newer = λ p q low high. behind l.setup.stamp (stamp_at (outline (end_to_end ls)) p) (stamp_at (outline (published (run l))) q) (ready.reserved p low)
      (all-past l.setup.stamp (published (run l)) (laws.node l.setup (said l.deeds)) (first-past laws l.setup (said l.deeds)) q high);
}

ready-more : Laws → (l : Life) (ls : List Life) → IsLife l → Ready ls l.setup.stamp → Ready (l ∷ ls) l.left.stamp
ready-more laws l ls is ready =
    let e : outline (end_to_end (l ∷ ls)) ≡ both a births sessions b = outline-both births sessions (end_to_end ls) (published (run l)) in
    record {
      node = subst IsNodeRecord (sym e) (joined a births sessions b (goes-behind laws l ls ready));
      before = subst (λ (all : NodeRecord). (p : ℕ) → p < length all → session_at all p < sessions_in (l ∷ ls)) (sym e) (λ p below. before p (place (length a) (length b) p (let z = size a births sessions b in omega (arith, z, below))));
      reserved = subst (λ (all : NodeRecord). (p : ℕ) → p < length all → IsUpTo (Some (stamp_at all p)) l.left.stamp) (sym e) (λ p below. reserved p (place (length a) (length b) p (let z = size a births sessions b in omega (arith, z, below))));
    }
  where
    a : NodeRecord
    a = outline (end_to_end ls)

    b : NodeRecord
    b = outline (published (run l))

    births : ℕ
    births = next_birth (end_to_end ls)

    sessions : ℕ
    sessions = sessions_in ls

    covers : CoversRun l.setup (run l) l.left
    covers = left-covers l is

    node : IsNodeRecord b
    node = laws.node l.setup (said l.deeds)

    before : (p : ℕ) → Place (length a) (length b) p → session_at (both a births sessions b) p < sessions + l.left.sessions
    before p (InFirst low) =
        let x = (at-first a births sessions b p low).session in
        let m = ready.before p low in
        omega (arith, x, m)
    before p (InSecond q here within) =
        let x = (at-second a births sessions b p q here within).session in
        let m = session-below (opened (run l)) (published (run l)) q (all-opened laws l.setup (said l.deeds)) within in
        let n = covers.sessions in
        omega (arith, x, m, n)

    reserved : (p : ℕ) → Place (length a) (length b) p → IsUpTo (Some (stamp_at (both a births sessions b) p)) l.left.stamp
    reserved p (InFirst low) =
        let x = (at-first a births sessions b p low).stamp in
        subst (λ n. IsUpTo (Some n) l.left.stamp) (sym x)
        (up-to-more (Some (stamp_at a p)) l.setup.stamp l.left.stamp (ready.reserved p low)
        (up-to-more l.setup.stamp (stamp_of l.setup (run l)) l.left.stamp (stamp-kept l.setup.stamp (published (run l)) node (first-past laws l.setup (said l.deeds))) covers.stamp))
    reserved p (InSecond q here within) =
        let x = (at-second a births sessions b p q here within).stamp in
        subst (λ n. IsUpTo (Some n) l.left.stamp) (sym x)
        (up-to-more (Some (stamp_at b q)) (stamp_of l.setup (run l)) l.left.stamp (up-to-last l.setup.stamp (published (run l)) node q within) covers.stamp)

pub ready-all : Laws → (l : Life) (ls : List Life) → AreLives (l ∷ ls) → Ready ls l.setup.stamp × Ready (l ∷ ls) l.left.stamp
ready-all laws l [] are = (nothing l.setup.stamp, ready-more laws l [] are.0 (nothing l.setup.stamp))
ready-all laws l (b ∷ ls) are =
    let rest = ready-all laws b ls are.2 in
    let ready = subst (Ready (b ∷ ls)) (sym are.1.stamp) rest.1 in
    (ready, ready-more laws l (b ∷ ls) are.0 ready)

pub one-record : Laws → (ls : List Life) → AreLives ls → IsNodeRecord (outline (end_to_end ls))
one-record laws [] are = (nothing None).node
one-record laws (l ∷ ls) are = (ready-all laws l ls are).1.node

-- ---- sessions

goes-on : (s : Setup) (b : Life) (n : ℕ) → GoesOn s b → session_number s n ≡ session_number b.setup (b.left.sessions + n)
goes-on s b n goes = ap (λ bd. (bd + n) % 256) goes.bd ∙ added b.setup.bd b.left.sessions n
  where
    added : (x y z : ℕ) → ((x + y) % 256 + z) % 256 ≡ (x + (y + z)) % 256
    added x y z = omega arith

pub session-at : (l : Life) (ls : List Life) → AreLives (l ∷ ls) → (n : ℕ) → session_number l.setup n ≡ session_number (first_setup l ls) (sessions_in ls + n)
session-at l [] are n = ap (session_number l.setup) (alone n)
  where
    alone : (n : ℕ) → n ≡ 0 + n
    alone n = omega arith
session-at l (b ∷ ls) are n =
    goes-on l.setup b n are.1 ∙ session-at b ls are.2 (b.left.sessions + n)
    ∙ ap (session_number (first_setup b ls)) (added (sessions_in ls) b.left.sessions n)
  where
    added : (x y z : ℕ) → x + (y + z) ≡ x + y + z
    added x y z = omega arith

moved-opened : (births sessions n m : ℕ) → n ≤ m → (ms : List Message) → Opened n ms → Opened (sessions + m) (map (moved births sessions) ms)
moved-opened births sessions n m le [] all = tt
moved-opened births sessions n m le (x ∷ xs) all = (let low = all.0 in omega (arith, low, le), moved-opened births sessions n m le xs all.1)

pub counted : Laws → (ls : List Life) → AreLives ls → Opened (sessions_in ls) (end_to_end ls)
counted laws [] are = tt
counted laws (l ∷ ls) are =
    all-append (λ (m : Message). m.session < sessions_in (l ∷ ls)) (end_to_end ls) (map (moved (next_birth (end_to_end ls)) (sessions_in ls)) (published (run l)))
    (more-opened (sessions_in ls) (sessions_in (l ∷ ls)) (omega arith) (end_to_end ls) (counted laws ls are.2))
    (moved-opened (next_birth (end_to_end ls)) (sessions_in ls) (opened (run l)) l.left.sessions (left-covers l are.0).sessions (published (run l)) (all-opened laws l.setup (said l.deeds)))

says-moved : (s t : Setup) (births sessions : ℕ) → ((n : ℕ) → session_number s n ≡ session_number t (sessions + n)) → (ms : List Message)
    → AllByRecursion (SaysSession s) ms → AllByRecursion (SaysSession t) (map (moved births sessions) ms)
says-moved s t births sessions same [] all = tt
says-moved s t births sessions same (m ∷ ms) all = (
  λ opening. (
    (all.0 opening).0,
    (all.0 opening).1 ∙ ap (λ bd. session_metric bd (Some m.draft.stamp) ∷ (all.0 opening).0) (same m.session),
  ),
  says-moved s t births sessions same ms all.1,
)

abbrev SaysAll : Type 0
SaysAll = (s : Setup) (is : List Input) → AllByRecursion (SaysSession s) (published (run_of s is))

says-more : SaysAll → (l : Life) (ls : List Life) → AreLives (l ∷ ls) → AllByRecursion (SaysSession (first_setup l ls)) (end_to_end ls)
    → AllByRecursion (SaysSession (first_setup l ls)) (end_to_end (l ∷ ls))
says-more says l ls are older =
    all-append (SaysSession (first_setup l ls)) (end_to_end ls) (map (moved (next_birth (end_to_end ls)) (sessions_in ls)) (published (run l))) older
    (says-moved l.setup (first_setup l ls) (next_birth (end_to_end ls)) (sessions_in ls) (session-at l ls are) (published (run l)) (says l.setup (said l.deeds)))

pub says-all : SaysAll → (l : Life) (ls : List Life) → AreLives (l ∷ ls) → AllByRecursion (SaysSession (first_setup l ls)) (end_to_end (l ∷ ls))
says-all says l [] are = says-more says l [] are tt
says-all says l (b ∷ bs) are = says-more says l (b ∷ bs) are (says-all says b bs are.2)

-- the bdSeqs of all sessions

ranges : (f : ℕ → ℕ) (a m n : ℕ) → map f (range_with_len a (m + n)) ≡ map f (range_with_len a m) ++ map f (range_with_len (a + m) n)
ranges f a zero n =
    let e : a ≡ a + 0 = omega arith in
    let z : 0 + n ≡ n = omega arith in
    ap (λ k. map f (range_with_len a k)) z ∙ ap (λ k. map f (range_with_len k n)) e
ranges f a (suc m) n =
    let e : a + 1 + m ≡ a + suc m = omega arith in
    let z : suc m + n ≡ suc (m + n) = omega arith in
    ap (λ k. map f (range_with_len a k)) z
    ∙ ap (λ xs. f a ∷ xs) (ranges f (a + 1) m n ∙ ap (λ k. map f (range_with_len (a + 1) m) ++ map f (range_with_len k n)) e)

range-same : (f g : ℕ → ℕ) (a b n : ℕ) → ((i : ℕ) → f (a + i) ≡ g (b + i)) → map f (range_with_len a n) ≡ map g (range_with_len b n)
range-same f g a b zero same = refl
range-same f g a b (suc n) same =
    let x : a + 0 ≡ a = omega arith in
    let y : b + 0 ≡ b = omega arith in
    let first : f a ≡ g b = ap f (sym x) ∙ same 0 ∙ ap g y in
    ap (λ k. k ∷ map f (range_with_len (a + 1) n)) first
    ∙ ap (λ xs. g b ∷ xs) (range-same f g (a + 1) (b + 1) n (λ i. ap f (shift a i) ∙ same (suc i) ∙ ap g (sym (shift b i))))
  where
    shift : (a i : ℕ) → a + 1 + i ≡ a + suc i
    shift a i = omega arith

bds-more : (l : Life) (ls : List Life) → AreLives (l ∷ ls) → bds_of ls ≡ map (session_number (first_setup l ls)) (range_with_len 0 (sessions_in ls))
    → bds_of (l ∷ ls) ≡ map (session_number (first_setup l ls)) (range_with_len 0 (sessions_in (l ∷ ls)))
bds-more l ls are older =
    ap (λ bds. bds ++ map (session_number l.setup) (range_with_len 0 l.left.sessions)) older
    ∙ ap (λ bds. map (session_number (first_setup l ls)) (range_with_len 0 (sessions_in ls)) ++ bds)
    (range-same (session_number l.setup) (session_number (first_setup l ls)) 0 (0 + sessions_in ls) l.left.sessions shift)
    ∙ sym (ranges (session_number (first_setup l ls)) 0 (sessions_in ls) l.left.sessions)
  where
    none : (m i : ℕ) → 0 + m + i ≡ m + i
    none m i = omega arith

    alone : (i : ℕ) → 0 + i ≡ i
    alone i = omega arith

    shift : (i : ℕ) → session_number l.setup (0 + i) ≡ session_number (first_setup l ls) (0 + sessions_in ls + i)
    shift i = ap (session_number l.setup) (alone i) ∙ session-at l ls are i ∙ ap (session_number (first_setup l ls)) (sym (none (sessions_in ls) i))

pub bds-all : (l : Life) (ls : List Life) → AreLives (l ∷ ls) → bds_of (l ∷ ls) ≡ map (session_number (first_setup l ls)) (range_with_len 0 (sessions_in (l ∷ ls)))
bds-all l [] are = bds-more l [] are refl
bds-all l (b ∷ bs) are = bds-more l (b ∷ bs) are (bds-all b bs are.2)

ranged : (f : ℕ → ℕ) (a n i x : ℕ) → slice_get (map f (range_with_len a n)) i ≡ Some x → f (a + i) ≡ x
ranged f a zero i x e = absurd (let none : None ≡ Some x = e in cc)
ranged f a (suc n) zero x e = let z : a + 0 ≡ a = omega arith in ap f z ∙ (let same : Some (f a) ≡ Some x = e in cc)
ranged f a (suc n) (suc i) x e = let z : a + suc i ≡ a + 1 + i = omega arith in ap f z ∙ ranged f (a + 1) n i x e

pub apart : (ls : List Life) → AreLives ls → AreApart (bds_of ls)
apart [] are i j bd one two low = absurd (let none : None ≡ Some bd = one in cc)
apart (l ∷ ls) are i j bd one two low =
    let all = bds-all l ls are in
    let f = session_number (first_setup l ls) in
    let x = ranged f 0 (sessions_in (l ∷ ls)) i bd (ap (λ bds. slice_get bds i) (sym all) ∙ one) in
    let y = ranged f 0 (sessions_in (l ∷ ls)) j bd (ap (λ bds. slice_get bds j) (sym all) ∙ two) in
    far (first_setup l ls).bd i j (x ∙ sym y) low
  where
    far : (bd i j : ℕ) → (bd + (0 + i)) % 256 ≡ (bd + (0 + j)) % 256 → i < j → i + 256 ≤ j
    far bd i j same low = omega (arith, same, low)

-- ---- numbers

restarting : (s : Setup) (ms : List Message) (p : ℕ) → s.config.numbering ≡ Restarts → number_at s ms p ≡ (p - start_of (outline ms) p) % 256
restarting s ms p e = ap (λ n. number_by n (setting_of s ms) p) e

first-restarts : (l : Life) (ls : List Life) → AreLives (l ∷ ls) → l.setup.config.numbering ≡ Restarts → (first_setup l ls).config.numbering ≡ Restarts
first-restarts l [] are e = e
first-restarts l (b ∷ ls) are e = first-restarts b ls are.2 (ap (λ (c : Config). c.numbering) (sym are.1.config) ∙ e)

abbrev pub SameStart : Type 0
SameStart = (published more : NodeRecord) (p : ℕ) → p < length published → start_of (published ++ more) p ≡ start_of published p

number-same : Laws → SameStart → (l : Life) (ls : List Life) (more : List Message) → AreLives (l ∷ ls) → l.setup.config.numbering ≡ Restarts → (p : ℕ) → p < length (published (run l))
    → number_at l.setup (published (run l)) p ≡ number_at (first_setup l ls) (end_to_end (l ∷ ls) ++ more) (length (end_to_end ls) + p)
number-same laws same_start l ls more are restarts p below =
    restarting l.setup (published (run l)) p restarts ∙ ap (λ n. n % 256) (sym (less (length (end_to_end ls)) p (start_of b p) (start-below b p)))
    ∙ ap (λ n. (length (end_to_end ls) + p - n) % 256) (sym start)
    ∙ sym (restarting (first_setup l ls) (end_to_end (l ∷ ls) ++ more) (length (end_to_end ls) + p) (first-restarts l ls are restarts))
  where
    a : NodeRecord
    a = outline (end_to_end ls)

    b : NodeRecord
    b = outline (published (run l))

    less : (n p k : ℕ) → k ≤ p → n + p - (n + k) ≡ p - k
    less n p k le = omega (arith, le)

    start : start_of (outline (end_to_end (l ∷ ls) ++ more)) (length (end_to_end ls) + p) ≡ length (end_to_end ls) + start_of b p
    start =
        let e : outline (end_to_end (l ∷ ls)) ≡ both a (next_birth (end_to_end ls)) (sessions_in ls) b = outline-both (next_birth (end_to_end ls)) (sessions_in ls) (end_to_end ls) (published (run l)) in
        let sized : length a ≡ length (end_to_end ls) = outline-size (end_to_end ls) in
        let sized_b : length b ≡ length (published (run l)) = outline-size (published (run l)) in
        let whole : length (outline (end_to_end (l ∷ ls))) ≡ length a + length b = ap length e ∙ size a (next_birth (end_to_end ls)) (sessions_in ls) b in
        ap (λ (x : NodeRecord). start_of x (length (end_to_end ls) + p)) (outline-append (end_to_end (l ∷ ls)) more)
        ∙ same_start (outline (end_to_end (l ∷ ls))) (outline more) (length (end_to_end ls) + p) (omega (arith, whole, sized, sized_b, below))
        ∙ ap (λ (x : NodeRecord). start_of x (length (end_to_end ls) + p)) e
        ∙ ap (λ n. start_of (both a (next_birth (end_to_end ls)) (sessions_in ls) b) (n + p)) (sym sized)
        ∙ start-second a (next_birth (end_to_end ls)) (sessions_in ls) b (goes-behind laws l ls (ready-all laws l ls are).0) p (omega (arith, sized_b, below))
        ∙ ap (λ n. n + start_of b p) sized

numbers : Laws → SameStart → (l : Life) (ls : List Life) (more : List Message) → AreLives (l ∷ ls) → l.setup.config.numbering ≡ Restarts
    → AreNumbered (first_setup l ls) (end_to_end (l ∷ ls) ++ more) (l ∷ ls)
numbers laws same_start l [] more are restarts = (number-same laws same_start l [] more are restarts, tt)
numbers laws same_start l (b ∷ bs) more are restarts =
    let new : List Message = map (moved (next_birth (end_to_end (b ∷ bs))) (sessions_in (b ∷ bs))) (published (run l)) in (
      number-same laws same_start l (b ∷ bs) more are restarts,
      subst (λ (all : List Message). AreNumbered (first_setup b bs) all (b ∷ bs)) (sym (append_assoc (end_to_end (b ∷ bs)) new more))
          (numbers laws same_start b bs (new ++ more) are.2 (ap (λ (c : Config). c.numbering) (sym are.1.config) ∙ restarts)),
    )

pub all-numbered : Laws → SameStart → (l : Life) (ls : List Life) → AreLives (l ∷ ls) → l.setup.config.numbering ≡ Restarts → AreNumbered (first_setup l ls) (end_to_end (l ∷ ls)) (l ∷ ls)
all-numbered laws same_start l ls are restarts =
    subst (λ (all : List Message). AreNumbered (first_setup l ls) all (l ∷ ls)) (append-nil (end_to_end (l ∷ ls))) (numbers laws same_start l ls [] are restarts)
