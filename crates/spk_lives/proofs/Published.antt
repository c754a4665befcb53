-- What one life published: past the stamp that its node was made with, of sessions that it opened, and up to its last stamp.
use Rattle.std.proofs.Common.{◌≡◌, ℕ, zero, suc, ◌+◌, ◌-◌, ◌<◌, ◌≤◌, Bool, true, false, cond, List, [], ◌∷◌, ◌++◌, map, Option, Some, None, Result, Ok, Err, refl, sym, ◌∙◌, ap, subst, arith, length}
use Rattle.std.specs.Prelude.{slice_get}
use Rattle.std.specs.List.{AllByRecursion, last_or}
use Rattle.spk_sequence.specs.NodeRecord as sequence
use Rattle.spk_sequence.specs.NodeRecord.{IsNodeRecord, session_at, stamp_at}
use Rattle.spk_edge_rules.specs.declared.fault.EdgeFault.{EdgeFault}
use Rattle.spk_edge_rules.specs.Answers.{Answer}
use Rattle.spk_edge_rules.specs.Births.{birth_stamp}
use Rattle.spk_edge_rules.specs.Claims.{Link, Closed, Asked, Joined, link_by, link_of}
use Rattle.spk_edge_rules.specs.Config.{Setup}
use Rattle.spk_edge_rules.specs.Inputs.{Act, Open, Accepted, Change, Changes, Turn, Command, State, Drain, Stop, Cut, TurnedAway, Pass, Input}
use Rattle.spk_edge_rules.specs.Messages.{Draft, opens}
use Rattle.spk_edge_rules.specs.Run.{Done, Message, births_in, opened, outline, posts, published, right_at, run_of, stamp_of, with_done}
use Rattle.spk_edge_rules.specs.Step.{is_open}
use Rattle.spk_lives.specs.Lives.{IsUpTo}
use Rattle.spk_lives.proofs.Begun.{answered}

-- what the laws of the rules say of every run
pub record Laws : Type 0 where
  pub node : (s : Setup) (is : List Input) → IsNodeRecord (outline (published (run_of s is)))
  pub openings : (s : Setup) (is : List Input) (p : ℕ) (m : Message) → slice_get (published (run_of s is)) p ≡ Some m → sequence.opens (outline (published (run_of s is))) p ≡ opens m.draft
  pub joined : (s : Setup) (is : List Input) (i : Input) (answer : Answer) → right_at s (run_of s is) i ≡ Ok answer → 0 < length answer.given.drafts → link_of (run_of s (i ∷ is)) ≡ Joined

-- ---- the first message is past the stamp that the node was made with

abbrev pub Past : Option ℕ → ℕ → Type 0
Past None stamp = Unit {0}
Past (Some last) stamp = last < stamp

birth-past : (o : Option ℕ) (now : ℕ) → Past o (birth_stamp o now)
birth-past None now = tt
birth-past (Some last) now = omega arith

abbrev pub FirstPast : Option ℕ → List Message → Type 0
FirstPast o ms = (m : Message) (rest : List Message) → ms ≡ m ∷ rest → Past o m.draft.stamp

same-head : {X : Type 0} (x y : X) (xs ys : List X) → x ∷ xs ≡ y ∷ ys → x ≡ y
same-head x y xs ys e = cc

first-more : Laws → (s : Setup) (is : List Input) (i : Input) (answer : Answer) → right_at s (run_of s is) i ≡ Ok answer → FirstPast s.stamp (published (run_of s is))
    → FirstPast s.stamp (published (run_of s (i ∷ is)))
first-more laws s is i answer e before m rest is_first =
    by (published (run_of s is)) answer.given.drafts refl refl (ap published (sym (ap (with_done (run_of s is) i) e)) ∙ is_first)
  where
    opening : opens m.draft ≡ true
    opening = sym (laws.openings s (i ∷ is) 0 m (ap (λ ms. slice_get ms 0) is_first))

    by : (ms : List Message) (ds : List Draft) → published (run_of s is) ≡ ms → answer.given.drafts ≡ ds → ms ++ posts (opened (run_of s is) - 1) (births_in ms) ds ≡ m ∷ rest → Past s.stamp m.draft.stamp
    by (x ∷ xs) ds old new there = before m xs (old ∙ ap (λ (y : Message). y ∷ xs) (same-head x m (xs ++ posts (opened (run_of s is) - 1) (births_in (x ∷ xs)) ds) rest there))
    by [] [] old new there = absurd (let none : [] ≡ m ∷ rest = there in cc)
    by [] (d ∷ ds) old new there =
        let same : d ≡ m.draft = ap (λ (x : Message). x.draft) (same-head _ m _ rest there) in
        let fits : d.stamp ≡ birth_stamp (stamp_of s (run_of s is)) i.now = (answered s (run_of s is) i answer e).fits d ds new (ap opens same ∙ opening) in
        let stamp : stamp_of s (run_of s is) ≡ s.stamp = ap (λ (xs : List Message). last_or s.stamp (map (λ (x : Message). x.draft.stamp) xs)) old in
        subst (Past s.stamp) (sym (ap (λ (x : Draft). x.stamp) (sym same) ∙ fits ∙ ap (λ o. birth_stamp o i.now) stamp)) (birth-past s.stamp i.now)

pub first-past : Laws → (s : Setup) (is : List Input) → FirstPast s.stamp (published (run_of s is))
first-past laws s [] = λ m rest e. absurd (let none : [] ≡ m ∷ rest = e in cc)
first-past laws s (i ∷ is) = by (right_at s (run_of s is) i) refl (first-past laws s is)
  where
    by : (r : Result Answer EdgeFault) → right_at s (run_of s is) i ≡ r → FirstPast s.stamp (published (run_of s is)) → FirstPast s.stamp (published (run_of s (i ∷ is)))
    by (Ok answer) e before = first-more laws s is i answer e before
    by (Err f) e before = subst (λ (h : List Done). FirstPast s.stamp (published h)) (sym (ap (with_done (run_of s is) i) e)) before

-- ---- messages are of sessions that were opened

linked : (close : Bool) (act : Act) (link : Link) (n : ℕ) → ((link ≡ Closed → ⊥) → 1 ≤ n) → (cond close Closed (link_by act link) ≡ Closed → ⊥) → 1 ≤ cond (is_open act) (n + 1) n
linked true act link n some open_ = absurd (open_ refl)
linked false Open link n some open_ = omega arith
linked false Accepted Closed n some open_ = absurd (open_ refl)
linked false Accepted Asked n some open_ = some (λ e. let x : ⊥ = cc in x)
linked false Accepted Joined n some open_ = some (λ e. let x : ⊥ = cc in x)
linked false (Change alias value) link n some open_ = some open_
linked false (Changes changes) link n some open_ = some open_
linked false (Turn name up) link n some open_ = some open_
linked false (Command topic payload) link n some open_ = some open_
linked false (State payload) link n some open_ = some open_
linked false Drain link n some open_ = some open_
linked false Stop link n some open_ = absurd (open_ refl)
linked false Cut link n some open_ = absurd (open_ refl)
linked false TurnedAway link n some open_ = some open_
linked false Pass link n some open_ = some open_

some-opened : (h : List Done) → (link_of h ≡ Closed → ⊥) → 1 ≤ opened h
some-opened [] open_ = absurd (open_ refl)
some-opened (e ∷ h) open_ = linked e.given.close e.input.act (link_of h) (opened h) (some-opened h) open_

abbrev pub Opened : ℕ → List Message → Type 0
Opened n ms = AllByRecursion (λ (m : Message). m.session < n) ms

pub all-append : {X : Type 0} (P : X → Type 0) (xs ys : List X) → AllByRecursion P xs → AllByRecursion P ys → AllByRecursion P (xs ++ ys)
all-append P [] ys a b = b
all-append P (x ∷ xs) ys a b = (a.0, all-append P xs ys a.1 b)

pub more-opened : (m n : ℕ) → m ≤ n → (ms : List Message) → Opened m ms → Opened n ms
more-opened m n le [] all = tt
more-opened m n le (x ∷ xs) all = (let l = all.0 in omega (arith, l, le), more-opened m n le xs all.1)

posts-opened : (n session births : ℕ) (ds : List Draft) → session < n → Opened n (posts session births ds)
posts-opened n session births [] low = tt
posts-opened n session births (d ∷ ds) low = (low, posts-opened n session (cond (opens d) (births + 1) births) ds low)

not-fewer : (b : Bool) (n : ℕ) → n ≤ cond b (n + 1) n
not-fewer true n = omega arith
not-fewer false n = omega arith

abbrev after_it : List Done → Input → Answer → List Done
after_it h i answer = (record { input = i; given = answer.given }) ∷ h

opened-more : Laws → (s : Setup) (is : List Input) (i : Input) (answer : Answer) → right_at s (run_of s is) i ≡ Ok answer
    → Opened (opened (run_of s is)) (published (run_of s is)) → Opened (opened (run_of s (i ∷ is))) (published (run_of s (i ∷ is)))
opened-more laws s is i answer e before =
    subst (λ (h : List Done). Opened (opened h) (published h)) (sym run)
    (all-append (λ (m : Message). m.session < opened (after_it (run_of s is) i answer)) (published (run_of s is)) (posts (opened (run_of s is) - 1) (births_in (published (run_of s is))) answer.given.drafts)
    (more-opened (opened (run_of s is)) (opened (after_it (run_of s is) i answer)) (not-fewer (is_open i.act) (opened (run_of s is))) (published (run_of s is)) before)
    (by answer.given.drafts refl))
  where
    run : run_of s (i ∷ is) ≡ after_it (run_of s is) i answer
    run = ap (with_done (run_of s is) i) e

    some : 0 < length answer.given.drafts → 1 ≤ opened (after_it (run_of s is) i answer)
    some drafts = some-opened (after_it (run_of s is) i answer) (λ closed. let x : Joined ≡ Closed = sym (laws.joined s is i answer e drafts) ∙ ap link_of run ∙ closed in let y : ⊥ = cc in y)

    by : (ds : List Draft) → answer.given.drafts ≡ ds → Opened (opened (after_it (run_of s is) i answer)) (posts (opened (run_of s is) - 1) (births_in (published (run_of s is))) ds)
    by [] none = tt
    by (d ∷ ds) there =
        let l : length answer.given.drafts ≡ length (d ∷ ds) = ap length there in
        let n = some (omega (arith, l)) in
        let m = not-fewer (is_open i.act) (opened (run_of s is)) in
        posts-opened (opened (after_it (run_of s is) i answer)) (opened (run_of s is) - 1) (births_in (published (run_of s is))) (d ∷ ds) (omega (arith, n, m))

pub all-opened : Laws → (s : Setup) (is : List Input) → Opened (opened (run_of s is)) (published (run_of s is))
all-opened laws s [] = tt
all-opened laws s (i ∷ is) = by (right_at s (run_of s is) i) refl (all-opened laws s is)
  where
    by : (r : Result Answer EdgeFault) → right_at s (run_of s is) i ≡ r → Opened (opened (run_of s is)) (published (run_of s is)) → Opened (opened (run_of s (i ∷ is))) (published (run_of s (i ∷ is)))
    by (Ok answer) e before = opened-more laws s is i answer e before
    by (Err f) e before = subst (λ (h : List Done). Opened (opened h) (published h)) (sym (ap (with_done (run_of s is) i) e)) before

-- ---- by position

pub outline-size : (ms : List Message) → length (outline ms) ≡ length ms
outline-size [] = refl
outline-size (m ∷ ms) = ap suc (outline-size ms)

pub session-below : (n : ℕ) (ms : List Message) (p : ℕ) → Opened n ms → p < length (outline ms) → session_at (outline ms) p < n
session-below n [] p all below = absurd (omega (arith, below))
session-below n (m ∷ ms) zero all below = all.0
session-below n (m ∷ ms) (suc p) all below = session-below n ms p all.1 (omega (arith, below))

past-later : (o : Option ℕ) (m n : ℕ) → m ≤ n → Past o m → Past o n
past-later None m n le past = tt
past-later (Some last) m n le past = omega (arith, le, past)

-- each message is past the stamp that the node was made with
pub all-past : (o : Option ℕ) (ms : List Message) → IsNodeRecord (outline ms) → FirstPast o ms → (p : ℕ) → p < length (outline ms) → Past o (stamp_at (outline ms) p)
all-past o [] node first p below = absurd (omega (arith, below))
all-past o (m ∷ ms) node first p below = past-later o m.draft.stamp (stamp_at (outline (m ∷ ms)) p) (node.stamps 0 p (omega arith) below) (first m ms refl)

last-at : (o : Option ℕ) (m : Message) (ms : List Message) → last_or o (map (λ (x : Message). x.draft.stamp) (m ∷ ms)) ≡ Some (stamp_at (outline (m ∷ ms)) (length ms))
last-at o m [] = refl
last-at o m (n ∷ ms) = last-at (Some m.draft.stamp) n ms

-- and none is past the last stamp
pub up-to-last : (o : Option ℕ) (ms : List Message) → IsNodeRecord (outline ms) → (p : ℕ) → p < length (outline ms)
    → IsUpTo (Some (stamp_at (outline ms) p)) (last_or o (map (λ (x : Message). x.draft.stamp) ms))
up-to-last o [] node p below = absurd (omega (arith, below))
up-to-last o (m ∷ ms) node p below =
    let size : length (outline (m ∷ ms)) ≡ suc (length ms) = outline-size (m ∷ ms) in
    subst (IsUpTo (Some (stamp_at (outline (m ∷ ms)) p))) (sym (last-at o m ms))
    (node.stamps p (length ms) (omega (arith, size, below)) (omega (arith, size)))

pub up-to-same : (o : Option ℕ) → IsUpTo o o
up-to-same None = tt
up-to-same (Some n) = omega arith

pub up-to-more : (a b c : Option ℕ) → IsUpTo a b → IsUpTo b c → IsUpTo a c
up-to-more None b c x y = tt
up-to-more (Some a) None c x y = absurd x
up-to-more (Some a) (Some b) None x y = absurd y
up-to-more (Some a) (Some b) (Some c) x y = omega (arith, x, y)

past-up-to : (o : Option ℕ) (n : ℕ) → Past o n → IsUpTo o (Some n)
past-up-to None n past = tt
past-up-to (Some m) n past = omega (arith, past)

-- the stamp that a node was made with isn't past its last one
pub stamp-kept : (o : Option ℕ) (ms : List Message) → IsNodeRecord (outline ms) → FirstPast o ms → IsUpTo o (last_or o (map (λ (x : Message). x.draft.stamp) ms))
stamp-kept o [] node first = up-to-same o
stamp-kept o (m ∷ ms) node first =
    let size : length (outline (m ∷ ms)) ≡ suc (length ms) = outline-size (m ∷ ms) in
    up-to-more o (Some m.draft.stamp) (last_or o (map (λ (x : Message). x.draft.stamp) (m ∷ ms))) (past-up-to o m.draft.stamp (first m ms refl))
    (up-to-last o (m ∷ ms) node 0 (omega (arith, size)))
