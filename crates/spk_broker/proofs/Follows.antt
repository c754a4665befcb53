-- The index goes over the sessions of a call, one after the other, from their grants of before it to those of by now.
use Rattle.std.proofs.Common.{◌≡◌, ℕ, zero, suc, ◌+◌, ◌<◌, ◌≤◌, Bool, true, false, ◌&&◌, ◌||◌, ◌==◌, cond, List, [], ◌∷◌, ◌++◌, length, map, take, drop, get_or, refl, sym, ap, ◌∙◌, subst, Option, Some, None, arith, true≢false, eq-eqb, string_bytes, Result, Ok, Err}
use Rattle.std.specs.Prelude.{nat_lt}
use Rattle.std.specs.Option.{IfSome, is_some}
use Rattle.std.specs.Result.{IfOk, result_unwrap_or}
use Rattle.std.specs.declared.alloc.AllocError.{AllocError}
use Rattle.std.specs.List.{find, flat_map, list_any, sum_by}
use Rattle.std.specs.FinMap as tree
use Rattle.std.proofs.lemmas.List.Folds.{list_any-append}
use Rattle.std.proofs.lemmas.List.Sums.{sum_by-append}
use Rattle.std.proofs.lemmas.Bool.{cases_lt}
use mathlib.Core.Logic.{⊎_elim}
use Rattle.spk_topics.specs.Grants.{Grants}
use Rattle.spk_broker_rules.specs.Data as plain
use Rattle.spk_broker_rules.specs.Lawful.{IsLawful, Rises}
use Rattle.spk_session.specs.Step.{without}
use Rattle.spk_broker_rules.specs.Step.{ack_at, begun, is_away, new_session, session_by, sits, swap}
use Rattle.spk_broker_rules.specs.Table.{Table, has}
use Rattle.spk_broker_rules.specs.Words.{option_list, without_id}
use Rattle.spk_broker_rules.proofs.Lists.{all-also, eqb-is}
use Rattle.spk_broker.specs.Both.{Both}
use Rattle.spk_broker.specs.Called.{AreOrdered, IsKeyed, is_place}
use Rattle.spk_broker.specs.Changes.{changed_at}
use Rattle.spk_broker.specs.Entering.{entered, taken_up, whole}
use Rattle.spk_broker.specs.Filing.{AllOf, AreAlikeAt, AreFiled, Holds, IsAlike, IsHeld, IsIndex, IsTurned, index_of, is_granted, made_index}
use Rattle.spk_broker.specs.Granting.{standing_grants}
use Rattle.spk_broker.specs.Parts.{connection_now}
use Rattle.spk_broker.specs.Sizes.{size_of_all, size_of_grants}
use Rattle.spk_broker.specs.Touched.{AreTouched}
use Rattle.spk_broker.specs.View.{session_now, session_was}
use Rattle.spk_broker.specs.declared.accept.Entry.{Entry}
use Rattle.spk_broker.specs.declared.accept.Entry.TheVariants.{Made, Back}
use Rattle.spk_broker.proofs.Entries.{or-first, or-second, same-bool, sum-cons}
use Rattle.spk_broker.proofs.Flats.{single-flat}
use Rattle.spk_broker.proofs.Indexing.{index-only}
use Rattle.spk_broker.proofs.Ordered.{was-above}
use Rattle.spk_broker.proofs.Places.{swap-past, unequal}
use Rattle.spk_broker.proofs.Touched.{place-at, same-read}
use Rattle.spk_broker.proofs.Walks.{so_far}

-- ---- what an index that is exact has

key-self : (k : ℕ) → (k == k) ≡ true
key-self k = eq-eqb k k refl

-- a grant of one of them is granted
granted-there : (ss : List plain.Session) → AllOf (λ k g. (f : List ℕ) → has f g ≡ true → is_granted f k ss ≡ true) ss
granted-there [] = tt
granted-there (s ∷ ss) = (
  λ f there. or-first ((s.key == s.key) && has f s.grants) (is_granted f s.key ss) (ap (λ b. b && has f s.grants) (key-self s.key) ∙ there),
  all-also (λ (x : plain.Session). (f : List ℕ) → has f x.grants ≡ true → is_granted f x.key ss ≡ true) (λ (x : plain.Session). (f : List ℕ) → has f x.grants ≡ true → is_granted f x.key (s ∷ ss) ≡ true)
      (λ x h f there. or-second ((s.key == x.key) && has f s.grants) (is_granted f x.key ss) (h f there)) ss (granted-there ss),
)

pub held-index : (i : Option Grants) (n : ℕ) (ss : List plain.Session) → IsHeld i n ss → IsIndex i ss
held-index None n ss h = tt
held-index (Some index) n ss h =
    all-also (λ (x : plain.Session). (f : List ℕ) → has f x.grants ≡ true → is_granted f x.key ss ≡ true) (λ (x : plain.Session). (f : List ℕ) → has f x.grants ≡ true → is_some (tree.get index (f, x.key)) ≡ true)
    (λ x there f has_it. h.exact f x.key ∙ there f has_it) ss (granted-there ss)

filed-granted : (index : Grants) (ss : List plain.Session) (f : List ℕ) (k : ℕ) → AreFiled index ss → is_granted f k ss ≡ true → is_some (tree.get index (f, k)) ≡ true
filed-granted index [] f k all e = absurd (true≢false (sym e))
filed-granted index (s ∷ ss) f k all e = by (s.key == k) (has f s.grants) refl refl e (λ h. filed-granted index ss f k all.1 h)
  where
    by : (a b : Bool) → (s.key == k) ≡ a → has f s.grants ≡ b → (a && b) || is_granted f k ss ≡ true → (is_granted f k ss ≡ true → is_some (tree.get index (f, k)) ≡ true)
        → is_some (tree.get index (f, k)) ≡ true
    by true true x y h rest = subst (λ q. is_some (tree.get index (f, q)) ≡ true) (eqb-is s.key k x) (all.0 f y)
    by true false x y h rest = rest h
    by false b x y h rest = rest h

-- one that was just made
made-held : (ss : List plain.Session) (o : Option Grants) (n : ℕ) → o ≡ made_index ss → IsIndex o ss → (size_of_all ss ≤ 100000 → n ≡ size_of_all ss) → IsHeld o n ss
made-held ss o n is index size = subst (λ x. IsHeld x n ss) (sym is) (by (nat_lt 100000 (size_of_all ss)) refl (subst (λ x. IsIndex x ss) is index))
  where
    by : (b : Bool) → nat_lt 100000 (size_of_all ss) ≡ b → IsIndex (cond b None (Some (index_of ss))) ss → IsHeld (cond b None (Some (index_of ss))) n ss
    by true e filed = tt
    by false e filed =
        let few : size_of_all ss ≤ 100000 = grind (arith, e) in
        let same : n ≡ size_of_all ss = size few in
        record {
          exact = λ f k. same-bool (is_some (tree.get (index_of ss) (f, k))) (is_granted f k ss) (index-only ss f k) (filed-granted (index_of ss) ss f k filed);
          total = same;
          small = omega (arith, few, same);
        }

-- for a message
pub make-held : (r : Result (Option Grants) AllocError) (o : Option Grants) (p : Bool) (ss : List plain.Session) (n : ℕ) → o ≡ result_unwrap_or r None → is_some o ≡ true
    → (p ≡ false → r ≡ Ok None) → (p ≡ true → IfOk r (λ x. x ≡ made_index ss)) → IfOk r (λ x. IsIndex x ss) → (size_of_all ss ≤ 100000 → n ≡ size_of_all ss) → IsHeld o n ss
make-held (Err x) o p ss n is there none made index size = absurd (true≢false (sym there ∙ ap is_some is))
make-held (Ok x) o false ss n is there none made index size = absurd (true≢false (sym there ∙ ap is_some is ∙ ap (λ (r : Result (Option Grants) AllocError). is_some (result_unwrap_or r None)) (none refl)))
make-held (Ok x) o true ss n is there none made index size = made-held ss o n (is ∙ made refl) (subst (λ y. IsIndex y ss) (sym is) index) size

pub none-held : (i : Option Grants) (n : ℕ) (ss : List plain.Session) → is_some i ≡ false → IsHeld i n ss
none-held None n ss e = tt
none-held (Some index) n ss e = absurd (true≢false e)

-- ---- one session after the other

abbrev was_one : Both → List plain.Session
was_one b = b.was ∷ []

-- the sessions, those before a place as by now
abbrev pub half : List Both → ℕ → List plain.Session
half bs i = so_far session_now was_one bs i

none-above : (f : List ℕ) (key : ℕ) (bs : List Both) (low top : ℕ) → Rises low top (map session_was bs) → key ≤ low → is_granted f key (flat_map was_one bs) ≡ false
none-above f key [] low top r le = refl
none-above f key (b ∷ bs) low top r le =
    let up : low < b.was.key = r.0 in
    ap (λ x. (x && has f b.was.grants) || is_granted f key (flat_map was_one bs)) (unequal b.was.key key (λ e. omega (arith, up, le, e)))
    ∙ none-above f key bs b.was.key top r.1 (omega (arith, up, le))

none-now : (f : List ℕ) (key : ℕ) (b : Both) → IsKeyed b → b.was.key < key → is_granted f key (session_now b) ≡ false
none-now f key b keyed lt = by b.now keyed
  where
    by : (o : Option plain.Session) → IfSome o (λ (s : plain.Session). s.key ≡ b.was.key) → is_granted f key (option_list o) ≡ false
    by None k = refl
    by (Some s) k = ap (λ x. (x && has f s.grants) || false) (unequal s.key key (λ e. omega (arith, k, lt, e)))

none-before : (f : List ℕ) (key : ℕ) (bs : List Both) (i : ℕ) (d : Both) (low top : ℕ) → Rises low top (map session_was bs) → i < length bs → (get_or bs i d).was.key ≡ key
    → ((j : ℕ) (e : Both) → j < i → IsKeyed (get_or bs j e)) → is_granted f key (flat_map session_now (take i bs)) ≡ false
none-before f key [] i d low top r lt is keyed = absurd (omega (arith, lt))
none-before f key (b ∷ bs) zero d low top r lt is keyed = refl
none-before f key (b ∷ bs) (suc i) d low top r lt is keyed =
    let up = was-above bs b.was.key top i d r.1 (omega (arith, lt)) in
    list_any-append (λ (s : plain.Session). (s.key == key) && has f s.grants) (session_now b) (flat_map session_now (take i bs))
    ∙ ap (λ x. x || is_granted f key (flat_map session_now (take i bs))) (none-now f key b (keyed zero b (omega arith)) (omega (arith, up, is)))
    ∙ none-before f key bs i d b.was.key top r.1 (omega (arith, lt)) is (λ j e less. keyed (suc j) e (omega (arith, less)))

none-behind : (f : List ℕ) (key : ℕ) (bs : List Both) (i : ℕ) (d : Both) (low top : ℕ) → Rises low top (map session_was bs) → i < length bs → (get_or bs i d).was.key ≡ key
    → is_granted f key (flat_map was_one (drop (i + 1) bs)) ≡ false
none-behind f key [] i d low top r lt is = absurd (omega (arith, lt))
none-behind f key (b ∷ bs) zero d low top r lt is = none-above f key bs b.was.key top r.1 (omega (arith, is))
none-behind f key (b ∷ bs) (suc i) d low top r lt is =
    let z : suc i + 1 ≡ suc (i + 1) = omega arith in
    ap (λ n. is_granted f key (flat_map was_one (drop n (b ∷ bs)))) z ∙ none-behind f key bs i d b.was.key top r.1 (omega (arith, lt)) is

-- the session at the place, among the others
half-here : (bs : List Both) (i : ℕ) (d : Both) → i < length bs → half bs i ≡ flat_map session_now (take i bs) ++ (get_or bs i d).was ∷ flat_map was_one (drop (i + 1) bs)
half-here [] i d lt = absurd (omega (arith, lt))
half-here (b ∷ bs) zero d lt = refl
half-here (b ∷ bs) (suc i) d lt =
    let z : suc i + 1 ≡ suc (i + 1) = omega arith in
    join (session_now b) (flat_map session_now (take i bs)) (flat_map was_one (drop i bs))
    ∙ ap (λ l. session_now b ++ l) (half-here bs i d (omega (arith, lt)))
    ∙ sym (join (session_now b) (flat_map session_now (take i bs)) ((get_or bs i d).was ∷ flat_map was_one (drop (i + 1) bs)))
    ∙ ap (λ n. flat_map session_now (take (suc i) (b ∷ bs)) ++ (get_or bs i d).was ∷ flat_map was_one (drop n (b ∷ bs))) (sym z)
  where
    join : {X : Type 0} (xs ys zs : List X) → (xs ++ ys) ++ zs ≡ xs ++ (ys ++ zs)
    join [] ys zs = refl
    join (x ∷ xs) ys zs = ap (λ l. x ∷ l) (join xs ys zs)

half-next : (bs : List Both) (i : ℕ) (d : Both) → i < length bs → half bs (i + 1) ≡ flat_map session_now (take i bs) ++ (session_now (get_or bs i d) ++ flat_map was_one (drop (i + 1) bs))
half-next [] i d lt = absurd (omega (arith, lt))
half-next (b ∷ bs) zero d lt = ap (λ l. l ++ flat_map was_one bs) (none (session_now b))
  where
    none : {X : Type 0} (xs : List X) → xs ++ [] ≡ xs
    none [] = refl
    none (x ∷ xs) = ap (λ l. x ∷ l) (none xs)
half-next (b ∷ bs) (suc i) d lt =
    let z : suc i + 1 ≡ suc (i + 1) = omega arith in
    ap (λ n. half (b ∷ bs) n) z
    ∙ join (session_now b) (flat_map session_now (take (i + 1) bs)) (flat_map was_one (drop (i + 1) bs))
    ∙ ap (λ l. session_now b ++ l) (half-next bs i d (omega (arith, lt)))
    ∙ sym (join (session_now b) (flat_map session_now (take i bs)) (session_now (get_or bs i d) ++ flat_map was_one (drop (i + 1) bs)))
    ∙ ap (λ n. flat_map session_now (take (suc i) (b ∷ bs)) ++ (session_now (get_or bs i d) ++ flat_map was_one (drop n (b ∷ bs)))) (sym z)
  where
    join : {X : Type 0} (xs ys zs : List X) → (xs ++ ys) ++ zs ≡ xs ++ (ys ++ zs)
    join [] ys zs = refl
    join (x ∷ xs) ys zs = ap (λ l. x ∷ l) (join xs ys zs)

granted-among : (f : List ℕ) (k : ℕ) (xs ys zs : List plain.Session) → is_granted f k (xs ++ (ys ++ zs)) ≡ is_granted f k xs || (is_granted f k ys || is_granted f k zs)
granted-among f k xs ys zs =
    list_any-append (λ (s : plain.Session). (s.key == k) && has f s.grants) xs (ys ++ zs)
    ∙ ap (λ b. is_granted f k xs || b) (list_any-append (λ (s : plain.Session). (s.key == k) && has f s.grants) ys zs)

size-among : (xs ys zs : List plain.Session) → size_of_all (xs ++ (ys ++ zs)) ≡ size_of_all xs + (size_of_all ys + size_of_all zs)
size-among xs ys zs =
    sum_by-append (λ (s : plain.Session). size_of_grants s.grants) xs (ys ++ zs)
    ∙ ap (λ n. size_of_all xs + n) (sum_by-append (λ (s : plain.Session). size_of_grants s.grants) ys zs)

-- what a session has by now
now-granted : (f : List ℕ) (b : Both) → IsKeyed b → is_granted f b.was.key (session_now b) ≡ has f (standing_grants b.now)
now-granted f b keyed = by b.now keyed
  where
    one : (x y : Bool) → x ≡ true → (x && y) || false ≡ y
    one true true e = refl
    one true false e = refl
    one false y e = absurd (true≢false (sym e))

    by : (o : Option plain.Session) → IfSome o (λ (s : plain.Session). s.key ≡ b.was.key) → is_granted f b.was.key (option_list o) ≡ has f (standing_grants o)
    by None k = refl
    by (Some s) k = one (s.key == b.was.key) (has f s.grants) (eq-eqb s.key b.was.key k)

now-other : (f : List ℕ) (q : ℕ) (b : Both) → IsKeyed b → (q == b.was.key) ≡ false → is_granted f q (session_now b) ≡ false
now-other f q b keyed other = by b.now keyed
  where
    by : (o : Option plain.Session) → IfSome o (λ (s : plain.Session). s.key ≡ b.was.key) → is_granted f q (option_list o) ≡ false
    by None k = refl
    by (Some s) k = ap (λ x. (x && has f s.grants) || false) (unequal s.key q (λ e. true≢false (sym (eq-eqb q b.was.key (sym e ∙ k)) ∙ other)))

was-other : (f : List ℕ) (q : ℕ) (b : Both) → (q == b.was.key) ≡ false → is_granted f q (was_one b) ≡ false
was-other f q b other = ap (λ x. (x && has f b.was.grants) || false) (unequal b.was.key q (λ e. true≢false (sym (eq-eqb q b.was.key (sym e)) ∙ other)))

now-size : (b : Both) → size_of_all (session_now b) ≡ size_of_grants (standing_grants b.now)
now-size b = by b.now
  where
    by : (o : Option plain.Session) → size_of_all (option_list o) ≡ size_of_grants (standing_grants o)
    by None = refl
    by (Some s) = let one = sum-cons (λ (x : plain.Session). size_of_grants x.grants) s [] in let none : size_of_all [] ≡ 0 = refl in omega (arith, one, none)

-- one session is turned
pub half-step : (index more : Grants) (n m : ℕ) (bs : List Both) (i : ℕ) (d : Both) → AreOrdered bs → i < length bs → ((j : ℕ) (e : Both) → j ≤ i → IsKeyed (get_or bs j e))
    → IsTurned index more (get_or bs i d)
    → (n ≤ 100000 → size_of_grants (get_or bs i d).was.grants ≤ n → m + size_of_grants (get_or bs i d).was.grants ≡ n + size_of_grants (standing_grants (get_or bs i d).now))
    → (n ≤ 100000 → m ≤ 100000) → Holds index n (half bs i) → Holds more m (half bs (i + 1))
half-step index more n m bs i d o lt keyed turned size small h = record { exact = exact; total = total; small = small h.small }
  where
    b : Both
    b = get_or bs i d

    front : List plain.Session
    front = flat_map session_now (take i bs)

    back : List plain.Session
    back = flat_map was_one (drop (i + 1) bs)

    before : (f : List ℕ) → is_granted f b.was.key front ≡ false
    before f = none-before f b.was.key bs i d o.0 o.1 o.2 lt refl (λ j e less. keyed j e (omega (arith, less)))

    behind : (f : List ℕ) → is_granted f b.was.key back ≡ false
    behind f = none-behind f b.was.key bs i d o.0 o.1 o.2 lt refl

    old-is : (f : List ℕ) (q : ℕ) → is_some (tree.get index (f, q)) ≡ is_granted f q front || (is_granted f q (was_one b) || is_granted f q back)
    old-is f q = h.exact f q ∙ ap (is_granted f q) (half-here bs i d lt) ∙ granted-among f q front (was_one b) back

    new-is : (f : List ℕ) (q : ℕ) → is_granted f q (half bs (i + 1)) ≡ is_granted f q front || (is_granted f q (session_now b) || is_granted f q back)
    new-is f q = ap (is_granted f q) (half-next bs i d lt) ∙ granted-among f q front (session_now b) back

    alone : (x y z : Bool) → x ≡ false → z ≡ false → x || (y || z) ≡ y
    alone true y z e k = absurd (true≢false e)
    alone false y true e k = absurd (true≢false k)
    alone false true false e k = refl
    alone false false false e k = refl

    own-was : (f : List ℕ) → is_some (tree.get index (f, b.was.key)) ≡ has f b.was.grants
    own-was f =
        old-is f b.was.key ∙ alone (is_granted f b.was.key front) (is_granted f b.was.key (was_one b)) (is_granted f b.was.key back) (before f) (behind f)
        ∙ now-granted f (whole b.was) refl

    own : (f : List ℕ) → is_some (tree.get more (f, b.was.key)) ≡ is_granted f b.was.key (half bs (i + 1))
    own f =
        turned.own own-was f ∙ sym (now-granted f b (keyed i d (omega arith)))
        ∙ sym (alone (is_granted f b.was.key front) (is_granted f b.was.key (session_now b)) (is_granted f b.was.key back) (before f) (behind f)) ∙ sym (new-is f b.was.key)

    exact : (f : List ℕ) (q : ℕ) → is_some (tree.get more (f, q)) ≡ is_granted f q (half bs (i + 1))
    exact f q = by (q == b.was.key) refl
      where
        by : (x : Bool) → (q == b.was.key) ≡ x → is_some (tree.get more (f, q)) ≡ is_granted f q (half bs (i + 1))
        by true e = subst (λ k. is_some (tree.get more (f, k)) ≡ is_granted f k (half bs (i + 1))) (sym (eqb-is q b.was.key e)) (own f)
        by false e =
            turned.others f q e ∙ old-is f q
            ∙ ap (λ x. is_granted f q front || (x || is_granted f q back)) (was-other f q b e ∙ sym (now-other f q b (keyed i d (omega arith)) e))
            ∙ sym (new-is f q)

    total : m ≡ size_of_all (half bs (i + 1))
    total =
        let was = ap size_of_all (half-here bs i d lt) ∙ size-among front (was_one b) back in
        let now = ap size_of_all (half-next bs i d lt) ∙ size-among front (session_now b) back in
        let one = now-size (whole b.was) in
        let two = now-size b in
        let given = h.total in
        let few = h.small in
        let change = size few (omega (arith, was, one, given)) in
        omega (arith, was, now, one, two, given, change)

-- none is turned yet, and all are
pub half-none : (bs : List Both) → map session_was bs ≡ half bs 0
half-none bs = sym (single-flat session_was bs)

-- ---- none is turned

alike-granted : (f : List ℕ) (k : ℕ) (bs : List Both) → ((i : ℕ) (d : Both) → i < length bs → IsAlike (get_or bs i d)) → is_granted f k (map session_was bs) ≡ is_granted f k (flat_map session_now bs)
alike-granted f k [] all = refl
alike-granted f k (b ∷ bs) all =
    let one = all zero b (omega arith) in
    ap (λ x. ((b.was.key == k) && has f b.was.grants) || x) (alike-granted f k bs (λ i d lt. all (suc i) d (omega (arith, lt))))
    ∙ ap (λ n. ((n == k) && has f b.was.grants) || is_granted f k (flat_map session_now bs)) (sym one.key)
    ∙ ap (λ (g : Table ℕ). ((one.by_now.key == k) && has f g) || is_granted f k (flat_map session_now bs)) (sym one.grants)
    ∙ ap (λ o. is_granted f k (option_list o ++ flat_map session_now bs)) (sym one.there)

alike-size : (bs : List Both) → ((i : ℕ) (d : Both) → i < length bs → IsAlike (get_or bs i d)) → size_of_all (map session_was bs) ≡ size_of_all (flat_map session_now bs)
alike-size [] all = refl
alike-size (b ∷ bs) all =
    let one = all zero b (omega arith) in
    let rest = alike-size bs (λ i d lt. all (suc i) d (omega (arith, lt))) in
    let was = sum-cons (λ (s : plain.Session). size_of_grants s.grants) b.was (map session_was bs) in
    let now : size_of_all (flat_map session_now (b ∷ bs)) ≡ size_of_all (session_now b) + size_of_all (flat_map session_now bs) = sum_by-append (λ (s : plain.Session). size_of_grants s.grants) (session_now b) (flat_map session_now bs) in
    let here = now-size b in
    let there : size_of_grants (standing_grants b.now) ≡ size_of_grants b.was.grants = ap (λ o. size_of_grants (standing_grants o)) one.there ∙ ap size_of_grants one.grants in
    omega (arith, rest, was, now, here, there)

pub alike-held : (i : Option Grants) (n : ℕ) (bs : List Both) → ((j : ℕ) (d : Both) → j < length bs → IsAlike (get_or bs j d)) → IsHeld i n (map session_was bs) → IsHeld i n (flat_map session_now bs)
alike-held None n bs all h = tt
alike-held (Some index) n bs all h = record { exact = λ f k. h.exact f k ∙ alike-granted f k bs all; total = h.total ∙ alike-size bs all; small = h.small }

whole-alike : (b : Both) → b ≡ whole b.was → IsAlike b
whole-alike b e = record { by_now = b.was; there = ap (λ (x : Both). x.now) e; key = refl; grants = refl }

pub touched-alike : (ps : List ℕ) (bs : List Both) → AreTouched ps bs → AreAlikeAt ps bs → (i : ℕ) (d : Both) → i < length bs → IsAlike (get_or bs i d)
touched-alike ps bs touched alike i d lt = by (is_place i ps) refl
  where
    by : (b : Bool) → is_place i ps ≡ b → IsAlike (get_or bs i d)
    by true e = let at = place-at i ps e in subst (λ j. IsAlike (get_or bs j d)) at.2 (alike at.0 d at.1)
    by false e = whole-alike (get_or bs i d) (touched.rest i d lt e)

-- ---- one alone is turned

-- those before it are as before the call
half-begin : (bs : List Both) (p : ℕ) → ((i : ℕ) (d : Both) → i < p → i < length bs → get_or bs i d ≡ whole (get_or bs i d).was) → half bs p ≡ map session_was bs
half-begin [] zero same = refl
half-begin [] (suc p) same = refl
half-begin (b ∷ bs) zero same = single-flat session_was (b ∷ bs)
half-begin (b ∷ bs) (suc p) same =
    ap (λ (x : Both). (session_now x ++ flat_map session_now (take p bs)) ++ flat_map was_one (drop p bs)) (same zero b (omega arith) (omega arith))
    ∙ ap (λ l. b.was ∷ l) (half-begin bs p (λ i d lt low. same (suc i) d (omega (arith, lt)) (omega (arith, low))))

-- those behind it too
rest-begin : (bs : List Both) → ((i : ℕ) (d : Both) → i < length bs → get_or bs i d ≡ whole (get_or bs i d).was) → flat_map was_one bs ≡ flat_map session_now bs
rest-begin [] same = refl
rest-begin (b ∷ bs) same =
    ap (λ l. b.was ∷ l) (rest-begin bs (λ i d low. same (suc i) d (omega (arith, low))))
    ∙ sym (ap (λ (x : Both). session_now x ++ flat_map session_now bs) (same zero b (omega arith)))

half-end : (bs : List Both) (p : ℕ) → p < length bs → ((i : ℕ) (d : Both) → p < i → i < length bs → get_or bs i d ≡ whole (get_or bs i d).was) → half bs (p + 1) ≡ flat_map session_now bs
half-end [] p low same = absurd (omega (arith, low))
half-end (b ∷ bs) zero low same =
    ap (λ l. l ++ flat_map was_one bs) (none (session_now b)) ∙ ap (λ l. session_now b ++ l) (rest-begin bs (λ i d lt. same (suc i) d (omega arith) (omega (arith, lt))))
  where
    none : {X : Type 0} (xs : List X) → xs ++ [] ≡ xs
    none [] = refl
    none (x ∷ xs) = ap (λ l. x ∷ l) (none xs)
half-end (b ∷ bs) (suc p) low same =
    let z : suc p + 1 ≡ suc (p + 1) = omega arith in
    ap (λ n. half (b ∷ bs) n) z ∙ join (session_now b) (flat_map session_now (take (p + 1) bs)) (flat_map was_one (drop (p + 1) bs))
    ∙ ap (λ l. session_now b ++ l) (half-end bs p (omega (arith, low)) (λ i d up lt. same (suc i) d (omega (arith, up)) (omega (arith, lt))))
  where
    join : {X : Type 0} (xs ys zs : List X) → (xs ++ ys) ++ zs ≡ xs ++ (ys ++ zs)
    join [] ys zs = refl
    join (x ∷ xs) ys zs = ap (λ l. x ∷ l) (join xs ys zs)

-- one that is as before the call has its number
whole-keyed : (b : Both) → b ≡ whole b.was → IsKeyed b
whole-keyed b e = subst IsKeyed (sym e) refl

elsewhere : (i p : ℕ) → (i ≡ p → ⊥) → is_place i (p ∷ []) ≡ false
elsewhere i p n = ap (λ b. b || false) (unequal p i (λ e. n (sym e)))

-- the session at this place alone was turned, or there is no index any more
pub one-held : (i : Option Grants) (index : Grants) (n m : ℕ) (bs : List Both) (p : ℕ) (b : Both) → AreTouched (p ∷ []) bs → p < length bs → b ≡ get_or bs p b → IsKeyed b
    → IfSome i (λ more. IsTurned index more b)
    → IfSome i (λ more. n ≤ 100000 → size_of_grants b.was.grants ≤ n → m + size_of_grants b.was.grants ≡ n + size_of_grants (standing_grants b.now))
    → IfSome i (λ more. n ≤ 100000 → m ≤ 100000) → AreOrdered bs → Holds index n (map session_was bs) → IsHeld i m (flat_map session_now bs)
one-held None index n m bs p b touched low at keyed turned size small o h = tt
one-held (Some more) index n m bs p b touched low at keyed turned size small o h =
    subst (Holds more m) (half-end bs p low (λ i d up lt. touched.rest i d lt (elsewhere i p (λ e. omega (arith, up, e)))))
    (half-step index more n m bs p b o low all
    (subst (λ (x : Both). IsTurned index more x) at turned)
    (subst (λ (x : Both). n ≤ 100000 → size_of_grants x.was.grants ≤ n → m + size_of_grants x.was.grants ≡ n + size_of_grants (standing_grants x.now)) at size)
    small (subst (Holds index n) (sym (half-begin bs p (λ i d less lt. touched.rest i d lt (elsewhere i p (λ e. omega (arith, less, e)))))) h))
  where
    all : (j : ℕ) (e : Both) → j ≤ p → IsKeyed (get_or bs j e)
    all j e le =
        ⊎_elim
        (λ lt. whole-keyed (get_or bs j e) (touched.rest j e (omega (arith, lt, low)) (elsewhere j p (λ f. omega (arith, lt, f)))))
        (λ ge. let one : p ≡ j = omega (arith, le, ge) in subst (λ k. IsKeyed (get_or bs k e)) one (subst IsKeyed (at ∙ same-read bs p b e low) keyed))
        (cases_lt j p)

-- ---- what follows once a call is settled

-- what of a session the index has
abbrev share : plain.Session → ℕ × Table ℕ
share s = (s.key, s.grants)

shared-granted : (f : List ℕ) (k : ℕ) (xs ys : List plain.Session) → map share xs ≡ map share ys → is_granted f k xs ≡ is_granted f k ys
shared-granted f k xs ys e = by-shares xs ∙ ap (list_any (λ (g : ℕ × Table ℕ). (g.0 == k) && has f g.1)) e ∙ sym (by-shares ys)
  where
    by-shares : (zs : List plain.Session) → is_granted f k zs ≡ list_any (λ (g : ℕ × Table ℕ). (g.0 == k) && has f g.1) (map share zs)
    by-shares [] = refl
    by-shares (z ∷ zs) = ap (λ b. ((z.key == k) && has f z.grants) || b) (by-shares zs)

shared-size : (xs ys : List plain.Session) → map share xs ≡ map share ys → size_of_all xs ≡ size_of_all ys
shared-size xs ys e = by-shares xs ∙ ap (sum_by (λ (g : ℕ × Table ℕ). size_of_grants g.1)) e ∙ sym (by-shares ys)
  where
    by-shares : (zs : List plain.Session) → size_of_all zs ≡ sum_by (λ (g : ℕ × Table ℕ). size_of_grants g.1) (map share zs)
    by-shares [] = refl
    by-shares (z ∷ zs) =
        let one = sum-cons (λ (s : plain.Session). size_of_grants s.grants) z zs in
        let two = sum-cons (λ (g : ℕ × Table ℕ). size_of_grants g.1) (share z) (map share zs) in
        let rest = by-shares zs in
        omega (arith, one, two, rest)

shared-held : (i : Option Grants) (n : ℕ) (xs ys : List plain.Session) → map share xs ≡ map share ys → IsHeld i n xs → IsHeld i n ys
shared-held None n xs ys e h = tt
shared-held (Some index) n xs ys e h = record { exact = λ f k. h.exact f k ∙ shared-granted f k xs ys e; total = h.total ∙ shared-size xs ys e; small = h.small }

-- a session without grants
bare-held : (i : Option Grants) (n : ℕ) (ss : List plain.Session) (s : plain.Session) → s.grants ≡ [] → IsHeld i n ss → IsHeld i n (ss ++ s ∷ [])
bare-held None n ss s bare h = tt
bare-held (Some index) n ss s bare h = record {
  exact = λ f k. h.exact f k ∙ sym (list_any-append (λ (x : plain.Session). (x.key == k) && has f x.grants) ss (s ∷ [])
      ∙ ap (λ b. is_granted f k ss || b) (ap (λ (g : Table ℕ). ((s.key == k) && has f g) || false) bare ∙ none (s.key == k)) ∙ same (is_granted f k ss));
  total = let parts = sum_by-append (λ (x : plain.Session). size_of_grants x.grants) ss (s ∷ []) in
      let one = sum-cons (λ (x : plain.Session). size_of_grants x.grants) s [] in
      let zero_of : size_of_all [] ≡ 0 = refl in
      let bare_of : size_of_grants s.grants ≡ 0 = ap size_of_grants bare in
      let given = h.total in
      omega (arith, parts, one, zero_of, bare_of, given);
  small = h.small;
}
  where
    none : (a : Bool) → (a && false) || false ≡ false
    none true = refl
    none false = refl

    same : (a : Bool) → a || false ≡ a
    same true = refl
    same false = refl

found-above : (p : plain.Session → Bool) (ss : List plain.Session) (s : plain.Session) (low top : ℕ) → Rises low top ss → find p ss ≡ Some s → low < s.key
found-above p [] s low top r e = absurd (none e)
  where
    none : {Y : Type 0} {y : Y} → None ≡ Some y → ⊥
    none e = cc
found-above p (x ∷ xs) s low top r e = by (p x) e (λ h. found-above p xs s x.key top r.1 h)
  where
    by : (b : Bool) → cond b (Some x) (find p xs) ≡ Some s → (find p xs ≡ Some s → x.key < s.key) → low < s.key
    by true h rest = let same : x ≡ s = cc in subst (λ (y : plain.Session). low < y.key) same r.0
    by false h rest = let up = rest h in let here : low < x.key = r.0 in omega (arith, up, here)

-- the one that was found is changed, but for its number and its grants
swap-shared : (p : plain.Session → Bool) (x s : plain.Session) (ss : List plain.Session) (low top : ℕ) → Rises low top ss → find p ss ≡ Some s → share x ≡ share s
    → map share (swap s.key (x ∷ []) ss) ≡ map share ss
swap-shared p x s [] low top r e same = refl
swap-shared p x s (y ∷ ys) low top r e same = by (p y) e (λ h. swap-shared p x s ys y.key top r.1 h same)
  where
    by : (b : Bool) → cond b (Some y) (find p ys) ≡ Some s → (find p ys ≡ Some s → map share (swap s.key (x ∷ []) ys) ≡ map share ys)
        → map share (swap s.key (x ∷ []) (y ∷ ys)) ≡ map share (y ∷ ys)
    by true h rest =
        let is : y ≡ s = cc in
        let key : y.key ≡ s.key = ap (λ (z : plain.Session). z.key) is in
        ap (λ b. map share (cond b (x ∷ []) (y ∷ []) ++ swap s.key (x ∷ []) ys)) (eq-eqb y.key s.key key)
        ∙ ap (λ l. share x ∷ map share l) (swap-past ys y.key top s.key (x ∷ []) r.1 (omega (arith, key)))
        ∙ ap (λ g. g ∷ map share ys) (same ∙ ap share (sym is))
    by false h rest =
        let up = found-above p ys s y.key top r.1 h in
        ap (λ b. map share (cond b (x ∷ []) (y ∷ []) ++ swap s.key (x ∷ []) ys)) (unequal y.key s.key (λ f. omega (arith, up, f)))
        ∙ ap (λ l. share y ∷ l) (rest h)

pub acked-held : (o : Option plain.Session) (conn id : ℕ) (b : plain.Broker) (i : Option Grants) (n : ℕ) → session_by conn b.sessions ≡ o → IsLawful b → IsHeld i n b.sessions → IsHeld i n (ack_at o id (begun b)).broker.sessions
acked-held None conn id b i n is lawful h = h
acked-held (Some s) conn id b i n is lawful h =
    shared-held i n b.sessions (swap s.key ((record s { used = without id s.used; in_flight = without_id id s.in_flight }) ∷ []) b.sessions)
    (sym (swap-shared (sits conn) (record s { used = without id s.used; in_flight = without_id id s.in_flight }) s b.sessions 0 b.made lawful.keys is refl)) h

back-held : (o : Option plain.Session) (client : List ℕ) (connection : plain.Connection) (b : plain.Broker) (i : Option Grants) (n : ℕ) → find (is_away client) b.sessions ≡ o → IsLawful b → IsHeld i n b.sessions
    → IsHeld i n (changed_at o (taken_up connection) b.sessions)
back-held None client connection b i n is lawful h = h
back-held (Some s) client connection b i n is lawful h =
    shared-held i n b.sessions (swap s.key (taken_up connection s ∷ []) b.sessions) (sym (swap-shared (is_away client) (taken_up connection s) s b.sessions 0 b.made lawful.keys is refl)) h

pub entered-held : (e : Entry) (b : plain.Broker) (i : Option Grants) (n : ℕ) → IsLawful b → IsHeld i n b.sessions → IsHeld i n (entered e b).sessions
entered-held (Made key client kept connection ids) b i n lawful h = bare-held i n b.sessions (new_session key (string_bytes client) kept (connection_now connection)) refl h
entered-held (Back client connection) b i n lawful h = back-held (find (is_away (string_bytes client)) b.sessions) (string_bytes client) (connection_now connection) b i n refl lawful h
