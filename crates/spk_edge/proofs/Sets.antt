-- Several changes: which of them set something, and the registry behind them.
use Rattle.std.proofs.Common.{◌≡◌, ◌∙◌, ap, sym, refl, subst, ℕ, zero, suc, ◌+◌, ◌<◌, ◌≤◌, Bool, true, false, cond, List, [], ◌∷◌, ◌++◌, length, map, take, drop, Option, Some, None, arith}
use Rattle.std.specs.Prelude.{◌==◌, All, get_or, slice_get, if◌then◌else◌}
use Rattle.std.specs.List.{flat_map}
use Rattle.std.specs.Option.{option_map, option_map_or}
use Rattle.std.proofs.lemmas.List.{flat_map_more, take_all, take_more, map_push}
use Rattle.std.proofs.lemmas.List.Elements.{All-push}
use Rattle.spk_payload.specs.Meaning.{MetricData}
use Rattle.spk_payload.specs.Spelling.{MetricFits}
use Rattle.spk_payload.specs.Typing.{Typed}
use Rattle.spk_payload.specs.declared.typing.Value.{Value}
use Rattle.spk_device.specs.Book.{Book, GaugeData, gauge_at}
use Rattle.spk_device.specs.Calls.{unless_refused}
use Rattle.spk_device.specs.Step.{set_refusal, with_value}
use Rattle.spk_device.specs.Values.{value_eq}
use Rattle.spk_device.specs.declared.fault.Refusal.{Refusal}
use Rattle.spk_device.specs.declared.owner.Owner.{Owner}
use Rattle.spk_edge_rules.specs.declared.fault.EdgeFault.{EdgeFault}
use Rattle.spk_edge_rules.specs.Births.{data_metric}
use Rattle.spk_edge_rules.specs.Inputs.{ChangeData}
use Rattle.spk_edge_rules.specs.Rules.{change_fault, first_fault, is_same_value, others_in, with_values}
use Rattle.spk_edge_rules.specs.Run.{last_in}
use Rattle.spk_edge_rules.proofs.Several.{first-stays, gauge-set, head-of}
use Rattle.spk_store.specs.Step.{after_push}
use Rattle.spk_store.specs.declared.change.Change.{Change}
use Rattle.spk_edge.specs.Changing.{change_at, with_book, with_store}
use Rattle.spk_edge.specs.Patch.{setting_book}
use Rattle.spk_edge.specs.View.{NodeData, change_view}
use Rattle.spk_edge.specs.declared.plan.Setting.TheVariants.{Value as Valued}
use Rattle.spk_edge.specs.Rows.{spelled}
use Rattle.spk_edge.specs.Several.{all_at, pair_view, pairs, push_each, rows, set_each}
use Rattle.spk_edge.proofs.Still.{same-book}

-- ---- one change more

pub values-more : (b : Book) (xs : List (ℕ × Option Typed)) (x : ℕ × Option Typed) → with_values b (xs ++ x ∷ []) ≡ with_value (with_values b xs) x.0 x.1
values-more b [] x = refl
values-more b (y ∷ ys) x = values-more (with_value b y.0 y.1) ys x

pub others-more : (b : Book) (xs : List (ℕ × Option Typed)) (x : ℕ × Option Typed)
    → others_in b (xs ++ x ∷ []) ≡ others_in b xs ++ cond (is_same_value (with_values b xs) x.0 x.1) [] (x ∷ [])
others-more b [] x = refl
others-more b (y ∷ ys) x = by (is_same_value b y.0 y.1) (others-more (with_value b y.0 y.1) ys x)
  where
    by : (same : Bool) → others_in (with_value b y.0 y.1) (ys ++ x ∷ []) ≡ others_in (with_value b y.0 y.1) ys ++ cond (is_same_value (with_values (with_value b y.0 y.1) ys) x.0 x.1) [] (x ∷ [])
        → cond same (others_in (with_value b y.0 y.1) (ys ++ x ∷ [])) (y ∷ others_in (with_value b y.0 y.1) (ys ++ x ∷ []))
        ≡ cond same (others_in (with_value b y.0 y.1) ys) (y ∷ others_in (with_value b y.0 y.1) ys) ++ cond (is_same_value (with_values (with_value b y.0 y.1) ys) x.0 x.1) [] (x ∷ [])
    by true rest = rest
    by false rest = ap (λ (l : List (ℕ × Option Typed)). y ∷ l) rest

-- those behind the first one that set something
abbrev rest_of : Book → ℕ × Option Typed → List (ℕ × Option Typed) → List (ℕ × Option Typed)
rest_of b x xs = others_in (with_value b x.0 x.1) xs

-- the registry behind those that set something is the one behind all
pub values-others : (b : Book) (xs : List (ℕ × Option Typed)) → with_values b (others_in b xs) ≡ with_values b xs
values-others b [] = refl
values-others b (x ∷ xs) = by (is_same_value b x.0 x.1) refl (values-others (with_value b x.0 x.1) xs)
  where
    by : (same : Bool) → is_same_value b x.0 x.1 ≡ same → with_values (with_value b x.0 x.1) (rest_of b x xs) ≡ with_values (with_value b x.0 x.1) xs
        → with_values b (cond same (rest_of b x xs) (x ∷ rest_of b x xs)) ≡ with_values (with_value b x.0 x.1) xs
    by true e more = ap (λ (c : Book). with_values c (rest_of b x xs)) (sym (same-book b x.0 x.1 e)) ∙ more
    by false e more = more

-- the value of an alias behind changes is the last one of it, or else the one before
pub same-behind : (b : Book) (ys : List (ℕ × Option Typed)) (alias : ℕ) (v : Option Typed)
    → is_same_value (with_values b ys) alias v ≡ option_map_or (λ (g : GaugeData). value_eq (last_in ys alias g.value) v) (gauge_at b alias) false
same-behind b [] alias v = refl
same-behind b (y ∷ ys) alias v =
    same-behind (with_value b y.0 y.1) ys alias v
    ∙ ap (λ (o : Option GaugeData). option_map_or (λ (g : GaugeData). value_eq (last_in ys alias g.value) v) o false) (gauge-set b y.0 y.1 alias)
    ∙ by (gauge_at b alias)
  where
    pick : (t : Bool) (g : GaugeData) → value_eq (last_in ys alias (if t then record g { value = y.1 } else g).value) v ≡ value_eq (last_in ys alias (if t then y.1 else g.value)) v
    pick true g = refl
    pick false g = refl

    by : (o : Option GaugeData)
        → option_map_or (λ (g : GaugeData). value_eq (last_in ys alias g.value) v) (option_map (λ (g : GaugeData). if alias == y.0 then record g { value = y.1 } else g) o) false
        ≡ option_map_or (λ (g : GaugeData). value_eq (last_in (y ∷ ys) alias g.value) v) o false
    by None = refl
    by (Some g) = pick (alias == y.0) g

-- one change more, for the last value of an alias
pub last-more : (ys : List (ℕ × Option Typed)) (y : ℕ × Option Typed) (alias : ℕ) (before : Option Typed)
    → last_in (ys ++ y ∷ []) alias before ≡ (if alias == y.0 then y.1 else last_in ys alias before)
last-more [] y alias before = refl
last-more (x ∷ xs) y alias before = last-more xs y alias (if alias == x.0 then x.1 else before)

-- ---- by places

pub pairs-more : (xs : List (ℕ × Option Value)) (i : ℕ) (x : ℕ × Option Value) → i < length xs → x ≡ get_or xs i x → pairs (take (i + 1) xs) ≡ pairs (take i xs) ++ pair_view x ∷ []
pairs-more xs i x lt is = ap pairs (take_more xs i x lt) ∙ map_push pair_view (take i xs) (get_or xs i x) ∙ ap (λ (y : ℕ × Option Value). pairs (take i xs) ++ pair_view y ∷ []) (sym is)

pub pairs-all : (xs : List (ℕ × Option Value)) (i : ℕ) → length xs ≤ i → pairs (take i xs) ≡ pairs xs
pairs-all xs i past = ap pairs (take_all i xs past)

-- ---- what is set

-- none is refused, so each is set
pub set-others : (b : Book) (owner : Owner) (k : ℕ) (xs : List (ℕ × Option Typed)) → first_fault b owner k xs ≡ None → set_each b (others_in b xs) ≡ with_values b xs
set-others b owner k [] none = refl
set-others b owner k (x ∷ xs) none =
    let head = head-of b owner k x xs none in
    by (is_same_value b x.0 x.1) refl head.accepted (set-others (with_value b x.0 x.1) owner (k + 1) xs (first-stays b x.0 x.1 owner (k + 1) xs ∙ head.rest))
  where
    by : (same : Bool) → is_same_value b x.0 x.1 ≡ same → set_refusal b x.0 x.1 ≡ None → set_each (with_value b x.0 x.1) (rest_of b x xs) ≡ with_values (with_value b x.0 x.1) xs
        → set_each b (cond same (rest_of b x xs) (x ∷ rest_of b x xs)) ≡ with_values (with_value b x.0 x.1) xs
    by true e accepted more = ap (λ (c : Book). set_each c (rest_of b x xs)) (sym (same-book b x.0 x.1 e)) ∙ more
    by false e accepted more = ap (λ (r : Option Refusal). set_each (unless_refused r (with_value b x.0 x.1) b) (rest_of b x xs)) accepted ∙ more

-- ---- the first one that is refused

-- none of those before a place is
pub none-before : (b : Book) (owner : Owner) (xs : List (ℕ × Option Typed)) (n i : ℕ) → length xs ≤ i → first_fault b owner (n + i) (drop i xs) ≡ None
none-before b owner [] n zero past = refl
none-before b owner [] n (suc i) past = refl
none-before b owner (x ∷ xs) n zero past = absurd (omega (arith, past))
none-before b owner (x ∷ xs) n (suc i) past =
    let e : n + suc i ≡ n + 1 + i = omega arith in
    ap (λ m. first_fault b owner m (drop i xs)) e ∙ none-before b owner xs (n + 1) i (omega (arith, past))

-- from a place on: the one there, or else one behind it
pub fault-from : (b : Book) (owner : Owner) (xs : List (ℕ × Option Typed)) (n i : ℕ) (x : ℕ × Option Typed) → slice_get xs i ≡ Some x
    → first_fault b owner (n + i) (drop i xs) ≡ option_map_or (λ (f : EdgeFault). let e : Option (ℕ × EdgeFault) = Some (n + i, f) in e) (change_fault b owner x) (first_fault b owner (n + i + 1) (drop (i + 1) xs))
fault-from b owner [] n i x there = absurd (let z : ⊥ = cc in z)
fault-from b owner (y ∷ xs) n zero x there =
    let same : y ≡ x = cc in
    ap (λ (z : ℕ × Option Typed). option_map_or (λ (f : EdgeFault). let e : Option (ℕ × EdgeFault) = Some (n + 0, f) in e) (change_fault b owner z) (first_fault b owner (n + 0 + 1) xs)) same
fault-from b owner (y ∷ xs) n (suc i) x there =
    let z : n + suc i ≡ n + 1 + i = omega arith in
    let w : suc i + 1 ≡ suc (i + 1) = omega arith in
    ap (λ m. first_fault b owner m (drop i xs)) z
    ∙ fault-from b owner xs (n + 1) i x there
    ∙ ap (λ m. option_map_or (λ (f : EdgeFault). let e : Option (ℕ × EdgeFault) = Some (m, f) in e) (change_fault b owner x) (first_fault b owner (m + 1) (drop (i + 1) xs))) (sym z)
    ∙ ap (λ k. option_map_or (λ (f : EdgeFault). let e : Option (ℕ × EdgeFault) = Some (n + suc i, f) in e) (change_fault b owner x) (first_fault b owner (n + suc i + 1) (drop k (y ∷ xs)))) (sym w)

-- ---- one metric more

pub rows-more : (b : Book) (stamp : ℕ) (xs : List (ℕ × Option Typed)) (x : ℕ × Option Typed) → rows b stamp (xs ++ x ∷ []) ≡ rows b stamp xs ++ data_metric b x.0 stamp None x.1 ∷ []
rows-more b stamp xs x = map_push (λ (x : ℕ × Option Typed). data_metric b x.0 stamp None x.1) xs x

pub put-more : (b : Book) (stamp : ℕ) (old out new : List ℕ) (all xs : List (ℕ × Option Typed)) (x : ℕ × Option Typed) → all ≡ xs ++ x ∷ [] → out ≡ old ++ flat_map spelled (rows b stamp xs)
    → new ≡ out ++ spelled (data_metric b x.0 stamp None x.1) → new ≡ old ++ flat_map spelled (rows b stamp all)
put-more b stamp old out new all xs x is so_far one =
    one ∙ ap (λ (l : List ℕ). l ++ spelled (data_metric b x.0 stamp None x.1)) so_far
    ∙ flat_map_more spelled old (rows b stamp xs) (data_metric b x.0 stamp None x.1)
    ∙ ap (λ (ms : List MetricData). old ++ flat_map spelled ms) (sym (ap (rows b stamp) is ∙ rows-more b stamp xs x))

pub fit-more : (b : Book) (stamp : ℕ) (all xs : List (ℕ × Option Typed)) (x : ℕ × Option Typed) → all ≡ xs ++ x ∷ [] → All MetricFits (rows b stamp xs)
    → MetricFits (data_metric b x.0 stamp None x.1) → All MetricFits (rows b stamp all)
fit-more b stamp all xs x is so_far one =
    subst (All MetricFits) (sym (ap (rows b stamp) is ∙ rows-more b stamp xs x)) (All-push MetricFits (rows b stamp xs) (data_metric b x.0 stamp None x.1) so_far one)

pub kept-more : (b : Book) (now : ℕ) (kept new : List ChangeData) (all xs : List (ℕ × Option Typed)) (x : ℕ × Option Typed) → all ≡ xs ++ x ∷ [] → kept ≡ all_at b now xs
    → new ≡ kept ++ change_at b now x.0 x.1 ∷ [] → new ≡ all_at b now all
kept-more b now kept new all xs x is so_far one =
    one ∙ ap (λ (l : List ChangeData). l ++ change_at b now x.0 x.1 ∷ []) so_far
    ∙ sym (map_push (λ (x : ℕ × Option Typed). change_at b now x.0 x.1) xs x) ∙ ap (all_at b now) (sym is)

-- ---- one change more that sets something, or that doesn't

pub other-more : (b : Book) (others new : List (ℕ × Option Typed)) (all xs : List (ℕ × Option Typed)) (x : ℕ × Option Typed) (same : Bool) → all ≡ xs ++ x ∷ [] → others ≡ others_in b xs
    → same ≡ is_same_value (with_values b others) x.0 x.1 → new ≡ others ++ cond same [] (x ∷ []) → new ≡ others_in b all
other-more b others new all xs x same is so_far test one =
    one ∙ ap (λ (l : List (ℕ × Option Typed)). l ++ cond same [] (x ∷ [])) so_far
    ∙ ap (λ t. others_in b xs ++ cond t [] (x ∷ []))
    (test ∙ ap (λ (l : List (ℕ × Option Typed)). is_same_value (with_values b l) x.0 x.1) so_far ∙ ap (λ (b : Book). is_same_value b x.0 x.1) (values-others b xs))
    ∙ sym (others-more b xs x) ∙ ap (others_in b) (sym is)

-- the value is the last one of the alias so far
pub last-same : (ys all : List (ℕ × Option Typed)) (y : ℕ × Option Typed) (alias : ℕ) (before v : Option Typed) (same now : Bool) → all ≡ ys ++ y ∷ [] → same ≡ value_eq (last_in ys alias before) v
    → now ≡ (if alias == y.0 then value_eq y.1 v else same) → now ≡ value_eq (last_in all alias before) v
last-same ys all y alias before v same now is so_far one =
    one ∙ by (alias == y.0) ∙ ap (λ w. value_eq w v) (sym (ap (λ (l : List (ℕ × Option Typed)). last_in l alias before) is ∙ last-more ys y alias before))
  where
    by : (t : Bool) → (if t then value_eq y.1 v else same) ≡ value_eq (if t then y.1 else last_in ys alias before) v
    by true = refl
    by false = so_far

-- ---- one after the other, from the front

pub nothing-left : {X : Type 0} (xs : List X) → length xs ≡ 0 → xs ≡ []
nothing-left [] e = refl
nothing-left (x ∷ xs) e = absurd (omega arith)

pub set-on : (n next all : NodeData) (alias : ℕ) (value : Option Value) (left rest : List (ℕ × Option Value))
    → next ≡ with_book n (setting_book n.standing.asked.book (Valued alias value)) → left ≡ (alias, value) ∷ rest
    → with_book n (set_each n.standing.asked.book (pairs left)) ≡ all → with_book next (set_each next.standing.asked.book (pairs rest)) ≡ all
set-on n next all alias value left rest set parts is =
    ap (λ (m : NodeData). with_book m (set_each m.standing.asked.book (pairs rest))) set
    ∙ ap (λ (l : List (ℕ × Option Value)). with_book n (set_each n.standing.asked.book (pairs l))) (sym parts) ∙ is

pub keep-on : (n next all : NodeData) (x : Change) (left rest : List Change) → next ≡ with_store n (after_push n.standing.asked.store (change_view x)) → left ≡ x ∷ rest
    → with_store n (push_each n.standing.asked.store (map change_view left)) ≡ all → with_store next (push_each next.standing.asked.store (map change_view rest)) ≡ all
keep-on n next all x left rest pushed parts is =
    ap (λ (m : NodeData). with_store m (push_each m.standing.asked.store (map change_view rest))) pushed
    ∙ ap (λ (l : List Change). with_store n (push_each n.standing.asked.store (map change_view l))) (sym parts) ∙ is

-- ---- the change at a place

pub at-pair : (xs : List (ℕ × Option Value)) (i : ℕ) (x : ℕ × Option Value) → i < length xs → x ≡ get_or xs i x → slice_get (pairs xs) i ≡ Some (pair_view x)
at-pair [] i x lt is = absurd (omega (arith, lt))
at-pair (y ∷ ys) zero x lt is = ap (λ (z : ℕ × Option Value). let o : Option (ℕ × Option Typed) = Some (pair_view z) in o) (sym is)
at-pair (y ∷ ys) (suc i) x lt is = at-pair ys i x (omega (arith, lt)) is

pub fault-more : (b : Book) (owner : Owner) (xs : List (ℕ × Option Typed)) (i : ℕ) (x : ℕ × Option Typed) (all : Option (ℕ × EdgeFault)) → slice_get xs i ≡ Some x
    → change_fault b owner x ≡ None → first_fault b owner (0 + i) (drop i xs) ≡ all → first_fault b owner (0 + (i + 1)) (drop (i + 1) xs) ≡ all
fault-more b owner xs i x all there none so_far =
    let e : 0 + (i + 1) ≡ 0 + i + 1 = omega arith in
    ap (λ n. first_fault b owner n (drop (i + 1) xs)) e
    ∙ sym (ap (λ o. option_map_or (λ (f : EdgeFault). let e : Option (ℕ × EdgeFault) = Some (0 + i, f) in e) o (first_fault b owner (0 + i + 1) (drop (i + 1) xs))) none)
    ∙ sym (fault-from b owner xs 0 i x there) ∙ so_far

pub fault-here : (b : Book) (owner : Owner) (xs : List (ℕ × Option Typed)) (i : ℕ) (x : ℕ × Option Typed) (f : EdgeFault) (all : Option (ℕ × EdgeFault)) → slice_get xs i ≡ Some x
    → change_fault b owner x ≡ Some f → first_fault b owner (0 + i) (drop i xs) ≡ all → Some (i, f) ≡ all
fault-here b owner xs i x f all there some so_far =
    let e : i ≡ 0 + i = omega arith in
    ap (λ n. let o : Option (ℕ × EdgeFault) = Some (n, f) in o) e
    ∙ sym (ap (λ o. option_map_or (λ (f : EdgeFault). let e : Option (ℕ × EdgeFault) = Some (0 + i, f) in e) o (first_fault b owner (0 + i + 1) (drop (i + 1) xs))) some)
    ∙ sym (fault-from b owner xs 0 i x there) ∙ so_far

pub fault-none : (b : Book) (owner : Owner) (xs : List (ℕ × Option Typed)) (i : ℕ) (all : Option (ℕ × EdgeFault)) → length xs ≤ i → first_fault b owner (0 + i) (drop i xs) ≡ all → None ≡ all
fault-none b owner xs i all past so_far = sym (none-before b owner xs 0 i past) ∙ so_far
