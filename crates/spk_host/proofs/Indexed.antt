-- From names to places: one more name in an index, and what an index leads to.
use Rattle.std.proofs.Common.{◌≡◌, ◌⊎◌, inl, inr, ◌∙◌, sym, ap, refl, ℕ, zero, suc, ◌<◌, Bool, true, false, cond, List, [], ◌∷◌, ◌++◌, map, length, set, take, drop, get_or, Option, Some, None, arith}
use Rattle.std.specs.List.{position, position_from}
use Rattle.std.proofs.lemmas.Iterator.Adapters.{position_from-zero}
use Rattle.std.specs.Option.{option_or}
use Rattle.std.specs.Prelude.{◌+◌, ◌&&◌, slice_get, Result, Ok, Err, OnOk, OnErr}
use Rattle.std.specs.Str.{bytes_eq}
use Rattle.std.proofs.lemmas.Slice.Eq.{bytes_eq-Decides}
use Rattle.std.proofs.lemmas.List.{append-nil, drop_all, length-map, length_push, map-append, take_all}
use Rattle.std.proofs.Math.Seq.{map-set_same}
use Rattle.spk_names.specs.Names.{number_in}
use Rattle.spk_host.specs.Data.{Entry}
use Rattle.spk_host.specs.Index.{IndexData, IsIndexed, IsLeading, in_group, in_table, is_named, names_of, place_in}
use Rattle.spk_host.specs.Inputs.{is_same}
use Rattle.spk_host.specs.Nodes.{is_of}
use Rattle.spk_host.proofs.Kept.{names_are}
use Rattle.spk_host.proofs.Mapped.{same-some}

none≢some : {X : Type 0} {x : X} → None ≡ Some x → ⊥
none≢some h = cc

-- ---- lists

set-there : {X : Type 0} (xs : List X) (n : ℕ) (y x : X) → slice_get xs n ≡ Some x → slice_get (set xs n y) n ≡ Some y
set-there [] n y x h = absurd (none≢some h)
set-there (z ∷ xs) zero y x h = refl
set-there (z ∷ xs) (suc n) y x h = set-there xs n y x h

set-other : {X : Type 0} (xs : List X) (n : ℕ) (y : X) (m : ℕ) → (m ≡ n → ⊥) → slice_get (set xs n y) m ≡ slice_get xs m
set-other [] n y m off = refl
set-other (z ∷ xs) zero y zero off = absurd (off refl)
set-other (z ∷ xs) zero y (suc m) off = refl
set-other (z ∷ xs) (suc n) y zero off = refl
set-other (z ∷ xs) (suc n) y (suc m) off = set-other xs n y m (λ e. off (ap suc e))

append-old : {X : Type 0} (xs : List X) (y : X) (m : ℕ) → m < length xs → slice_get (xs ++ y ∷ []) m ≡ slice_get xs m
append-old [] y m low = absurd (omega arith)
append-old (z ∷ xs) y zero low = refl
append-old (z ∷ xs) y (suc m) low = append-old xs y m (omega arith)

append-new : {X : Type 0} (xs : List X) (y : X) → slice_get (xs ++ y ∷ []) (length xs) ≡ Some y
append-new [] y = refl
append-new (z ∷ xs) y = append-new xs y

-- ---- names

same-name : (a b : List ℕ) → bytes_eq a b ≡ true → a ≡ b
same-name a b h = (bytes_eq-Decides a b).0 h

name-itself : (a b : List ℕ) → a ≡ b → bytes_eq a b ≡ true
name-itself a b h = (bytes_eq-Decides a b).1 h

true-not : {b : Bool} → b ≡ true → b ≡ false → ⊥
true-not h k = cc

or-none : (o : Option ℕ) → option_or o None ≡ o
or-none None = refl
or-none (Some n) = refl

-- a name is looked up by its text
number-by : (names : List (List ℕ × ℕ)) (a b : List ℕ) → bytes_eq a b ≡ true → number_in names a ≡ number_in names b
number-by names a b h = ap (number_in names) (same-name a b h)

-- ---- a name more in a table that is there

abbrev index_of : List (List ℕ × ℕ) → List (List (List ℕ × ℕ)) → IndexData
index_of groups tables = record { groups = groups; tables = tables }

-- where it leads, by the number of the group
pub at_number : (tables : List (List (List ℕ × ℕ))) (k : ℕ) (names : List (List ℕ × ℕ)) (node : List ℕ) → slice_get tables k ≡ Some names →
    in_group tables (Some k) node ≡ number_in names node
at_number tables k names node there = ap (λ o. in_table o node) there

one_more : (names new : List (List ℕ × ℕ)) (node n : List ℕ) (place : ℕ) → number_in names node ≡ None →
    number_in new n ≡ option_or (number_in names n) (cond (bytes_eq n node) (Some place) None) →
    number_in new n ≡ cond (bytes_eq n node) (Some place) (number_in names n)
one_more names new node n place absent is = is ∙ by (bytes_eq n node) refl
  where
    by : (b : Bool) → bytes_eq n node ≡ b → option_or (number_in names n) (cond b (Some place) None) ≡ cond b (Some place) (number_in names n)
    by true same = ap (λ o. option_or o (Some place)) (number-by names n node same ∙ absent)
    by false same = or-none (number_in names n)

-- each group still has its own
pub leading-there : (groups : List (List ℕ × ℕ)) (tables new : List (List (List ℕ × ℕ))) → IsLeading groups tables →
    length new ≡ length tables → IsLeading groups new
leading-there groups tables new lead count = record {
  low = λ g k at. omega (arith, lead.low g k at, count);
  apart = lead.apart;
}

pub entered-there : (groups : List (List ℕ × ℕ)) (tables : List (List (List ℕ × ℕ))) → IsLeading groups tables →
    (group node : List ℕ) (k place : ℕ) (names new : List (List ℕ × ℕ)) →
    number_in groups group ≡ Some k → slice_get tables k ≡ Some names → number_in names node ≡ None →
    ((n : List ℕ) → number_in new n ≡ option_or (number_in names n) (cond (bytes_eq n node) (Some place) None)) → (g n : List ℕ) →
    in_group (set tables k new) (number_in groups g) n ≡ cond (is_same g n group node) (Some place) (in_group tables (number_in groups g) n)
entered-there groups tables lead group node k place names new is there absent more g n =
    by (number_in groups g) refl (bytes_eq g group) refl
  where
    by : (o : Option ℕ) → number_in groups g ≡ o → (b : Bool) → bytes_eq g group ≡ b →
        in_group (set tables k new) o n ≡ cond (b && bytes_eq n node) (Some place) (in_group tables o n)
    by None at true same = absurd (none≢some (sym at ∙ number-by groups g group same ∙ is))
    by None at false same = refl
    by (Some j) at true same =
        let here : j ≡ k = same-some (sym at ∙ number-by groups g group same ∙ is) in
        ap (λ i. in_group (set tables k new) (Some i) n) here
        ∙ at_number (set tables k new) k new n (set-there tables k new names there)
        ∙ one_more names new node n place absent (more n)
        ∙ ap (cond (bytes_eq n node) (Some place)) (sym (at_number tables k names n there) ∙ ap (λ i. in_group tables (Some i) n) (sym here))
    by (Some j) at false same =
        ap (λ o. in_table o n) (set-other tables k new j
        (λ e. true-not (name-itself g group (lead.apart g group k (at ∙ ap Some e) is)) same))

-- ---- a table more

abbrev with_one : List (List (List ℕ × ℕ)) → List ℕ → ℕ → List (List (List ℕ × ℕ))
with_one tables node place = tables ++ ((node, place) ∷ []) ∷ []

pub entered-first : (groups more : List (List ℕ × ℕ)) (tables : List (List (List ℕ × ℕ))) → IsLeading groups tables →
    (group node : List ℕ) (place : ℕ) → number_in groups group ≡ None →
    ((g : List ℕ) → number_in more g ≡ option_or (number_in groups g) (cond (bytes_eq g group) (Some (length tables)) None)) →
    (g n : List ℕ) →
    in_group (with_one tables node place) (number_in more g) n
    ≡ cond (is_same g n group node) (Some place) (in_group tables (number_in groups g) n)
entered-first groups more tables lead group node place absent is g n =
    ap (λ o. in_group (with_one tables node place) o n) (is g) ∙ by (number_in groups g) refl (bytes_eq g group) refl
  where
    by : (o : Option ℕ) → number_in groups g ≡ o → (b : Bool) → bytes_eq g group ≡ b →
        in_group (with_one tables node place) (option_or o (cond b (Some (length tables)) None)) n
        ≡ cond (b && bytes_eq n node) (Some place) (in_group tables o n)
    by (Some j) at true same = absurd (none≢some (sym absent ∙ sym (number-by groups g group same) ∙ at))
    by (Some j) at false same = ap (λ o. in_table o n) (append-old tables ((node, place) ∷ []) j (lead.low g j at))
    by None at true same = at_number (with_one tables node place) (length tables) ((node, place) ∷ []) n (append-new tables ((node, place) ∷ []))
    by None at false same = refl

pub leading-first : (groups more : List (List ℕ × ℕ)) (tables : List (List (List ℕ × ℕ))) (names : List (List ℕ × ℕ)) →
    IsLeading groups tables → (group : List ℕ) → number_in groups group ≡ None →
    ((g : List ℕ) → number_in more g ≡ option_or (number_in groups g) (cond (bytes_eq g group) (Some (length tables)) None)) →
    IsLeading more (tables ++ names ∷ [])
leading-first groups more tables names lead group absent is = record {
  low = λ g k at. let h = which g k at in low g k h;
  apart = λ g h k at there. apart g h k (which g k at) (which h k there);
}
  where
    Which : List ℕ → ℕ → Type 0
    Which g k = (number_in groups g ≡ Some k) ⊎ ((g ≡ group) × (k ≡ length tables))

    which : (g : List ℕ) (k : ℕ) → number_in more g ≡ Some k → Which g k
    which g k at = by (number_in groups g) refl (bytes_eq g group) refl (sym (is g) ∙ at)
      where
        by : (o : Option ℕ) → number_in groups g ≡ o → (b : Bool) → bytes_eq g group ≡ b →
            option_or o (cond b (Some (length tables)) None) ≡ Some k → Which g k
        by (Some j) is b same h = inl (is ∙ h)
        by None is true same h = inr (same-name g group same, same-some (sym h))
        by None is false same h = absurd (none≢some h)

    low : (g : List ℕ) (k : ℕ) → Which g k → k < length (tables ++ names ∷ [])
    low g k (inl at) = omega (arith, lead.low g k at, length_push tables names)
    low g k (inr at) = omega (arith, at.1, length_push tables names)

    apart : (g h : List ℕ) (k : ℕ) → Which g k → Which h k → g ≡ h
    apart g h k (inl at) (inl there) = lead.apart g h k at there
    apart g h k (inl at) (inr there) = absurd (omega (arith, lead.low g k at, there.1))
    apart g h k (inr at) (inl there) = absurd (omega (arith, lead.low h k there, at.1))
    apart g h k (inr at) (inr there) = at.0 ∙ sym there.0

-- ---- the places of nodes

-- a node's place, by its names alone
pub place-by-names : (group node : List ℕ) (i : ℕ) (entries : List Entry) →
    position_from (is_of group node) i entries ≡ position_from (is_named group node) i (map names_of entries)
place-by-names group node i [] = refl
place-by-names group node i (e ∷ entries) = ap (cond (is_of group node e) (Some i)) (place-by-names group node (i + 1) entries)

place-more : (test : List ℕ × List ℕ → Bool) (i : ℕ) (names : List (List ℕ × List ℕ)) (new : List ℕ × List ℕ) →
    position_from test i (names ++ new ∷ []) ≡ option_or (position_from test i names) (cond (test new) (Some (i + length names)) None)
place-more test i [] new = ap (λ k. cond (test new) (Some k) None) (omega arith)
place-more test i (x ∷ names) new = by (test x) (place-more test (i + 1) names new)
  where
    far : i + 1 + length names ≡ i + suc (length names)
    far = omega arith

    by : (b : Bool) → position_from test (i + 1) (names ++ new ∷ [])
        ≡ option_or (position_from test (i + 1) names) (cond (test new) (Some (i + 1 + length names)) None) →
        cond b (Some i) (position_from test (i + 1) (names ++ new ∷ []))
        ≡ option_or (cond b (Some i) (position_from test (i + 1) names)) (cond (test new) (Some (i + suc (length names))) None)
    by true h = refl
    by false h = h ∙ ap (λ k. option_or (position_from test (i + 1) names) (cond (test new) (Some k) None)) far

-- one more node, last
pub indexed-more : (names : List (List ℕ × List ℕ)) (old new : IndexData) (group node : List ℕ) → IsIndexed names old →
    place_in old group node ≡ None →
    ((g n : List ℕ) → place_in new g n ≡ cond (is_same g n group node) (Some (length names)) (place_in old g n)) →
    IsIndexed (names ++ (group, node) ∷ []) new
indexed-more names old new group node so absent is = λ g n.
    is g n ∙ by g n (is_same g n group node) refl ∙ sym (place-more (is_named g n) 0 names (group, node))
  where
    none : (g n : List ℕ) → is_same g n group node ≡ true → position_from (is_named g n) 0 names ≡ None
    none g n same =
        let are = names_are g n group node same in
        sym (so g n) ∙ ap (λ x. place_in old x n) are.0 ∙ ap (place_in old group) are.1 ∙ absent

    last : 0 + length names ≡ length names
    last = omega arith

    by : (g n : List ℕ) (b : Bool) → is_same g n group node ≡ b →
        cond b (Some (length names)) (place_in old g n)
        ≡ option_or (position_from (is_named g n) 0 names) (cond b (Some (0 + length names)) None)
    by g n true same =
        ap Some (sym last) ∙ sym (ap (λ o. option_or o (Some (0 + length names))) (none g n same))
    by g n false same = so g n ∙ sym (or-none (position_from (is_named g n) 0 names))

-- a node of names that aren't entered, as they were looked for
pub absent-in : (group node : List ℕ) (entries : List Entry) (index : IndexData) → IsIndexed (map names_of entries) index →
    position_from (is_of group node) 0 entries ≡ None → place_in index group node ≡ None
absent-in group node entries index so none = so group node ∙ sym (place-by-names group node 0 entries) ∙ none

-- what an index leads to
pub led : (group node : List ℕ) (entries : List Entry) (index : IndexData) → IsIndexed (map names_of entries) index →
    place_in index group node ≡ position (is_of group node) entries
led group node entries index so =
    so group node ∙ sym (place-by-names group node 0 entries) ∙ sym (position_from-zero (is_of group node) entries)

-- a node is written that keeps its names
pub indexed-set : (entries : List Entry) (index : IndexData) (k : ℕ) (new old : Entry) → IsIndexed (map names_of entries) index →
    old ≡ get_or entries k old → names_of new ≡ names_of old → IsIndexed (map names_of (set entries k new)) index
indexed-set entries index k new old so at same = λ g n.
    so g n ∙ ap (position_from (is_named g n) 0) (sym (map-set_same names_of entries k new old (same ∙ ap names_of at)))

-- nodes that keep their names
pub names-still : (f : Entry → Entry) → ((e : Entry) → names_of (f e) ≡ names_of e) → (es : List Entry) →
    map names_of (map f es) ≡ map names_of es
names-still f still [] = refl
names-still f still (e ∷ es) =
    ap (λ x. x ∷ map names_of (map f es)) (still e) ∙ ap (λ l. names_of e ∷ l) (names-still f still es)

-- nodes that were lent whole
pub lent-all : (f : Entry → Entry) (size : ℕ) (new lent old : List Entry) → new ≡ map f lent → lent ≡ old → size ≡ length old →
    take size (new ++ drop (length new) old) ≡ new
lent-all f size new lent old is whole count =
    ap (λ l. take size (new ++ l)) rest ∙ ap (take size) (append-nil new) ∙ take_all size new (omega (arith, sized, count))
  where
    sized : length new ≡ length old
    sized = ap length (is ∙ ap (map f) whole) ∙ length-map old f

    rest : drop (length new) old ≡ []
    rest = drop_all (length new) old (omega (arith, sized))

-- and keep their names
pub indexed-lent : (f : Entry → Entry) → ((e : Entry) → names_of (f e) ≡ names_of e) → (size : ℕ) (new lent old : List Entry)
    (index : IndexData) → IsIndexed (map names_of old) index → new ≡ map f lent → lent ≡ old → size ≡ length old →
    IsIndexed (map names_of (take size (new ++ drop (length new) old))) index
indexed-lent f still size new lent old index so is whole count = λ g n.
    so g n ∙ ap (position_from (is_named g n) 0) (sym (ap (map names_of) all ∙ names-still f still old))
  where
    all : take size (new ++ drop (length new) old) ≡ map f old
    all = lent-all f size new lent old is whole count ∙ is ∙ ap (map f) whole

-- a node that was heard first, or wasn't
pub indexed-first : {X E : Type 0} (r : Result X E) (old new : List Entry) (index after : IndexData) (e : Entry) →
    IsIndexed (map names_of old) index → place_in index e.group e.node ≡ None → OnOk r (new ≡ old ++ e ∷ []) →
    OnOk r ((g n : List ℕ) → place_in after g n ≡ cond (is_same g n e.group e.node) (Some (length old)) (place_in index g n)) →
    OnErr r (new ≡ old) → OnErr r (after ≡ index) → IsIndexed (map names_of new) after
indexed-first (Ok x) old new index after e so absent is entered same still = λ g n.
    indexed-more (map names_of old) index after e.group e.node so absent
    (λ h m. entered h m ∙ ap (λ k. cond (is_same h m e.group e.node) (Some k) (place_in index h m)) (sym (length-map old names_of))) g n
    ∙ ap (position_from (is_named g n) 0) (sym (ap (map names_of) is ∙ map-append names_of old (e ∷ [])))
indexed-first (Err x) old new index after e so absent is entered same still = λ g n.
    ap (λ i. place_in i g n) still ∙ so g n ∙ ap (λ l. position_from (is_named g n) 0 (map names_of l)) (sym same)

-- the first place of a node
pub first-place : (group node : List ℕ) (entries : List Entry) (o : Option ℕ) → o ≡ position (is_of group node) entries →
    position_from (is_of group node) 0 entries ≡ o
first-place group node entries o is = sym (is ∙ position_from-zero (is_of group node) entries)
