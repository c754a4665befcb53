-- Putting the metrics of a birth into a table, one by one, gives the table that the queries ask for.
use Rattle.std.proofs.Common.{◌≡◌, ℕ, Bool, true, false, ◌&&◌, ◌||◌, cond, eqb, List, [], ◌∷◌, ◌++◌, map, reverse, refl, sym, ◌∙◌, ap, inl, inr, append_assoc, append-nil, Option, Some, None, eq-eqb, ne_eqb, true≢false}
use Rattle.std.specs.List.{find, list_any}
use Rattle.std.specs.Option.{is_some}
use Rattle.std.proofs.lemmas.Bool.{cases_eq}
use Rattle.std.proofs.lemmas.List.{map-append, reverse-append}
use Rattle.std.specs.Str.{bytes_eq}
use Rattle.spk_payload.specs.Meaning.{MetricData}
use Rattle.spk_host_rules.specs.Data.{Row}
use Rattle.spk_host_rules.specs.Table.{is_alias, is_name, released, replaced, row_of, with_named, with_metric, table_from, table_of}
use Rattle.spk_host_rules.specs.Births.{and_name, names_of, newer_than, left_by, row_from, row_at, table_by}
use Rattle.spk_host_rules.proofs.Lists.{map-map, same-text, text-itself}
use Rattle.spk_host_rules.proofs.Foreign.{any-map}

eqb-flip : (a b : ℕ) → eqb a b ≡ eqb b a
eqb-flip a b = elim (cases_eq a b) [
  | inl same ↦ eq-eqb a b same ∙ sym (eq-eqb b a (sym same))
  | inr other ↦ ne_eqb a b other ∙ sym (ne_eqb b a (λ same. other (sym same)))
]

map-same : {X Y : Type 0} (f g : X → Y) → ((x : X) → f x ≡ g x) → (xs : List X) → map f xs ≡ map g xs
map-same f g h [] = refl
map-same f g h (x ∷ xs) = ap (λ y. y ∷ map f xs) (h x) ∙ ap (λ ys. g x ∷ ys) (map-same f g h xs)

-- ---- one row

named-row : (n : List ℕ) (o : Option MetricData) (newer : List MetricData) → (row_from n o newer).name ≡ n
named-row n None newer = refl
named-row n (Some m) newer = refl

-- a metric without a name takes nothing
nameless : (n : List ℕ) (m : MetricData) (before : List MetricData) → m.name ≡ None → row_at (m ∷ before) n ≡ row_at before n
nameless n m before h =
    ap (λ (name : Option (List ℕ)). row_from n (cond (is_name name n) (Some m) (find (λ x. is_name x.name n) before)) (cond (is_name name n) [] (m ∷ newer_than n before))) h
    ∙ by (find (λ x. is_name x.name n) before)
  where
    left : (alias : Option ℕ) → left_by (m ∷ newer_than n before) alias ≡ left_by (newer_than n before) alias
    left None = refl
    left (Some a) = ap (λ (name : Option (List ℕ)). cond ((is_some name && is_alias m.alias a) || list_any (λ x. is_some x.name && is_alias x.alias a) (newer_than n before)) None (Some a)) h

    by : (o : Option MetricData) → row_from n o (m ∷ newer_than n before) ≡ row_from n o (newer_than n before)
    by None = refl
    by (Some x) = ap (λ (alias : Option ℕ). record (row_of n x) { alias = alias }) (left x.alias)

-- one of another name takes its alias away
other-name : (k n : List ℕ) (m : MetricData) (before : List MetricData) → m.name ≡ Some k → bytes_eq k n ≡ false → row_at (m ∷ before) n ≡ released m.alias (row_at before n)
other-name k n m before h other =
    ap (λ (name : Option (List ℕ)). row_from n (cond (is_name name n) (Some m) (find (λ x. is_name x.name n) before)) (cond (is_name name n) [] (m ∷ newer_than n before))) h
    ∙ ap (λ b. row_from n (cond b (Some m) (find (λ x. is_name x.name n) before)) (cond b [] (m ∷ newer_than n before))) other
    ∙ by (find (λ x. is_name x.name n) before)
  where
    newer : List MetricData
    newer = newer_than n before

    taken : (t : Bool) (q : Bool) (a b : ℕ) → t ≡ eqb b a → cond (t || q) None (Some b) ≡ cond (is_alias (cond q None (Some b)) a) None (cond q None (Some b))
    taken t true a b is = by-t t
      where
        by-t : (t : Bool) → cond (t || true) None (Some b) ≡ None
        by-t true = refl
        by-t false = refl
    taken true false a b is = ap (λ c. cond c None (Some b)) is
    taken false false a b is = ap (λ c. cond c None (Some b)) is

    left : (alias mine : Option ℕ) → m.alias ≡ mine → (x : MetricData) → record (row_of n x) { alias = left_by (m ∷ newer) alias } ≡ released mine (record (row_of n x) { alias = left_by newer alias })
    left None None is x = refl
    left None (Some a) is x = refl
    left (Some b) None is x = ap (λ t. let r : Row = record (row_of n x) { alias = cond (t || list_any (λ y. is_some y.name && is_alias y.alias b) newer) None (Some b) } in r)
        (ap (λ (name : Option (List ℕ)). is_some name && is_alias m.alias b) h ∙ ap (λ (o : Option ℕ). is_alias o b) is)
    left (Some b) (Some a) is x = ap (λ (alias : Option ℕ). record (row_of n x) { alias = alias })
        (taken (is_some m.name && is_alias m.alias b) (list_any (λ y. is_some y.name && is_alias y.alias b) newer) a b
        (ap (λ (name : Option (List ℕ)). is_some name && is_alias m.alias b) h ∙ ap (λ (o : Option ℕ). is_alias o b) is ∙ eqb-flip a b))

    blank : (mine : Option ℕ) → row_from n None newer ≡ released mine (row_from n None newer)
    blank None = refl
    blank (Some a) = refl

    by : (o : Option MetricData) → row_from n o (m ∷ newer) ≡ released m.alias (row_from n o newer)
    by None = blank m.alias
    by (Some x) = left x.alias m.alias refl x

-- and one of its own name gives it all
own-name : (k n : List ℕ) (m : MetricData) (before : List MetricData) → m.name ≡ Some k → bytes_eq k n ≡ true → row_at (m ∷ before) n ≡ row_of k m
own-name k n m before h same =
    ap (λ (name : Option (List ℕ)). row_from n (cond (is_name name n) (Some m) (find (λ x. is_name x.name n) before)) (cond (is_name name n) [] (m ∷ newer_than n before))) h
    ∙ ap (λ b. row_from n (cond b (Some m) (find (λ x. is_name x.name n) before)) (cond b [] (m ∷ newer_than n before))) same
    ∙ whole m.alias refl ∙ ap (λ (name : List ℕ). row_of name m) (sym (same-text k n same))
  where
    whole : (alias : Option ℕ) → m.alias ≡ alias → row_from n (Some m) [] ≡ row_of n m
    whole None is = ap (λ (o : Option ℕ). record (row_of n m) { alias = left_by [] o }) is ∙ ap (λ (o : Option ℕ). record (row_of n m) { alias = o }) (sym is)
    whole (Some a) is = ap (λ (o : Option ℕ). record (row_of n m) { alias = left_by [] o }) is ∙ ap (λ (o : Option ℕ). record (row_of n m) { alias = o }) (sym is)

-- ---- one metric more

-- without a row of its name: last
added : (k : List ℕ) (m : MetricData) (before : List MetricData) → m.name ≡ Some k → (ns : List (List ℕ)) → list_any (λ n. bytes_eq k n) ns ≡ false
    → map (released m.alias) (map (row_at before) ns) ≡ map (row_at (m ∷ before)) ns
added k m before h [] none = refl
added k m before h (n ∷ ns) none = by (bytes_eq k n) refl none (added k m before h ns)
  where
    by : (b : Bool) → bytes_eq k n ≡ b → (b || list_any (λ x. bytes_eq k x) ns) ≡ false
        → (list_any (λ x. bytes_eq k x) ns ≡ false → map (released m.alias) (map (row_at before) ns) ≡ map (row_at (m ∷ before)) ns)
        → released m.alias (row_at before n) ∷ map (released m.alias) (map (row_at before) ns) ≡ row_at (m ∷ before) n ∷ map (row_at (m ∷ before)) ns
    by true is none rest = absurd (true≢false none)
    by false is none rest = ap (λ r. r ∷ map (released m.alias) (map (row_at before) ns)) (sym (other-name k n m before h is))
        ∙ ap (λ rs. row_at (m ∷ before) n ∷ rs) (rest none)

-- with one: at its place
put : (k : List ℕ) (m : MetricData) (before : List MetricData) → m.name ≡ Some k → (n : List ℕ) → replaced (row_of k m) (released m.alias (row_at before n)) ≡ row_at (m ∷ before) n
put k m before h n = ap (λ (x : List ℕ). cond (bytes_eq k x) (row_of k m) (released m.alias (row_at before n))) (still m.alias ∙ named-row n (find (λ x. is_name x.name n) before) (newer_than n before))
    ∙ by (bytes_eq k n) refl
  where
    still : (alias : Option ℕ) → (released alias (row_at before n)).name ≡ (row_at before n).name
    still None = refl
    still (Some a) = refl

    by : (b : Bool) → bytes_eq k n ≡ b → cond b (row_of k m) (released m.alias (row_at before n)) ≡ row_at (m ∷ before) n
    by true is = sym (own-name k n m before h is)
    by false is = sym (other-name k n m before h is)

more : (m : MetricData) (before : List MetricData) → with_metric (table_by before) m ≡ table_by (m ∷ before)
more m before = by m.name refl
  where
    ns : List (List ℕ)
    ns = names_of before

    by : (o : Option (List ℕ)) → m.name ≡ o → with_named o m (map (row_at before) ns) ≡ map (row_at (m ∷ before)) (and_name o ns)
    by None h = map-same (row_at before) (row_at (m ∷ before)) (λ n. sym (nameless n m before h)) ns
    by (Some k) h = ap (λ b. cond b (map (replaced (row_of k m)) freed) (freed ++ row_of k m ∷ [])) there ∙ each (list_any (λ n. bytes_eq k n) ns) refl
      where
        freed : List Row
        freed = map (released m.alias) (map (row_at before) ns)

        still : (alias : Option ℕ) (r : Row) → bytes_eq k (released alias r).name ≡ bytes_eq k r.name
        still None r = refl
        still (Some a) r = refl

        there : list_any (λ r. bytes_eq k r.name) freed ≡ list_any (λ n. bytes_eq k n) ns
        there = any-map (released m.alias) (λ r. bytes_eq k r.name) (λ r. bytes_eq k r.name) (still m.alias) (map (row_at before) ns)
            ∙ any-map (row_at before) (λ r. bytes_eq k r.name) (λ n. bytes_eq k n) (λ n. ap (bytes_eq k) (named-row n (find (λ x. is_name x.name n) before) (newer_than n before))) ns

        each : (b : Bool) → list_any (λ n. bytes_eq k n) ns ≡ b → cond b (map (replaced (row_of k m)) freed) (freed ++ row_of k m ∷ []) ≡ map (row_at (m ∷ before)) (cond b ns (ns ++ k ∷ []))
        each true is =
            ap (map (replaced (row_of k m))) (map-map (row_at before) (released m.alias) (λ n. released m.alias (row_at before n)) (λ n. refl) ns)
            ∙ map-map (λ n. released m.alias (row_at before n)) (replaced (row_of k m)) (row_at (m ∷ before)) (put k m before h) ns
        each false is =
            ap (λ rs. rs ++ row_of k m ∷ []) (added k m before h ns is)
            ∙ ap (λ r. map (row_at (m ∷ before)) ns ++ r ∷ []) (sym (own-name k k m before h (text-itself k)))
            ∙ sym (map-append (row_at (m ∷ before)) ns (k ∷ []))

-- ---- all of them

from : (before ms : List MetricData) → table_from (table_by before) ms ≡ table_by (reverse ms ++ before)
from before [] = refl
from before (m ∷ ms) = ap (λ rows. table_from rows ms) (more m before) ∙ from (m ∷ before) ms
    ∙ ap table_by (sym (append_assoc (reverse ms) (m ∷ []) before) ∙ ap (λ xs. xs ++ before) (sym (reverse-append (m ∷ []) ms)))

pub table-is : (ms : List MetricData) → table_of ms ≡ table_by (reverse ms)
table-is ms = from [] ms ∙ ap table_by (append-nil (reverse ms))
