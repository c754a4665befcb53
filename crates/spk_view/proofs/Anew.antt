-- A birth with the names and the aliases of the one before it.
use Rattle.std.proofs.Common.{◌≡◌, ◌∙◌, sym, ap, refl, subst, arith, ℕ, zero, suc, List, [], ◌∷◌, ◌++◌, map, length, set, Option, Some, None, append_assoc}
use Rattle.std.proofs.lemmas.List.{append-nil}
use Rattle.std.proofs.lemmas.Option.{slice_get_within}
use Rattle.std.specs.List.{zip}
use Rattle.std.specs.Prelude.{◌≤◌, slice_get}
use Rattle.std.specs.Str.{bytes_eq}
use Rattle.spk_payload.specs.Meaning.{MetricData}
use Rattle.spk_host_rules.specs.Data.{Row}
use Rattle.spk_host_rules.specs.Table.{is_alias, name_of, placed, released, row_of, table_from, table_of, with_metric, with_named}
use Rattle.spk_view.specs.Indexed.{IsApart, IsIndexed}
use Rattle.spk_view.specs.Keyed.{key_of_name, key_of_row}
use Rattle.spk_view.specs.Rebirth.{AreAlike, heading, heading_of, renewed}
use Rattle.spk_view.proofs.Places.{none≢some, not-true, map-still, same-some, same-text}
use Rattle.spk_view.proofs.Rows.{alias-is, placed-last, released-none, released-still}

pub tail-same : {X : Type 0} {x y : X} {xs ys : List X} → x ∷ xs ≡ y ∷ ys → xs ≡ ys
tail-same h = cc

pub head-same : {X : Type 0} {x y : X} {xs ys : List X} → x ∷ xs ≡ y ∷ ys → x ≡ y
head-same h = cc

-- ---- the rows one after the other

-- the first n are born anew
abbrev pub paired : ℕ → List Row → List MetricData → List Row
paired zero rows ms = rows
paired (suc n) [] ms = []
paired (suc n) (r ∷ rows) [] = r ∷ rows
paired (suc n) (r ∷ rows) (m ∷ ms) = renewed (r, m) ∷ paired n rows ms

pub paired-more : (rows : List Row) (ms : List MetricData) (i : ℕ) (r : Row) (m : MetricData) → slice_get (paired i rows ms) i ≡ Some r → slice_get ms i ≡ Some m
    → set (paired i rows ms) i (renewed (r, m)) ≡ paired (suc i) rows ms
paired-more rows [] i r m at says = absurd (none≢some says)
paired-more [] (n ∷ ms) zero r m at says = absurd (none≢some at)
paired-more [] (n ∷ ms) (suc i) r m at says = absurd (none≢some at)
paired-more (s ∷ rows) (n ∷ ms) zero r m at says =
    ap (λ (x : Row). renewed (x, m) ∷ rows) (sym (same-some at)) ∙ ap (λ (x : MetricData). renewed (s, x) ∷ rows) (sym (same-some says))
paired-more (s ∷ rows) (n ∷ ms) (suc i) r m at says = ap (λ l. renewed (s, n) ∷ l) (paired-more rows ms i r m at says)

pub paired-all : (rows : List Row) (ms : List MetricData) (i : ℕ) → AreAlike rows ms → length ms ≤ i → paired i rows ms ≡ map renewed (zip rows ms)
paired-all [] ms zero like low = refl
paired-all [] ms (suc i) like low = refl
paired-all (r ∷ rows) [] i like low = cc
paired-all (r ∷ rows) (m ∷ ms) zero like low = absurd (no-room low)
  where
    no-room : suc (length ms) ≤ 0 → ⊥
    no-room h = absurd (omega arith)
paired-all (r ∷ rows) (m ∷ ms) (suc i) like low = ap (λ l. renewed (r, m) ∷ l) (paired-all rows ms i (tail-same like) (omega arith))

-- ---- what leads to them

-- a row stands where one of the same name and alias stood
headed : (old new : List Row) → map heading new ≡ map heading old → (k : ℕ) (x : Row) → slice_get new k ≡ Some x
    → (y : Row) × (slice_get old k ≡ Some y) × (heading x ≡ heading y)
headed old [] like k x at = absurd (none≢some at)
headed [] (n ∷ new) like k x at = cc
headed (o ∷ old) (n ∷ new) like zero x at = (o, refl, ap heading (sym (same-some at)) ∙ head-same like)
headed (o ∷ old) (n ∷ new) like (suc k) x at = headed old new (tail-same like) k x at

same-names : (x y : Row) → heading x ≡ heading y → x.name ≡ y.name
same-names x y h = same-some (ap (λ (p : Option (List ℕ) × Option ℕ). p.0) h)

same-aliases : (x y : Row) → heading x ≡ heading y → x.alias ≡ y.alias
same-aliases x y h = ap (λ (p : Option (List ℕ) × Option ℕ). p.1) h

same-keys : (old new : List Row) → map heading new ≡ map heading old → map key_of_row new ≡ map key_of_row old
same-keys [] [] like = refl
same-keys [] (n ∷ new) like = cc
same-keys (o ∷ old) [] like = cc
same-keys (o ∷ old) (n ∷ new) like =
    ap (λ k. k ∷ map key_of_row new) (ap key_of_name (same-names n o (head-same like))) ∙ ap (λ l. key_of_row o ∷ l) (same-keys old new (tail-same like))

-- rows of the same names and aliases are led to as before
pub indexed-anew : (old new : List Row) (keys : List ℕ) (aliases : List (ℕ × ℕ)) → IsIndexed old keys aliases → map heading new ≡ map heading old → IsIndexed new keys aliases
indexed-anew old new keys aliases is like = record {
  named = record {
    apart = λ i j x y at there eq.
        let one = headed old new like i x at in
        let two = headed old new like j y there in
        is.named.apart i j one.0 two.0 one.1 two.1 (sym (same-names x one.0 one.2) ∙ eq ∙ same-names y two.0 two.2);
    keyed = same-keys old new like ∙ is.named.keyed;
  };
  aliased = λ k r alias at has.
      let one = headed old new like k r at in
      is.aliased k one.0 alias one.1 (sym (same-aliases r one.0 one.2) ∙ has);
}

pub same-headings : (rows : List Row) (ms : List MetricData) → AreAlike rows ms → map heading (map renewed (zip rows ms)) ≡ map heading rows
same-headings [] ms like = refl
same-headings (r ∷ rows) [] like = cc
same-headings (r ∷ rows) (m ∷ ms) like = ap (λ l. heading r ∷ l) (same-headings rows ms (tail-same like))

-- ---- they are the table of the birth

-- each row is what the metric at its place gives
abbrev AreBorn : List Row → List MetricData → Type 0
AreBorn [] [] = Unit {0}
AreBorn [] (m ∷ ms) = ⊥
AreBorn (r ∷ rows) [] = ⊥
AreBorn (r ∷ rows) (m ∷ ms) = (m.name ≡ Some r.name) × (row_of r.name m ≡ r) × AreBorn rows ms

are-born : (rows : List Row) (ms : List MetricData) → AreAlike rows ms → AreBorn (map renewed (zip rows ms)) ms
are-born [] [] like = tt
are-born [] (m ∷ ms) like = cc
are-born (r ∷ rows) [] like = cc
are-born (r ∷ rows) (m ∷ ms) like =
    let h : heading r ≡ heading_of m = head-same like in (
      ap (λ (p : Option (List ℕ) × Option ℕ). p.0) (sym h),
      ap (λ (a : Option ℕ). record (row_of r.name m) { alias = a }) (ap (λ (p : Option (List ℕ) × Option ℕ). p.1) (sym h)),
      are-born rows ms (tail-same like),
    )

front : {X : Type 0} (xs ys : List X) (k : ℕ) (x : X) → slice_get xs k ≡ Some x → slice_get (xs ++ ys) k ≡ Some x
front [] ys k x at = absurd (none≢some at)
front (z ∷ xs) ys zero x at = at
front (z ∷ xs) ys (suc k) x at = front xs ys k x at

middle : {X : Type 0} (xs : List X) (y : X) (ys : List X) → slice_get (xs ++ y ∷ ys) (length xs) ≡ Some y
middle [] y ys = refl
middle (z ∷ xs) y ys = middle xs y ys

-- no two have one alias
abbrev AreOwn : List Row → Type 0
AreOwn rows = (i j : ℕ) (x y : Row) (a : ℕ) → slice_get rows i ≡ Some x → slice_get rows j ≡ Some y → x.alias ≡ Some a → y.alias ≡ Some a → i ≡ j

-- nobody had the alias of a later row
none-released : (done rest : List Row) (r : Row) → AreOwn (done ++ r ∷ rest) → map (released r.alias) done ≡ done
none-released done rest r own = by r.alias refl
  where
    by : (o : Option ℕ) → r.alias ≡ o → map (released o) done ≡ done
    by None h = released-none done
    by (Some a) h = map-still (released (Some a)) done (λ k s at. released-still a s (not-true (is_alias s.alias a) (λ e.
        let same : k ≡ length done = own k (length done) s r a (front done (r ∷ rest) k s at) (middle done r rest) (alias-is s.alias a e) h in
        absurd (omega (arith, slice_get_within done k s at)))))

-- a row of a name that nobody has yet comes last
put-last : (done rest : List Row) (r : Row) → IsApart name_of (done ++ r ∷ rest) → placed r done ≡ done ++ r ∷ []
put-last done rest r apart =
    placed-last done (λ i j x y at there eq. apart i j x y (front done (r ∷ rest) i x at) (front done (r ∷ rest) j y there) eq) r
    (λ k s at. not-true (bytes_eq r.name s.name) (λ e.
    let same : k ≡ length done = apart k (length done) s r (front done (r ∷ rest) k s at) (middle done r rest) (sym (same-text r.name s.name e)) in
    absurd (omega (arith, slice_get_within done k s at))))

one-more : (done rest : List Row) (r : Row) (m : MetricData) → IsApart name_of (done ++ r ∷ rest) → AreOwn (done ++ r ∷ rest) → m.name ≡ Some r.name → row_of r.name m ≡ r
    → with_metric done m ≡ done ++ r ∷ []
one-more done rest r m apart own named is =
    ap (λ (o : Option (List ℕ)). with_named o m done) named
    ∙ ap (λ (x : Row). placed x (map (released m.alias) done)) is
    ∙ ap (λ (a : Option ℕ). placed r (map (released a) done)) (ap (λ (x : Row). x.alias) is)
    ∙ ap (placed r) (none-released done rest r own)
    ∙ put-last done rest r apart

tabled : (done rest : List Row) (ms : List MetricData) → IsApart name_of (done ++ rest) → AreOwn (done ++ rest) → AreBorn rest ms → table_from done ms ≡ done ++ rest
tabled done [] [] apart own born = sym (append-nil done)
tabled done [] (m ∷ ms) apart own born = absurd born
tabled done (r ∷ rest) [] apart own born = absurd born
tabled done (r ∷ rest) (m ∷ ms) apart own born =
    let again : (done ++ r ∷ []) ++ rest ≡ done ++ r ∷ rest = append_assoc done (r ∷ []) rest in
    ap (λ l. table_from l ms) (one-more done rest r m apart own born.0 born.1)
    ∙ tabled (done ++ r ∷ []) rest ms (subst (IsApart name_of) (sym again) apart) (subst AreOwn (sym again) own) born.2
    ∙ again

-- the rows of a birth with the names and the aliases of these are these, born anew
pub table-anew : (rows : List Row) (ms : List MetricData) (keys : List ℕ) (aliases : List (ℕ × ℕ)) → IsIndexed rows keys aliases → AreAlike rows ms
    → map renewed (zip rows ms) ≡ table_of ms
table-anew rows ms keys aliases is like =
    let new : List Row = map renewed (zip rows ms) in
    let led : IsIndexed new keys aliases = indexed-anew rows new keys aliases is (same-headings rows ms like) in
    sym (tabled [] new ms led.named.apart
    (λ i j x y a at there one two. same-some (sym (led.aliased i x a at one) ∙ led.aliased j y a there two))
    (are-born rows ms like))
