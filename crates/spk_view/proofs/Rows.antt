-- Tables with their indexes: what a metric changes, and what it leads to.
use Rattle.std.proofs.Common.{◌≡◌, ◌⊎◌, ◌∙◌, sym, ap, refl, inl, inr, arith, ℕ, Bool, true, false, cond, List, [], ◌∷◌, ◌++◌, map, length, set, Option, Some, None, true≢false}
use Rattle.std.specs.Option.{option_map}
use Rattle.std.specs.Prelude.{◌==◌, ◌&&◌, not, slice_get, if◌then◌else◌}
use Rattle.std.specs.Str.{bytes_eq}
use Rattle.std.proofs.lemmas.Bool.Decides.{nat_tests}
use Rattle.spk_payload.specs.Meaning.{MetricData}
use Rattle.spk_host_rules.specs.Data.{Row}
use Rattle.spk_host_rules.specs.Step.{show}
use Rattle.spk_host_rules.specs.Table.{changed, changes, is_alias, is_name, is_set, name_by, name_of, placed, released, replaced}
use Rattle.std.proofs.lemmas.List.{map-append}
use Rattle.std.proofs.lemmas.Option.{get_or_from_slice_get}
use Rattle.std.proofs.Math.Seq.{map-set_same}
use Rattle.spk_view.specs.Keyed.{key_of_name, key_of_row}
use Rattle.spk_view.specs.Indexed.{place_in, IsAliased, IsApart, IsNamed, IsPlaceOf}
use Rattle.spk_view.proofs.Places.{none≢some, same-some, same-text, text-itself, not-true, true-not, map-still, map-at, set-sees, append-sees, map-sees, find-none, find-at, any-none, any-at}

-- ---- names

module _ (rows : List Row) (apart : IsApart name_of rows) where
  -- ---- a row is put in

  pub placed-there : (row : Row) (k : ℕ) → IsPlaceOf (λ (r : Row). bytes_eq row.name r.name) rows (Some k) → placed row rows ≡ set rows k row
  placed-there row k led =
      ap (λ b. cond b (map (replaced row) rows) (rows ++ row ∷ [])) (any-at (λ (r : Row). bytes_eq row.name r.name) rows k led.0 led.1 led.2)
      ∙ map-at (replaced row) rows k led.0 led.1 (λ j s there off. by s (not-true (bytes_eq row.name s.name)
      (λ e. off (apart j k s led.0 there led.1 (sym (same-text row.name s.name e) ∙ same-text row.name led.0.name led.2)))))
      ∙ ap (λ b. set rows k (cond b row led.0)) led.2
    where
      by : (s : Row) → bytes_eq row.name s.name ≡ false → replaced row s ≡ s
      by s e = ap (λ b. cond b row s) e

  pub placed-last : (row : Row) → IsPlaceOf (λ (r : Row). bytes_eq row.name r.name) rows None → placed row rows ≡ rows ++ row ∷ []
  placed-last row h =
      ap (λ b. cond b (map (replaced row) rows) (rows ++ row ∷ [])) (any-none (λ (r : Row). bytes_eq row.name r.name) rows h)

  apart-set : (k : ℕ) (r new : Row) → slice_get rows k ≡ Some r → new.name ≡ r.name → IsApart name_of (set rows k new)
  apart-set k r new at same i j x y seen there eq = by (set-sees rows k new i x seen) (set-sees rows k new j y there)
    where
      Seen : ℕ → Row → Type 0
      Seen i x = ((i ≡ k) × (x ≡ new)) ⊎ ((i ≡ k → ⊥) × (slice_get rows i ≡ Some x))

      by : Seen i x → Seen j y → i ≡ j
      by (inl a) (inl b) = a.0 ∙ sym b.0
      by (inl a) (inr b) = a.0 ∙ apart k j r y at b.1 (sym same ∙ sym (ap name_of a.1) ∙ eq)
      by (inr a) (inl b) = apart i k x r a.1 at (eq ∙ ap name_of b.1 ∙ same) ∙ sym b.0
      by (inr a) (inr b) = apart i j x y a.1 b.1 eq

  apart-last : (new : Row) → IsPlaceOf (λ (r : Row). bytes_eq new.name r.name) rows None → IsApart name_of (rows ++ new ∷ [])
  apart-last new absent i j x y seen there eq = by (append-sees rows new i x seen) (append-sees rows new j y there)
    where
      Seen : ℕ → Row → Type 0
      Seen i x = ((i ≡ length rows) × (x ≡ new)) ⊎ (slice_get rows i ≡ Some x)

      never : (i : ℕ) (x : Row) → slice_get rows i ≡ Some x → new.name ≡ x.name → ⊥
      never i x at same = true-not (bytes_eq new.name x.name) (absent i x at) (text-itself new.name x.name same)

      by : Seen i x → Seen j y → i ≡ j
      by (inl a) (inl b) = a.0 ∙ sym b.0
      by (inl a) (inr b) = absurd (never j y b (sym (ap name_of a.1) ∙ eq))
      by (inr a) (inl b) = absurd (never i x a (sym (ap name_of b.1) ∙ sym eq))
      by (inr a) (inr b) = apart i j x y a b eq

-- a row of the same name leads as before
pub named-shown : (rows : List Row) (keys : List ℕ) (k : ℕ) (r new : Row) → IsNamed rows keys → slice_get rows k ≡ Some r
    → new.name ≡ r.name → IsNamed (set rows k new) keys
named-shown rows keys k r new is at same = record {
  apart = apart-set rows is.apart k r new at same;
  keyed = map-set_same key_of_row rows k new r (ap key_of_name (same ∙ sym (ap name_of (get_or_from_slice_get rows k r r at)))) ∙ is.keyed;
}

pub named-there : (rows : List Row) (keys : List ℕ) → IsNamed rows keys → (row : Row) (k : ℕ)
    → IsPlaceOf (λ (r : Row). bytes_eq row.name r.name) rows (Some k) → IsNamed (set rows k row) keys
named-there rows keys is row k led = named-shown rows keys k led.0 row is led.1 (same-text row.name led.0.name led.2)

pub named-last : (rows : List Row) (keys : List ℕ) → IsNamed rows keys → (row : Row) (key : ℕ) → key ≡ key_of_name row.name
    → IsPlaceOf (λ (r : Row). bytes_eq row.name r.name) rows None → IsNamed (rows ++ row ∷ []) (keys ++ key ∷ [])
named-last rows keys is row key mine absent = record {
  apart = apart-last rows is.apart row absent;
  keyed = map-append key_of_row rows (row ∷ []) ∙ ap (λ l. l ++ key_of_row row ∷ []) is.keyed ∙ ap (λ k. keys ++ k ∷ []) (sym mine);
}

-- ---- data

pub same-name : (n : Option (List ℕ)) (a b : List ℕ) → is_name n a ≡ true → is_name n b ≡ true → a ≡ b
same-name None a b h k = absurd (true≢false (sym h))
same-name (Some n) a b h k = sym (same-text n a h) ∙ same-text n b k

and-second : (a b : Bool) → (a && b) ≡ true → b ≡ true
and-second true b h = h
and-second false b h = absurd (true≢false (sym h))

-- a metric changes one row, or none
pub shown-by-place : (rows new : List Row) (m : MetricData) (o : Option ℕ) → IsApart name_of rows → IsPlaceOf (λ (r : Row). changes rows r.name m) rows o
    → (o ≡ None → new ≡ rows) → ((k : ℕ) (r : Row) → o ≡ Some k → slice_get rows k ≡ Some r → new ≡ set rows k (changed m r))
    → new ≡ show m rows
shown-by-place rows new m None apart h none there =
    none refl ∙ sym (map-still (λ (s : Row). cond (changes rows s.name m) (changed m s) s) rows (λ k s at. ap (λ b. cond b (changed m s) s) (h k s at)))
shown-by-place rows new m (Some k) apart h none there =
    there k h.0 refl h.1
    ∙ sym (map-at (λ (s : Row). cond (changes rows s.name m) (changed m s) s) rows k h.0 h.1
    (λ j s seen off. ap (λ b. cond b (changed m s) s) (not-true (changes rows s.name m) (λ e. off (apart j k s h.0 seen h.1
    (same-name (name_by rows m.alias m.name) s.name h.0.name
    (and-second (not (is_set m.historical)) (is_name (name_by rows m.alias m.name) s.name) e)
    (and-second (not (is_set m.historical)) (is_name (name_by rows m.alias m.name) h.0.name) h.2))))))
    ∙ ap (λ b. set rows k (cond b (changed m h.0) h.0)) h.2)

pub aliased-shown : (rows : List Row) (aliases : List (ℕ × ℕ)) (k : ℕ) (r new : Row) → IsAliased rows aliases → slice_get rows k ≡ Some r
    → new.alias ≡ r.alias → IsAliased (set rows k new) aliases
aliased-shown rows aliases k r new is at same = λ j s alias there has. by j s alias has (set-sees rows k new j s there)
  where
    by : (j : ℕ) (s : Row) (alias : ℕ) → s.alias ≡ Some alias → ((j ≡ k) × (s ≡ new)) ⊎ ((j ≡ k → ⊥) × (slice_get rows j ≡ Some s)) → place_in aliases alias ≡ Some j
    by j s alias has (inl (e, one)) = is k r alias at (sym (ap (λ (x : Row). x.alias) one ∙ same) ∙ has) ∙ ap Some (sym e)
    by j s alias has (inr (off, there)) = is j s alias there has

-- ---- aliases

pub alias-is : (o : Option ℕ) (alias : ℕ) → is_alias o alias ≡ true → o ≡ Some alias
alias-is None alias h = absurd (true≢false (sym h))
alias-is (Some a) alias h = ap Some (number a alias h)
  where
    number : (a b : ℕ) → (a == b) ≡ true → a ≡ b
    number a b h = grind (arith, nat_tests)

-- what an alias finds
pub alias-means : (rows : List Row) (aliases : List (ℕ × ℕ)) → IsAliased rows aliases → (alias : ℕ) (name : Option (List ℕ)) (o : Option ℕ)
    → IsPlaceOf (λ (r : Row). is_alias r.alias alias) rows o → IsPlaceOf (λ (r : Row). is_name (name_by rows (Some alias) name) r.name) rows o
alias-means rows aliases is alias name None h =
    λ k r at. ap (λ (x : Option Row). is_name (option_map name_of x) r.name) (find-none (λ (r : Row). is_alias r.alias alias) rows h)
alias-means rows aliases is alias name (Some k) h = (
  h.0,
  h.1,
  (
      ap (λ (x : Option Row). is_name (option_map name_of x) h.0.name) (find-at (λ (r : Row). is_alias r.alias alias) rows k h.0 h.1 h.2 only)
      ∙ text-itself h.0.name h.0.name refl
      ),
)
  where
    only : (j : ℕ) (s : Row) → slice_get rows j ≡ Some s → is_alias s.alias alias ≡ true → j ≡ k
    only j s there e = same-some (sym (is j s alias there (alias-is s.alias alias e)) ∙ is k h.0 alias h.1 (alias-is h.0.alias alias h.2))

-- ---- an alias is taken away

pub released-still : (alias : ℕ) (r : Row) → is_alias r.alias alias ≡ false → released (Some alias) r ≡ r
released-still alias r h = ap (λ b. record r { alias = cond b None r.alias }) h

pub released-none : (rows : List Row) → map (released None) rows ≡ rows
released-none rows = map-still (released None) rows (λ k r at. refl)

pub released-there : (rows : List Row) (aliases : List (ℕ × ℕ)) → IsAliased rows aliases → (alias p : ℕ) (r : Row) → place_in aliases alias ≡ Some p
    → slice_get rows p ≡ Some r → map (released (Some alias)) rows ≡ set rows p (released (Some alias) r)
released-there rows aliases is alias p r leads at =
    map-at (released (Some alias)) rows p r at (λ k s there off. released-still alias s (not-true (is_alias s.alias alias)
    (λ e. off (same-some (sym (is k s alias there (alias-is s.alias alias e)) ∙ leads)))))

-- an alias that leads to no row is that of none
pub released-nowhere : (rows : List Row) (aliases : List (ℕ × ℕ)) → IsAliased rows aliases → (alias : ℕ)
    → ((k : ℕ) (r : Row) → place_in aliases alias ≡ Some k → slice_get rows k ≡ Some r → ⊥) → map (released (Some alias)) rows ≡ rows
released-nowhere rows aliases is alias never =
    map-still (released (Some alias)) rows (λ k s there. released-still alias s (not-true (is_alias s.alias alias)
    (λ e. never k s (is k s alias there (alias-is s.alias alias e)) there)))

-- the rows are led to by name as before
pub named-released : (rows : List Row) (keys : List ℕ) (alias : Option ℕ) → IsNamed rows keys → IsNamed (map (released alias) rows) keys
named-released rows keys alias is = record {
  apart = λ i j x y at there eq.
      let one = map-sees (released alias) rows i x at in
      let two = map-sees (released alias) rows j y there in
      is.apart i j one.0 two.0 one.1 two.1
      (sym (same alias one.0) ∙ sym (ap name_of one.2) ∙ eq ∙ ap name_of two.2 ∙ same alias two.0);
  keyed = keys-kept rows ∙ is.keyed;
}
  where
    same : (alias : Option ℕ) (r : Row) → (released alias r).name ≡ r.name
    same None r = refl
    same (Some a) r = refl

    keys-kept : (rows : List Row) → map key_of_row (map (released alias) rows) ≡ map key_of_row rows
    keys-kept [] = refl
    keys-kept (r ∷ rows) = ap (λ k. k ∷ map key_of_row (map (released alias) rows)) (ap key_of_name (same alias r)) ∙ ap (λ l. key_of_row r ∷ l) (keys-kept rows)

-- after a row with an alias was put in, each is led to by its alias
pub aliased-placed : (rows new : List Row) (aliases more : List (ℕ × ℕ)) (alias : Option ℕ) (row : Row) (p : ℕ) → IsAliased rows aliases → row.alias ≡ alias
    → ((q : ℕ) → place_in more q ≡ (if is_alias alias q then Some p else place_in aliases q))
    → ((k : ℕ) (r : Row) → slice_get new k ≡ Some r → ((k ≡ p) × (r ≡ row)) ⊎ (slice_get (map (released alias) rows) k ≡ Some r))
    → IsAliased new more
aliased-placed rows new aliases more alias row p is mine enters sees = λ k r a at has. by k r a has (sees k r at)
  where
    itself : (o : Option ℕ) (a : ℕ) → o ≡ Some a → is_alias o a ≡ true
    itself None a h = absurd (none≢some h)
    itself (Some b) a h = number b a (same-some h)
      where
        number : (b a : ℕ) → b ≡ a → (b == a) ≡ true
        number b a h = grind (arith, nat_tests)

    -- a row that was released has another alias, which it had before
    other : (alias : Option ℕ) (s r : Row) (a : ℕ) → r ≡ released alias s → r.alias ≡ Some a → (is_alias alias a ≡ false) × (s.alias ≡ Some a)
    other None s r a same has = (refl, sym (ap (λ (x : Row). x.alias) same) ∙ has)
    other (Some b) s r a same has = with (is_alias s.alias b) refl
      where
        is-so : cond (is_alias s.alias b) None s.alias ≡ Some a
        is-so = sym (ap (λ (x : Row). x.alias) same) ∙ has

        with : (c : Bool) → is_alias s.alias b ≡ c → (is_alias (Some b) a ≡ false) × (s.alias ≡ Some a)
        with true e = absurd (none≢some (sym (ap (λ c. cond c None s.alias) e) ∙ is-so))
        with false e =
            let kept : s.alias ≡ Some a = sym (ap (λ c. cond c None s.alias) e) ∙ is-so in
            (not-true (is_alias (Some b) a) (λ f. true-not (is_alias s.alias b) e (itself s.alias b (kept ∙ sym (alias-is (Some b) a f)))), kept)

    by : (k : ℕ) (r : Row) (a : ℕ) → r.alias ≡ Some a → ((k ≡ p) × (r ≡ row)) ⊎ (slice_get (map (released alias) rows) k ≡ Some r) → place_in more a ≡ Some k
    by k r a has (inl (e, same)) =
        let held : alias ≡ Some a = sym mine ∙ sym (ap (λ (x : Row). x.alias) same) ∙ has in
        enters a ∙ ap (λ c. cond c (Some p) (place_in aliases a)) (itself alias a held) ∙ ap Some (sym e)
    by k r a has (inr there) =
        let seen = map-sees (released alias) rows k r there in
        let off = other alias seen.0 r a seen.2 has in
        enters a ∙ ap (λ c. cond c (Some p) (place_in aliases a)) off.0 ∙ is k seen.0 a seen.1 off.1
