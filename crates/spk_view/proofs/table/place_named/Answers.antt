use Rattle.std.proofs.Common.{◌≡◌, ◌⊎◌, ◌<◌, ◌≤◌, ◌∙◌, sym, ap, refl, subst, inl, inr, length, map, Some, None, true, false, Bool, List, ℕ, nat_lt, arith}
use Rattle.std.proofs.lemmas.Bool.Decides.{nat_tests}
use Rattle.std.proofs.lemmas.List.{length-map}
use Rattle.std.proofs.lemmas.Option.{slice_get-map, slice_get_read, slice_get_within}
use Rattle.std.specs.Option.{option_map}
use Rattle.std.specs.Prelude.{slice_get}
use Rattle.std.specs.Str.{bytes_eq}
use Rattle.spk_host_rules.specs.Data.{Row}
use Rattle.spk_view.specs.Keyed.{IsLastOf, key_of_name, key_of_row}
use Rattle.spk_view.proofs.Places.{not-true, same-some, same-text, true-not}
use Rattle.spk_view.proofs.table.place_named.Goals as goal

cases : (n k : ℕ) → (n ≤ k) ⊎ (k < n)
cases n k = by (nat_lt k n) refl
  where
    by : (b : Bool) → nat_lt k n ≡ b → (n ≤ k) ⊎ (k < n)
    by true h = inr (grind (arith, nat_tests))
    by false h = inl (grind (arith, nat_tests))

-- the key of a name stands where its row does
keyed : (rows : List Row) (keys name : List ℕ) (key k : ℕ) (r : Row) → map key_of_row rows ≡ keys → key ≡ key_of_name name → slice_get rows k ≡ Some r
    → bytes_eq name r.name ≡ true → slice_get keys k ≡ Some key
keyed rows keys name key k r is mine at named =
    ap (λ l. slice_get l k) (sym is) ∙ slice_get-map key_of_row rows k ∙ ap (option_map key_of_row) at
    ∙ ap Some (ap key_of_name (sym (same-text name r.name named)) ∙ sym mine)

-- what was found lies within
low : (rows : List Row) (keys : List ℕ) (n key place : ℕ) → map key_of_row rows ≡ keys → IsLastOf keys n key (Some place) → place < length rows
low rows keys n key place is found =
    let size : length (map key_of_row rows) ≡ length keys = ap length is in
    omega (arith, slice_get_within keys place key found.1, length-map rows key_of_row)

pub loop-found-init : goal.loop-found-init
loop-found-init c = (length c.args.names.now.keys, c.last-found.ensures, past)
  where
    past : (k : ℕ) (r : Row) → length c.args.names.now.keys ≤ k → slice_get c.args.rows.now.items k ≡ Some r → bytes_eq c.args.name.now r.name ≡ false
    past k r over at =
        let size : length (map key_of_row c.args.rows.now.items) ≡ length c.args.names.now.keys = ap length c.requires.keyed in
        absurd (omega (arith, slice_get_within c.args.rows.now.items k r at, length-map c.args.rows.now.items key_of_row))

pub index-requires : goal.index-requires
index-requires c =
    let found = subst (IsLastOf c.args.names.now.keys c.loop-found.invariant.0 c.args.key) c.in-Some.is c.loop-found.invariant.1 in
    omega (arith, low c.args.rows.now.items c.args.names.now.keys c.loop-found.invariant.0 c.args.key c.in-Some.place c.requires.keyed found, c.args.rows.now.ok.0)

pub before-found-requires : goal.before-found-requires
before-found-requires c =
    let found = subst (IsLastOf c.args.names.now.keys c.loop-found.invariant.0 c.args.key) c.in-Some.is c.loop-found.invariant.1 in
    slice_get_within c.args.names.now.keys c.in-Some.place c.args.key found.1

pub returns-then-is_named : goal.returns-then-is_named
returns-then-is_named c =
    let rows = c.args.rows.now.items in
    let found = subst (IsLastOf c.args.names.now.keys c.loop-found.invariant.0 c.args.key) c.in-Some.is c.loop-found.invariant.1 in
    let within = low rows c.args.names.now.keys c.loop-found.invariant.0 c.args.key c.in-Some.place c.requires.keyed found in (
      c.index.result.now,
      slice_get_read rows (length rows) c.in-Some.place c.index.result.now refl within c.index.ensures,
      sym c.is_named.ensures ∙ c.if-is_named.true,
    )

pub loop-found-preserved : goal.loop-found-preserved
loop-found-preserved c = (c.in-Some.place, c.before-found.ensures c.args.key found.1, λ k r past at. not-true (bytes_eq c.args.name.now r.name) (never k r past at))
  where
    found : IsLastOf c.args.names.now.keys c.loop-found.invariant.0 c.args.key (Some c.in-Some.place)
    found = subst (IsLastOf c.args.names.now.keys c.loop-found.invariant.0 c.args.key) c.in-Some.is c.loop-found.invariant.1

    here : slice_get c.args.rows.now.items c.in-Some.place ≡ Some c.index.result.now
    here =
        slice_get_read c.args.rows.now.items (length c.args.rows.now.items) c.in-Some.place c.index.result.now refl
        (low c.args.rows.now.items c.args.names.now.keys c.loop-found.invariant.0 c.args.key c.in-Some.place c.requires.keyed found) c.index.ensures

    between : (a b : ℕ) → a ≤ b → b ≤ a → a ≡ b
    between a b h k = omega arith

    never : (k : ℕ) (r : Row) → c.in-Some.place ≤ k → slice_get c.args.rows.now.items k ≡ Some r → bytes_eq c.args.name.now r.name ≡ true → ⊥
    never k r past at named = by (cases c.loop-found.invariant.0 k)
      where
        by : (c.loop-found.invariant.0 ≤ k) ⊎ (k < c.loop-found.invariant.0) → ⊥
        by (inl over) = true-not (bytes_eq c.args.name.now r.name) (c.loop-found.invariant.2 k r over at) named
        by (inr under) =
            let last = found.2 k under (keyed c.args.rows.now.items c.args.names.now.keys c.args.name.now c.args.key k r c.requires.keyed c.requires.key at named) in
            let same : r ≡ c.index.result.now = same-some (sym at ∙ ap (slice_get c.args.rows.now.items) (between k c.in-Some.place last past) ∙ here) in
            true-not (bytes_eq c.args.name.now r.name) (ap (λ (x : Row). bytes_eq c.args.name.now x.name) same ∙ sym c.is_named.ensures ∙ c.if-is_named.false) named

pub returns : goal.returns
returns c = λ k r at. not-true (bytes_eq c.args.name.now r.name) (never k r at)
  where
    none : IsLastOf c.args.names.now.keys c.loop-found.invariant.0 c.args.key None
    none = subst (IsLastOf c.args.names.now.keys c.loop-found.invariant.0 c.args.key) c.in_default.is c.loop-found.invariant.1

    never : (k : ℕ) (r : Row) → slice_get c.args.rows.now.items k ≡ Some r → bytes_eq c.args.name.now r.name ≡ true → ⊥
    never k r at named = by (cases c.loop-found.invariant.0 k)
      where
        by : (c.loop-found.invariant.0 ≤ k) ⊎ (k < c.loop-found.invariant.0) → ⊥
        by (inl over) = true-not (bytes_eq c.args.name.now r.name) (c.loop-found.invariant.2 k r over at) named
        by (inr under) = none k under (keyed c.args.rows.now.items c.args.names.now.keys c.args.name.now c.args.key k r c.requires.keyed c.requires.key at named)
