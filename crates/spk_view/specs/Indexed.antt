-- What leads from a name and from an alias to the row of a table.
use Rattle.std.specs.Prelude.{◌≡◌, ℕ, Bool, true, false, List, [], ◌∷◌, map, slice_get, Option, Some, None, if◌then◌else◌}
use Rattle.std.specs.Option.{option_or}
use Rattle.spk_host_rules.specs.Data.{Row, Device}
use Rattle.spk_host_rules.specs.Table.{is_alias, name_of}
use Rattle.spk_view.specs.Keyed.{key_of_row}

-- a place at which an element passes the test, or none where no element does
abbrev pub IsPlaceOf : {X : Type 0} → (X → Bool) → List X → Option ℕ → Type 0
IsPlaceOf {X} test xs None = (k : ℕ) (x : X) → slice_get xs k ≡ Some x → test x ≡ false
IsPlaceOf {X} test xs (Some k) = (x : X) × (slice_get xs k ≡ Some x) × (test x ≡ true)

-- no two have one name
abbrev pub IsApart : {X : Type 0} → (X → List ℕ) → List X → Type 0
IsApart {X} name xs = (i j : ℕ) (x y : X) → slice_get xs i ≡ Some x → slice_get xs j ≡ Some y → name x ≡ name y → i ≡ j

-- the place entered last for an alias
abbrev pub place_in : List (ℕ × ℕ) → ℕ → Option ℕ
place_in [] alias = None
place_in (e ∷ es) alias = option_or (place_in es alias) (if is_alias (Some e.0) alias then Some e.1 else None)

-- each row has a name of its own, and its name's key stands at its place
pub record IsNamed (rows : List Row) (keys : List ℕ) : Type 0 where
  pub apart : IsApart name_of rows
  pub keyed : map key_of_row rows ≡ keys

-- Each row is found by its alias. What an alias leads to may have lost it.
abbrev pub IsAliased : List Row → List (ℕ × ℕ) → Type 0
IsAliased rows aliases = (k : ℕ) (r : Row) (alias : ℕ) → slice_get rows k ≡ Some r → r.alias ≡ Some alias → place_in aliases alias ≡ Some k

pub record IsIndexed (rows : List Row) (keys : List ℕ) (aliases : List (ℕ × ℕ)) : Type 0 where
  pub named : IsNamed rows keys
  pub aliased : IsAliased rows aliases

abbrev pub device_name : Device → List ℕ
device_name d = d.name
