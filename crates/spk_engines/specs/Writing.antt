-- What is written of a ring's items.
use Rattle.std.specs.Prelude.{◌≡◌, ℕ, ◌≤◌, List, [], ◌++◌, drop, length, Option, Some, None}
use Rattle.std.specs.List.{flat_map}
use Rattle.std.specs.Io.KnownBytes.{Appends}
use Rattle.spk_rings.specs.declared.item.Item.{Item}
use Rattle.spk_engines.specs.declared.writing.Underway.{Underway}

-- the bytes of items, one behind the other
abbrev pub bytes_of : List Item → List ℕ
bytes_of items = flat_map (λ (i : Item). i.bytes) items

-- Items were taken, and a front of their bytes was written: all but the rest. `held` is what the writer holds, where it is known.
pub record Writes (held_before held : Option (List ℕ)) (taken_before taken : List Item) (rest : List ℕ) : Type 0 where
  pub items : List Item
  pub bytes : List ℕ
  pub took : taken ≡ taken_before ++ items
  pub parts : bytes ++ rest ≡ bytes_of items
  pub wrote : Appends held_before held bytes

-- what is left of an item
abbrev pub rest_of : Option Underway → List ℕ
rest_of None = []
rest_of (Some u) = drop u.count u.item.bytes

abbrev pub IsWithin : Option Underway → Type 0
IsWithin None = Unit {0}
IsWithin (Some u) = u.count ≤ length u.item.bytes
