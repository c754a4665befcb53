-- The slots behind the places: one bit and one stamp for each number modulo 128.
use Rattle.std.specs.Prelude.{◌≡◌, ℕ, ◌+◌, ◌%◌, ◌<◌, ◌≤◌, ◌==◌, ◌&&◌, nat_lt, ◌-◌, List, map, length, get_or, Option, Some, None, if◌then◌else◌}
use Rattle.std.specs.List.{range_with_len}
use Rattle.std.specs.Int.{bit_at}
use Rattle.spk_sequence.specs.Step.{ahead, is_kept}

-- what each of the 128 slots holds, from a mask and the stamps
unfoldable pub slots_of : ℕ → List (Option ℕ) → List (Option (Option ℕ))
slots_of mask stamps = map (λ k. if bit_at mask k == 1 then Some (get_or stamps k None) else None) (range_with_len 0 128)

-- what the slot of the number i past `from` holds
abbrev pub place_at : List (Option (Option ℕ)) → ℕ → ℕ → Option (Option ℕ)
place_at slots from i = get_or slots ((from + i) % 128) None

-- the places counted from a number
unfoldable pub places_of : List (Option (Option ℕ)) → ℕ → ℕ → List (Option (Option ℕ))
places_of slots from width = map (place_at slots from) (range_with_len 0 width)

-- the slots past the places are empty
pub record IsClearPast (slots : List (Option (Option ℕ))) (from width : ℕ) : Type 0 where
  pub sized : length slots ≡ 128
  pub clear : (i : ℕ) → width ≤ i → i < 128 → place_at slots from i ≡ None

-- so is the slot of the number that comes next, a byte, and there are 1 to 96 places
pub record IsWithin (slots : List (Option (Option ℕ))) (from width : ℕ) : Type 0 where
  pub some_places : 0 < width
  pub few_places : width ≤ 96
  pub one_byte : from < 256
  pub past : IsClearPast slots from width
  pub first : place_at slots from 0 ≡ None

-- The number whose slot this is, by its distance from `from`: it is less than 128 ahead.
abbrev pub number_in : ℕ → ℕ → ℕ
number_in from slot = (from + (slot + 128 - from % 128) % 128) % 256

-- what a birth of this number and stamp leaves in a slot, where the places were counted from `from`
abbrev pub left_in : List (Option (Option ℕ)) → ℕ → ℕ → ℕ → ℕ → ℕ → Option (Option ℕ)
left_in slots from width number stamp slot =
    let past = ahead (number_in from slot) number in
    let entry = get_or slots slot None in
    if nat_lt 0 past && nat_lt past width && is_kept entry stamp then entry else None

-- each slot is as a birth leaves it
pub record IsKeptBy (old new : List (Option (Option ℕ))) (from width number stamp : ℕ) : Type 0 where
  pub sized : length new ≡ 128
  pub left : (k : ℕ) → k < 128 → get_or new k None ≡ left_in old from width number stamp k

-- the slots of the first numbers from `from` on are empty, and the others as they were
pub record IsClearedTo (old new : List (Option (Option ℕ))) (from count : ℕ) : Type 0 where
  pub sized : length new ≡ 128
  pub empty : (i : ℕ) → i < count → place_at new from i ≡ None
  pub others : (i : ℕ) → count ≤ i → i < 128 → place_at new from i ≡ place_at old from i
