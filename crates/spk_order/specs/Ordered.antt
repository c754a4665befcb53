-- The plain data of the order of one node with the payloads beside it: how the order stands, and what is kept.
use Rattle.std.specs.Prelude.{◌≡◌, ℕ, ◌<◌, List, length, get_or, Option, None, is_some}
use Rattle.spk_sequence.specs.Data.{Standing, IsWhole}
use Rattle.spk_sequence.specs.Numbers.{held_as}

-- Entry x of `kept` is the payload of the message that is held under the number x, of 256 numbers.
pub record Ordered (T : Type 0) : Type 0 where
  pub standing : Standing
  pub kept : List (Option T)

-- what is kept under a number
abbrev pub kept_at : {T : Type 0} → List (Option T) → ℕ → Option T
kept_at kept number = get_or kept number None

-- The order is whole, and a payload is kept under a number exactly where the order holds a message of that number.
pub record IsKept {T : Type 0} (standing : Standing) (kept : List (Option T)) : Type 0 where
  pub whole : IsWhole standing
  pub sized : length kept ≡ 256
  pub exact : (number : ℕ) → number < 256 → is_some (kept_at kept number) ≡ is_some (held_as standing number)
