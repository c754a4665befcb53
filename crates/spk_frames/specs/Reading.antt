-- What the readers give, one definition for each: a value and the bytes behind it, or nothing.
use Rattle.std.specs.Prelude.{◌≡◌, ℕ, List, [], ◌∷◌, length, take, drop, Option, Some, None, nat_lt, if◌then◌else◌}
use Rattle.std.specs.Int.{w16, w32, w64, from_le_bytes}
use Rattle.std.specs.Option.{option_and_then}
use Rattle.std.specs.Str.{is_utf8}

infixl 10 ◌>>=◌
abbrev pub ◌>>=◌ : {A B : Type 0} → Option A → (A → Option B) → Option B
o >>= f = option_and_then f o

-- what was given, seen by a view, is this
abbrev pub Gives : {X Y : Type 0} → (X → Y) → Option X → Option Y → Type 0
Gives view (Some x) given = given ≡ Some (view x)
Gives view None given = given ≡ None

-- ---- parts

unfoldable pub one_at : List ℕ → Option (ℕ × List ℕ)
one_at [] = None
one_at (b ∷ rest) = Some (b, rest)

unfoldable pub two_at : List ℕ → Option (ℕ × List ℕ)
two_at bytes = if nat_lt (length bytes) 2 then None else Some (from_le_bytes w16 (take 2 bytes), drop 2 bytes)

unfoldable pub four_at : List ℕ → Option (ℕ × List ℕ)
four_at bytes = if nat_lt (length bytes) 4 then None else Some (from_le_bytes w32 (take 4 bytes), drop 4 bytes)

unfoldable pub eight_at : List ℕ → Option (ℕ × List ℕ)
eight_at bytes = if nat_lt (length bytes) 8 then None else Some (from_le_bytes w64 (take 8 bytes), drop 8 bytes)

-- this many bytes that are UTF-8
unfoldable pub name_of : ℕ → List ℕ → Option (List ℕ × List ℕ)
name_of n rest = if nat_lt (length rest) n then None else if is_utf8 (take n rest) then Some (take n rest, drop n rest) else None

unfoldable pub name_at : List ℕ → Option (List ℕ × List ℕ)
name_at bytes = do
  n ← two_at bytes
  name_of n.0 n.1

-- nothing is left
unfoldable pub ended : {X : Type 0} → X → List ℕ → Option X
ended x [] = Some x
ended x (b ∷ bs) = None
