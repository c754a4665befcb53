-- A moment that comes, or never does.
use Rattle.std.specs.Prelude.{ℕ, Bool, false, nat_le, Option, Some, None}

-- the moment came, where there is one
abbrev pub has_come : Option ℕ → ℕ → Bool
has_come None now = false
has_come (Some due) now = nat_le due now
