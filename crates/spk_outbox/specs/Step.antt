-- An outbox after each call (own rules).
use Rattle.std.specs.Prelude.{ℕ, ◌+◌, ◌-◌, nat_le, List, [], ◌∷◌, ◌++◌, length, if◌then◌else◌}
use Rattle.spk_outbox.specs.Data.{Outbox}

-- the most packets that may wait
abbrev pub most_waiting : ℕ
most_waiting = 1024

abbrev pub put : List ℕ → Outbox → Outbox
put p o = record o { packets = o.packets ++ p ∷ [] }

-- Of packets of which so many bytes were written in all, those that weren't written whole. One is gone once its last byte was written.
abbrev pub left_of : ℕ → List (List ℕ) → Outbox
left_of n [] = record { packets = []; written = 0 }
left_of n (p ∷ ps) = if nat_le (length p) n then left_of (n - length p) ps else record { packets = p ∷ ps; written = n }

abbrev pub written : ℕ → Outbox → Outbox
written count o = left_of (o.written + count) o.packets
