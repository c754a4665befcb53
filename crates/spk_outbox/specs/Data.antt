-- The plain data of an outbox: the packets that wait for one client, and how much of the first was written (own rules).
use Rattle.std.specs.Prelude.{ℕ, ◌≤◌, List, [], ◌∷◌, length, drop}
use Rattle.std.specs.List.{concat}

pub record Outbox : Type 0 where
  -- oldest first
  pub packets : List (List ℕ)
  -- how many bytes of the first were written
  pub written : ℕ

-- for so many packets there is room from the start
abbrev pub first_room : ℕ
first_room = 4

abbrev pub fresh_outbox : Outbox
fresh_outbox = record { packets = []; written = 0 }

-- no more was written of the first than it has
abbrev pub IsPartOfFirst : ℕ → List (List ℕ) → Type 0
IsPartOfFirst n [] = n ≤ 0
IsPartOfFirst n (p ∷ ps) = n ≤ length p

-- the bytes that are still to be written, in order
abbrev pub waiting : Outbox → List ℕ
waiting o = drop o.written (concat o.packets)

abbrev pub rest_of_first_in : ℕ → List (List ℕ) → List ℕ
rest_of_first_in n [] = []
rest_of_first_in n (p ∷ ps) = drop n p

abbrev pub rest_of_first : Outbox → List ℕ
rest_of_first o = rest_of_first_in o.written o.packets
