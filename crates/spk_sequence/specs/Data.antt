-- The plain data of the order of one node at a host, of which the contracts of `Sequence` speak.
use Rattle.std.specs.Prelude.{◌≡◌, ℕ, ◌<◌, ◌≤◌, List, length, get_or, Option, None}
use Rattle.spk_sequence.specs.declared.phase.Phase.{Phase}

-- How the order of one node stands. Place i of `held` is the message whose number is i past `next`: None if it is
-- not held, and its stamp, which may be missing, if it is.
pub record Standing : Type 0 where
  -- how long a held message waits, in milliseconds, and how many places there are
  pub wait : ℕ
  pub width : ℕ
  pub phase : Phase
  -- of the birth taken last: its stamp in milliseconds, and its bdSeq
  pub stamp : ℕ
  pub bd : ℕ
  -- the number that comes next, as it was when the phase was last Live
  pub next : ℕ
  -- the moment from which on the wait counts, while a message is held
  pub since : ℕ
  pub held : List (Option (Option ℕ))

-- what place i holds
abbrev pub held_at : List (Option (Option ℕ)) → ℕ → Option (Option ℕ)
held_at held i = get_or held i None

-- The data is whole: 1 to 96 places, none of them for the message that comes next, and numbers of one byte.
pub record IsWhole (s : Standing) : Type 0 where
  pub some_places : 0 < s.width
  pub few_places : s.width ≤ 96
  pub one_byte : s.next < 256
  pub all_places : length s.held ≡ s.width
  pub next_not_held : held_at s.held 0 ≡ None
