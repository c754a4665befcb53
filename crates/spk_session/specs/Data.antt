-- The plain data of a client's session, of which the contracts of `Session` speak.
use Rattle.std.specs.Prelude.{ℕ, ◌≤◌, List, take}
use Rattle.spk_session.specs.PacketIds.{AreIds}

-- How a session stands.
pub record Standing : Type 0 where
  -- the ids in use, in the order in which they were given
  pub used : List ℕ
  -- the id given last, 0 where none was
  pub last : ℕ
  -- drops since the connection began, up to 65,535, and the number of the one that closes it
  pub drops : ℕ
  pub limit : ℕ

-- The packet identifiers of a session, without its drops.
pub record Ids : Type 0 where
  -- the ids in use, in the order in which they were given
  pub used : List ℕ
  -- the id given last, 0 where none was
  pub last : ℕ

-- The drops of a connection.
pub record Drops : Type 0 where
  -- drops since the connection began, up to 65,535
  pub drops : ℕ
  -- the number of the drop that closes it
  pub limit : ℕ

-- The ids in use are ids, no two are equal, and there are at most 1,024.
abbrev pub AreWhole : Ids → Type 0
AreWhole i = AreIds i.used

-- The data is whole: the ids in use are ids, no two are equal, and there are at most 1,024.
abbrev pub IsWhole : Standing → Type 0
IsWhole s = AreIds s.used

-- the ids in use stand in front of a table of 1,024 places
pub record IsTable (table : List ℕ) (count : ℕ) : Type 0 where
  pub count_fits : count ≤ 1024
  pub ids : AreIds (take count table)
