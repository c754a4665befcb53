-- What the filters of grants take of an index (own rule).
use Rattle.std.specs.Prelude.{ℕ, ◌+◌, ◌/◌, List, length}
use Rattle.std.specs.List.{sum_by}
use Rattle.spk_topics.specs.Levels.{levels}
use Rattle.spk_broker_rules.specs.Data.{Session}
use Rattle.spk_broker_rules.specs.Table.{Table}

-- a filter: its levels, and one more for each 64 bytes
abbrev pub size_of : List ℕ → ℕ
size_of filter = length (levels filter) + length filter / 64

abbrev pub size_of_grants : Table ℕ → ℕ
size_of_grants grants = sum_by (λ g. size_of g.0) grants

-- the grants of all sessions together
abbrev pub size_of_all : List Session → ℕ
size_of_all sessions = sum_by (λ (s : Session). size_of_grants s.grants) sessions
