-- Grants in the midst of a SUBSCRIBE.
use Rattle.std.specs.Prelude.{ℕ, ◌+◌, nat_lt, Bool, ◌||◌, List, [], ◌∷◌, ◌++◌, length, map, if◌then◌else◌, min, Option, Some, None}
use Rattle.std.specs.List.{fold}
use Rattle.spk_broker_rules.specs.Data as plain
use Rattle.spk_broker_rules.specs.Table.{Table, has, remove}
use Rattle.spk_broker_rules.specs.Words.{codes_of, granted, granted_of, is_granted, most_grants, with_entry}
use Rattle.spk_broker.specs.Parts.{grant_view}
use Rattle.spk_broker.specs.declared.grant_changes.Granting.{Granting}

-- the grants, the codes, and the entries that were granted so far
pub record Grown : Type 0 where
  pub grants : Table ℕ
  pub codes : List ℕ
  pub given : List (List ℕ × ℕ)

abbrev pub granting_view : Granting → Grown
granting_view g = record { grants = map grant_view g.grants.items; codes = g.codes.items; given = map grant_view g.given.items }

-- after one more entry
abbrev pub with_request : ℕ → Grown → List ℕ × ℕ → Grown
with_request others g e = record {
  grants = with_entry others g.grants e;
  codes = g.codes ++ (if is_granted others g.grants e then min 1 e.1 else 128) ∷ [];
  given = g.given ++ (if is_granted others g.grants e then granted e ∷ [] else []);
}

-- whether there may be one more grant
abbrev pub may_grant : ℕ → Table ℕ → List ℕ → Bool
may_grant others grants name = has name grants || nat_lt (others + length grants) most_grants

abbrev pub taken_from : Table ℕ → List ℕ → Table ℕ
taken_from grants name = remove name grants

-- a session with other grants
abbrev pub regranted : Table ℕ → plain.Session → plain.Session
regranted grants s = record s { grants = grants }

-- the grants of a session, none where it ended
abbrev pub standing_grants : Option plain.Session → Table ℕ
standing_grants None = []
standing_grants (Some s) = s.grants

-- a session without the grants of these filters
abbrev pub without_grants : List (List ℕ) → plain.Session → plain.Session
without_grants names s = regranted (fold taken_from s.grants names) s

-- after all entries
abbrev pub grown_by : ℕ → Table ℕ → List (List ℕ × ℕ) → Grown
grown_by others grants entries = record {
  grants = fold (with_entry others) grants entries;
  codes = codes_of others grants entries;
  given = granted_of others grants entries;
}
