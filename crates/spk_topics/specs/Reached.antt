-- What the rows of matching filters hold.
use Rattle.std.specs.Prelude.{◌≡◌, ◌≤◌, ℕ, List, Some, Option, slice_get}
use Rattle.std.specs.Map.{lookup}
use Rattle.std.specs.BTreeMap.{is_at}
use Rattle.std.specs.Ordering.{nat_cmp}
use Rattle.spk_topics.specs.Matching.{Matches}
use Rattle.spk_topics.specs.Rows.{Row}

-- the row of a filter that matches the topic holds the QoS for the key
pub record Reached (rows : List Row) (topic : List ℕ) (key qos : ℕ) : Type 0 where
  pub place : ℕ
  pub row : Row
  pub there : slice_get rows place ≡ Some row
  pub matching : Matches row.0 topic
  pub holds : lookup (is_at (nat_cmp key)) row.1 ≡ Some qos

-- at least this QoS
abbrev pub HasLeast : Option ℕ → ℕ → Type 0
HasLeast o qos = (best : ℕ) × (o ≡ Some best) × (qos ≤ best)

-- found has the greatest of what matching rows hold, key by key
pub record FindsAll (rows : List Row) (topic : List ℕ) (found : ℕ → Option ℕ) : Type 0 where
  pub sound : (key qos : ℕ) → found key ≡ Some qos → Reached rows topic key qos
  pub all : (key qos : ℕ) → Reached rows topic key qos → HasLeast (found key) qos
