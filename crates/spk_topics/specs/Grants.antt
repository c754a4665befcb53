-- The grants that stand: the QoS of a filter, as bytes, and a key. Each pair of a filter and a key has one at most.
use Rattle.std.specs.Prelude.{◌≡◌, ◌≤◌, ℕ, List, Some, Contains, map}
use Rattle.std.specs.List.Sorted.{IsStrictlyIncreasing}
use Rattle.std.specs.Ordering.{nat_cmp, ordering_then}
use Rattle.std.specs.declared.cmp.Ordering.{Ordering}
use Rattle.std.specs.Cmp.Lexicographic.{slice_cmp}
use Rattle.std.specs.FinMap.{FinMap, get}
use Rattle.spk_topics.specs.Matching.{Matches}

-- by the filter, and then by the key
abbrev pub grant_cmp : List ℕ × ℕ → List ℕ × ℕ → Ordering
grant_cmp a b = ordering_then (slice_cmp nat_cmp a.0 b.0) (nat_cmp a.1 b.1)

abbrev pub Grants : Type 0
Grants = FinMap grant_cmp ℕ

-- a filter that matches the topic has this grant for the key
abbrev pub HasGrant : Grants → List ℕ → ℕ → ℕ → Type 0
HasGrant grants topic key qos = (filter : List ℕ) × Matches filter topic × (get grants (filter, key) ≡ Some qos)

-- the greatest grant of the key by the filters that match the topic
pub record IsGreatest (grants : Grants) (topic : List ℕ) (key qos : ℕ) : Type 0 where
  pub granted : HasGrant grants topic key qos
  pub greatest : (other : ℕ) → HasGrant grants topic key other → other ≤ qos

-- each key that has a matching filter, once, in ascending keys, with its greatest grant
pub record Finds (grants : Grants) (topic : List ℕ) (found : List (ℕ × ℕ)) : Type 0 where
  pub ascending : IsStrictlyIncreasing (map (λ g. g.0) found)
  pub each : (key qos : ℕ) → Contains found (key, qos) → IsGreatest grants topic key qos
  pub all : (key qos : ℕ) → HasGrant grants topic key qos → (best : ℕ) × Contains found (key, best)
