-- The greatest QoS of each key, gathered grant by grant.
use Rattle.std.specs.Prelude.{◌≡◌, ◌⊎◌, ◌≤◌, ℕ, max, List, [], ◌∷◌, Some, Option, cond, unwrap_or}
use Rattle.std.specs.Ordering.{nat_cmp, is_eq}

-- the QoS of a key with those of these entries, in their order
abbrev pub merged : ℕ → Option ℕ → List (ℕ × ℕ) → Option ℕ
merged key old [] = old
merged key old (e ∷ es) = merged key (cond (is_eq (nat_cmp e.0 key)) (Some (max (unwrap_or old 0) e.1)) old) es

-- new is old with the grants of more keys, where each key has the greatest
pub record Gathers (old new grants : ℕ → Option ℕ) : Type 0 where
  pub sound : (key qos : ℕ) → new key ≡ Some qos → (old key ≡ Some qos) ⊎ (grants key ≡ Some qos)
  pub kept : (key qos : ℕ) → old key ≡ Some qos → (best : ℕ) × (new key ≡ Some best) × (qos ≤ best)
  pub taken : (key qos : ℕ) → grants key ≡ Some qos → (best : ℕ) × (new key ≡ Some best) × (qos ≤ best)
