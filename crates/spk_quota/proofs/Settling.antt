-- A will that becomes a retained message.
use Rattle.std.proofs.Common.{◌≡◌, ◌∙◌, ◌+◌, ◌≤◌, ◌&&◌, ◌==◌, ℕ, Bool, true, false, not, cond, List, [], ◌∷◌, ◌++◌, Option, Some, None, is_none, slice_get, refl, ap, arith}
use Rattle.std.specs.List.{filter, find, remove, sum_by}
use Rattle.std.specs.Option.{option_map_or}
use Rattle.std.proofs.lemmas.List.Sums.{sum_by_push}
use Rattle.spk_quota.specs.Data.{MessageData}
use Rattle.spk_quota.specs.Step.{bytes_on, has_conn, is_retained, is_will_of, retained_of, settled, stays_beside}
use Rattle.spk_quota.proofs.Lists.{filter-sum, filter-without, found-part, three-parts}

-- the messages behind it, by the will that was found
abbrev pub settled_by : ℕ → List MessageData → Option MessageData → List MessageData
settled_by conn messages found =
    option_map_or (λ (will : MessageData). filter (stays_beside conn will) messages ++ retained_of will (bytes_on will.user will.topic messages) ∷ []) found messages

-- the will itself doesn't stay
goes : (conn : ℕ) (will : MessageData) → is_will_of conn will ≡ true → stays_beside conn will will ≡ false
goes conn will is = ap (λ b. not b && not (is_retained will.user will.topic will)) is

pub settled-at : (conn : ℕ) (messages : List MessageData) (place : ℕ) (will own : MessageData) (bytes : ℕ) → slice_get messages place ≡ Some will → is_will_of conn will ≡ true → own ≡ will
    → filter (stays_beside conn own) (remove messages place) ++ retained_of own bytes ∷ [] ≡ filter (stays_beside conn will) messages ++ retained_of will bytes ∷ []
settled-at conn messages place will own bytes at is same =
    ap (λ m. filter (stays_beside conn m) (remove messages place) ++ retained_of m bytes ∷ []) same
    ∙ ap (λ ms. ms ++ retained_of will bytes ∷ []) (filter-without (stays_beside conn will) messages place will at (goes conn will is))

-- a message is the will, or the retained message on its topic, or stays, or none of these
one-of : (o : Option ℕ) (conn : ℕ) (a b : Bool) (n : ℕ)
    → cond (has_conn o conn) n 0 + cond ((is_none o && a) && b) n 0 + cond (not (has_conn o conn) && not ((is_none o && a) && b)) n 0 ≤ n
one-of None conn true true n = omega arith
one-of None conn true false n = omega arith
one-of None conn false b n = omega arith
one-of (Some own) conn a b n = by (own == conn)
  where
    by : (c : Bool) → cond c n 0 + 0 + cond (not c && true) n 0 ≤ n
    by true = omega arith
    by false = omega arith

-- a weight that the retained message has is its will's, and that of the message on its topic
abbrev pub IsShared : (MessageData → ℕ) → List MessageData → Type 0
IsShared g messages = (will : MessageData) → g (retained_of will (bytes_on will.user will.topic messages)) ≤ g will + sum_by (λ m. cond (is_retained will.user will.topic m) (g m) 0) messages

pub settled-less : (g : MessageData → ℕ) (conn : ℕ) (messages : List MessageData) → IsShared g messages → sum_by g (settled conn messages) ≤ sum_by g messages
settled-less g conn messages shared = by (find (is_will_of conn) messages) refl
  where
    by : (o : Option MessageData) → find (is_will_of conn) messages ≡ o → sum_by g (settled_by conn messages o) ≤ sum_by g messages
    by None is = omega arith
    by (Some will) is =
        omega (
          arith,
          sum_by_push g (filter (stays_beside conn will) messages) (retained_of will (bytes_on will.user will.topic messages)),
          filter-sum (stays_beside conn will) g messages,
          shared will,
          found-part (is_will_of conn) g messages will is,
          three-parts (λ m. cond (is_will_of conn m) (g m) 0) (λ m. cond (is_retained will.user will.topic m) (g m) 0) (λ m. cond (stays_beside conn will m) (g m) 0) g
              (λ m. one-of m.will_of conn (m.user == will.user) _ (g m)) messages,
        )
