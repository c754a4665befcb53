-- What a view hears at a message: whether it follows the node, and whether the node is online behind it.
use Rattle.std.proofs.Common.{◌≡◌, ◌∙◌, sym, ap, refl, ℕ, Bool, true, false, ◌||◌, List, [], ◌∷◌, ◌++◌, map, reverse, append_assoc}
use Rattle.std.proofs.lemmas.Bool.{or_left, or_right}
use Rattle.std.proofs.lemmas.List.{reverse-append}
use Rattle.spk_reading.specs.Data.{NumberedData}
use Rattle.spk_host_rules.specs.Data.{Event, Message, Consumed}
use Rattle.spk_host_rules.specs.Values.{is_node_birth}
use Rattle.spk_host_node.specs.Step.{consumed_at, message_of}

-- what a birth makes true, and any other message leaves as it is
abbrev pub IsOfBirths : (List Event → Bool) → Type 0
IsOfBirths F = (m : Message) (now : ℕ) (es : List Event) → F (Consumed m now ∷ es) ≡ (is_node_birth m || F es)

pub reverse_cons : {X : Type 0} (x : X) (xs : List X) → reverse (x ∷ xs) ≡ reverse xs ++ x ∷ []
reverse_cons x xs = reverse-append (x ∷ []) xs

pub next_event : (now : ℕ) (m : NumberedData) (ms : List NumberedData) (es : List Event) →
    reverse (map (consumed_at now) (m ∷ ms)) ++ es ≡ reverse (map (consumed_at now) ms) ++ (consumed_at now m ∷ es)
next_event now m ms es =
    ap (λ (xs : List Event). xs ++ es) (reverse_cons (consumed_at now m) (map (consumed_at now) ms))
    ∙ append_assoc (reverse (map (consumed_at now) ms)) (consumed_at now m ∷ []) es

-- it stays true
pub stays_true : (F : List Event → Bool) → IsOfBirths F → (now : ℕ) (ms : List NumberedData) (es : List Event) → F es ≡ true →
    F (reverse (map (consumed_at now) ms) ++ es) ≡ true
stays_true F of now [] es e = e
stays_true F of now (m ∷ ms) es e =
    ap F (next_event now m ms es)
    ∙ stays_true F of now ms (consumed_at now m ∷ es) (of (message_of m) now es ∙ or_right (is_node_birth (message_of m)) (F es) e)

-- a birth makes it true
pub birth_makes : (F : List Event → Bool) → IsOfBirths F → (now : ℕ) (m : NumberedData) (ms : List NumberedData) (es : List Event) →
    is_node_birth (message_of m) ≡ true → F (reverse (map (consumed_at now) (m ∷ ms)) ++ es) ≡ true
birth_makes F of now m ms es e =
    ap F (next_event now m ms es)
    ∙ stays_true F of now ms (consumed_at now m ∷ es) (of (message_of m) now es ∙ or_left (is_node_birth (message_of m)) (F es) e)
