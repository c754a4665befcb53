-- Several changes of one owner at once, beside the same changes one after the other.
use Rattle.std.specs.Prelude.{◌≡◌, ℕ, List, [], ◌∷◌, ◌++◌, Option, None, map}
use Rattle.std.specs.List.{flat_map}
use Rattle.spk_payload.specs.Meaning.{MetricData}
use Rattle.spk_payload.specs.Typing.{Typed}
use Rattle.spk_device.specs.Book.{Book}
use Rattle.spk_device.specs.Step.{set_refusal}
use Rattle.spk_edge_rules.specs.Config.{Config}
use Rattle.spk_edge_rules.specs.Inputs.{Change, Input}
use Rattle.spk_edge_rules.specs.Messages.{Draft}
use Rattle.spk_edge_rules.specs.Rules.{Asked, changing}
use Rattle.spk_edge_rules.specs.Step.{asked_after}

-- one of them alone, at the same moment
abbrev pub single : ℕ → ℕ × Option Typed → Input
single now x = record { now = now; ack = None; act = Change x.0 x.1 }

-- what the rules look at behind it
abbrev pub behind : Config → Asked → ℕ → ℕ × Option Typed → Asked
behind c a now x = asked_after c a (single now x) (changing a now x.0 x.1)

-- none of them is refused, one after the other
abbrev pub AreTaken : Config → Asked → ℕ → List (ℕ × Option Typed) → Type 0
AreTaken c a now [] = Unit {0}
AreTaken c a now (x ∷ xs) = (set_refusal a.book x.0 x.1 ≡ None) × AreTaken c (behind c a now x) now xs

-- their messages, each in its turn
abbrev pub messages_of : Config → Asked → ℕ → List (ℕ × Option Typed) → List Draft
messages_of c a now [] = []
messages_of c a now (x ∷ xs) = (changing a now x.0 x.1).drafts ++ messages_of c (behind c a now x) now xs

-- the registry behind the last one
abbrev pub book_behind : Config → Asked → ℕ → List (ℕ × Option Typed) → Book
book_behind c a now [] = a.book
book_behind c a now (x ∷ xs) = book_behind c (behind c a now x) now xs

-- what messages say, in order: each metric with its message's device (none is the node itself) and stamp
abbrev pub told_in : List Draft → List (Option (List ℕ) × ℕ × MetricData)
told_in drafts = flat_map (λ d. map (λ m. (d.device, d.stamp, m)) d.metrics) drafts
