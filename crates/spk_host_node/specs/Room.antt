-- How much room a step takes.
use Rattle.std.specs.Prelude.{◌≡◌, ℕ, ◌+◌, ◌-◌, List, []}
use Rattle.spk_sequence.specs.declared.answer.Step.{Step}
use Rattle.spk_sequence.specs.declared.answer.Step.TheVariants as step

-- how many events the view hears by a step, at most
abbrev pub most_heard : Step → ℕ
most_heard (step.Consumed n) = 1 + (n - 1)
most_heard step.Gap = 1
most_heard step.NotLive = 1
most_heard _ = 0

-- nothing is consumed where the step consumes nothing
abbrev pub IsNothing : {X : Type 0} → Step → List X → Type 0
IsNothing (step.Consumed n) taken = Unit {0}
IsNothing _ taken = taken ≡ []

-- the message is neither consumed nor held
abbrev pub IsDropped : Step → Type 0
IsDropped (step.Consumed n) = ⊥
IsDropped step.Held = ⊥
IsDropped _ = Unit {0}
