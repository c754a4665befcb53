-- The numbers of what is consumed, over a list of calls and resets in the order of time.
use Rattle.std.specs.Prelude.{◌≡◌, ℕ, ◌+◌, ◌%◌, List, [], ◌∷◌, ◌++◌, map}
use Rattle.std.specs.List.{range_with_len}
use Rattle.spk_sequence.specs.declared.message.Kind.TheVariants.{Birth}
use Rattle.spk_sequence.specs.Data.{Standing}
use Rattle.spk_sequence.specs.Calls.{Hand}
use Rattle.spk_sequence.specs.Losses.{Event, Called, after_event}
use Rattle.spk_sequence.specs.Fates.{consumed_at}

-- so many numbers that follow one another, 0 after 255
abbrev pub numbers_from : ℕ → ℕ → List ℕ
numbers_from first count = map (λ i. (first + i) % 256) (range_with_len 0 count)

-- the numbers that an event consumes: that of the message handed, and those after it
abbrev pub numbers_at : Standing → Event → List ℕ
numbers_at s (Called (Hand number kind now)) = numbers_from number (consumed_at s (Called (Hand number kind now)))
numbers_at s _ = []

abbrev pub numbers_consumed : Standing → List Event → List ℕ
numbers_consumed s [] = []
numbers_consumed s (e ∷ events) = numbers_at s e ++ numbers_consumed (after_event s e) events

-- an event takes no birth: where it is one, it consumes nothing
abbrev pub TakesNone : Standing → Event → Type 0
TakesNone s (Called (Hand number (Birth stamp bd) now)) = consumed_at s (Called (Hand number (Birth stamp bd) now)) ≡ 0
TakesNone s _ = Unit {0}

abbrev pub NoBirthTaken : Standing → List Event → Type 0
NoBirthTaken s [] = Unit {0}
NoBirthTaken s (e ∷ events) = TakesNone s e × NoBirthTaken (after_event s e) events
