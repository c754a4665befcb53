-- What a call does to what is held, by numbers alone.
use Rattle.std.specs.Prelude.{◌≡◌, ◌≢◌, ℕ, suc, ◌+◌, ◌%◌, ◌<◌, ◌≤◌, true, List, [], ◌∷◌, Option, Some, None, is_some, if◌then◌else◌}
use Rattle.spk_sequence.specs.declared.answer.Step.{Step}
use Rattle.spk_sequence.specs.declared.answer.Step.TheVariants as step
use Rattle.spk_sequence.specs.Data.{Standing, IsWhole, held_at}
use Rattle.spk_sequence.specs.Step.{ahead}

-- what is held under a number
abbrev pub held_as : Standing → ℕ → Option (Option ℕ)
held_as s number = held_at s.held (ahead number s.next)

-- how many places hold a message
unfoldable pub held_count : List (Option (Option ℕ)) → ℕ
held_count [] = 0
held_count (place ∷ places) = if is_some place then suc (held_count places) else held_count places

-- what is held afterwards was held before, under the same number
abbrev pub Remains : Standing → Standing → Type 0
Remains old new = (number : ℕ) → number < 256 → (own : Option ℕ) → held_as new number ≡ Some own → held_as old number ≡ Some own

-- at most as many are consumed as there are places, and those after the one handed were held
pub record IsEaten (old new : Standing) (number count : ℕ) : Type 0 where
  pub few : count ≤ old.width
  pub next : new.next ≡ (number + count) % 256
  pub were_held : (i : ℕ) → 0 < i → i < count → is_some (held_as old ((number + i) % 256)) ≡ true

-- one place more is held, and no other changes
pub record IsAdded (old new : Standing) (number : ℕ) : Type 0 where
  pub ahead_of : 0 < ahead number old.next
  pub within : ahead number old.next < old.width
  pub next : new.next ≡ old.next
  pub was_free : held_as old number ≡ None
  pub is_held : is_some (held_as new number) ≡ true
  pub others : (other : ℕ) → other < 256 → other ≢ number → held_as new other ≡ held_as old other

-- what a step does to what is held
pub record KeepsNumbers (old new : Standing) (number : ℕ) (answer : Step) : Type 0 where
  pub whole : IsWhole new
  pub remains : answer ≢ step.Held → Remains old new
  pub eaten : (count : ℕ) → answer ≡ step.Consumed count → IsEaten old new number count
  pub added : answer ≡ step.Held → IsAdded old new number
