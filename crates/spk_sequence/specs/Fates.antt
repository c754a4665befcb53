-- What became of each message that was handed, over a list of calls and resets in the order of time: what is held is
-- followed by its number until an event consumes it, or it is held no longer (own rule).
use Rattle.std.specs.Prelude.{ℕ, suc, ◌<◌, Bool, true, false, ◌==◌, List, [], ◌∷◌, map, if◌then◌else◌}
use Rattle.std.specs.List.{sum_by}
use Rattle.spk_sequence.specs.declared.answer.Step.{Step}
use Rattle.spk_sequence.specs.declared.answer.Step.TheVariants as step
use Rattle.spk_sequence.specs.declared.answer.Loss.{Loss}
use Rattle.spk_sequence.specs.Data.{Standing}
use Rattle.spk_sequence.specs.Step.{hand}
use Rattle.spk_sequence.specs.Calls.{Hand}
use Rattle.spk_sequence.specs.Losses.{Event, Called, after_event, is_held_as, consumes, loss_at}

-- The event at which it came is named by its place in the list, from 0 on.
pub data Fate : Type 0 where
  ConsumedAt : ℕ → Fate
  -- held at the end
  StillHeld : Fate
  -- neither consumed nor held as it came: old, held already, too far ahead, or of a node that isn't followed
  TurnedAway : Fate
  -- held, and dropped at an event
  DroppedAt : ℕ → Fate

-- the same in a list with one event more before it
abbrev pub later : Fate → Fate
later (ConsumedAt k) = ConsumedAt (suc k)
later StillHeld = StillHeld
later TurnedAway = TurnedAway
later (DroppedAt k) = DroppedAt (suc k)

-- of a message that is held under a number before these events
abbrev pub fate_of_held : Standing → ℕ → List Event → Fate
fate_of_held s x [] = StillHeld
fate_of_held s x (e ∷ events) =
    if consumes s e x then ConsumedAt 0
    else if is_held_as (after_event s e) x then later (fate_of_held (after_event s e) x events)
    else DroppedAt 0

-- of the message that the first event hands, by the step and by how the order stands after it
abbrev pub fate_by : Step → Standing → ℕ → List Event → Fate
fate_by (step.Consumed count) s number events = ConsumedAt 0
fate_by step.Held s number events = later (fate_of_held s number events)
fate_by _ s number events = TurnedAway

-- of each message handed, in order
abbrev pub fates : Standing → List Event → List Fate
fates s [] = []
fates s (Called (Hand number kind now) ∷ events) =
    let done = hand s number kind now in fate_by done.0 done.1 number events ∷ map later (fates done.1 events)
fates s (e ∷ events) = map later (fates (after_event s e) events)

abbrev pub is_consumed_at : ℕ → Fate → Bool
is_consumed_at k (ConsumedAt j) = j == k
is_consumed_at k _ = false

abbrev pub is_dropped_at : ℕ → Fate → Bool
is_dropped_at k (DroppedAt j) = j == k
is_dropped_at k _ = false

abbrev pub is_still_held : Fate → Bool
is_still_held StillHeld = true
is_still_held _ = false

abbrev pub is_turned_away : Fate → Bool
is_turned_away TurnedAway = true
is_turned_away _ = false

-- how many messages a step says to be consumed
abbrev pub consumed_by : Step → ℕ
consumed_by (step.Consumed count) = count
consumed_by _ = 0

-- 1 where a step says that the message is neither consumed nor held
abbrev pub turned_away_by : Step → ℕ
turned_away_by (step.Consumed count) = 0
turned_away_by step.Held = 0
turned_away_by _ = 1

-- what an event answers: how many messages are handed, consumed and turned away
abbrev pub handed_at : Standing → Event → ℕ
handed_at s (Called (Hand number kind now)) = 1
handed_at s _ = 0

abbrev pub consumed_at : Standing → Event → ℕ
consumed_at s (Called (Hand number kind now)) = consumed_by (hand s number kind now).0
consumed_at s _ = 0

abbrev pub turned_away_at : Standing → Event → ℕ
turned_away_at s (Called (Hand number kind now)) = turned_away_by (hand s number kind now).0
turned_away_at s _ = 0

abbrev pub after_events : Standing → List Event → Standing
after_events s [] = s
after_events s (e ∷ events) = after_events (after_event s e) events

-- what is said of each event, in order
abbrev pub each : {A : Type 0} → (Standing → Event → A) → Standing → List Event → List A
each f s [] = []
each f s (e ∷ events) = f s e ∷ each f (after_event s e) events

-- how many messages are lost in all, as the losses say
abbrev pub lost_count : Standing → List Event → ℕ
lost_count s events = sum_by (λ (loss : Loss). loss.held) (each loss_at s events)

-- each number handed is a byte
abbrev pub IsByte : Event → Type 0
IsByte (Called (Hand number kind now)) = number < 256
IsByte _ = Unit {0}

abbrev pub AreBytes : List Event → Type 0
AreBytes [] = Unit {0}
AreBytes (e ∷ events) = IsByte e × AreBytes events
