-- What is lost of what is held: by numbers, from what was held before an event, what it consumes and what is held after it
-- (own rule).
use Rattle.std.specs.Prelude.{ℕ, Bool, false, ◌&&◌, not, nat_lt, ◌==◌, List, Option, is_some, if◌then◌else◌}
use Rattle.std.specs.List.{range_with_len, count_by, position_or_len}
use Rattle.spk_sequence.specs.declared.answer.Step.{Step}
use Rattle.spk_sequence.specs.declared.answer.Step.TheVariants as step
use Rattle.spk_sequence.specs.declared.answer.Loss.{Loss}
use Rattle.spk_sequence.specs.Data.{Standing}
use Rattle.spk_sequence.specs.Step.{is_any_held, ahead, hand, fresh_standing}
use Rattle.spk_sequence.specs.Calls.{Call, Hand, after_call}
use Rattle.spk_sequence.specs.Numbers.{held_as, held_count}

-- A call of `Sequence`, or the end of a host session.
pub data Event : Type 0 where
  Called : Call → Event
  Reset : Event

abbrev pub after_event : Standing → Event → Standing
after_event s (Called call) = after_call s call
after_event s Reset = fresh_standing s.wait s.width

-- a message is held under a number
abbrev pub is_held_as : Standing → ℕ → Bool
is_held_as s x = is_some (held_as s x)

-- a step consumes what is held under the numbers 1 to count - 1 past the one handed
abbrev pub takes_held : Step → ℕ → ℕ → Bool
takes_held (step.Consumed count) number x = nat_lt 0 (ahead x number) && nat_lt (ahead x number) count
takes_held _ number x = false

-- an event consumes what is held under a number
abbrev pub consumes : Standing → Event → ℕ → Bool
consumes s (Called (Hand number kind now)) x = takes_held (hand s number kind now).0 number x
consumes s _ x = false

-- a message is held under a number, the event doesn't consume it, and afterwards it is held no longer
abbrev pub drops : Standing → Event → ℕ → Bool
drops s e x = is_held_as s x && not (consumes s e x) && not (is_held_as (after_event s e) x)

-- how many of the 256 numbers pass a test
unfoldable pub numbers_with : (ℕ → Bool) → ℕ
numbers_with test = count_by test (range_with_len 0 256)

-- how many held messages an event drops
abbrev pub dropped_at : Standing → Event → ℕ
dropped_at s e = numbers_with (drops s e)

-- how many numbers there are from the one that comes next to the nearest held one, without it; 0 where none is held
abbrev pub missing_in : List (Option (Option ℕ)) → ℕ
missing_in held = if is_any_held held then position_or_len is_some held else 0

abbrev pub no_loss : Loss
no_loss = record { held = 0; missing = 0 }

-- what an event loses that drops all that is held
abbrev pub at_stake : Standing → Loss
at_stake s = record { held = held_count s.held; missing = missing_in s.held }

-- What an event loses: the held messages that it drops, and where there are any, what was missing before the nearest
-- held one.
abbrev pub loss_at : Standing → Event → Loss
loss_at s e = if dropped_at s e == 0 then no_loss else record { held = dropped_at s e; missing = missing_in s.held }
