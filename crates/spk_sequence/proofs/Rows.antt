-- What the definitions answer in runs that are worked out by hand: a wait of 2000, stamps of 100 but for the births'.
use Rattle.std.specs.Prelude.{◌≡◌, ℕ, true, false, [], ◌∷◌, Some, None, refl}
use Rattle.spk_sequence.specs.declared.message.Kind.TheVariants.{Birth, Other}
use Rattle.spk_sequence.specs.declared.answer.Step.TheVariants as step
use Rattle.spk_sequence.specs.declared.answer.Match.TheVariants.{Matched, Ignored}
use Rattle.spk_sequence.specs.Data.{Standing}
use Rattle.spk_sequence.specs.Step.{fresh_standing, next_of}
use Rattle.spk_sequence.specs.Calls.{Call, Hand, Tick, Death, Stepped, Ticked, Told, replies_of, after_calls}

-- after a birth with the number before this one
abbrev at_next : ℕ → ℕ → Standing
at_next width number = after_calls (fresh_standing 2000 width) (Hand number (Birth 100 4) 0 ∷ [])

-- the number after the birth at 9
abbrev at_ten : ℕ → Standing
at_ten width = at_next width 9

-- another message, at a moment
abbrev other : ℕ → ℕ → Call
other number now = Hand number (Other (Some 100)) now

abbrev birth : ℕ → ℕ → ℕ → Call
birth number stamp bd = Hand number (Birth stamp bd) 0

-- numbers that follow one another, round from 255 to 0
pub one_after_another : (replies_of (at_next 64 250) (other 251 0 ∷ other 252 0 ∷ other 253 0 ∷ other 254 0 ∷ other 255 0 ∷ other 0 0 ∷ other 1 0 ∷ []) ≡ Stepped (step.Consumed 1) ∷ Stepped (step.Consumed 1) ∷ Stepped (step.Consumed 1) ∷ Stepped (step.Consumed 1) ∷ Stepped (step.Consumed 1) ∷ Stepped (step.Consumed 1) ∷ Stepped (step.Consumed 1) ∷ []) × (next_of (after_calls (at_next 64 250) (other 251 0 ∷ other 252 0 ∷ other 253 0 ∷ other 254 0 ∷ other 255 0 ∷ other 0 0 ∷ other 1 0 ∷ [])) ≡ Some 2)
one_after_another = (refl, refl)

-- held ones are consumed with the one before them, round from 255 to 0
pub filled_hole : (replies_of (at_next 64 253) (other 0 0 ∷ other 255 0 ∷ other 254 0 ∷ []) ≡ Stepped step.Held ∷ Stepped step.Held ∷ Stepped (step.Consumed 3) ∷ []) × (next_of (after_calls (at_next 64 253) (other 0 0 ∷ other 255 0 ∷ other 254 0 ∷ [])) ≡ Some 1)
filled_hole = (refl, refl)

-- the last place of the window
pub last_place : (replies_of (at_ten 64) (other 73 0 ∷ []) ≡ Stepped step.Held ∷ []) × (next_of (after_calls (at_ten 64) (other 73 0 ∷ [])) ≡ Some 10)
last_place = (refl, refl)

-- the number after it
pub past_the_window : (replies_of (at_ten 64) (other 74 0 ∷ []) ≡ Stepped step.Gap ∷ []) × (next_of (after_calls (at_ten 64) (other 74 0 ∷ [])) ≡ None)
past_the_window = (refl, refl)

-- a held message waits 2000, and after the gap only a birth counts
pub waited_too_long : (replies_of (at_ten 64) (other 12 0 ∷ Tick 1999 ∷ Tick 2000 ∷ other 10 2000 ∷ birth 13 101 4 ∷ []) ≡ Stepped step.Held ∷ Ticked false ∷ Ticked true ∷ Stepped step.NotLive ∷ Stepped (step.Consumed 1) ∷ []) × (next_of (after_calls (at_ten 64) (other 12 0 ∷ Tick 1999 ∷ Tick 2000 ∷ other 10 2000 ∷ birth 13 101 4 ∷ [])) ≡ Some 14)
waited_too_long = (refl, refl)

-- what is behind is old
pub old_ones : (replies_of (at_ten 64) (other 9 0 ∷ other 202 0 ∷ []) ≡ Stepped step.Old ∷ Stepped step.Old ∷ []) × (next_of (after_calls (at_ten 64) (other 9 0 ∷ other 202 0 ∷ [])) ≡ Some 10)
old_ones = (refl, refl)

-- so is what is held already
pub held_twice : (replies_of (at_ten 64) (other 12 0 ∷ other 12 0 ∷ []) ≡ Stepped step.Held ∷ Stepped step.Old ∷ []) × (next_of (after_calls (at_ten 64) (other 12 0 ∷ other 12 0 ∷ [])) ≡ Some 10)
held_twice = (refl, refl)

-- a birth with the stamp of the one before
pub same_stamp : (replies_of (at_next 64 0) (birth 1 100 4 ∷ []) ≡ Stepped step.OldBirth ∷ []) × (next_of (after_calls (at_next 64 0) (birth 1 100 4 ∷ [])) ≡ Some 1)
same_stamp = (refl, refl)

-- a birth with a greater stamp, whatever its number
pub newer_birth : (replies_of (at_next 64 4) (birth 0 101 4 ∷ []) ≡ Stepped (step.Consumed 1) ∷ []) × (next_of (after_calls (at_next 64 4) (birth 0 101 4 ∷ [])) ≡ Some 1)
newer_birth = (refl, refl)

-- the death of the birth taken, and then a birth of the same session and of the next one
pub deaths : (replies_of (at_ten 64) (Death 3 ∷ Death 4 ∷ other 10 0 ∷ birth 9 101 4 ∷ birth 9 102 5 ∷ []) ≡ Told Ignored ∷ Told Matched ∷ Stepped step.NotLive ∷ Stepped step.DeadSession ∷ Stepped (step.Consumed 1) ∷ []) × (next_of (after_calls (at_ten 64) (Death 3 ∷ Death 4 ∷ other 10 0 ∷ birth 9 101 4 ∷ birth 9 102 5 ∷ [])) ≡ Some 10)
deaths = (refl, refl)

-- held numbers on both sides of 255
pub slots_round : (replies_of (at_next 64 199) (other 255 0 ∷ other 0 0 ∷ other 7 0 ∷ []) ≡ Stepped step.Held ∷ Stepped step.Held ∷ Stepped step.Held ∷ []) × (next_of (after_calls (at_next 64 199) (other 255 0 ∷ other 0 0 ∷ other 7 0 ∷ [])) ≡ Some 200)
slots_round = (refl, refl)

-- 64 ahead
pub slots_round_past : (replies_of (at_next 64 199) (other 8 0 ∷ []) ≡ Stepped step.Gap ∷ []) × (next_of (after_calls (at_next 64 199) (other 8 0 ∷ [])) ≡ None)
slots_round_past = (refl, refl)

-- the widest window
pub widest_last : (replies_of (at_ten 96) (other 105 0 ∷ []) ≡ Stepped step.Held ∷ []) × (next_of (after_calls (at_ten 96) (other 105 0 ∷ [])) ≡ Some 10)
widest_last = (refl, refl)

pub widest_past : (replies_of (at_ten 96) (other 106 0 ∷ []) ≡ Stepped step.Gap ∷ []) × (next_of (after_calls (at_ten 96) (other 106 0 ∷ [])) ≡ None)
widest_past = (refl, refl)

pub widest_far : (replies_of (at_ten 96) (other 169 0 ∷ []) ≡ Stepped step.Gap ∷ []) × (next_of (after_calls (at_ten 96) (other 169 0 ∷ [])) ≡ None)
widest_far = (refl, refl)

pub widest_old : (replies_of (at_ten 96) (other 170 0 ∷ []) ≡ Stepped step.Old ∷ []) × (next_of (after_calls (at_ten 96) (other 170 0 ∷ [])) ≡ Some 10)
widest_old = (refl, refl)

-- the narrowest window
pub narrowest_past : (replies_of (at_ten 1) (other 11 0 ∷ []) ≡ Stepped step.Gap ∷ []) × (next_of (after_calls (at_ten 1) (other 11 0 ∷ [])) ≡ None)
narrowest_past = (refl, refl)

pub narrowest_old : (replies_of (at_ten 1) (other 9 0 ∷ []) ≡ Stepped step.Old ∷ []) × (next_of (after_calls (at_ten 1) (other 9 0 ∷ [])) ≡ Some 10)
narrowest_old = (refl, refl)

pub narrowest_far : (replies_of (at_ten 1) (other 8 0 ∷ []) ≡ Stepped step.Gap ∷ []) × (next_of (after_calls (at_ten 1) (other 8 0 ∷ [])) ≡ None)
narrowest_far = (refl, refl)
