-- What is lost, and the fates of messages, in runs that are worked out by hand: a wait of 2000, a width of 64, stamps of 100 but where one is
-- said. The birth at 9 has the bdSeq 4.
use Rattle.std.specs.Prelude.{◌≡◌, ℕ, List, [], ◌∷◌, Some, refl}
use Rattle.spk_sequence.specs.declared.message.Kind.TheVariants.{Birth, Other}
use Rattle.spk_sequence.specs.declared.answer.Loss.{Loss}
use Rattle.spk_sequence.specs.Data.{Standing}
use Rattle.spk_sequence.specs.Step.{fresh_standing}
use Rattle.spk_sequence.specs.Calls.{Hand, Tick, Death}
use Rattle.spk_sequence.specs.Numbers.{held_count}
use Rattle.spk_sequence.specs.Losses.{Event, Called, Reset, numbers_with, no_loss, loss_at}
use Rattle.spk_sequence.specs.Fates.{ConsumedAt, StillHeld, TurnedAway, DroppedAt, fates, each, after_events, consumed_at, turned_away_at, lost_count}
use Rattle.spk_sequence.specs.Consecutive.{numbers_consumed}

abbrev birth : ℕ → ℕ → Event
birth number stamp = Called (Hand number (Birth stamp 4) 0)

abbrev other : ℕ → Event
other number = Called (Hand number (Other (Some 100)) 0)

abbrev stamped : ℕ → ℕ → Event
stamped number stamp = Called (Hand number (Other (Some stamp)) 0)

abbrev fresh : Standing
fresh = fresh_standing 2000 64

-- behind the birth at 9 these came
abbrev behind : List Event → Standing
behind events = after_events fresh (birth 9 100 ∷ events)

-- 10 and 11 are missing, and 12, 13 and 15 are held
abbrev three_held : Standing
three_held = behind (other 12 ∷ other 13 ∷ other 15 ∷ [])

abbrev lost : ℕ → ℕ → Loss
lost held missing = record { held = held; missing = missing }

-- at a moment, a death, a reset and a message too far ahead all three
pub all_lost : (loss_at three_held (Called (Tick 2000)) ≡ lost 3 2) × (loss_at three_held (Called (Death 4)) ≡ lost 3 2) × (loss_at three_held Reset ≡ lost 3 2) × (loss_at three_held (other 80) ≡ lost 3 2)
unfolding numbers_with
all_lost = (refl, refl, refl, refl)

-- nothing at a moment too early, at the death of another session, with the next message, one that is held, one that is held already and an old one
pub none_lost : (loss_at three_held (Called (Tick 1999)) ≡ no_loss) × (loss_at three_held (Called (Death 3)) ≡ no_loss) × (loss_at three_held (other 10) ≡ no_loss) × (loss_at three_held (other 14) ≡ no_loss) × (loss_at three_held (other 13) ≡ no_loss) × (loss_at three_held (other 8) ≡ no_loss)
unfolding numbers_with
none_lost = (refl, refl, refl, refl, refl, refl)

-- a birth with a newer stamp than theirs drops them, and an old birth nothing
pub at_a_birth : (loss_at three_held (birth 20 101) ≡ lost 3 2) × (loss_at three_held (birth 11 101) ≡ lost 3 2) × (loss_at three_held (birth 11 100) ≡ no_loss)
unfolding numbers_with
at_a_birth = (refl, refl, refl)

-- 12 is newer than the birth at 11 and comes out with it, 13 is older and is dropped
pub some_kept : (loss_at (behind (stamped 12 200 ∷ other 13 ∷ [])) (birth 11 101) ≡ lost 1 2) × (loss_at (behind (stamped 12 200 ∷ stamped 14 200 ∷ [])) (birth 11 101) ≡ no_loss)
unfolding numbers_with
some_kept = (refl, refl)

-- a birth with the number of a held message takes its place
pub in_its_place : loss_at (behind (stamped 12 200 ∷ [])) (birth 12 101) ≡ lost 1 2
unfolding numbers_with
in_its_place = refl

-- where none is held nothing is lost, also with a message too far ahead
pub idle : (loss_at (behind []) (other 80) ≡ no_loss) × (loss_at (behind []) (birth 20 101) ≡ no_loss) × (loss_at fresh Reset ≡ no_loss)
unfolding numbers_with
idle = (refl, refl, refl)

-- round from 255 to 0: 254 and 255 are missing before 0
pub round_255 : loss_at (after_events fresh (birth 253 100 ∷ other 0 ∷ [])) Reset ≡ lost 1 2
unfolding numbers_with
round_255 = refl

-- 9; 11 and 13 are held, and 11 comes twice; 10 brings 11 out; a wait ends, and 12 comes too late; a birth at 13, and 15 is held
abbrev run : List Event
run = birth 9 100 ∷ other 11 ∷ other 13 ∷ other 11 ∷ other 10 ∷ Called (Tick 2000) ∷ other 12 ∷ birth 13 101 ∷ stamped 15 101 ∷ []

pub run_fates : fates fresh run ≡ ConsumedAt 0 ∷ ConsumedAt 4 ∷ DroppedAt 5 ∷ TurnedAway ∷ ConsumedAt 4 ∷ TurnedAway ∷ ConsumedAt 7 ∷ StillHeld ∷ []
run_fates = refl

pub run_told : (each consumed_at fresh run ≡ 1 ∷ 0 ∷ 0 ∷ 0 ∷ 2 ∷ 0 ∷ 0 ∷ 1 ∷ 0 ∷ []) × (each turned_away_at fresh run ≡ 0 ∷ 0 ∷ 0 ∷ 1 ∷ 0 ∷ 0 ∷ 1 ∷ 0 ∷ 0 ∷ [])
run_told = (refl, refl)

-- the one that was dropped had one missing before it
pub run_lost : each loss_at fresh run ≡ no_loss ∷ no_loss ∷ no_loss ∷ no_loss ∷ no_loss ∷ lost 1 1 ∷ no_loss ∷ no_loss ∷ no_loss ∷ []
unfolding numbers_with
run_lost = refl

pub run_counts : (lost_count fresh run ≡ 1) × (held_count (after_events fresh run).held ≡ 1)
unfolding numbers_with held_count
run_counts = (refl, refl)

pub run_numbers : numbers_consumed fresh run ≡ 9 ∷ 10 ∷ 11 ∷ 13 ∷ []
run_numbers = refl
