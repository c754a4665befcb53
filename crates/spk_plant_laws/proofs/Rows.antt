-- Rows by hand: deaths of sessions, and what a report says was consumed.
use Rattle.std.proofs.Common.{◌≡◌, ◌<◌, refl, ℕ, List, [], ◌∷◌, arith}
use Rattle.spk_sequence.specs.HostRecord.{Input, MessageComes, DeathComes, TickComes}
use Rattle.spk_edge_rules.specs.Config.{Setup}
use Rattle.spk_plant_host.specs.declared.ends.Given.{Given}
use Rattle.spk_reading.specs.Data.{NumberedData}
use Rattle.spk_heard.specs.Read.{AreMessagesAt}
use Rattle.spk_plant_laws.specs.Consumed.{IsTied, IsTiedBy}
use Rattle.spk_plant_laws.specs.Deaths.{AreOpened}

-- the death of session 2 of a node that opened three
death_of_the_last : AreOpened 3 (TickComes 4 ∷ DeathComes 2 3 ∷ MessageComes 0 1 ∷ [])
death_of_the_last = (omega arith, tt)

-- session 250 was never opened
death_of_none : AreOpened 3 (DeathComes 250 3 ∷ []) → ⊥
death_of_none a = let low = a.0 in omega (arith, low)

-- nothing was given, and nothing consumed
nothing_given : (s : Setup) → IsTiedBy s [] 2000 64 [] []
nothing_given s = record { later = []; before = []; parts = refl; read = tt; consumed = tt }

-- where the record consumes nothing, the report has no message
nothing_consumed : (s : Setup) (m : NumberedData) → AreMessagesAt s [] [] (m ∷ []) → ⊥
nothing_consumed s m a = absurd a
