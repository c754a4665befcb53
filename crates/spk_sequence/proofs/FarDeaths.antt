-- Why a death that comes while the host follows has to be told apart: bytes of sessions 256 apart are one.
use Rattle.std.specs.Prelude.{◌≡◌, ◌+◌, false, List, [], ◌∷◌, map, reverse, refl}
use Rattle.std.specs.List.{range_with_len}
use Rattle.spk_sequence.specs.NodeRecord.{NodeRecord, RunsOn}
use Rattle.spk_sequence.specs.HostRecord.{Input, MessageComes, DeathComes, TickComes, record_of, consumed_of}
use Rattle.spk_sequence.specs.Following.{following}
use Rattle.spk_sequence.proofs.Sessions.{message, setting}

abbrev two_of : NodeRecord
two_of = message 0 0 6 ∷ message 0 0 7 ∷ map (λ p. message 1 1 (8 + p)) (range_with_len 0 258)

-- position 4 waits when the death of session 256 comes, which is not that of the birth taken
abbrev far_death : List Input
far_death = MessageComes 0 10 ∷ MessageComes 4 11 ∷ DeathComes 256 12 ∷ MessageComes 2 13 ∷ TickComes 2013 ∷ []

-- it still waits by positions when the time is over, so the host does not follow, and yet position 3 is consumed
pub consumed_after_a_gap : ((following (setting two_of RunsOn) (record_of (setting two_of RunsOn) (reverse far_death))).on ≡ false)
    × (consumed_of (record_of (setting two_of RunsOn) (MessageComes 3 2014 ∷ reverse far_death)) ≡ 0 ∷ 2 ∷ 3 ∷ [])
consumed_after_a_gap = (refl, refl)

-- By positions the window has no upper edge then, and what is consumed is no prefix of its birth.
pub consumed_past_a_hole : consumed_of (record_of (setting two_of RunsOn) (MessageComes 259 2014 ∷ reverse far_death)) ≡ 0 ∷ 2 ∷ 259 ∷ []
consumed_past_a_hole = refl
