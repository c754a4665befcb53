-- What the definitions answer in runs that are worked out by hand: two sessions of a node, of two messages each.
use Rattle.std.specs.Prelude.{◌≡◌, List, [], ◌∷◌, refl, true}
use Rattle.spk_sequence.specs.HostRecord.{Input, MessageComes, DeathComes, TickComes, consumed_of, record_of}
use Rattle.spk_sequence.specs.NodeRecord.{NodeRecord, RunsOn, Setting}
use Rattle.spk_plant_relay.specs.Relayed.{positions_in}
use Rattle.spk_plant_lossless.specs.Whole.{ComeInLife, all_below, has_died}

abbrev published : NodeRecord
published =
    record { birth = 0; session = 0; stamp = 10 } ∷ record { birth = 0; session = 0; stamp = 11 }
    ∷ record { birth = 1; session = 1; stamp = 12 } ∷ record { birth = 1; session = 1; stamp = 13 } ∷ []

abbrev setting : Setting
setting = record { published = published; numbering = RunsOn; seq = 254; bd = 7; wait = 100; width = 4 }

-- the death of the first session behind its last message, newest first
abbrev in_life : List Input
in_life = MessageComes 3 5 ∷ TickComes 4 ∷ MessageComes 2 3 ∷ DeathComes 0 2 ∷ MessageComes 1 1 ∷ MessageComes 0 0 ∷ []

pub all_came : positions_in in_life ≡ all_below 4
all_came = refl

pub come_in_life : ComeInLife published in_life
come_in_life = (refl, (refl, (refl, (refl, tt))))

pub all_consumed : consumed_of (record_of setting in_life) ≡ 0 ∷ 1 ∷ 2 ∷ 3 ∷ []
all_consumed = refl

-- the same death before the session's last message: all came, and that message isn't consumed
abbrev behind_death : List Input
behind_death = MessageComes 3 5 ∷ MessageComes 2 3 ∷ MessageComes 1 2 ∷ DeathComes 0 1 ∷ MessageComes 0 0 ∷ []

pub all_came_too : positions_in behind_death ≡ all_below 4
all_came_too = refl

pub is_behind : has_died 0 (DeathComes 0 1 ∷ MessageComes 0 0 ∷ []) ≡ true
is_behind = refl

pub one_is_lost : consumed_of (record_of setting behind_death) ≡ 0 ∷ 2 ∷ 3 ∷ []
one_is_lost = refl
