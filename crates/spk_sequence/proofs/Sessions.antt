-- Host sessions that are worked out by hand, by what the definitions compute. Inputs stand in the order of time.
use Rattle.std.specs.Prelude.{◌≡◌, ℕ, true, false, List, [], ◌∷◌, ◌+◌, ◌++◌, reverse, map, refl}
use Rattle.std.specs.List.{range_with_len}
use Rattle.spk_sequence.specs.declared.answer.Step.TheVariants as step
use Rattle.spk_sequence.specs.declared.answer.Match.TheVariants.{Matched, Ignored}
use Rattle.spk_sequence.specs.Calls.{Reply, Stepped, Ticked, Told}
use Rattle.spk_sequence.specs.NodeRecord.{Setting, Message, NodeRecord, Numbering, RunsOn, Restarts}
use Rattle.spk_sequence.specs.HostRecord.{Input, MessageComes, DeathComes, TickComes, record_of, consumed_of}

abbrev pub message : ℕ → ℕ → ℕ → Message
message birth session stamp = record { birth = birth; session = session; stamp = stamp }

abbrev pub setting : NodeRecord → Numbering → Setting
setting published numbering = record { published = published; numbering = numbering; seq = 0; bd = 0; wait = 2000; width = 64 }

-- the replies to these inputs, in order
abbrev replies : Setting → List Input → List Reply
replies s inputs = map (λ e. e.reply) (reverse (record_of s (reverse inputs)))

abbrev consumed : Setting → List Input → List ℕ
consumed s inputs = consumed_of (record_of s (reverse inputs))

-- a birth and one message, then a birth again and one message, of one session
abbrev two_births : NodeRecord
two_births = message 0 0 6 ∷ message 0 0 7 ∷ message 1 0 8 ∷ message 1 0 9 ∷ []

abbrev lost_one : List Input
lost_one = MessageComes 0 10 ∷ MessageComes 3 11 ∷ MessageComes 1 12 ∷ TickComes 2011 ∷ TickComes 2012 ∷ MessageComes 2 2013 ∷ []

-- a message is lost, and the newer birth is consumed after the gap
pub after_a_gap : (replies (setting two_births RunsOn) lost_one ≡ Stepped (step.Consumed 1) ∷ Stepped step.Held ∷ Stepped (step.Consumed 1) ∷ Ticked false ∷ Ticked true ∷ Stepped (step.Consumed 1) ∷ [])
    × (consumed (setting two_births RunsOn) lost_one ≡ 0 ∷ 1 ∷ 2 ∷ [])
after_a_gap = (refl, refl)

-- two sessions, each with its birth
abbrev two_sessions : NodeRecord
two_sessions = message 0 0 6 ∷ message 1 1 8 ∷ []

abbrev deaths : List Input
deaths = MessageComes 0 10 ∷ MessageComes 1 11 ∷ DeathComes 0 12 ∷ DeathComes 1 13 ∷ MessageComes 1 14 ∷ []

-- the death of an older session is ignored, and a birth that was taken is old
pub after_a_death : (replies (setting two_sessions RunsOn) deaths ≡ Stepped (step.Consumed 1) ∷ Stepped (step.Consumed 1) ∷ Told Ignored ∷ Told Matched ∷ Stepped step.OldBirth ∷ [])
    × (consumed (setting two_sessions RunsOn) deaths ≡ 0 ∷ 1 ∷ [])
after_a_death = (refl, refl)

-- one birth of 257 messages, handed with two before the one that they wait for, round from 255 to 0
abbrev long_birth : NodeRecord
long_birth = map (λ p. message 0 0 (6 + p)) (range_with_len 0 257)

abbrev in_order_to : ℕ → List Input
in_order_to n = map (λ p. MessageComes p 10) (range_with_len 0 n)

pub round_255 : consumed (setting long_birth RunsOn) (in_order_to 254 ++ MessageComes 255 10 ∷ MessageComes 256 10 ∷ MessageComes 254 10 ∷ []) ≡ range_with_len 0 257
round_255 = refl

-- a birth with two changes, and again a birth with one: the numbers are 0, 1, 2, 0, 1 where they restart
abbrev five : NodeRecord
five = message 0 0 6 ∷ message 0 0 7 ∷ message 0 0 8 ∷ message 1 0 9 ∷ message 1 0 10 ∷ []

-- the second birth begins with 0 again, and what came late of the first one is old
pub restarts : (replies (setting five Restarts) (MessageComes 0 10 ∷ MessageComes 3 11 ∷ MessageComes 4 12 ∷ MessageComes 1 13 ∷ []) ≡ Stepped (step.Consumed 1) ∷ Stepped (step.Consumed 1) ∷ Stepped (step.Consumed 1) ∷ Stepped step.Old ∷ [])
    × (consumed (setting five Restarts) (MessageComes 0 10 ∷ MessageComes 3 11 ∷ MessageComes 4 12 ∷ MessageComes 1 13 ∷ []) ≡ 0 ∷ 3 ∷ 4 ∷ [])
restarts = (refl, refl)

pub restarts_at_once : consumed (setting five Restarts) (MessageComes 0 10 ∷ []) ≡ 0 ∷ []
restarts_at_once = refl
