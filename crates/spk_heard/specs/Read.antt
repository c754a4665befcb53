-- What is read and consumed in one host session of a node, by the positions of the node's messages. Calls stand newest first.
use Rattle.std.specs.Prelude.{◌≡◌, ℕ, List, [], ◌∷◌, ◌++◌}
use Rattle.spk_sequence.specs.Calls as call
use Rattle.spk_sequence.specs.Claims.{BirthPrefixes}
use Rattle.spk_sequence.specs.HostRecord.{Input, MessageComes, DeathComes, TickComes, call_of}
use Rattle.spk_order.specs.Ordered.{Ordered}
use Rattle.spk_reading.specs.Data.{NumberedData}
use Rattle.spk_host_node.specs.Inputs as node
use Rattle.spk_host_node.specs.Inputs.{Comes, Dies, Ticks, order_after}
use Rattle.spk_host_node.specs.Step.{taken_of}
use Rattle.spk_edge_rules.specs.Config.{Setup}
use Rattle.spk_edge_rules.specs.Run as edge
use Rattle.spk_edge_rules.specs.Run.{outline}
use Rattle.spk_tie.specs.Tie.{IsMessageAt, host_setting}

-- What a host was told is what the order of positions says came: the message of that position, the bdSeq of that session, that moment.
abbrev pub IsRead : Setup → List edge.Message → Input → node.Input → Type 0
IsRead s published (MessageComes p now) (Comes read at) = (at ≡ now) × ((m : edge.Message) × IsMessageAt s published p m read)
IsRead s published (DeathComes session now) (Dies bd) =
    (wait width : ℕ) → call.Death bd ≡ call_of (host_setting s published wait width) (DeathComes session now)
IsRead s published (TickComes now) (Ticks at) = at ≡ now
IsRead s published _ _ = ⊥

-- one by one; so they are calls of one session of the host, which none of them ends
abbrev pub AreRead : Setup → List edge.Message → List Input → List node.Input → Type 0
AreRead s published [] [] = Unit {0}
AreRead s published (i ∷ is) (j ∷ js) = IsRead s published i j × AreRead s published is js
AreRead s published _ _ = ⊥

-- messages that were handed out are those of these positions, one by one, in this order
abbrev pub AreMessagesAt : Setup → List edge.Message → List ℕ → List NumberedData → Type 0
AreMessagesAt s published [] [] = Unit {0}
AreMessagesAt s published (p ∷ ps) (read ∷ reads) =
    ((m : edge.Message) × IsMessageAt s published p m read) × AreMessagesAt s published ps reads
AreMessagesAt s published _ _ = ⊥

-- ---- all that a session hands out

abbrev pub taken_at : Ordered NumberedData → node.Input → List NumberedData
taken_at o (Comes read now) = taken_of o read now
taken_at o _ = []

-- in the order of time
abbrev pub all_taken : ℕ → ℕ → List node.Input → List NumberedData
all_taken wait width [] = []
all_taken wait width (i ∷ before) = all_taken wait width before ++ taken_at (order_after wait width before) i

-- What is handed out is, birth by birth in increasing order, the first messages of that birth, as they were published.
pub record HandsOutFronts (s : Setup) (published : List edge.Message) (reads : List NumberedData) : Type 0 where
  pub positions : List ℕ
  pub are : AreMessagesAt s published positions reads
  pub fronts : BirthPrefixes (outline published) positions
