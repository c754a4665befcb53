-- What is answered to a thing that is done.
use Rattle.std.specs.Prelude.{ℕ, ◌-◌, Bool, true, false, List, ◌∷◌, length}
use Rattle.std.specs.List.{count_by, range_with_len}
use Rattle.spk_sequence.specs.declared.answer.Match.{Match}
use Rattle.spk_sequence.specs.declared.answer.Step.{Step}
use Rattle.spk_sequence.specs.Calls as call
use Rattle.spk_sequence.specs.HostRecord.{MessageComes, DeathComes, TickComes}
use Rattle.spk_world_rules.specs.Claims.{event_of}
use Rattle.spk_world_rules.specs.Events.{World, Deed, AtNode, Hand, Death, Tick, Renew}
use Rattle.spk_world_rules.specs.Queries.{published_of}

-- how many messages a node published, what the host did with a message, whether a death matched, how many nodes the host has a gap
-- of, or that a session began
pub data Answer : Type 0 where
  Added : ℕ → Answer
  Stepped : Step → Answer
  Told : Match → Answer
  Gaps : ℕ → Answer
  Renewed : Answer

-- the answer of the order of one node; a moment's stands for no more than its own node
abbrev pub reply_as : call.Reply → Answer
reply_as (call.Stepped step) = Stepped step
reply_as (call.Told match) = Told match
reply_as (call.Ticked true) = Gaps 1
reply_as (call.Ticked false) = Gaps 0

-- a moment found a gap of this node
abbrev pub is_gap : call.Reply → Bool
is_gap (call.Ticked gap) = gap
is_gap (call.Stepped step) = false
is_gap (call.Told match) = false

-- a gap of each node is counted
abbrev pub gaps_of : World → List Deed → (h now : ℕ) → ℕ
gaps_of w done h now = count_by (λ n. is_gap (event_of w done h n (TickComes now)).reply) (range_with_len 0 (length w.nodes))

-- the answer to what is done, behind all that was done
abbrev pub answer_of : World → List Deed → Deed → Answer
answer_of w done (AtNode n input) = Added (length (published_of w (AtNode n input ∷ done) n) - length (published_of w done n))
answer_of w done (Hand h n p now) = reply_as (event_of w done h n (MessageComes p now)).reply
answer_of w done (Death h n session now) = reply_as (event_of w done h n (DeathComes session now)).reply
answer_of w done (Tick h now) = Gaps (gaps_of w done h now)
answer_of w done (Renew h now) = Renewed
