-- A list of calls of an edge node, newest first, and what they handed out.
use Rattle.std.specs.Prelude.{◌≡◌, ℕ, ◌+◌, ◌<◌, ◌≤◌, Bool, true, false, List, [], ◌∷◌, ◌++◌, map, Some, slice_get}
use Rattle.std.specs.List.{AllByRecursion}
use Rattle.spk_packets.specs.Message as packets
use Rattle.spk_sequence.specs.NodeRecord.{Numbering, RunsOn, Restarts}
use Rattle.spk_edge_rules.specs.Config.{Setup}
use Rattle.spk_edge_rules.specs.Inputs.{Cut, Input}
use Rattle.spk_edge_rules.specs.Run.{Done, packets_of}
use Rattle.spk_edge.specs.Along.{node_of}
use Rattle.spk_edge.specs.Patch.{IsDone, IsPlan, after_cut, patched, plain_input}
use Rattle.spk_edge.specs.Sealing.{bytes_of}
use Rattle.spk_edge.specs.View.{MessageData, NodeData, message_view}
use Rattle.spk_edge.specs.declared.message.Out.{Out}
use Rattle.spk_edge.specs.declared.plan.Plan.{Plan}

-- What changes a node: a plan of an input is taken up, an input is done at once (`open`, `packet` and the like), or the
-- connection is gone. A call that was refused changes nothing and isn't in the list, nor is a plan that was let go.
pub data Call : Type 0 where
  TakeUp : (i : Input) (p : Plan) → Call
  Tell : (i : Input) (out : Out) → Call
  CutOff : Call

abbrev pub input_by : Call → Input
input_by (TakeUp i p) = i
input_by (Tell i out) = i
input_by CutOff = plain_input 0 Cut

abbrev pub inputs_by : List Call → List Input
inputs_by calls = map input_by calls

abbrev pub IsAfterCall : NodeData → Call → NodeData → Type 0
IsAfterCall n (TakeUp i p) after = IsPlan n i p × (after ≡ patched n p)
IsAfterCall n (Tell i out) after = IsDone n i after out
IsAfterCall n CutOff after = after ≡ after_cut n

-- A node that was made, and then called. A plan holds its node until it is taken up or let go: so whatever plans are made, and
-- in whatever order, each one is taken up by the node that it is a plan of, as that node was then.
abbrev pub IsAfterCalls : Setup → List Call → NodeData → Type 0
IsAfterCalls s [] n = n ≡ node_of s []
IsAfterCalls s (call ∷ calls) n = (before : NodeData) × IsAfterCalls s calls before × IsAfterCall before call n

-- ---- what was handed out, oldest first

abbrev pub bytes_by : Call → List (List ℕ)
bytes_by (TakeUp i p) = map bytes_of p.out.packets.items
bytes_by (Tell i out) = map bytes_of out.packets.items
bytes_by CutOff = []

-- the packets, as bytes
abbrev pub bytes_out : List Call → List (List ℕ)
bytes_out [] = []
bytes_out (call ∷ calls) = bytes_out calls ++ bytes_by call

-- the packets of a run: those of each input that was done
abbrev pub packets_in : Setup → List Done → List packets.Message
packets_in s [] = []
packets_in s (e ∷ h) = packets_in s h ++ packets_of s h e.given

-- a plan has the messages of its packets beside them
abbrev pub is_taken_up : Call → Bool
is_taken_up (TakeUp i p) = true
is_taken_up (Tell i out) = false
is_taken_up CutOff = true

abbrev pub AreTakenUp : List Call → Type 0
AreTakenUp calls = AllByRecursion (λ call. is_taken_up call ≡ true) calls

abbrev pub messages_by : Call → List MessageData
messages_by (TakeUp i p) = map message_view p.messages.items
messages_by (Tell i out) = []
messages_by CutOff = []

abbrev pub messages_out : List Call → List MessageData
messages_out [] = []
messages_out (call ∷ calls) = messages_out calls ++ messages_by call

-- ---- numbers that come once

-- the numbers go on from a place to a later one: they run on, or no NBIRTH is among the messages behind the first of these
abbrev pub GoesOn : Numbering → List MessageData → ℕ → ℕ → Type 0
GoesOn RunsOn ms j k = Unit {0}
GoesOn Restarts ms j k = (q : ℕ) (m : MessageData) → j < q → q ≤ k → slice_get ms q ≡ Some m → m.opens ≡ false

-- Of 256 messages in a row no two have the same number, as far as the numbers go on.
abbrev pub AreNumberedOnce : Numbering → List MessageData → Type 0
AreNumberedOnce numbering ms = (j k : ℕ) (a b : MessageData) → slice_get ms j ≡ Some a → slice_get ms k ≡ Some b
    → j < k → k < j + 256 → GoesOn numbering ms j k → a.payload.seq ≡ b.payload.seq → ⊥
