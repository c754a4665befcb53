-- What a host was told of one node, along any list of calls, newest first.
use Rattle.std.specs.Prelude.{ℕ, ◌+◌, Bool, ◌&&◌, List, [], ◌∷◌, ◌++◌, reverse, if◌then◌else◌}
use Rattle.spk_sequence.specs.Step as sequence
use Rattle.spk_order.specs.Ordered.{Ordered}
use Rattle.spk_order.specs.Step.{fresh_order, handed, stands_so}
use Rattle.spk_reading.specs.Data.{NumberedData}
use Rattle.spk_host_rules.specs.Data.{Event, Gap, Over}
use Rattle.spk_host_rules.specs.Step.{asked_at}
use Rattle.spk_host_node.specs.Data.{NodeData, fresh_node}
use Rattle.spk_host_node.specs.Step.{death, hand, heard_of, over, tick}

-- a message is handed at a moment, an NDEATH comes with its bdSeq, a moment passes, the host's session is over
pub data Input : Type 0 where
  Comes : NumberedData → ℕ → Input
  Dies : ℕ → Input
  Ticks : ℕ → Input
  Ends : Input

abbrev pub node_with : NodeData → Input → NodeData
node_with n (Comes m now) = hand n m now
node_with n (Dies bd) = death n bd
node_with n (Ticks now) = tick n now
node_with n Ends = over n

-- what is kept after the calls
abbrev pub node_after : ℕ → ℕ → List Input → NodeData
node_after wait width [] = fresh_node wait width
node_after wait width (i ∷ before) = node_with (node_after wait width before) i

-- the calls of the host's present session
abbrev pub since_end : List Input → List Input
since_end [] = []
since_end (Comes m now ∷ before) = Comes m now ∷ since_end before
since_end (Dies bd ∷ before) = Dies bd ∷ since_end before
since_end (Ticks now ∷ before) = Ticks now ∷ since_end before
since_end (Ends ∷ before) = []

-- the order stepped along calls; what was asked for and what is shown play no part
abbrev pub order_with : Ordered NumberedData → Input → Ordered NumberedData
order_with o (Comes m now) = handed o m.number m.kind m now
order_with o (Dies bd) = stands_so (sequence.death o.standing bd) o.kept
order_with o (Ticks now) = stands_so (sequence.tick o.standing now) o.kept
order_with o Ends = fresh_order o.standing.wait o.standing.width

abbrev pub order_after : ℕ → ℕ → List Input → Ordered NumberedData
order_after wait width [] = fresh_order wait width
order_after wait width (i ∷ before) = order_with (order_after wait width before) i

-- what the view hears at a call, by the order before it, newest first
abbrev pub heard_at : Ordered NumberedData → Input → List Event
heard_at o (Comes m now) = reverse (heard_of o m now)
heard_at o (Dies bd) = if sequence.is_match o.standing bd then Over ∷ [] else []
heard_at o (Ticks now) = if sequence.is_over o.standing now then Gap now ∷ [] else []
heard_at o Ends = Over ∷ []

-- all that the view heard, in all sessions of the host: each session begins with an order of its own
abbrev pub events_of : ℕ → ℕ → List Input → List Event
events_of wait width [] = []
events_of wait width (i ∷ before) = heard_at (order_after wait width (since_end before)) i ++ events_of wait width before

-- at how many of these events, the oldest first, a rebirth is asked for, after the ones before them
abbrev pub asked_in : ℕ → List Event → List Event → ℕ
asked_in wait before [] = 0
asked_in wait before (e ∷ later) = (if asked_at wait before e then 1 else 0) + asked_in wait (e ∷ before) later

-- whether a moment is a gap at which a rebirth is asked for, after these calls
abbrev pub gap_asked : ℕ → ℕ → List Input → ℕ → Bool
gap_asked wait width inputs now =
    sequence.is_over (order_after wait width (since_end inputs)).standing now && asked_at wait (events_of wait width inputs) (Gap now)
