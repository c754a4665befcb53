-- What a host does at each call that concerns one node: the data after it and its answer, by the steps of the node's order
-- (`spk_order`) and of its view (`spk_host_rules`). No rule of either stands here.
use Rattle.std.specs.Prelude.{ℕ, ◌+◌, Bool, ◌&&◌, List, [], ◌∷◌, map, if◌then◌else◌}
use Rattle.std.specs.List.{filter_map}
use Rattle.spk_payload.specs.Meaning.{MetricData}
use Rattle.spk_sequence.specs.declared.answer.Step.{Step}
use Rattle.spk_sequence.specs.declared.answer.Step.TheVariants as step
use Rattle.spk_sequence.specs.Step as sequence
use Rattle.spk_order.specs.Ordered.{Ordered}
use Rattle.spk_order.specs.Step.{consumed_with, fresh_order, handed, stands_so}
use Rattle.spk_reading.specs.Data as said
use Rattle.spk_reading.specs.Data.{NumberedData, SubjectData}
use Rattle.spk_host_rules.specs.Data.{Message, NodeBirth, NodeData, DeviceBirth, DeviceData, DeviceDeath, Event, Consumed, Gap, NotLive, Over, Watch}
use Rattle.spk_host_rules.specs.Step as rules
use Rattle.spk_host_node.specs.Data as plain

-- ---- what the view hears

-- a numbered message, as the view hears it
abbrev pub message_in : SubjectData → List MetricData → Message
message_in said.NodeBirth ms = NodeBirth ms
message_in said.NodeData ms = NodeData ms
message_in (said.DeviceBirth device) ms = DeviceBirth device ms
message_in (said.DeviceData device) ms = DeviceData device ms
message_in (said.DeviceDeath device) ms = DeviceDeath device

abbrev pub message_of : NumberedData → Message
message_of m = message_in m.subject m.payload.metrics

abbrev pub consumed_at : ℕ → NumberedData → Event
consumed_at now m = Consumed (message_of m) now

-- of a step at which these messages are consumed, in order: each of them, or a gap, or a message that came while the node
-- wasn't followed
abbrev pub heard_by : Step → List NumberedData → ℕ → List Event
heard_by (step.Consumed n) taken now = map (consumed_at now) taken
heard_by step.Gap taken now = Gap now ∷ []
heard_by step.NotLive taken now = NotLive now ∷ []
heard_by _ taken now = []

-- what is kept after these events, the oldest first
abbrev pub watched : ℕ → Watch → List Event → Watch
watched wait w [] = w
watched wait w (e ∷ later) = watched wait (rules.step wait w e) later

-- at how many of them a rebirth is asked for
abbrev pub requests : ℕ → Watch → List Event → ℕ
requests wait w [] = 0
requests wait w (e ∷ later) = (if rules.asks wait w e then 1 else 0) + requests wait (rules.step wait w e) later

-- ---- a message is handed to the node

-- what becomes of it, by the node's order
abbrev pub step_of : Ordered NumberedData → NumberedData → ℕ → Step
step_of o m now = (sequence.hand o.standing m.number m.kind now).0

-- it, and those that were held, as many as the step consumes
abbrev pub taken_of : Ordered NumberedData → NumberedData → ℕ → List NumberedData
taken_of o m now = filter_map (λ p. p) (consumed_with o.kept m.number m (step_of o m now))

abbrev pub heard_of : Ordered NumberedData → NumberedData → ℕ → List Event
heard_of o m now = heard_by (step_of o m now) (taken_of o m now) now

-- how many rebirths are asked for
abbrev pub requests_of : plain.NodeData → NumberedData → ℕ → ℕ
requests_of n m now = requests n.order.standing.wait n.watch (heard_of n.order m now)

abbrev pub hand : plain.NodeData → NumberedData → ℕ → plain.NodeData
hand n m now = record {
  order = handed n.order m.number m.kind m now;
  watch = watched n.order.standing.wait n.watch (heard_of n.order m now);
}

-- ---- a moment

-- a held message has waited too long, and a rebirth is asked for
abbrev pub tick_asks : plain.NodeData → ℕ → Bool
tick_asks n now = sequence.is_over n.order.standing now && rules.asks n.order.standing.wait n.watch (Gap now)

abbrev pub tick : plain.NodeData → ℕ → plain.NodeData
tick n now = record {
  order = stands_so (sequence.tick n.order.standing now) n.order.kept;
  watch = if sequence.is_over n.order.standing now then rules.step n.order.standing.wait n.watch (Gap now) else n.watch;
}

-- ---- an NDEATH, with its bdSeq

abbrev pub death : plain.NodeData → ℕ → plain.NodeData
death n bd = record {
  order = stands_so (sequence.death n.order.standing bd) n.order.kept;
  watch = if sequence.is_match n.order.standing bd then rules.step n.order.standing.wait n.watch Over else n.watch;
}

-- ---- the end of the host's session

abbrev pub over : plain.NodeData → plain.NodeData
over n = record {
  order = fresh_order n.order.standing.wait n.order.standing.width;
  watch = rules.step n.order.standing.wait n.watch Over;
}
