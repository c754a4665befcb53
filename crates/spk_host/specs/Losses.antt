-- What a host loses of the messages that it holds, by its nodes before it (own rule): of a node by its names, by what came, and at a
-- moment.
use Rattle.std.specs.Prelude.{ℕ, Bool, nat_lt, List}
use Rattle.std.specs.List.{filter, find}
use Rattle.std.specs.Option.{option_map_or}
use Rattle.spk_sequence.specs.declared.answer.Loss.{Loss}
use Rattle.spk_sequence.specs.Calls.{Hand, Tick, Death}
use Rattle.spk_sequence.specs.Losses.{Event, Called, loss_at, no_loss}
use Rattle.spk_reading.specs.Data as said
use Rattle.spk_reading.specs.Data.{ContentData, HeardData}
use Rattle.spk_host.specs.Data.{Entry}
use Rattle.spk_host.specs.Nodes.{is_of}

-- what a node loses at an event of its order
abbrev pub entry_loss : Event → Entry → Loss
entry_loss event e = loss_at e.kept.order.standing event

-- what the node of these names loses: nothing, if it was never heard
abbrev pub node_loss : List Entry → List ℕ → List ℕ → Event → Loss
node_loss nodes group node event = option_map_or (entry_loss event) (find (is_of group node) nodes) no_loss

-- by a PUBLISH: a message, or an NDEATH, of its node alone
abbrev pub content_loss : List Entry → ContentData → ℕ → Loss
content_loss nodes (said.Message m) now = node_loss nodes m.group m.node (Called (Hand m.number m.kind now))
content_loss nodes (said.Death group name bd) now = node_loss nodes group name (Called (Death bd))
content_loss nodes said.Nothing now = no_loss

-- by a packet, within a session. (Where the session ends, all that is held is lost: `at_stake` of each node.)
abbrev pub packet_loss : List Entry → HeardData → ℕ → Loss
packet_loss nodes (said.Published ack content) now = content_loss nodes content now
packet_loss nodes _ now = no_loss

-- some are lost
abbrev pub is_lost : Loss → Bool
is_lost loss = nat_lt 0 loss.held

-- a node loses some at a moment
abbrev pub loses_at : ℕ → Entry → Bool
loses_at now e = is_lost (entry_loss (Called (Tick now)) e)

-- the nodes that lose some at a moment, in their order
abbrev pub losing : ℕ → List Entry → List Entry
losing now nodes = filter (loses_at now) nodes
