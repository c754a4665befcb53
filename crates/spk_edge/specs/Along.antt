-- A node along a list of inputs, newest first: its data, and its messages by position.
use Rattle.std.specs.Prelude.{◌≡◌, ℕ, List, ◌∷◌, length, map, drop, Some, Ok, slice_get}
use Rattle.std.specs.List.{enumerate_from}
use Rattle.spk_packets.specs.Spelling.{spelling}
use Rattle.spk_topics.specs.Spark.{topic_of}
use Rattle.spk_edge_rules.specs.Answers.{Answer}
use Rattle.spk_edge_rules.specs.Claims.{IsWhole}
use Rattle.spk_edge_rules.specs.Config.{Setup}
use Rattle.spk_edge_rules.specs.Inputs.{Input}
use Rattle.spk_edge_rules.specs.Messages.{named_by, opens, payload_of, wire}
use Rattle.spk_edge_rules.specs.Run.{Message, number_at, published, right_at, run_of}
use Rattle.spk_edge_rules.specs.Step.{standing_of}
use Rattle.spk_edge.specs.Patch.{patched}
use Rattle.spk_edge.specs.Sealing.{bytes_of}
use Rattle.spk_edge.specs.View.{MessageData, NodeData, message_view}
use Rattle.spk_edge.specs.declared.message.Out.{Out}
use Rattle.spk_edge.specs.declared.plan.Plan.{Plan}

-- a node after a list of inputs
abbrev pub node_of : Setup → List Input → NodeData
node_of s is = record { config = s.config; standing = standing_of s is }

-- ---- messages by position

-- The message of a position as the node hands it out: its topic, and its payload under the number of that position.
abbrev pub message_at : Setup → List Message → ℕ → Message → MessageData
message_at s messages p m = record {
  topic = topic_of (named_by s.config m.draft);
  payload = payload_of (number_at s messages p) m.draft;
  stamp = m.draft.stamp;
  opens = opens m.draft;
}

-- the messages from a position on
abbrev pub messages_from : Setup → List Message → ℕ → List MessageData
messages_from s messages p = map (λ e. message_at s messages e.0 e.1) (enumerate_from p (drop p messages))

-- each message can be written: its packet's spelling spells it, and its payload has a spelling
abbrev pub AllWhole : Setup → List Message → Type 0
AllWhole s messages = (p : ℕ) (m : Message) → slice_get messages p ≡ Some m →
    IsWhole (spelling (wire s.config (number_at s messages p) m.draft)) s.config (number_at s messages p) m.draft

-- ---- what a plan comes to, and what was done

-- A plan for an input behind a list: it answers what is right there, and taking it up makes the node that of the longer list.
-- Its messages are those published by this input, each under the number of its position.
pub record IsPlanned (s : Setup) (is : List Input) (i : Input) (p : Plan) : Type 0 where
  pub answer : Answer
  pub answered : right_at s (run_of s is) i ≡ Ok answer
  pub stands : patched (node_of s is) p ≡ node_of s (i ∷ is)
  pub messages : map message_view p.messages.items
      ≡ messages_from s (published (run_of s (i ∷ is))) (length (published (run_of s is)))
  pub packets : map bytes_of p.out.packets.items ≡ map spelling answer.packets

-- An input that was done behind a list: the answer is what is right there, and the node is that of the longer list.
pub record IsStepped (s : Setup) (is : List Input) (i : Input) (after : NodeData) (out : Out) : Type 0 where
  pub answer : Answer
  pub answered : right_at s (run_of s is) i ≡ Ok answer
  pub stands : after ≡ node_of s (i ∷ is)
  pub packets : map bytes_of out.packets.items ≡ map spelling answer.packets
