-- What a plan that is taken up, or refused, comes to behind a list of inputs.
use Rattle.std.specs.Prelude.{◌≡◌, ◌||◌, ℕ, List, [], ◌∷◌, ◌++◌, map, Bool, true, false, is_err}
use Rattle.spk_edge.specs.Along.{AllWhole, messages_from, node_of}
use Rattle.spk_edge.specs.Patch.{IsPlan, patched}
use Rattle.spk_edge.specs.Sealing.{bytes_of}
use Rattle.spk_edge.specs.View.{NodeData, message_view}
use Rattle.spk_edge.specs.declared.plan.Plan.{Plan}
use Rattle.spk_edge.specs.declared.plan.Taken.{Taken}
use Rattle.spk_edge_rules.specs.Config.{Setup}
use Rattle.spk_edge_rules.specs.Inputs.{Input}
use Rattle.spk_edge_rules.specs.Run.{published, right_at, run_of}
use Rattle.spk_ingress.specs.declared.frame.Frame.TheVariants.{Packet}
use Rattle.spk_plant_edge.specs.Frames.{cut_if, frames_at, is_cut}

-- A node was told an input, and its plan was taken up: the node is as the plan says, and so is what was handed out.
pub record IsTakenUp (n : NodeData) (i : Input) (after : NodeData) (taken : Taken) : Type 0 where
  pub plan : Plan
  pub planned : IsPlan n i plan
  pub stands : after ≡ patched n plan
  pub out : taken.out ≡ plan.out
  pub messages : taken.messages ≡ plan.messages

-- the node is that of the longer list, its messages are published, and its packets are the frames of the input
pub record IsTaken (s : Setup) (is : List Input) (i : Input) (p : Plan) : Type 0 where
  pub stands : patched (node_of s is) p ≡ node_of s (i ∷ is)
  pub messages : messages_from s (published (run_of s (i ∷ is))) 0
      ≡ messages_from s (published (run_of s is)) 0 ++ map message_view p.messages.items
  pub whole : AllWhole s (published (run_of s is)) → AllWhole s (published (run_of s (i ∷ is)))
  pub frames : frames_at s is i ≡ map Packet (map bytes_of p.out.packets.items) ++ cut_if (is_cut i.act || p.out.close)
  pub done : is_err (right_at s (run_of s is) i) ≡ false

-- nothing changes
pub record IsPassed (s : Setup) (is : List Input) (i : Input) : Type 0 where
  pub stands : node_of s (i ∷ is) ≡ node_of s is
  pub run : run_of s (i ∷ is) ≡ run_of s is
  pub frames : frames_at s is i ≡ []
  pub refused : is_err (right_at s (run_of s is) i) ≡ true
