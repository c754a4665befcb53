-- The frames that an edge node's inputs give: its packets, and the ends of its connections (own rule).
use Rattle.std.specs.Prelude.{ℕ, ◌+◌, Bool, true, false, ◌||◌, List, [], ◌∷◌, ◌++◌, count_by, map, Result, Ok, Err}
use Rattle.spk_packets.specs.Message as packets
use Rattle.spk_packets.specs.Spelling.{spelling}
use Rattle.spk_edge_rules.specs.declared.fault.EdgeFault.{EdgeFault}
use Rattle.spk_edge_rules.specs.Answers.{Answer}
use Rattle.spk_edge_rules.specs.Config.{Setup}
use Rattle.spk_edge_rules.specs.Inputs.{Act, Cut, Input}
use Rattle.spk_edge_rules.specs.Run.{right_at, run_of}
use Rattle.spk_ingress.specs.Passes.{frames_put}
use Rattle.spk_ingress.specs.declared.channel.PutPass.{PutPass}
use Rattle.spk_ingress.specs.declared.frame.Frame.{Frame}
use Rattle.spk_ingress.specs.declared.frame.Frame.TheVariants as frame

abbrev pub is_cut : Act → Bool
is_cut Cut = true
is_cut _ = false

abbrev pub cut_if : Bool → List Frame
cut_if true = frame.Cut ∷ []
cut_if false = []

abbrev pub packet_frame : packets.Message → Frame
packet_frame p = frame.Packet (spelling p)

-- The packets of an answer, in order, and behind them the end of the connection, where it is cut or the node closes it. What is
-- refused gives nothing.
abbrev pub frames_by : Act → Result Answer EdgeFault → List Frame
frames_by act (Ok answer) = map packet_frame answer.packets ++ cut_if (is_cut act || answer.given.close)
frames_by act (Err fault) = []

-- those of an input behind a list
abbrev pub frames_at : Setup → List Input → Input → List Frame
frames_at s is i = frames_by i.act (right_at s (run_of s is) i)

-- those of a list of inputs, newest first; oldest first
abbrev pub frames_of : Setup → List Input → List Frame
frames_of s [] = []
frames_of s (i ∷ is) = frames_of s is ++ frames_at s is i

-- how many ends of connections there are among frames
abbrev pub cuts_in : List Frame → ℕ
cuts_in [] = 0
cuts_in (frame.Cut ∷ fs) = cuts_in fs + 1
cuts_in (_ ∷ fs) = cuts_in fs

-- a sender's own end
abbrev pub is_end : Frame → Bool
is_end frame.End = true
is_end _ = false

-- how many of its own ends a sender put through a pass
abbrev pub ends_put : PutPass → ℕ
ends_put p = count_by is_end (frames_put p)
