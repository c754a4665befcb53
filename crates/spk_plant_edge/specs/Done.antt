-- What an edge's thread hands on at its end.
use Rattle.std.specs.Prelude.{◌≡◌, ◌⊎◌, ◌+◌, Bool, true, false, List, [], ◌∷◌, ◌++◌, map, Result, Ok, Err}
use Rattle.spk_edge.specs.Along.{AllWhole, messages_from, node_of}
use Rattle.spk_edge.specs.View.{message_view}
use Rattle.spk_edge_rules.specs.Config.{Setup}
use Rattle.spk_edge_rules.specs.Run.{published, run_of}
use Rattle.spk_ingress.specs.declared.channel.PutPass.{PutPass}
use Rattle.spk_ingress.specs.declared.frame.Frame.{Frame}
use Rattle.spk_ingress.specs.declared.frame.Frame.TheVariants.{End}
use Rattle.spk_ingress.specs.Passes.{PutsInto, frames_put}
use Rattle.spk_plan.specs.declared.script.Step.TheVariants.{Stop}
use Rattle.spk_rings.specs.Ring.{SameInlet, ahead, popped}
use Rattle.spk_plant_edge.specs.Frames.{ends_put, frames_of}
use Rattle.spk_plant_edge.specs.Log.{Move, IsLog, inputs_of, items_of}
use Rattle.spk_plant_edge.specs.Script.{Leads}
use Rattle.spk_plant_edge.specs.Told.{newest_first}
use Rattle.spk_plant_edge.specs.declared.fault.EdgeCause.{EdgeCause}
use Rattle.spk_plant_edge.specs.declared.fault.EdgeCause.TheVariants.{NoMemory, Closed}
use Rattle.spk_plant_edge.specs.declared.edge.EdgeStart.{EdgeStart}
use Rattle.spk_plant_edge.specs.declared.edge.EdgeEnd.{EdgeEnd}
use Rattle.spk_plant_edge.specs.declared.edge.EdgeFailure.{EdgeFailure}

-- An edge ran to its end. There is a log of what it did, which the script leads to with a last stop; the inputs, what was published, the
-- frames put and the items taken are those of this log. What lay in the ring for certain was taken out.
pub record EdgeDone (s : Setup) (start : EdgeStart) (end : EdgeEnd) : Type 0 where
  pub log : List Move
  pub lawful : IsLog s log
  pub script : Leads s (start.script.items ++ Stop ∷ []) [] log
  pub inputs : newest_first end.inputs.items ≡ inputs_of log
  pub node : end.node ≡ node_of s (inputs_of log)
  pub messages : map message_view end.published.items ≡ messages_from s (published (run_of s (inputs_of log))) 0
  pub whole : AllWhole s (published (run_of s (inputs_of log)))
  pub frames : frames_put end.pass ≡ frames_put start.pass ++ frames_of s (inputs_of log) ++ End ∷ []
  pub items : popped end.inlet ≡ popped start.inlet ++ items_of log
  pub inlet : SameInlet start.inlet end.inlet
  pub emptied : ahead end.inlet ≡ []

-- ---- a run that failed

-- the last frame is the sender's end
abbrev pub IsEnded : List Frame → Type 0
IsEnded put = (frames : List Frame) × (put ≡ frames ++ End ∷ [])

-- the frames' taker is gone
abbrev pub is_closed : Result (Unit {0}) EdgeCause → Bool
is_closed (Ok done) = false
is_closed (Err NoMemory) = false
is_closed (Err (Closed gone)) = true

-- For memory the end is put all the same, once and last; where the frames' taker is gone no end is put.
abbrev pub IsLast : EdgeCause → PutPass → PutPass → Type 0
IsLast NoMemory start p = IsEnded (frames_put p) × (ends_put p ≡ ends_put start + 1)
IsLast (Closed gone) start p = ends_put p ≡ ends_put start

-- an edge failed
abbrev pub EdgeFailed : EdgeStart → EdgeFailure → Type 0
EdgeFailed start f = IsLast f.cause start.pass f.pass
