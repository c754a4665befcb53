-- What the clients of a plant say: each edge node what its rules give for its inputs, and the host what its calls give.
use Rattle.std.specs.Prelude.{◌≡◌, ℕ, ◌<◌, true, List, [], ◌∷◌, ◌++◌, map, Option, Some, None}
use Rattle.std.specs.Str.{IsUtf8}
use Rattle.spk_topics.specs.Spark.{is_name}
use Rattle.spk_sequence.specs.Budget.{budget}
use Rattle.spk_sequence.specs.NodeRecord.{RunsOn}
use Rattle.spk_reading.specs.Data.{HeardData}
use Rattle.spk_edge_rules.specs.Claims.{HasNames, IsUnreserved}
use Rattle.spk_edge_rules.specs.Config.{Config, Setup}
use Rattle.spk_edge_rules.specs.Inputs.{Input}
use Rattle.spk_edge_rules.specs.Run.{published, run_of}
use Rattle.spk_edge.specs.Along.{AllWhole}
use Rattle.spk_ingress.specs.Lanes.{share_of}
use Rattle.spk_ingress.specs.declared.frame.Frame.{Frame}
use Rattle.spk_ingress.specs.declared.frame.Frame.TheVariants as frame
use Rattle.spk_plant_edge.specs.Frames.{frames_of}
use Rattle.spk_plant_broker.specs.Data.{Entry}
use Rattle.spk_plant_broker.specs.Log.{IsLog, taken_of}
use Rattle.spk_host_session.specs.Data as host
use Rattle.spk_plant_host.specs.Calls.{packets_of}
use Rattle.spk_plant_host.specs.Told.{calls_of}
use Rattle.spk_plant_relay.specs.Senders.{AreSenders}

-- the primary host's name, where there is one, is a name in UTF-8
abbrev pub IsPrimary : Option (List ℕ) → Type 0
IsPrimary None = Unit {0}
IsPrimary (Some name) = (is_name name ≡ true) × IsUtf8 name

-- Names are texts, and a keep alive has two bytes, as every value of the code has.
pub record HasTexts (c : Config) : Type 0 where
  pub group : IsUtf8 c.group
  pub node : IsUtf8 c.node
  pub primary : IsPrimary c.primary
  pub keep : c.keep < 65536

-- An edge node whose numbers run on over births put the frames of its inputs, and last its end; what it published can be written.
pub record IsNodeSpeech (s : Setup) (inputs : List Input) (frames : List Frame) : Type 0 where
  pub names : HasNames s
  pub texts : HasTexts s.config
  pub unreserved : IsUnreserved s
  pub runs_on : s.config.numbering ≡ RunsOn
  pub whole : AllWhole s (published (run_of s inputs))
  pub put : frames ≡ frames_of s inputs ++ frame.End ∷ []

-- A host with good names put the packets of the calls that it did, of what it was told, newest first, and last its end.
pub record IsHostSpeech (c : host.Config) (told : List (Option HeardData)) (frames : List Frame) : Type 0 where
  pub good : host.is_good c ≡ true
  pub name : IsUtf8 c.name
  pub group : IsUtf8 c.group
  pub keep : c.keep < 65536
  pub put : frames ≡ map frame.Packet (packets_of c (calls_of c told)) ++ frame.End ∷ []

-- A log of a plant's broker whose clients are these edge nodes, by their places, no two of one name, and the host behind them.
pub record IsPlant (width edges : ℕ) (setup : ℕ → Setup) (inputs : ℕ → List Input) (c : host.Config) (told : List (Option HeardData)) (log : List Entry) : Type 0 where
  pub is_log : IsLog (budget width) edges log
  pub senders : AreSenders edges (taken_of log)
  pub distinct : (i j : ℕ) → i < edges → j < edges → (setup i).config.group ≡ (setup j).config.group →
      (setup i).config.node ≡ (setup j).config.node → i ≡ j
  pub nodes : (j : ℕ) → j < edges → IsNodeSpeech (setup j) (inputs j) (share_of j (taken_of log))
  pub host : IsHostSpeech c told (share_of edges (taken_of log))
