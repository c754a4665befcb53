-- What a world's data are, after all that was done in it: each part is what is asked of the list.
use Rattle.std.specs.Prelude.{◌≡◌, ℕ, ◌^◌, ◌<◌, true, ◌&&◌, List, [], ◌∷◌, length, map, slice_get, Some, is_some, All}
use Rattle.std.specs.List.{enumerate_from}
use Rattle.std.specs.Option.{option_map}
use Rattle.std.specs.Str.{IsUtf8}
use Rattle.spk_sequence.specs.Following.{contains, taken}
use Rattle.spk_sequence.specs.HostRecord.{reach}
use Rattle.spk_sequence.specs.NodeRecord.{opens, session_at, start_of}
use Rattle.spk_sequence.specs.Window.{handed_of}
use Rattle.spk_topics.specs.Spark.{topic_of}
use Rattle.spk_edge.specs.Along.{AllWhole, node_of}
use Rattle.spk_edge_rules.specs.Writable.{is_writable}
use Rattle.spk_edge_rules.specs.Claims.{HasNames, IsUnreserved}
use Rattle.spk_edge_rules.specs.Config.{Setup}
use Rattle.spk_edge_rules.specs.Inputs as edge
use Rattle.spk_edge_rules.specs.Messages.{named_by, payload_of, wire}
use Rattle.spk_edge_rules.specs.Run.{Message, births_in, number_at, opened, outline, published, run_of}
use Rattle.spk_heard.specs.Read.{AreRead}
use Rattle.spk_host.specs.Inputs as host
use Rattle.spk_host.specs.Inputs.{host_after, node_calls}
use Rattle.spk_host_node.specs.Inputs.{since_end}
use Rattle.spk_host_session.specs.Data.{Config}
use Rattle.spk_world_rules.specs.Events.{Deed, HasWidths, World, host_at, node_at}
use Rattle.spk_world_rules.specs.Queries.{calls_of, consumed_of, inputs_of, published_of, record_of, setting_of}
use Rattle.spk_world_rules.specs.Refusals.{AllDone}
use Rattle.spk_world_run.specs.Data.{PublishedData, ConsumedData, NodePart, HostPart, Track, WorldData}
use Rattle.spk_world_run.specs.Step.{death_of}

-- ---- a node

-- the message of a position, as it was published
abbrev pub post_of : Setup → List Message → ℕ → Message → PublishedData
post_of s messages p m = record {
  birth = m.birth;
  session = m.session;
  stamp = m.draft.stamp;
  topic = topic_of (named_by s.config m.draft);
  payload = payload_of (number_at s messages p) m.draft;
}

-- messages from a position on
abbrev pub posts_of : Setup → List Message → ℕ → List Message → List PublishedData
posts_of s all p messages = map (λ e. post_of s all e.0 e.1) (enumerate_from p messages)

-- of each message the position of its birth's NBIRTH
abbrev pub starts_of : List Message → ℕ → List Message → List ℕ
starts_of all p messages = map (λ e. start_of (outline all) e.0) (enumerate_from p messages)

-- each message can be written
abbrev pub AllWritable : Setup → List Message → Type 0
AllWritable s messages = (p : ℕ) (m : Message) → slice_get messages p ≡ Some m → is_writable (wire s.config (number_at s messages p) m.draft) ≡ true

pub record IsNodeRun (s : Setup) (is : List edge.Input) (part : NodePart) : Type 0 where
  pub node : part.node ≡ node_of s is
  pub posts : part.published ≡ posts_of s (published (run_of s is)) 0 (published (run_of s is))
  pub starts : part.starts ≡ starts_of (published (run_of s is)) 0 (published (run_of s is))
  pub births : part.births ≡ births_in (published (run_of s is))
  pub sessions : length part.opened ≡ opened (run_of s is)
  pub moments : All (λ time. time < 2 ^ 63) part.opened
  pub whole : AllWhole s (published (run_of s is))
  pub writable : AllWritable s (published (run_of s is))
  -- the NDEATH of each session can be written
  pub dying : (session time : ℕ) → slice_get part.opened session ≡ Some time → is_writable (death_of s.config session time) ≡ true

-- ---- a host, and each node there

-- the message of a position as it is consumed: unaltered
abbrev pub consumed_as : Setup → List Message → ℕ → Message → ConsumedData
consumed_as s messages p m = record {
  position = p;
  topic = topic_of (named_by s.config m.draft);
  payload = payload_of (number_at s messages p) m.draft;
}

-- a message consumed is that of the position, with the topic and the payload that were published there
abbrev pub IsConsumed : Setup → List Message → ℕ → ConsumedData → Type 0
IsConsumed s messages p c = (m : Message) × (slice_get messages p ≡ Some m) × (c ≡ consumed_as s messages p m)

abbrev pub AreConsumed : Setup → List Message → List ℕ → List ConsumedData → Type 0
AreConsumed s messages [] [] = Unit {0}
AreConsumed s messages (p ∷ ps) (c ∷ cs) = IsConsumed s messages p c × AreConsumed s messages ps cs
AreConsumed s messages _ _ = ⊥

-- Of a host that was told these calls, newest first, and a node: what it was told in its present session is what came of the node, and
-- the counts are those of the record.
pub record IsTrack (w : World) (done : List Deed) (h n : ℕ) (calls : List host.Call) (track : Track) : Type 0 where
  pub read : AreRead (node_at w n) (published_of w done n) (inputs_of done h n)
      (since_end (node_calls calls (node_at w n).config.group (node_at w n).config.node))
  pub reaches : track.reach ≡ reach (record_of w done h n)
  pub session : track.session
      ≡ option_map (session_at (outline (published_of w done n))) (taken (setting_of w done h n) (record_of w done h n))
  pub births : (p : ℕ) → contains p track.births
      ≡ (contains p (handed_of (record_of w done h n)) && opens (outline (published_of w done n)) p)
  pub consumed : AreConsumed (node_at w n) (published_of w done n) (consumed_of w done h n) track.consumed

pub record IsHostRun (w : World) (done : List Deed) (h : ℕ) (part : HostPart) : Type 0 where
  pub config : Config
  pub calls : List host.Call
  pub is : part.host ≡ host_after config calls
  pub began : is_some part.host.session.began ≡ true
  pub waits : config.wait ≡ (host_at w h).wait
  pub wide : config.width ≡ (host_at w h).width
  pub count : length part.tracks ≡ length w.nodes
  pub tracks : (n : ℕ) (track : Track) → slice_get part.tracks n ≡ Some track → IsTrack w done h n calls track

-- ---- a world

-- Nodes begin with 0, have names that can stand in topics and are texts, and registries that don't use the node's own names.
pub record IsNode (s : Setup) : Type 0 where
  pub seq : s.seq ≡ 0
  pub bd : s.bd ≡ 0
  pub names : HasNames s
  pub unreserved : IsUnreserved s
  pub group_text : IsUtf8 s.config.group
  pub node_text : IsUtf8 s.config.node

-- no two have one group and one name
abbrev pub AreApart : World → Type 0
AreApart w = (m n : ℕ) → m < length w.nodes → n < length w.nodes → (node_at w m).config.group ≡ (node_at w n).config.group →
    (node_at w m).config.node ≡ (node_at w n).config.node → m ≡ n

-- what is asked of a world's nodes and hosts
pub record IsWorld (w : World) : Type 0 where
  pub widths : HasWidths w
  pub nodes : (n : ℕ) → n < length w.nodes → IsNode (node_at w n)
  pub apart : AreApart w

-- The data of a world in which all this was done, newest first, and nothing else.
pub record IsRun (w : World) (done : List Deed) (d : WorldData) : Type 0 where
  pub world : IsWorld w
  pub all : AllDone w done
  pub node_count : length d.nodes ≡ length w.nodes
  pub host_count : length d.hosts ≡ length w.hosts
  pub nodes : (n : ℕ) (part : NodePart) → slice_get d.nodes n ≡ Some part → IsNodeRun (node_at w n) (calls_of done n) part
  pub hosts : (h : ℕ) (part : HostPart) → slice_get d.hosts h ≡ Some part → IsHostRun w done h part
