-- What each thing done leaves of a world's data, and what it answers.
use Rattle.std.specs.Prelude.{◌≡◌, ℕ, ◌+◌, ◌-◌, ◌%◌, ◌==◌, max, Bool, true, false, ◌&&◌, List, [], ◌∷◌, ◌++◌, length, map, set, slice_get, Option, Some, None, Ok, if◌then◌else◌}
use Rattle.std.specs.List.{count_by, last_or}
use Rattle.spk_payload.specs.Spelling as payload
use Rattle.spk_packets.specs.Message.{Message, Publish}
use Rattle.spk_packets.specs.Spelling as packet
use Rattle.spk_sequence.specs.declared.answer.Match.TheVariants.{Matched, Ignored}
use Rattle.spk_sequence.specs.declared.answer.Step.{Step}
use Rattle.spk_sequence.specs.declared.answer.Step.TheVariants as step
use Rattle.spk_edge.specs.Sealing.{AreWhole, numbered}
use Rattle.spk_edge.specs.View.{MessageData, NodeData, unnumbered}
use Rattle.spk_edge_rules.specs.Answers as edge
use Rattle.spk_edge_rules.specs.Config.{Config}
use Rattle.spk_edge_rules.specs.Inputs.{Input}
use Rattle.spk_edge_rules.specs.Packets.{death_payload, death_topic}
use Rattle.spk_edge_rules.specs.Step.{answer_at, is_open, stepped}
use Rattle.spk_reading.specs.Data.{HeardData, NumberedData}
use Rattle.spk_reading.specs.Meaning.{Says}
use Rattle.spk_host.specs.Data.{HostData}
use Rattle.spk_host.specs.Step.{after_packet, over_entry, packet_out, tick_entry}
use Rattle.spk_host_session.specs.Step as session
use Rattle.spk_world_rules.specs.Answers.{Answer, Added, Stepped, Told, Gaps, Renewed}
use Rattle.spk_world_rules.specs.Events.{Deed, AtNode, Hand, Death, Tick, Renew}
use Rattle.spk_world_run.specs.Data.{PublishedData, ConsumedData, NodePart, HostPart, Track, WorldData, no_track}
use Rattle.spk_world_run.specs.Tests.{follows, is_opening, track_at}

-- ---- an input comes to a node

-- messages of a session behind so many births
abbrev pub posts_from : (session births : ℕ) → List MessageData → List PublishedData
posts_from session births [] = []
posts_from session births (m ∷ ms) =
    let after = if m.opens then births + 1 else births in
    (record { birth = after - 1; session = session; stamp = m.stamp; topic = m.topic; payload = m.payload }) ∷ posts_from session after ms

-- the positions of their NBIRTHs, from a position on, behind one whose NBIRTH is the last
abbrev pub starts_from : (position last : ℕ) → List MessageData → List ℕ
starts_from position last [] = []
starts_from position last (m ∷ ms) =
    let start = if m.opens then position else last in start ∷ starts_from (position + 1) start ms

-- the messages that an answer publishes, under their numbers
abbrev pub messages_of : NodeData → edge.Answer → List MessageData
messages_of n answer = numbered n.config.numbering n.standing.seq (map (unnumbered n.config) answer.given.drafts)

abbrev pub or_zero : Option ℕ → ℕ
or_zero None = 0
or_zero (Some n) = n

abbrev pub after_input : NodePart → Input → edge.Answer → NodePart
after_input n input answer =
    let messages = messages_of n.node answer in
    record {
      node = record n.node { standing = stepped n.node.config n.node.standing input answer.given };
      published = n.published ++ posts_from (length n.opened - 1) n.births messages;
      starts = n.starts ++ starts_from (length n.published) (or_zero (last_or None n.starts)) messages;
      births = n.births + count_by (λ m. m.opens) messages;
      opened = if is_open input.act then n.opened ++ (input.now ∷ []) else n.opened;
    }

abbrev pub with_node : WorldData → ℕ → NodePart → WorldData
with_node d n part = record d { nodes = set d.nodes n part }

pub record IsInput (d : WorldData) (n : ℕ) (input : Input) (after : WorldData) (answer : Answer) : Type 0 where
  pub part : NodePart
  pub there : slice_get d.nodes n ≡ Some part
  -- nothing is to be acknowledged
  pub plain : input.ack ≡ None
  pub given : edge.Answer
  pub answered : answer_at part.node.config part.node.standing input ≡ Ok given
  -- each message can be written
  pub whole : AreWhole (messages_of part.node given)
  pub leaves : after ≡ with_node d n (after_input part input given)
  pub added : answer ≡ Added (length given.given.drafts)

-- ---- a message is handed to a host

-- its packet, as the node sent it
abbrev pub packet_of : PublishedData → Message
packet_of m = Publish false 0 false m.topic None (payload.spelling m.payload)

-- consumed messages, from a position on
abbrev pub placed : ℕ → List NumberedData → List ConsumedData
placed position [] = []
placed position (m ∷ ms) =
    (record { position = position; topic = m.topic; payload = m.payload }) ∷ placed (position + 1) ms

abbrev pub is_some_of : {X : Type 0} → List X → Bool
is_some_of [] = false
is_some_of (x ∷ xs) = true

abbrev pub handed_track : Track → ℕ → Bool → ℕ → List NumberedData → Track
handed_track t p opens session consumed = record {
  reach = max (p + 1) t.reach;
  session = if opens && is_some_of consumed then Some session else t.session;
  births = if opens then t.births ++ (p ∷ []) else t.births;
  consumed = t.consumed ++ placed p consumed;
}

-- the step of the one message that was handed
abbrev pub step_in : List Step → Step
step_in [] = step.NotLive
step_in (s ∷ steps) = s

abbrev pub with_track : WorldData → ℕ → HostPart → HostData → ℕ → Track → WorldData
with_track d h part host n track =
    record d { hosts = set d.hosts h (record { host = host; tracks = set part.tracks n track }) }

pub record IsHand (d : WorldData) (h n p now : ℕ) (after : WorldData) (answer : Answer) : Type 0 where
  pub host : HostPart
  pub host_there : slice_get d.hosts h ≡ Some host
  pub part : NodePart
  pub there : slice_get d.nodes n ≡ Some part
  pub message : PublishedData
  pub published : slice_get part.published p ≡ Some message
  pub heard : HeardData
  pub says : Says (packet.spelling (packet_of message)) heard
  pub leaves : after ≡ with_track d h host (after_packet host.host heard now) n
      (handed_track (track_at host n) p (is_opening part p) message.session (packet_out host.host heard now).consumed)
  pub stepped : answer ≡ Stepped (step_in (packet_out host.host heard now).steps)

-- ---- the NDEATH of a session is handed to a host

-- the will of a session that was opened at a moment, as the server publishes it at QoS 0
abbrev pub death_of : Config → ℕ → ℕ → Message
death_of c session time = Publish false 0 false (death_topic c) None (payload.spelling (death_payload (session % 256) time))

abbrev pub is_session_at : Option ℕ → ℕ → Bool
is_session_at None session = false
is_session_at (Some taken) session = session == taken

pub record IsDeath (d : WorldData) (h n s now : ℕ) (after : WorldData) (answer : Answer) : Type 0 where
  pub host : HostPart
  pub host_there : slice_get d.hosts h ≡ Some host
  pub part : NodePart
  pub there : slice_get d.nodes n ≡ Some part
  pub time : ℕ
  pub opened : slice_get part.opened s ≡ Some time
  pub heard : HeardData
  pub says : Says (packet.spelling (death_of part.node.config s time)) heard
  pub leaves : after ≡ record d { hosts = set d.hosts h (record host { host = after_packet host.host heard now }) }
  pub told : answer ≡ Told (if is_session_at (track_at host n).session s then Matched else Ignored)

-- ---- a moment comes to a host

abbrev pub ticked : HostData → ℕ → HostData
ticked h now = record h { nodes = map (tick_entry now) h.nodes }

-- how many nodes a host follows
abbrev pub followed : HostData → List NodePart → ℕ
followed h nodes = count_by (follows h) nodes

pub record IsTick (d : WorldData) (h now : ℕ) (after : WorldData) (answer : Answer) : Type 0 where
  pub host : HostPart
  pub host_there : slice_get d.hosts h ≡ Some host
  pub leaves : after ≡ record d { hosts = set d.hosts h (record host { host = ticked host.host now }) }
  pub gaps : answer ≡ Gaps (followed host.host d.nodes - followed (ticked host.host now) d.nodes)

-- ---- the session of a host ends, and its next begins

abbrev pub renewed : HostData → ℕ → HostData
renewed h now = record { session = session.after h.session (session.Renewed now); nodes = map over_entry h.nodes }

pub record IsRenewal (d : WorldData) (h now : ℕ) (after : WorldData) (answer : Answer) : Type 0 where
  pub host : HostPart
  pub host_there : slice_get d.hosts h ≡ Some host
  pub leaves : after ≡ record d {
    hosts = set d.hosts h
        (record { host = renewed host.host now; tracks = map (λ track. no_track) host.tracks });
  }
  pub renewed_answer : answer ≡ Renewed

-- ---- a thing is done

abbrev pub IsStep : WorldData → Deed → WorldData → Answer → Type 0
IsStep d (AtNode n input) = IsInput d n input
IsStep d (Hand h n p now) = IsHand d h n p now
IsStep d (Death h n s now) = IsDeath d h n s now
IsStep d (Tick h now) = IsTick d h now
IsStep d (Renew h now) = IsRenewal d h now
