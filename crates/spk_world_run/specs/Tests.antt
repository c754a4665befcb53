-- Why a thing isn't done, by the data: tests on numbers, in the order of the causes.
use Rattle.std.specs.Prelude.{ℕ, ◌+◌, ◌==◌, nat_lt, nat_le, Bool, false, not, ◌&&◌, ◌||◌, length, get_or, slice_get, Option, Some, None, if◌then◌else◌}
use Rattle.spk_sequence.specs.Budget.{budget}
use Rattle.spk_sequence.specs.Following.{contains}
use Rattle.spk_sequence.specs.NodeRecord.{Numbering, RunsOn, Restarts}
use Rattle.spk_sequence.specs.Step.{is_live}
use Rattle.spk_sequence.specs.declared.phase.Phase.{Phase}
use Rattle.spk_edge_rules.specs.Step.{answer_at}
use Rattle.spk_host.specs.Nodes.{node_or}
use Rattle.spk_host.specs.Step.{fresh}
use Rattle.spk_host.specs.Data.{HostData}
use Rattle.spk_world_rules.specs.Events.{Deed, AtNode, Hand, Death, Tick, Renew}
use Rattle.spk_world_rules.specs.Refusals.{Refusal, NoSuch, NotPublished, OutsideWindow, TooFar, OvertakesBirth, edge_refusal}
use Rattle.spk_world_run.specs.Data.{PublishedData, NodePart, HostPart, Track, WorldData, no_track}

-- how a host stands to a node
abbrev pub phase_of : HostData → NodePart → Phase
phase_of h n = (node_or (fresh h) h.nodes n.node.config.group n.node.config.node).order.standing.phase

abbrev pub follows : HostData → NodePart → Bool
follows h n = is_live (phase_of h n)

-- the position of the NBIRTH of a message's birth, and whether the message is that NBIRTH
abbrev pub start_at : NodePart → ℕ → ℕ
start_at n p = get_or n.starts p 0

abbrev pub is_opening : NodePart → ℕ → Bool
is_opening n p = start_at n p == p

abbrev pub is_outside_at : ℕ → Bool → Track → ℕ → Bool
is_outside_at width follows t p =
    not (nat_le t.reach (p + width)) || (follows && not (nat_lt p (t.reach + budget width)))

-- 256 or more sessions from that of the birth taken last, either way
abbrev pub is_far_at : Option ℕ → ℕ → Bool
is_far_at None session = false
is_far_at (Some taken) session = not (nat_lt session (taken + 256)) || not (nat_lt taken (session + 256))

abbrev pub overtakes_at : Numbering → NodePart → Track → ℕ → Bool
overtakes_at RunsOn n t p = false
overtakes_at Restarts n t p = not (is_opening n p) && not (contains (start_at n p) t.births)

-- the message is there
abbrev pub message_test : HostData → NodePart → Track → ℕ → PublishedData → Option Refusal
message_test h n t p m =
    if is_outside_at h.session.config.width (follows h n) t p then Some OutsideWindow
    else if is_opening n p && is_far_at t.session m.session then Some TooFar
    else if overtakes_at n.node.config.numbering n t p then Some OvertakesBirth
    else None

abbrev pub if_published : Option PublishedData → (PublishedData → Option Refusal) → Option Refusal
if_published None test = Some NotPublished
if_published (Some m) test = test m

abbrev pub death_test : NodePart → Track → ℕ → Option Refusal
death_test n t session =
    if not (nat_lt session (length n.opened)) then Some NotPublished
    else if is_far_at t.session session then Some TooFar
    else None

abbrev pub if_node : Option NodePart → (NodePart → Option Refusal) → Option Refusal
if_node None test = Some NoSuch
if_node (Some n) test = test n

abbrev pub if_host : Option HostPart → (HostPart → Option Refusal) → Option Refusal
if_host None test = Some NoSuch
if_host (Some h) test = test h

-- the track of a node
abbrev pub track_at : HostPart → ℕ → Track
track_at h n = get_or h.tracks n no_track

abbrev pub refusal_at : WorldData → Deed → Option Refusal
refusal_at d (AtNode n input) =
    if_node (slice_get d.nodes n) (λ part. edge_refusal (answer_at part.node.config part.node.standing input))
refusal_at d (Hand h n p now) =
    if_host (slice_get d.hosts h) (λ host. if_node (slice_get d.nodes n) (λ part.
    if_published (slice_get part.published p) (message_test host.host part (track_at host n) p)))
refusal_at d (Death h n session now) =
    if_host (slice_get d.hosts h) (λ host. if_node (slice_get d.nodes n) (λ part. death_test part (track_at host n) session))
refusal_at d (Tick h now) = if_host (slice_get d.hosts h) (λ host. None)
refusal_at d (Renew h now) = if_host (slice_get d.hosts h) (λ host. None)
