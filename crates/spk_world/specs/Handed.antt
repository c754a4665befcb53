-- What a message or an NDEATH does to a host, and to its track of the node.
use Rattle.std.specs.Prelude.{◌≡◌, ◌⊎◌, ℕ, ◌+◌, ◌-◌, set, slice_get, Option, Some, None, Result, MatchResult, if◌then◌else◌}
use Rattle.spk_packets.specs.Spelling.{spelling}
use Rattle.spk_sequence.specs.declared.answer.Match.{Match}
use Rattle.spk_sequence.specs.declared.answer.Match.TheVariants.{Matched, Ignored}
use Rattle.spk_sequence.specs.declared.answer.Step.{Step}
use Rattle.spk_sequence.specs.declared.answer.Step.TheVariants as step
use Rattle.spk_reading.specs.Data.{HeardData}
use Rattle.spk_reading.specs.Meaning.{Says}
use Rattle.spk_host.specs.Data.{HostData}
use Rattle.spk_host.specs.Step.{after_packet, packet_out}
use Rattle.spk_world_rules.specs.Refusals.{Refusal}
use Rattle.spk_world_run.specs.Data.{PublishedData, NodePart, HostPart, Track}
use Rattle.spk_world_run.specs.Step.{death_of, handed_track, is_session_at, packet_of, step_in}
use Rattle.spk_world_run.specs.Tests.{death_test, if_published, is_opening, message_test, track_at}
use Rattle.spk_world.specs.declared.fault.WorldFault.{WorldFault}
use Rattle.spk_world.specs.declared.fault.WorldFault.TheVariants.{NoMemory}
use Rattle.spk_world.specs.Fault.{IsRefusal}
use Rattle.spk_world.specs.Outcome.{IsUnsendable, IsUnsent}

-- it is refused so, or not at all
abbrev pub IsJudged : Result (Unit {0}) WorldFault → Option Refusal → Type 0
IsJudged r refusal = MatchResult r (λ x. refusal ≡ None) (IsRefusal refusal)

-- ---- a message

abbrev pub message_refusal_at : HostData → Track → NodePart → ℕ → Option Refusal
message_refusal_at h t part p = if_published (slice_get part.published p) (message_test h part t p)

-- how many messages a step consumes, at most
abbrev pub most_of : Step → ℕ
most_of (step.Consumed n) = 1 + (n - 1)
most_of _ = 0

pub record IsHanded (h : HostData) (t : Track) (part : NodePart) (p now : ℕ) (after : HostData) (track : Track) (step : Step) : Type 0 where
  pub message : PublishedData
  pub published : slice_get part.published p ≡ Some message
  pub heard : HeardData
  pub says : Says (spelling (packet_of message)) heard
  pub host : after ≡ after_packet h heard now
  pub tracked : track ≡ handed_track t p (is_opening part p) message.session (packet_out h heard now).consumed
  pub stepped : step ≡ step_in (packet_out h heard now).steps

pub record IsUnsentMessage (h : HostData) (part : NodePart) (p : ℕ) (e : WorldFault) : Type 0 where
  pub message : PublishedData
  pub published : slice_get part.published p ≡ Some message
  pub unsendable : IsUnsendable h message e

abbrev pub IsUnhanded : HostData → Track → NodePart → ℕ → WorldFault → Type 0
IsUnhanded h t part p e = (e ≡ NoMemory) ⊎ (IsRefusal (message_refusal_at h t part p) e ⊎ IsUnsentMessage h part p e)

-- the same at a host with a track of each node
pub record IsHandedTo (m : HostPart) (n : ℕ) (part : NodePart) (p now : ℕ) (after : HostPart) (step : Step) : Type 0 where
  pub host : HostData
  pub track : Track
  pub handed : IsHanded m.host (track_at m n) part p now host track step
  pub is : after ≡ record { host = host; tracks = set m.tracks n track }

-- ---- an NDEATH

pub record IsTold (h : HostData) (t : Track) (part : NodePart) (s now : ℕ) (after : HostData) (match : Match) : Type 0 where
  pub time : ℕ
  pub opened : slice_get part.opened s ≡ Some time
  pub heard : HeardData
  pub says : Says (spelling (death_of part.node.config s time)) heard
  pub host : after ≡ after_packet h heard now
  pub told : match ≡ (if is_session_at t.session s then Matched else Ignored)

pub record IsUnsentDeath (h : HostData) (part : NodePart) (s : ℕ) (e : WorldFault) : Type 0 where
  pub time : ℕ
  pub opened : slice_get part.opened s ≡ Some time
  pub unsent : IsUnsent h (death_of part.node.config s time) e

abbrev pub IsUntold : HostData → Track → NodePart → ℕ → WorldFault → Type 0
IsUntold h t part s e = (e ≡ NoMemory) ⊎ (IsRefusal (death_test part t s) e ⊎ IsUnsentDeath h part s e)
