-- What a world does with an event: a step, or a refusal.
use Rattle.std.specs.Prelude.{◌≡◌, ◌⊎◌, ℕ, false, List, slice_get, Some, None}
use Rattle.spk_payload.specs.Spelling.{HoldsOther}
use Rattle.spk_packets.specs.Message.{Message}
use Rattle.spk_packets.specs.Spelling.{spelling}
use Rattle.spk_edge_rules.specs.declared.fault.EdgeFault.TheVariants as edge
use Rattle.spk_edge_rules.specs.Writable.{is_writable}
use Rattle.spk_reading.specs.Meaning.{IsReadFault, Says}
use Rattle.spk_reading.specs.declared.fault.ReadFault.{ReadFault}
use Rattle.spk_host_session.specs.declared.fault.HostFault.TheVariants as refused
use Rattle.spk_host.specs.Data.{HostData}
use Rattle.spk_host.specs.Step.{after_packet, packet_out}
use Rattle.spk_host.specs.View.{fault_of, out_view}
use Rattle.spk_host.specs.declared.out.Out.{Out}
use Rattle.spk_reading.specs.Data.{HeardData}
use Rattle.spk_world_rules.specs.Events.{Deed, AtNode, Hand, Death, Tick, Renew}
use Rattle.spk_world_run.specs.Data.{PublishedData, NodePart, HostPart, WorldData}
use Rattle.spk_world_run.specs.Step.{IsStep, death_of, packet_of}
use Rattle.spk_world_run.specs.Tests.{refusal_at}
use Rattle.spk_world.specs.declared.answer.Done.{Done}
use Rattle.spk_world.specs.declared.fault.WorldFault.{WorldFault}
use Rattle.spk_world.specs.declared.fault.WorldFault.TheVariants.{NoMemory, Edge, Host}
use Rattle.spk_world.specs.Fault.{IsRefusal}
use Rattle.spk_world.specs.View.{done_view}

-- It was done: nothing refused it, and the data are those after it.
pub record IsDone (d : WorldData) (deed : Deed) (after : WorldData) (done : Done) : Type 0 where
  pub passed : refusal_at d deed ≡ None
  pub step : IsStep d deed after (done_view done)

-- a host hears what bytes say
pub record IsHeard (before : HostData) (bytes : List ℕ) (now : ℕ) (h : HeardData) (out : Out) (after : HostData) : Type 0 where
  pub says : Says bytes h
  pub out_is : out_view out ≡ packet_out before h now
  pub after_is : after ≡ after_packet before h now

-- a host that is in no session refuses every packet, and others by what their bytes say
pub data IsUnheard (h : HostData) (bytes : List ℕ) : WorldFault → Type 0 where
  Outside : h.session.began ≡ None → IsUnheard h bytes (Host refused.WrongPhase)
  Unread : (r : ReadFault) → IsReadFault bytes r → IsUnheard h bytes (Host (fault_of r))

-- a packet that can't be written, or that the host refuses
abbrev pub IsUnsent : HostData → Message → WorldFault → Type 0
IsUnsent h m e = ((e ≡ Edge edge.TooLarge) × (is_writable m ≡ false)) ⊎ IsUnheard h (spelling m) e

-- a message that can't be written, or that the host refuses
abbrev pub IsUnsendable : HostData → PublishedData → WorldFault → Type 0
IsUnsendable h m e = ((e ≡ Edge edge.TooLarge) × HoldsOther m.payload.metrics) ⊎ IsUnsent h (packet_of m) e

-- what no test names: a message or an NDEATH that can't be written or heard, a host in no session
pub record IsMessageAmiss (d : WorldData) (h n p : ℕ) (e : WorldFault) : Type 0 where
  pub host : HostPart
  pub host_there : slice_get d.hosts h ≡ Some host
  pub part : NodePart
  pub there : slice_get d.nodes n ≡ Some part
  pub message : PublishedData
  pub published : slice_get part.published p ≡ Some message
  pub unsendable : IsUnsendable host.host message e

pub record IsDeathAmiss (d : WorldData) (h n s : ℕ) (e : WorldFault) : Type 0 where
  pub host : HostPart
  pub host_there : slice_get d.hosts h ≡ Some host
  pub part : NodePart
  pub there : slice_get d.nodes n ≡ Some part
  pub time : ℕ
  pub opened : slice_get part.opened s ≡ Some time
  pub unsent : IsUnsent host.host (death_of part.node.config s time) e

pub record IsTickAmiss (d : WorldData) (h : ℕ) (e : WorldFault) : Type 0 where
  pub host : HostPart
  pub host_there : slice_get d.hosts h ≡ Some host
  pub outside : host.host.session.began ≡ None
  pub is : e ≡ Host refused.WrongPhase

abbrev pub IsAmiss : WorldData → Deed → WorldFault → Type 0
IsAmiss d (AtNode n input) e = ⊥
IsAmiss d (Hand h n p now) e = IsMessageAmiss d h n p e
IsAmiss d (Death h n s now) e = IsDeathAmiss d h n s e
IsAmiss d (Tick h now) e = IsTickAmiss d h e
IsAmiss d (Renew h now) e = ⊥

-- memory was refused, or it is the refusal that the tests name, or what none names
pub record IsRefused (d : WorldData) (deed : Deed) (e : WorldFault) : Type 0 where
  pub why : (e ≡ NoMemory) ⊎ (IsRefusal (refusal_at d deed) e ⊎ IsAmiss d deed e)
