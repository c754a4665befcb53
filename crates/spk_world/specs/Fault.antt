-- The refusals of a world: their numbers, and which refusal of the definitions each is.
use Rattle.std.specs.Prelude.{◌≡◌, ℕ, Bool, true, Option, Some, None, is_some}
use Rattle.spk_edge_rules.specs.declared.fault.EdgeFault.{EdgeFault}
use Rattle.spk_edge_rules.specs.declared.fault.EdgeFault.TheVariants as edge
use Rattle.spk_host_session.specs.declared.fault.HostFault.{HostFault}
use Rattle.spk_host_session.specs.declared.fault.HostFault.TheVariants as host
use Rattle.spk_world_rules.specs.Refusals as rule
use Rattle.spk_world_rules.specs.Refusals.{Refusal}
use Rattle.spk_world.specs.declared.fault.WorldFault.{WorldFault}
use Rattle.spk_world.specs.declared.fault.WorldFault.TheVariants.{NoMemory, NoSuch, NotPublished, OutsideWindow, TooFar, Edge, Host, OvertakesBirth}

abbrev pub number_of : WorldFault → ℕ
number_of NoMemory = 1
number_of NoSuch = 80
number_of NotPublished = 81
number_of OutsideWindow = 82
number_of TooFar = 83
number_of (Edge fault) = 84
number_of (Host fault) = 85
number_of OvertakesBirth = 86

-- a refusal of the definitions; want of memory, and what a host refuses, are none
abbrev pub refusal_view : WorldFault → Option Refusal
refusal_view NoMemory = None
refusal_view NoSuch = Some rule.NoSuch
refusal_view NotPublished = Some rule.NotPublished
refusal_view OutsideWindow = Some rule.OutsideWindow
refusal_view TooFar = Some rule.TooFar
refusal_view (Edge fault) = Some (rule.Edge fault)
refusal_view (Host fault) = None
refusal_view OvertakesBirth = Some rule.OvertakesBirth

-- the refusal that the definitions name
pub record IsRefusal (refusal : Option Refusal) (e : WorldFault) : Type 0 where
  pub is : refusal ≡ refusal_view e
  pub there : is_some refusal ≡ true

-- a node's or a host's want of memory is the world's
abbrev pub edge_fault : EdgeFault → WorldFault
edge_fault edge.NoMemory = NoMemory
edge_fault edge.WrongPhase = Edge edge.WrongPhase
edge_fault edge.ClockEnd = Edge edge.ClockEnd
edge_fault edge.BadCommand = Edge edge.BadCommand
edge_fault edge.BadConfig = Edge edge.BadConfig
edge_fault edge.TooLarge = Edge edge.TooLarge
edge_fault (edge.Device refusal) = Edge (edge.Device refusal)
edge_fault (edge.State fault) = Edge (edge.State fault)
edge_fault edge.TwoOwners = Edge edge.TwoOwners

abbrev pub host_fault : HostFault → WorldFault
host_fault host.NoMemory = NoMemory
host_fault host.NotSparkplug = Host host.NotSparkplug
host_fault host.BadPayload = Host host.BadPayload
host_fault host.NoSeq = Host host.NoSeq
host_fault host.NoStamp = Host host.NoStamp
host_fault host.NoBdSeq = Host host.NoBdSeq
host_fault host.WrongPhase = Host host.WrongPhase
