-- The numbers of the refusals.
use Rattle.std.specs.Prelude.{ℕ}
use Rattle.spk_packets.specs.Fault.{number_of}
use Rattle.spk_ingress.specs.declared.fault.FrameFault.{FrameFault}
use Rattle.spk_ingress.specs.declared.fault.FrameFault.TheVariants as frame
use Rattle.spk_ingress.specs.declared.fault.OpenFault.{OpenFault}
use Rattle.spk_ingress.specs.declared.fault.OpenFault.TheVariants as opened
use Rattle.spk_ingress.specs.declared.fault.SettleFault.{SettleFault}
use Rattle.spk_ingress.specs.declared.fault.SettleFault.TheVariants as settled

abbrev pub frame_number : FrameFault → ℕ
frame_number (frame.Packet fault) = number_of fault
frame_number frame.NotOne = 95

abbrev pub open_number : OpenFault → ℕ
open_number opened.NoMemory = 1
open_number opened.BadPlan = 92

abbrev pub settle_number : SettleFault → ℕ
settle_number settled.NoMemory = 1
settle_number settled.Unsettled = 93
