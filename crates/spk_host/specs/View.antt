-- What contracts see of the crate's types.
use Rattle.std.specs.Prelude.{All, map}
use Rattle.spk_reading.specs.View.{numbered_view}
use Rattle.spk_topics.specs.Spark.{named}
use Rattle.spk_reading.specs.declared.fault.ReadFault.{ReadFault}
use Rattle.spk_reading.specs.declared.fault.ReadFault.TheVariants as read
use Rattle.spk_host_session.specs.Packets.{IsPacket}
use Rattle.spk_host_session.specs.declared.fault.HostFault.{HostFault}
use Rattle.spk_host_session.specs.declared.fault.HostFault.TheVariants as host
use Rattle.spk_host.specs.declared.out.Out.{Out}
use Rattle.spk_host.specs.Data.{OutData}

abbrev pub out_view : Out → OutData
out_view o = record {
  consumed = map numbered_view o.consumed.items;
  steps = o.steps.items;
  gaps = o.gaps.items;
  death = o.death;
  rebirths = map named o.rebirths.items;
  packets = map (λ b. b.items) o.packets.items;
}

-- each of its packets is one packet, whole and alone
abbrev pub AreWhole : Out → Type 0
AreWhole o = All (λ b. IsPacket b.items) o.packets.items

-- a fault in reading is the host's fault of the same name
abbrev pub fault_of : ReadFault → HostFault
fault_of read.NoMemory = host.NoMemory
fault_of read.NotSparkplug = host.NotSparkplug
fault_of read.BadPayload = host.BadPayload
fault_of read.NoSeq = host.NoSeq
fault_of read.NoStamp = host.NoStamp
fault_of read.NoBdSeq = host.NoBdSeq
