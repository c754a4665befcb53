-- Nothing that a world hands to a host is refused for another cause than memory.
use Rattle.std.specs.Prelude.{◌≡◌, true, None}
use Rattle.spk_payload.specs.Spelling.{HoldsOther}
use Rattle.spk_packets.specs.Message.{Message}
use Rattle.spk_packets.specs.Spelling.{spelling}
use Rattle.spk_edge_rules.specs.Writable.{is_writable}
use Rattle.spk_reading.specs.Meaning.{IsReadFault}
use Rattle.spk_reading.specs.declared.fault.ReadFault.{ReadFault}
use Rattle.spk_host.specs.Data.{HostData}
use Rattle.spk_world_run.specs.Data.{PublishedData}
use Rattle.spk_world_run.specs.Step.{packet_of}

-- The host is within a session, the packet can be written, and nobody refuses its bytes.
pub record IsSendable (h : HostData) (m : Message) : Type 0 where
  pub within : h.session.began ≡ None → ⊥
  pub writable : is_writable m ≡ true
  pub unrefused : (fault : ReadFault) → IsReadFault (spelling m) fault → ⊥

-- no metric of the message has a value that isn't known
pub record IsKnown (m : PublishedData) : Type 0 where
  pub known : HoldsOther m.payload.metrics → ⊥
