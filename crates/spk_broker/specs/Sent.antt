-- What is sent, as contracts see it.
use Rattle.std.specs.Prelude.{ℕ, List, ◌==◌, if◌then◌else◌}
use Rattle.spk_packets.specs.Message.{Message, Publish}
use Rattle.spk_packets.specs.Spelling.{spelling}
use Rattle.spk_session.specs.declared.answer.Sort.{Sort}
use Rattle.spk_session.specs.declared.answer.Sort.TheVariants as sort
use Rattle.spk_broker_rules.specs.Data.{Send}
use Rattle.spk_broker.specs.declared.out.Outgoing.{Outgoing}

-- bytes for a connection
pub record Sent : Type 0 where
  pub conn : ℕ
  pub sort : Sort
  pub bytes : List ℕ

abbrev pub sent_view : Outgoing → Sent
sent_view o = record { conn = o.conn; sort = o.sort; bytes = o.bytes }

-- a PUBLISH of QoS 0 may be lost, nothing else (MQTT 3.1.1, 4.3.1)
abbrev pub sort_at : ℕ → Sort
sort_at qos = if qos == 0 then sort.QosZero else sort.Other

abbrev pub sort_of : Message → Sort
sort_of (Publish dup qos retain topic id payload) = sort_at qos
sort_of _ = sort.Other

-- a packet for a connection is sent by its canonical spelling
abbrev pub outgoing : Send → Sent
outgoing s = record { conn = s.conn; sort = sort_of s.packet; bytes = spelling s.packet }
