-- A message as it goes to who gets it with QoS 0.
use Rattle.std.specs.Prelude.{None, false}
use Rattle.spk_packets.specs.Message.{Message, Publish}
use Rattle.spk_broker_rules.specs.Data as plain

-- without RETAIN
abbrev pub as_plain : plain.AppMessage → Message
as_plain m = Publish false 0 false m.topic None m.payload
