-- What is lent of a broker's data.
use Rattle.std.specs.Prelude.{Option}
use Rattle.std.specs.Option.{option_and_then}
use Rattle.spk_broker_rules.specs.Data as plain
use Rattle.spk_broker.specs.declared.parts.MessageRef.{MessageRef}

abbrev pub message_ref : MessageRef → plain.AppMessage
message_ref m = record { topic = m.topic.now; payload = m.payload.now; qos = m.qos; retain = m.retain }

-- the will of its connection
abbrev pub will_of : plain.Session → Option plain.AppMessage
will_of s = option_and_then (λ (l : plain.Connection). l.will) s.here
