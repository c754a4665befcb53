-- What contracts see of messages, messages in flight, grants, connections and retained messages.
use Rattle.std.specs.Prelude.{ℕ, List, String, string_bytes}
use Rattle.std.specs.Option.{option_map}
use Rattle.spk_broker_rules.specs.Data as plain
use Rattle.spk_broker.specs.declared.state.Stored.{Stored}
use Rattle.spk_broker.specs.declared.app_message.AppMessage.{AppMessage}
use Rattle.spk_broker.specs.declared.session.InFlight.{InFlight}
use Rattle.spk_broker.specs.declared.session.Grant.{Grant}
use Rattle.spk_broker.specs.declared.session.Connection.{Connection}

abbrev pub app_message_view : AppMessage → plain.AppMessage
app_message_view p = record { topic = string_bytes p.topic; payload = p.payload; qos = p.qos; retain = p.retain }

abbrev pub grant_view : Grant → List ℕ × ℕ
grant_view g = (string_bytes g.filter, g.qos)

abbrev pub in_flight_view : InFlight → plain.InFlight
in_flight_view c = record { id = c.id; app_message = app_message_view c.app_message; handed = c.handed }

-- a connection by now
abbrev pub connection_now : Connection → plain.Connection
connection_now l = record { conn = l.conn; alive = l.alive; heard = l.heard; will = option_map app_message_view l.will; drops = l.drops }

-- a connection before the call
abbrev pub connection_was : Connection → plain.Connection
connection_was l = record { conn = l.conn; alive = l.alive; heard = l.heard_before; will = option_map app_message_view l.will; drops = l.drops_before }

-- a retained message, by its topic
abbrev pub stored_view : Stored → plain.Stored
stored_view s = record { payload = s.payload; qos = s.qos }

abbrev pub retained_view : {A : Type 0} → String A × Stored → List ℕ × plain.Stored
retained_view e = (string_bytes e.0, stored_view e.1)
