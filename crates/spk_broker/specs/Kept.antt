-- What contracts see of a session that is put together again.
use Rattle.std.specs.Prelude.{map, string_bytes}
use Rattle.std.specs.Option.{option_map}
use Rattle.spk_broker_rules.specs.Data as plain
use Rattle.spk_broker.specs.Parts.{in_flight_view, grant_view, app_message_view}
use Rattle.spk_broker.specs.Restoring.{kept_connection}
use Rattle.spk_broker.specs.declared.restored_session.RestoredSession.TheInside.{Inside}

abbrev pub session_view : Inside → plain.Session
session_view s = record {
  key = s.key;
  client = string_bytes s.client;
  kept = s.kept;
  here = option_map (λ conn. kept_connection conn (option_map app_message_view s.will)) s.conn;
  grants = map grant_view s.grants.items;
  used = s.ids.value.used;
  last = s.ids.value.last;
  in_flight = map in_flight_view s.in_flight.items;
}
