-- What contracts see of a session: as it was before the call, and as it is by now.
use Rattle.std.specs.Prelude.{◌≤◌, map, length, take, string_bytes, Option, Some, None, if◌then◌else◌}
use Rattle.std.specs.Option.{option_map, option_map_or}
use Rattle.spk_broker_rules.specs.Data as plain
use Rattle.spk_broker.specs.Both.{Both}
use Rattle.spk_broker.specs.Parts.{grant_view, in_flight_view, connection_now, connection_was}
use Rattle.spk_broker.specs.declared.session.Connection.{Connection}
use Rattle.spk_broker.specs.declared.session.Session.TheInside.{Inside}

-- the connection that left in this call is the one of before
abbrev pub here_was : Option Connection → Option Connection → Option plain.Connection
here_was None here = option_map connection_was here
here_was (Some l) here = Some (connection_was l)

abbrev pub session_was : Inside → plain.Session
session_was s = record {
  key = s.key;
  client = string_bytes s.client;
  kept = s.kept;
  here = here_was s.left s.here;
  grants = map grant_view s.grants.items;
  used = take s.used_before s.ids.value.used;
  last = s.last_before;
  in_flight = map in_flight_view (take s.in_flight_before s.in_flight.items);
}

abbrev pub session_now : Inside → plain.Session
session_now s = record {
  key = s.key;
  client = string_bytes s.client;
  kept = s.kept;
  here = option_map connection_now s.here;
  grants = option_map_or (λ g. map grant_view g.items) s.regrant (map grant_view s.grants.items);
  used = s.ids.value.used;
  last = s.ids.value.last;
  in_flight = map in_flight_view s.in_flight.items;
}

abbrev pub session_both : Inside → Both
session_both s = record { was = session_was s; now = if s.ended then None else Some (session_now s) }

-- what is new stands behind what was there
pub record IsDrafted (s : Inside) : Type 0 where
  pub used : s.used_before ≤ length s.ids.value.used
  pub in_flight : s.in_flight_before ≤ length s.in_flight.items
