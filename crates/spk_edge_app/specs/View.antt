-- What contracts see of the crate's types.
use Rattle.std.specs.Option.{option_map}
use Rattle.std.specs.String.{string_bytes}
use Rattle.spk_edge_app.specs.Data.{App, LoginData}
use Rattle.spk_edge_app.specs.declared.app.EdgeApp.TheInside.{Inside}
use Rattle.spk_edge_app.specs.declared.login.Login.{Login}

abbrev pub login_view : Login → LoginData
login_view l = record { user = string_bytes l.user; password = option_map (λ p. p.items) l.password }

abbrev pub app_view : Inside → App
app_view a = record {
  node = a.node;
  connection = a.connection;
  login = option_map login_view a.login;
  kept = a.kept;
  wanted = a.wanted;
  writes = a.writes;
  closing = a.closing;
  stopped = a.stopped;
}
