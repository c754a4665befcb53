-- The lines that a broker is told by, sort by sort (own rules).
use Rattle.std.specs.Prelude.{List, [], ◌∷◌, map, None}
use Rattle.spk_broker_rules.specs.Data.{Session}
use Rattle.spk_broker_events.specs.Line.{Kept}
use Rattle.spk_broker_events.specs.declared.line.Kind.TheVariants as kind
use Rattle.spk_broker_snapshot.specs.Lines.{in_flight_line, grant_line, in_use_line, line, retained_line, session_line, sits_lines, waiting_line}
use Rattle.spk_broker_journal.specs.declared.adding.Source.{Source}
use Rattle.spk_broker_journal.specs.declared.adding.Source.TheVariants as source

abbrev pub begin_lines : Session → List Kept
begin_lines s = session_line s ∷ sits_lines s.here

abbrev pub lines_of : Source → List Kept
lines_of (source.Numbers b) = line kind.Numbers b.now.given b.now.made None ∷ []
lines_of (source.Waiting b) = map waiting_line b.now.newcomers
lines_of (source.Retained b) = map retained_line b.now.retained
lines_of (source.Begin s) = begin_lines s.now
lines_of (source.Grants s) = map grant_line s.now.grants
lines_of (source.InUse s) = map in_use_line s.now.used
lines_of (source.Last s) = line kind.Last s.now.last 0 None ∷ []
lines_of (source.InFlight s) = map in_flight_line s.now.in_flight
