-- A birth with the names and the aliases of the one before it.
use Rattle.std.specs.Prelude.{◌≡◌, ℕ, List, map, Option, Some}
use Rattle.spk_payload.specs.Meaning.{MetricData}
use Rattle.spk_host_rules.specs.Data.{Row, Shown}
use Rattle.spk_host_rules.specs.Table.{shown_of}

-- what a metric is found by: its name and its alias
abbrev pub heading_of : MetricData → Option (List ℕ) × Option ℕ
heading_of m = (m.name, m.alias)

abbrev pub heading : Row → Option (List ℕ) × Option ℕ
heading r = (Some r.name, r.alias)

-- the metrics of a birth have the names and the aliases of these rows, in order
abbrev pub AreAlike : List Row → List MetricData → Type 0
AreAlike rows ms = map heading rows ≡ map heading_of ms

-- what a metric of a birth shows
abbrev pub own_shown : MetricData → Shown
own_shown m = shown_of m.datatype m

-- a row of the same name and alias, born anew
abbrev pub renewed : Row × MetricData → Row
renewed p = record p.0 { datatype = p.1.datatype; shown = own_shown p.1 }
