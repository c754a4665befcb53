-- The metrics of a birth as a table (Sparkplug 3.0.0, 6.4.5 "Metric" and 5.4 on births), and what a metric does to a row of it.
-- That a later metric takes an alias or a name away from an earlier one is the project's own rule.
use Rattle.std.specs.Prelude.{ℕ, Bool, false, not, ◌&&◌, ◌==◌, List, [], ◌∷◌, ◌++◌, map, Option, Some, None, if◌then◌else◌}
use Rattle.std.specs.List.{find, list_any}
use Rattle.std.specs.Option.{option_map}
use Rattle.std.specs.Str.{bytes_eq}
use Rattle.spk_payload.specs.Meaning.{MetricData, Content}
use Rattle.spk_payload.specs.Typing.{Typed, typed_of}
use Rattle.spk_host_rules.specs.Data.{Shown, Nothing, Value, Other, Row}

-- ---- what is shown

-- it is there, and true
abbrev pub is_set : Option Bool → Bool
is_set None = false
is_set (Some b) = b

-- a value shows itself; what could not be typed shows that there is another
abbrev pub shown_typed : Option Typed → Shown
shown_typed None = Other
shown_typed (Some v) = Value v

-- a value by its datatype; without a datatype none is read
abbrev pub shown_as : Option ℕ → Content → Shown
shown_as None content = Other
shown_as (Some datatype) content = shown_typed (typed_of datatype content)

-- no value shows nothing
abbrev pub shown_content : Option ℕ → Option Content → Shown
shown_content datatype None = Nothing
shown_content datatype (Some content) = shown_as datatype content

-- a null shows nothing, and its value isn't looked at
abbrev pub shown_with : Option ℕ → Option Bool → Option Content → Shown
shown_with datatype null content = if is_set null then Nothing else shown_content datatype content

-- what a metric shows by the datatype of its birth
abbrev pub shown_of : Option ℕ → MetricData → Shown
shown_of datatype m = shown_with datatype m.null m.value

-- ---- the table of a birth

-- the alias is there, and is this one
abbrev pub is_alias : Option ℕ → ℕ → Bool
is_alias None alias = false
is_alias (Some a) alias = a == alias

-- without the alias that another row took
abbrev pub released : Option ℕ → Row → Row
released None r = r
released (Some alias) r = record r { alias = if is_alias r.alias alias then None else r.alias }

-- the row at the place of one of its name
abbrev pub replaced : Row → Row → Row
replaced row r = if bytes_eq row.name r.name then row else r

-- at the place of the row of its name, or else last
abbrev pub placed : Row → List Row → List Row
placed row rows = if list_any (λ r. bytes_eq row.name r.name) rows then map (replaced row) rows else rows ++ row ∷ []

-- the row of a metric of a birth
abbrev pub row_of : List ℕ → MetricData → Row
row_of name m = record { name = name; alias = m.alias; datatype = m.datatype; shown = shown_of m.datatype m }

-- with one more metric of this name, which takes its alias from whichever row had it
abbrev pub with_named : Option (List ℕ) → MetricData → List Row → List Row
with_named None m rows = rows
with_named (Some name) m rows = placed (row_of name m) (map (released m.alias) rows)

-- with one more metric; one without a name counts nowhere
abbrev pub with_metric : List Row → MetricData → List Row
with_metric rows m = with_named m.name m rows

-- with several more metrics, one after the other
abbrev pub table_from : List Row → List MetricData → List Row
table_from rows [] = rows
table_from rows (m ∷ ms) = table_from (with_metric rows m) ms

-- the metrics of a birth, in order
abbrev pub table_of : List MetricData → List Row
table_of ms = table_from [] ms

-- ---- which row a metric means

-- the name of a row
abbrev pub name_of : Row → List ℕ
name_of r = r.name

-- the name that a metric means: that of the row of its alias, or without an alias its own
abbrev pub name_by : List Row → Option ℕ → Option (List ℕ) → Option (List ℕ)
name_by rows None name = name
name_by rows (Some alias) name = option_map name_of (find (λ r. is_alias r.alias alias) rows)

-- it is there, and is this name
abbrev pub is_name : Option (List ℕ) → List ℕ → Bool
is_name None name = false
is_name (Some n) name = bytes_eq n name

-- A metric of a data message means the row of its alias or, without an alias, of its name. A historical one changes nothing.
abbrev pub changes : List Row → List ℕ → MetricData → Bool
changes rows name m = not (is_set m.historical) && is_name (name_by rows m.alias m.name) name

-- the row after a metric that changes it: its datatype stays that of the birth
abbrev pub changed : MetricData → Row → Row
changed m r = record r { shown = shown_of r.datatype m }

-- an alias that no row has
abbrev pub lacks : List Row → Option ℕ → Bool
lacks rows None = false
lacks rows (Some alias) = not (list_any (λ r. is_alias r.alias alias) rows)

-- one of the metrics has an alias that no row has
abbrev pub is_lacking : List Row → List MetricData → Bool
is_lacking rows ms = list_any (λ m. lacks rows m.alias) ms
