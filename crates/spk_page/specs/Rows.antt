-- The JSON of what is told of nodes (own rules). An object's members stand in the order of their names; what isn't there is null.
use Rattle.std.specs.Prelude.{ℕ, List, map, Bool, Option, Some, None, codes, if◌then◌else◌}
use Rattle.serde_json.specs.Data.{Data, null, boolean, number, string, array, object, unsigned, member, no_members}
use Rattle.serde_json.specs.View.{items_of}
use Rattle.spk_story.specs.declared.counts.Counts.{Counts}
use Rattle.spk_story.specs.declared.hole.End.{End}
use Rattle.spk_story.specs.declared.hole.End.TheVariants.{Birth, Death, Session}
use Rattle.spk_story.specs.declared.hole.Hole.{Hole}
use Rattle.spk_page.specs.declared.node.Metric.{Metric}
use Rattle.spk_page.specs.declared.node.Device.{Device}
use Rattle.spk_page.specs.declared.node.Node.{Node}
use Rattle.spk_page.specs.declared.node.Whole.{Whole}
use Rattle.spk_page.specs.declared.node.Values as node
use Rattle.spk_page.specs.declared.look.Look.{Look}
use Rattle.spk_page.specs.declared.look.Look.TheVariants as Look
use Rattle.spk_page.specs.Looks.{is_same, word_of}
use Rattle.spk_page.specs.Values.{shown_data}

abbrev pub count : ℕ → Data
count n = number (unsigned n)

abbrev pub maybe : Option ℕ → Data
maybe None = null
maybe (Some n) = count n

abbrev pub end_data : Option End → Data
end_data None = null
end_data (Some Birth) = string (codes "birth")
end_data (Some Death) = string (codes "death")
end_data (Some Session) = string (codes "session")

abbrev pub hole_data : Hole → Data
hole_data h = object (
    member (codes "end") (end_data h.end) (
    member (codes "from") (count h.from) (
    member (codes "missing") (count h.missing) (
    member (codes "until") (maybe h.until) (
    member (codes "unused") (count h.unused) no_members)))))

abbrev pub maybe_hole : Option Hole → Data
maybe_hole None = null
maybe_hole (Some h) = hole_data h

abbrev pub holes_data : List Hole → Data
holes_data hs = array (items_of (map hole_data hs))

abbrev pub counts_data : Counts → Data
counts_data c = object (
    member (codes "asked") (count c.requests) (
    member (codes "births") (count c.births) (
    member (codes "deaths") (count c.deaths) (
    member (codes "gaps") (count c.gaps) (
    member (codes "holes") (count c.holes) (
    member (codes "ignored") (count c.ignored) (
    member (codes "missing") (count c.missing) (
    member (codes "unused") (count c.unused) (
    member (codes "used") (count c.used) no_members)))))))))

-- where a node isn't current, none of its values is
abbrev pub values_at : Look → node.Values → node.Values
values_at look v = if is_same look Look.Current then v else record v { current = 0 }

abbrev pub values_data : node.Values → Data
values_data v = object (
    member (codes "all") (count v.all) (
    member (codes "current") (count v.current) no_members))

abbrev pub row_data : Node → Data
row_data n = object (
    member (codes "born") (maybe n.born_at) (
    member (codes "counts") (counts_data n.counts) (
    member (codes "down") (array (items_of (map (λ d. string d.now) n.down.items))) (
    member (codes "group") (string n.group.now) (
    member (codes "hole") (maybe_hole n.hole) (
    member (codes "i") (count n.place) (
    member (codes "look") (string (word_of n.look)) (
    member (codes "node") (string n.name.now) (
    member (codes "since") (count n.since) (
    member (codes "used") (maybe n.used_at) (
    member (codes "values") (values_data n.values) no_members)))))))))))

abbrev pub metric_data : Metric → Data
metric_data m = object (
    member (codes "alias") (maybe m.alias) (
    member (codes "at") (maybe m.at) (
    member (codes "name") (string m.name.now) (
    member (codes "type") (maybe m.datatype) (
    member (codes "value") (shown_data m.datatype m.shown) no_members)))))

abbrev pub metrics_data : List Metric → Data
metrics_data ms = array (items_of (map metric_data ms))

abbrev pub device_data : Device → Data
device_data d = object (
    member (codes "metrics") (metrics_data d.metrics.items) (
    member (codes "name") (string d.name.now) (
    member (codes "online") (boolean d.is_online) (
    member (codes "stale") (boolean d.is_stale) no_members))))

abbrev pub devices_data : List Device → Data
devices_data ds = array (items_of (map device_data ds))

-- a node with its metrics, its devices and the holes that are over
abbrev pub whole_data : Whole → Data
whole_data w = object (
    member (codes "devices") (devices_data w.devices.items) (
    member (codes "holes") (holes_data w.holes.now) (
    member (codes "metrics") (metrics_data w.metrics.items) (
    member (codes "row") (row_data w.row) no_members))))
