-- The JSON of a view (own rules): the moment, what all nodes come to, the rows that changed at a revision or later, and what happened from a number on.
use Rattle.std.specs.Prelude.{ℕ, Bool, nat_le, List, map, Option, Some, None, codes}
use Rattle.std.specs.List.{filter}
use Rattle.serde_json.specs.Data.{Data, null, boolean, string, array, object, member, no_members}
use Rattle.serde_json.specs.View.{items_of}
use Rattle.spk_page.specs.declared.entry.Entry.{Entry}
use Rattle.spk_page.specs.declared.entry.What.{What}
use Rattle.spk_page.specs.declared.entry.What.TheVariants.{Connected, Disconnected, Born, BornAgain, Mended, Lost, Died, Asked, DeviceBorn, DeviceDied, Refused, TurnedAway, NotSubscribed, Ended}
use Rattle.spk_page.specs.declared.head.Head.{Head}
use Rattle.spk_page.specs.declared.node.Node.{Node}
use Rattle.spk_page.specs.declared.totals.Looks.{Looks}
use Rattle.spk_page.specs.declared.totals.Totals.{Totals}
use Rattle.spk_page.specs.Rows.{count, maybe, hole_data, row_data}
use Rattle.spk_page.specs.Totals.{totals_of}

abbrev pub looks_data : Looks → Data
looks_data l = object (
    member (codes "away") (count l.away) (
    member (codes "current") (count l.current) (
    member (codes "lost") (count l.lost) (
    member (codes "offline") (count l.offline) (
    member (codes "silent") (count l.silent) (
    member (codes "unborn") (count l.unborn) no_members))))))

abbrev pub totals_data : Totals → Data
totals_data t = object (
    member (codes "current") (count t.current) (
    member (codes "down") (count t.down) (
    member (codes "gaps") (count t.gaps) (
    member (codes "looks") (looks_data t.looks) (
    member (codes "missing") (count t.missing) (
    member (codes "nodes") (count t.nodes) (
    member (codes "unused") (count t.unused) (
    member (codes "used") (count t.used) (
    member (codes "values") (count t.values) no_members)))))))))

-- in a word
abbrev pub what_word : What → List ℕ
what_word Connected = codes "connected"
what_word Disconnected = codes "disconnected"
what_word Born = codes "born"
what_word BornAgain = codes "born_again"
what_word (Mended hole) = codes "mended"
what_word Lost = codes "lost"
what_word Died = codes "died"
what_word Asked = codes "asked"
what_word (DeviceBorn name) = codes "device_born"
what_word (DeviceDied name) = codes "device_died"
what_word (Refused number) = codes "refused"
what_word (TurnedAway code) = codes "turned_away"
what_word NotSubscribed = codes "not_subscribed"
what_word Ended = codes "ended"

-- the device's name, the hole that is over, or the number of a fault or a code
abbrev pub detail : What → Data
detail (Mended hole) = hole_data hole
detail (DeviceBorn name) = string name.now
detail (DeviceDied name) = string name.now
detail (Refused number) = count number
detail (TurnedAway code) = count code
detail _ = null

abbrev pub entry_data : Entry → Data
entry_data e = object (
    member (codes "at") (count e.at) (
    member (codes "detail") (detail e.what) (
    member (codes "i") (maybe e.place) (
    member (codes "n") (count e.number) (
    member (codes "what") (string (what_word e.what)) no_members)))))

-- the rows that changed at this revision or later
abbrev pub rows_since : ℕ → List Node → List Node
rows_since from ns = filter (λ n. nat_le from n.changed) ns

-- what happened from this number on
abbrev pub entries_since : ℕ → List Entry → List Entry
entries_since from es = filter (λ e. nat_le from e.number) es

abbrev pub rows_data : List Node → Data
rows_data ns = array (items_of (map row_data ns))

abbrev pub log_data : List Entry → Data
log_data es = array (items_of (map entry_data es))

abbrev pub view_data : Head → List Node → List Entry → ℕ → ℕ → Data
view_data h ns es revision number = object (
    member (codes "began") (count h.began) (
    member (codes "connected") (boolean h.is_connected) (
    member (codes "log") (log_data (entries_since number es)) (
    member (codes "nodes") (rows_data (rows_since revision ns)) (
    member (codes "now") (count h.now) (
    member (codes "rev") (count h.revision) (
    member (codes "totals") (totals_data (totals_of ns)) no_members)))))))
