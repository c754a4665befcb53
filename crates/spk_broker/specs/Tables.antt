-- Filters by their text, and the entries of a SUBSCRIBE one after the other beside them.
use Rattle.std.specs.Prelude.{◌≡◌, ℕ, List, map, Option, Some, None, is_some, unwrap_or}
use Rattle.std.specs.BTreeMap.{get_by}
use Rattle.std.specs.Cmp.Lexicographic.{slice_cmp}
use Rattle.std.specs.Ordering.{nat_cmp}
use Rattle.std.specs.String.{string_bytes}
use Rattle.spk_broker_rules.specs.Table.{has}
use Rattle.spk_broker.specs.Granting.{Grown}
use Rattle.spk_broker.specs.Parts.{grant_view}
use Rattle.spk_broker.specs.declared.filters.FilterTable.{FilterTable}
use Rattle.spk_broker.specs.declared.subscribe_entries.Requests.{Requests}
use Rattle.spk_broker.specs.declared.session.Grant.{Grant}

-- what a table has of a filter: nothing, or the QoS of the last entry that is of it, where one is
abbrev pub found : FilterTable → List ℕ → Option (Option ℕ)
found t name = get_by (λ k. slice_cmp nat_cmp name k.now) t.by_text

abbrev pub last_of : Option (Option ℕ) → Option ℕ
last_of None = None
last_of (Some qos) = qos

-- a grant with the QoS of the last entry that is of its filter, where one is
abbrev pub with_last : (List ℕ → Option (Option ℕ)) → List ℕ × ℕ → List ℕ × ℕ
with_last f g = (g.0, unwrap_or (last_of (f g.0)) g.1)

abbrev pub renewed : (List ℕ → Option (Option ℕ)) → Grant → Grant
renewed f g = record g { qos = unwrap_or (last_of (f (string_bytes g.filter))) g.qos }

-- the grants with the QoS that each has by now
abbrev pub requests_view : Requests → Grown
requests_view r = record {
  grants = map (with_last (found r.standing)) (map grant_view r.granting.grants.items);
  codes = r.granting.codes.items;
  given = map grant_view r.granting.given.items;
}

-- the table has the filters of all grants, and no others
abbrev pub AreTold : Requests → Type 0
AreTold r = (name : List ℕ) → is_some (found r.standing name) ≡ has name (map grant_view r.granting.grants.items)
