-- A host's step on the rows of an owner gives the values that the queries ask for.
use Rattle.std.proofs.Common.{◌≡◌, ℕ, Bool, true, false, not, ◌&&◌, cond, List, [], ◌∷◌, ◌++◌, map, reverse, refl, sym, ◌∙◌, ap, append_assoc, Option, Some, None}
use Rattle.std.specs.List.{find}
use Rattle.std.specs.Option.{option_map}
use Rattle.std.proofs.lemmas.List.{reverse-append}
use Rattle.spk_payload.specs.Meaning.{MetricData}
use Rattle.spk_host_rules.specs.Data.{Row}
use Rattle.spk_host_rules.specs.Table.{name_of, name_by, is_alias, is_name, is_set, changes, changed}
use Rattle.spk_host_rules.specs.Values.{as_changed, values_in}
use Rattle.spk_host_rules.specs.Step.{show, show_all}
use Rattle.spk_host_rules.proofs.Lists.{find-map, map-map}

-- a change leaves name and alias
named-still : (r : Row) (o : Option MetricData) → (as_changed r o).name ≡ r.name
named-still r None = refl
named-still r (Some m) = refl

pub aliased-still : (a : ℕ) (r : Row) (o : Option MetricData) → is_alias (as_changed r o).alias a ≡ is_alias r.alias a
aliased-still a r None = refl
aliased-still a r (Some m) = refl

-- so a metric means the same row after it
means-still : (g : Row → Option MetricData) (rows : List Row) (alias : Option ℕ) (name : Option (List ℕ)) →
    name_by (map (λ r. as_changed r (g r)) rows) alias name ≡ name_by rows alias name
means-still g rows None name = refl
means-still g rows (Some a) name =
    ap (option_map name_of) (find-map (λ r. as_changed r (g r)) (λ r. is_alias r.alias a) (λ r. is_alias r.alias a) (λ r. aliased-still a r (g r)) rows)
    ∙ by (find (λ r. is_alias r.alias a) rows)
  where
    by : (o : Option Row) → option_map name_of (option_map (λ r. as_changed r (g r)) o) ≡ option_map name_of o
    by None = refl
    by (Some r) = ap Some (named-still r (g r))

-- one metric
pub show-values : (m : MetricData) (table : List Row) (since : List MetricData) → show m (values_in table since) ≡ values_in table (m ∷ since)
show-values m table since = map-map before now both each table
  where
    last : Row → Option MetricData
    last r = find (λ n. changes table r.name n) since

    before : Row → Row
    before r = as_changed r (last r)

    now : Row → Row
    now r = cond (changes (values_in table since) r.name m) (changed m r) r

    both : Row → Row
    both r = as_changed r (cond (changes table r.name m) (Some m) (last r))

    by : (b : Bool) (r : Row) (o : Option MetricData) → cond b (changed m (as_changed r o)) (as_changed r o) ≡ as_changed r (cond b (Some m) o)
    by true r None = refl
    by true r (Some n) = refl
    by false r o = refl

    each : (r : Row) → now (before r) ≡ both r
    each r =
        ap (λ (n : List ℕ). cond (changes (values_in table since) n m) (changed m (before r)) (before r)) (named-still r (last r))
        ∙ ap (λ (n : Option (List ℕ)). cond (not (is_set m.historical) && is_name n r.name) (changed m (before r)) (before r)) (means-still last table m.alias m.name)
        ∙ by (changes table r.name m) r (last r)

-- all metrics of a message
pub show_all-values : (ms : List MetricData) (table : List Row) (since : List MetricData) → show_all ms (values_in table since) ≡ values_in table (reverse ms ++ since)
show_all-values [] table since = refl
show_all-values (m ∷ ms) table since =
    ap (show_all ms) (show-values m table since) ∙ show_all-values ms table (m ∷ since)
    ∙ ap (values_in table) (sym (append_assoc (reverse ms) (m ∷ []) since) ∙ ap (λ xs. xs ++ since) (sym (reverse-append (m ∷ []) ms)))
