use Rattle.std.proofs.Common.{sym, subst, List, Option, ℕ, string_bytes}
use Rattle.std.specs.Option.{option_map}
use Rattle.std.specs.Str.{bytes_eq}
use Rattle.spk_host_rules.specs.Data.{Row}
use Rattle.spk_host_rules.specs.Table.{is_alias, is_name, name_by, name_of}
use Rattle.spk_view.specs.Indexed.{IsApart, IsPlaceOf}
use Rattle.spk_view.proofs.Rows.{alias-means}
use Rattle.spk_view.proofs.table.Table.place_of.Goals as goal

pub returns-in-Some-default-clause-place : goal.returns-in-Some-default-clause-place
returns-in-Some-default-clause-place c =
    let rows = c.self.inside.rows.items in
    let found : IsPlaceOf (λ (r : Row). is_alias r.alias c.in-Some-default.alias) rows c.place_of_alias.result =
    subst (λ (l : List Row). IsPlaceOf (λ (r : Row). is_alias r.alias c.in-Some-default.alias) l c.place_of_alias.result) (sym c.self.view_is) c.place_of_alias.ensures in
    let name : Option (List ℕ) = option_map string_bytes c.args.name.now in
    let means = alias-means rows c.self.inside.aliases c.self.invariant.aliased c.in-Some-default.alias name c.place_of_alias.result found in
    subst (λ (l : List Row). IsPlaceOf (λ (r : Row). is_name (name_by l c.args.alias name) r.name) l c.place_of_alias.result) c.self.view_is
    (subst (λ (a : Option ℕ). IsPlaceOf (λ (r : Row). is_name (name_by rows a name) r.name) rows c.place_of_alias.result) (sym c.in-Some-default.is-0) means)

pub returns-in-Some-default-clause-apart : goal.returns-in-Some-default-clause-apart
returns-in-Some-default-clause-apart c = subst (IsApart name_of) c.self.view_is c.self.invariant.named.apart

pub returns-in-None-Some-clause-place : goal.returns-in-None-Some-clause-place
returns-in-None-Some-clause-place c =
    let rows = c.self.inside.rows.items in
    let found : IsPlaceOf (λ (r : Row). bytes_eq (string_bytes c.in-None-Some.name) r.name) rows c.place_named.result =
    subst (λ (n : List ℕ). IsPlaceOf (λ (r : Row). bytes_eq n r.name) rows c.place_named.result) c.as_str-name.ensures.value c.place_named.ensures in
    subst (λ (l : List Row). IsPlaceOf (λ (r : Row). is_name (name_by l c.args.alias (option_map string_bytes c.args.name.now)) r.name) l c.place_named.result) c.self.view_is
    (subst (λ (a : Option ℕ). IsPlaceOf (λ (r : Row). is_name (name_by rows a (option_map string_bytes c.args.name.now)) r.name) rows c.place_named.result) (sym c.in-None-Some.is-0)
    (subst (λ n. IsPlaceOf (λ (r : Row). is_name (option_map string_bytes n) r.name) rows c.place_named.result) (sym c.in-None-Some.is-1) found))

pub returns-in-None-Some-clause-apart : goal.returns-in-None-Some-clause-apart
returns-in-None-Some-clause-apart c = subst (IsApart name_of) c.self.view_is c.self.invariant.named.apart

pub returns-in-None-None-clause-apart : goal.returns-in-None-None-clause-apart
returns-in-None-None-clause-apart c = subst (IsApart name_of) c.self.view_is c.self.invariant.named.apart
