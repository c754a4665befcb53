use Rattle.std.proofs.Common.{◌≡◌, ◌∙◌, sym, ap, Bool, true, false, not}
use Rattle.spk_host_rules.specs.Data.{Row}
use Rattle.spk_host_rules.specs.Table.{is_alias, lacks}
use Rattle.spk_view.proofs.Places.{any-place}
use Rattle.spk_view.proofs.table.Table.lacks.Goals as goal

turned : (a b : Bool) → a ≡ not b → b ≡ not a
turned a true h = sym (ap not h)
turned a false h = sym (ap not h)

pub returns-in-Some : goal.returns-in-Some
returns-in-Some c =
    turned _ c.is_none.result c.is_none.ensures
    ∙ sym (ap not (any-place (λ (r : Row). is_alias r.alias c.in-Some.alias) c.args.self.now c.place_of_alias.result c.place_of_alias.ensures))
    ∙ sym (ap (lacks c.args.self.now) c.in-Some.is)
