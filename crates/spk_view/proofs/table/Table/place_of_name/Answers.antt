use Rattle.std.proofs.Common.{subst, List}
use Rattle.std.specs.Str.{bytes_eq}
use Rattle.spk_host_rules.specs.Data.{Row}
use Rattle.spk_host_rules.specs.Table.{name_of}
use Rattle.spk_view.specs.Indexed.{IsApart, IsPlaceOf}
use Rattle.spk_view.proofs.table.Table.place_of_name.Goals as goal

pub returns-clause-place : goal.returns-clause-place
returns-clause-place c =
    subst (λ (rows : List Row). IsPlaceOf (λ (r : Row). bytes_eq c.args.name.now r.name) rows c.place_named.result) c.self.view_is c.place_named.ensures

pub returns-clause-apart : goal.returns-clause-apart
returns-clause-apart c = subst (IsApart name_of) c.self.view_is c.self.invariant.named.apart
