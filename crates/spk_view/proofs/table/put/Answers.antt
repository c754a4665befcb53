use Rattle.std.proofs.Common.{◌≡◌, ◌⊎◌, sym, ap, subst, List, Some}
use Rattle.std.specs.Prelude.{slice_get}
use Rattle.spk_host_rules.specs.Data.{Row}
use Rattle.spk_view.specs.Indexed.{IsNamed}
use Rattle.spk_view.proofs.Rows.{aliased-placed, named-released}
use Rattle.spk_view.proofs.table.put.Goals as goal

pub place-requires : goal.place-requires
place-requires c =
    subst (λ rows. IsNamed rows c.args.names.now.keys) (sym c.release.ensures)
    (named-released c.args.rows.now.items c.args.names.now.keys c.args.metric.now.alias c.requires.named)

pub returns-clause-indexed : goal.returns-clause-indexed
returns-clause-indexed c = record {
  named = c.in_ok-place.ensures.named;
  aliased = aliased-placed c.args.rows.now.items c.place.new.rows.items c.args.aliases.now c.enter.new.self c.args.metric.now.alias c.in_ok-row.row c.in_ok-place.place
      c.requires.aliased (ap (λ (r : Row). r.alias) c.in_ok-row.ensures) c.in_ok-enter.ensures
      (λ k r there. subst (λ (rows : List Row). ((k ≡ c.in_ok-place.place) × (r ≡ c.in_ok-row.row)) ⊎ (slice_get rows k ≡ Some r)) c.release.ensures
      (c.in_ok-place.ensures.others k r there));
}
