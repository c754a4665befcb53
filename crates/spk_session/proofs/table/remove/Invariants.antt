use Rattle.std.proofs.Common.{not}
use Rattle.std.specs.Prelude.{nat_eq}
use Rattle.std.proofs.lemmas.List.Filters.{FiltersInPlace}
use Rattle.spk_session.proofs.table.remove.Given as goal

abbrev pub invariant-loop-place : goal.invariant-loop-place
invariant-loop-place l = FiltersInPlace (λ other. not (nat_eq other l.id)) l.initial.table l.table l.kept l.place
