use Rattle.std.proofs.Common.{ap, arith, not, get_or}
use Rattle.std.proofs.lemmas.Bool.{eq-eqb, ne_eqb}
use Rattle.std.proofs.lemmas.List.{get_or_default}
use Rattle.std.proofs.lemmas.List.Filters.{FiltersInPlace-more_set, FiltersInPlace-more_no}
use Rattle.spk_session.proofs.table.remove.Goals as goal
use Rattle.spk_session.proofs.table.remove.Goals.{then-other-id, else-other-id}

pub loop-place-preserved : goal.loop-place-preserved
loop-place-preserved c = elim c.if-other-id.branch [
  | then-other-id w ↦ rw (w.table-is, w.kept-is)
      (FiltersInPlace-more_set c.loop-place.invariant (omega arith) (ap not (ne_eqb _ _ w.if-other-id.true)) (get_or_default c.loop-place.table c.loop-place.place 0 _ (omega arith)))
  | else-other-id w ↦ rw (w.table-is, w.kept-is)
      (FiltersInPlace-more_no {x = get_or c.loop-place.table c.loop-place.place 0} c.loop-place.invariant (omega arith) (ap not (eq-eqb _ _ w.if-other-id.false)) (get_or_default c.loop-place.table c.loop-place.place 0 _ (omega arith)))
]
