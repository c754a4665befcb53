use Rattle.std.proofs.Common.{◌≡◌, ◌⊎◌, drop, false}
use Rattle.spk_topics.specs.Fitting.{is_barred}
use Rattle.spk_broker.specs.Fronts.{fits_from, is_start}
use Rattle.spk_broker.proofs.topic_match.front.Given as goal

abbrev pub invariant-loop-at : goal.invariant-loop-at
invariant-loop-at l = record {
  rest : fits_from l.start l.filter l.topic ≡ fits_from (is_start l.start l.at l.filter) (drop l.at l.filter) (drop l.at l.topic);
  unbarred : (l.at ≡ 0) ⊎ (is_barred l.filter l.topic ≡ false);
}
