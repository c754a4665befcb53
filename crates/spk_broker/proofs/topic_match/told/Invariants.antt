use Rattle.std.proofs.Common.{◌≡◌, false, length}
use Rattle.spk_topics.specs.Fitting.{fits, is_barred}
use Rattle.spk_topics.specs.Levels.{levels}
use Rattle.spk_broker.specs.Fronts.{begin_alike, fits_from}
use Rattle.spk_broker.proofs.topic_match.told.Given as goal

abbrev pub invariant-loop-starts : goal.invariant-loop-starts
invariant-loop-starts l = record {
  rest : fits (levels l.filter) (levels l.topic) ≡ fits_from l.starts l.left l.name;
  parted : begin_alike l.left l.name ≡ false;
  unbarred : is_barred l.filter l.topic ≡ false;
}

abbrev pub decreases-loop-starts : goal.decreases-loop-starts
decreases-loop-starts l = length l.left
