use Rattle.std.proofs.Common.{ap}
use Rattle.spk_sequence.specs.Step.{is_live}
use Rattle.spk_sequence.proofs.Places.{none_held}
use Rattle.spk_sequence.proofs.InLineLemmas.{line_from, line_from_birth}
use Rattle.spk_sequence.proofs.laws.in_line.Goals as goal

pub returns-clause-live : goal.returns-clause-live
returns-clause-live c calls s whole live none line = line_from calls s whole (ap is_live live) (none_held s.held none) line

pub returns-clause-birth : goal.returns-clause-birth
returns-clause-birth c = line_from_birth
