use Rattle.spk_packets.proofs.Pieces.{first_given, same_given}
use Rattle.spk_packets.proofs.laws.any_pieces.Goals as goal

pub returns-clause-same : goal.returns-clause-same
returns-clause-same c = λ events others x y run other same no_x no_y. same_given events others x y run other same no_x no_y

pub returns-clause-first : goal.returns-clause-first
returns-clause-first c = λ events others x y more run other same no_y. first_given events others x y more run other same no_y
