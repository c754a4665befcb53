use Rattle.std.proofs.Common.{None}
use Rattle.spk_server.specs.Calls.{room_with}
use Rattle.spk_server.proofs.Logs.{calls_log, first_rested}
use Rattle.spk_server.proofs.Rooms.{rested}
use Rattle.spk_server.proofs.laws.calls_are_deeds.Goals as goal

pub returns-clause-log : goal.returns-clause-log
returns-clause-log c = λ x cs r done. calls_log cs (room_with x) r (first_rested x) done

pub returns-clause-rested : goal.returns-clause-rested
returns-clause-rested c = λ s settled. rested s None settled
