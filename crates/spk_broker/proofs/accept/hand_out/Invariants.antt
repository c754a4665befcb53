use Rattle.std.proofs.Common.{◌≡◌, ◌++◌, map, take, drop}
use Rattle.spk_broker.proofs.Entered.{out_of_hand}
use Rattle.spk_broker.proofs.accept.hand_out.Given as goal

abbrev pub invariant-loop-message : goal.invariant-loop-message
invariant-loop-message l = l.in_flight ≡ map out_of_hand (take l.message-index l.initial.in_flight) ++ drop l.message-index l.initial.in_flight
