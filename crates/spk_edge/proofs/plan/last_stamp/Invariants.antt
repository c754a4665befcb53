use Rattle.std.proofs.Common.{◌≡◌, map, take}
use Rattle.std.specs.List.{last_or}
use Rattle.spk_edge.specs.View.{message_view}
use Rattle.spk_edge.proofs.plan.last_stamp.Given as goal

abbrev pub invariant-loop-message : goal.invariant-loop-message
invariant-loop-message l = l.last ≡ last_or l.fn.before (map (λ m. m.stamp) (map message_view (take l.message-index l.messages)))
