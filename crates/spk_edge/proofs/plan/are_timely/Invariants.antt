use Rattle.std.proofs.Common.{◌≡◌, ◌^◌, map, nat_lt, take}
use Rattle.std.specs.List.{list_all}
use Rattle.spk_edge.specs.View.{message_view}
use Rattle.spk_edge.proofs.plan.are_timely.Given as goal

abbrev pub invariant-loop-message : goal.invariant-loop-message
invariant-loop-message l = l.timely ≡ list_all (λ m. nat_lt m.stamp (2 ^ 63)) (map message_view (take l.message-index l.messages))
