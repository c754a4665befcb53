use Rattle.std.proofs.Common.{◌≡◌, ◌≤◌, map, true}
use Rattle.std.specs.List.{fold}
use Rattle.std.specs.VecDeque.{deque_len}
use Rattle.indexmap.specs.IndexMap.{spare}
use Rattle.spk_broker_rules.specs.Step.{retained_with}
use Rattle.spk_broker.specs.Parts.{app_message_view, retained_view}
use Rattle.spk_broker.specs.Sendable.{are_sendable}
use Rattle.spk_broker.proofs.retained.retain_all.Given as goal

abbrev pub invariant-loop-app_message : goal.invariant-loop-app_message
invariant-loop-app_message l = record {
  table : fold retained_with (map retained_view l.retained.entries) (map app_message_view l.left.items)
      ≡ fold retained_with (map retained_view l.initial.retained.entries) (map app_message_view l.initial.left.items);
  room : deque_len l.left ≤ spare l.retained;
  sendable : are_sendable (map retained_view l.initial.retained.entries) ≡ true → are_sendable (map retained_view l.retained.entries) ≡ true;
}

abbrev pub decreases-loop-app_message : goal.decreases-loop-app_message
decreases-loop-app_message l = deque_len l.left
