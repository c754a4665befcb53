use Rattle.std.proofs.Common.{◌≡◌, ◌+◌, ◌≤◌, length}
use Rattle.std.specs.VecDeque.{deque_capacity}
use Rattle.spk_outbox.specs.Data.{IsPartOfFirst, first_room}
use Rattle.spk_outbox.specs.Step.{left_of}
use Rattle.spk_outbox.proofs.outbox.Outbox.wrote.Given as goal

-- so many of the bytes are still to be taken off
abbrev pub invariant-loop-first : goal.invariant-loop-first
invariant-loop-first l =
    IsPartOfFirst l.self-inside.written l.self-inside.packets.items
    × (left_of (l.self-inside.written + l.left) l.self-inside.packets.items
    ≡ left_of (l.initial.self-inside.written + l.count) l.initial.self-inside.packets.items)
    × (first_room ≤ deque_capacity l.self-inside.packets)

abbrev pub decreases-loop-first : goal.decreases-loop-first
decreases-loop-first l = length l.self-inside.packets.items
