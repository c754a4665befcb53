use Rattle.std.proofs.Common.{◌≡◌, ◌≤◌, ◌++◌, length, drop}
use Rattle.std.specs.List.{concat}
use Rattle.spk_outbox.specs.Data.{IsPartOfFirst, waiting}
use Rattle.spk_outbox.proofs.outbox.Outbox.gather.Given as goal

-- what was joined and what isn't joined yet are together what waits
abbrev pub invariant-loop-i : goal.invariant-loop-i
invariant-loop-i l =
    IsPartOfFirst l.skipped (drop l.i l.self-inside.packets.items)
    × (l.batch.items ++ drop l.skipped (concat (drop l.i l.self-inside.packets.items)) ≡ l.initial.batch.items ++ waiting l.self)
    × (length l.initial.batch.items ≤ length l.batch.items)
