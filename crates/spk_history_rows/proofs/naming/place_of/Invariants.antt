use Rattle.std.proofs.Common.{◌≡◌, ◌≤◌, length, drop, None}
use Rattle.spk_history_rows.specs.Data.{place_of}
use Rattle.spk_history_rows.specs.Row.{last}
use Rattle.spk_history_rows.proofs.naming.place_of.Given as goal

abbrev pub invariant-loop-left : goal.invariant-loop-left
invariant-loop-left l = (l.left ≤ length l.numbers) × (last (place_of l.number) (drop l.left l.numbers) ≡ None)

abbrev pub decreases-loop-left : goal.decreases-loop-left
decreases-loop-left l = l.left
