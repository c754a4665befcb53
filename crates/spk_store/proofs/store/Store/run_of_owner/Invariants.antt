use Rattle.std.proofs.Common.{◌≤◌}
use Rattle.std.specs.List.{prefix_len}
use Rattle.spk_store.specs.Owners.{is_of}
use Rattle.spk_store.proofs.store.Store.run_of_owner.Given as goal

abbrev pub invariant-loop-n : goal.invariant-loop-n
invariant-loop-n l = l.n ≤ prefix_len (is_of l.owner) l.self.items
