use Rattle.std.proofs.Common.{◌≡◌, ℕ}
use Rattle.std.specs.Ordering.{nat_cmp}
use Rattle.std.specs.BTreeMap.{get}
use Rattle.spk_topics.specs.Found.{merged}
use Rattle.spk_topics.proofs.found.gather.Given as goal

-- what is left of the grants completes the greatest of each key
abbrev pub invariant-loop-key : goal.invariant-loop-key
invariant-loop-key l = (j : ℕ) → merged j (get nat_cmp l.found j) l.key-iterator ≡ merged j (get nat_cmp l.initial.found j) l.grants.entries
