use Rattle.std.proofs.Common.{◌≡◌, length}
use Rattle.spk_plant.proofs.threads.bells_of.Given as goal

-- so many bells as there were turns
abbrev pub invariant-loop-place : goal.invariant-loop-place
invariant-loop-place l = length l.bells.items ≡ l._place
