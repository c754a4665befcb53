use Rattle.std.proofs.Common.{◌≡◌, ◌-◌, ◌≤◌, max}
use Rattle.spk_password.specs.Pbkdf2.{sum_at, u_at}
use Rattle.spk_password.proofs.pbkdf2.derive.Given as goal

abbrev pub invariant-loop-done : goal.invariant-loop-done
invariant-loop-done l =
    (l.last ≡ u_at l.password l.salt (l._done - 1)) × (l.sum ≡ sum_at l.password l.salt (l._done - 1)) × (1 ≤ l._done) × (l._done ≤ max 1 l.rounds)
