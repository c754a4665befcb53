use Rattle.std.proofs.Common.{ℕ, ◌<◌, get_or, map}
use Rattle.spk_broker.specs.Both.{Both}
use Rattle.spk_broker.specs.Called.{AreOrdered, IsKeyed}
use Rattle.spk_broker.specs.Filing.{Holds}
use Rattle.spk_broker.specs.View.{session_was}
use Rattle.spk_broker.proofs.Follows.{half}
use Rattle.spk_broker.proofs.index_update.turned.Given as goal

abbrev pub invariant-loop-session : goal.invariant-loop-session
invariant-loop-session l = record {
  keyed : (j : ℕ) (d : Both) → j < l.session-index → IsKeyed (get_or l.sessions j d);
  held : AreOrdered l.sessions → Holds l.initial.tree l.initial.size (map session_was l.sessions) → Holds l.tree l.size (half l.sessions l.session-index);
}
