use Rattle.std.proofs.Common.{sym, subst, ◌++◌}
use Rattle.spk_broker_replay.specs.Replay.{Follows, journal, restored, run}
use Rattle.spk_broker_journal.proofs.Restart.{together-is}
use Rattle.spk_broker_journal.proofs.laws.restart.Goals as goal

pub returns-clause-any : goal.returns-clause-any
returns-clause-any c = λ limit b es left lost lawful whole.
    let f = c.front.ensures.any b (restored limit b) es left lost lawful (c.followed.ensures.restored limit b) whole in
    (f.0, f.1, f.2, subst (Follows (run b f.0)) (sym (together-is limit b left (c.lines.ensures limit b))) f.3)

pub returns-clause-synced : goal.returns-clause-synced
returns-clause-synced c = λ limit b first others left lost lawful whole.
    let f = c.front.ensures.synced b (restored limit b) first others left lost lawful (c.followed.ensures.restored limit b) whole in
    let kept = journal b (restored limit b) first ++ left in
    (f.0, f.1, f.2, subst (Follows (run b (first ++ f.0))) (sym (together-is limit b kept (c.lines.ensures limit b))) f.3)
