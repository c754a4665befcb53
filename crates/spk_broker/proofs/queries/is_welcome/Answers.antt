use Rattle.std.proofs.Common.{◌∙◌, arith, sym, ap, ltb}
use Rattle.spk_broker.proofs.Asked.{welcome-few, welcome-then, welcome-else}
use Rattle.spk_broker.proofs.queries.is_welcome.Goals as goal

pub returns-then-has_kept : goal.returns-then-has_kept
returns-then-has_kept c = c.if-has_kept.true ∙ welcome-then c.args.client.now c.args.sessions.now (sym c.has_kept.ensures ∙ c.if-has_kept.true)

pub returns-else-has_kept : goal.returns-else-has_kept
returns-else-has_kept c = ap (λ n. ltb n 1000) c.kept_count.ensures ∙ welcome-else c.args.client.now c.args.sessions.now (sym c.has_kept.ensures ∙ c.if-has_kept.false)

pub returns-then-sessions-lt-MOST_KEPT_SESSIONS : goal.returns-then-sessions-lt-MOST_KEPT_SESSIONS
returns-then-sessions-lt-MOST_KEPT_SESSIONS c = welcome-few c.args.client.now c.args.sessions.now (omega (arith, c.if-sessions-lt-MOST_KEPT_SESSIONS.true))
