use Rattle.std.proofs.Common.{◌∙◌, ap, set, sym}
use Rattle.std.proofs.lemmas.List.Edits.{map_over_more}
use Rattle.spk_quota.specs.Data.{SessionData}
use Rattle.spk_quota.specs.Step.{left_at}
use Rattle.spk_quota.proofs.sessions.leave_by.Goals as goal

pub loop-session-preserved : goal.loop-session-preserved
loop-session-preserved c =
    let at = set c.loop-session.sessions c.loop-session.session-index in
    ap at c.leave.ensures
    ∙ ap (λ (s : SessionData). at (left_at c.args.user c.args.conn c.args.client.now c.args.now s)) (sym c.session-item.is)
    ∙ map_over_more (left_at c.args.user c.args.conn c.args.client.now c.args.now) c.args.sessions.now c.loop-session.sessions c.loop-session.session-index c.session-item.result
    c.loop-session-test.true c.loop-session.invariant c.session-item.is
