use Rattle.std.proofs.Common.{◌∙◌, ap, cond, bytes_eq, Some, None, string_bytes}
use Rattle.spk_broker.specs.Tables.{found}
use Rattle.spk_broker.specs.declared.session.Grant.{Grant}
use Rattle.spk_broker.proofs.Requested.{granted-more}
use Rattle.spk_broker.proofs.filters.granted_filters.Goals as goal

pub loop-grant-preserved : goal.loop-grant-preserved
loop-grant-preserved c =
    granted-more (found c.loop-grant.table) (found c.note.new.self) c.args.grants.now c.loop-grant.grant-index c.grant-item.result c.loop-grant-test.true
    (λ q. c.in_ok-note.ensures q ∙ ap (λ n. cond (bytes_eq n q) (Some None) (found c.loop-grant.table q)) (c.as_str.ensures.value ∙ ap (λ (g : Grant). string_bytes g.filter) c.grant-item.is))
    c.loop-grant.invariant
