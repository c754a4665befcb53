use Rattle.std.proofs.Common.{◌∙◌, sym}
use Rattle.spk_quota.specs.View.{quotas_view}
use Rattle.spk_quota.proofs.Figures.{lets-retain}
use Rattle.spk_quota.proofs.quotas.Quotas.publish.Goals as goal

pub returns-then-not-lets-clause-lets : goal.returns-then-not-lets-clause-lets
returns-then-not-lets-clause-lets c =
    sym c.if-not-lets.true ∙ c.lets.ensures.lets ∙ lets-retain (quotas_view c.args.self.now) c.args.user c.args.topic.now c.args.bytes _ (cc)

pub returns-clause-lets : goal.returns-clause-lets
returns-clause-lets c =
    sym c.if-not-lets.false ∙ c.lets.ensures.lets ∙ lets-retain (quotas_view c.args.self.now) c.args.user c.args.topic.now c.args.bytes _ (cc)
