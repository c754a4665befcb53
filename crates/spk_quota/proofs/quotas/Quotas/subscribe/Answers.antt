use Rattle.std.proofs.Common.{◌∙◌, map, sym}
use Rattle.spk_quota.specs.View.{quotas_view}
use Rattle.spk_quota.proofs.Figures.{lets-subscribe}
use Rattle.spk_quota.proofs.quotas.Quotas.subscribe.Goals as goal

pub returns-clause-lets : goal.returns-clause-lets
returns-clause-lets c =
    sym c.if-not-lets.false ∙ c.lets.ensures.lets
    ∙ lets-subscribe (quotas_view c.args.self.now) c.in-Some.user c.args.client.now (map (λ n. n.now) c.args.texts.now) c.in_ok-missing.missing.items _ _
    (cc c.in-Some.ensures) (cc c.in_ok-missing.ensures.whole) c.in_ok-missing.ensures.whose (cc) (cc)
