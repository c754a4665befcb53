use Rattle.std.proofs.Common.{◌≡◌, ◌∙◌, ◌&&◌, ℕ, List, Bool, Option, ap, not, sym}
use Rattle.spk_quota.specs.Data.{QuotaData}
use Rattle.spk_quota.specs.Figures.{more_of, others_of}
use Rattle.spk_quota.specs.Step.{goes_on, lets_in}
use Rattle.spk_quota.specs.View.{quotas_view}
use Rattle.spk_quota.specs.declared.limits.Held.{Held}
use Rattle.spk_quota.proofs.Figures.{lets-in, lets_by}
use Rattle.spk_quota.proofs.quotas.Quotas.connect.Goals as goal

-- what was tested is what the definition asks
tested : (d : QuotaData) (user conn : ℕ) (client : List ℕ) (clean on new : Bool) (will : Option (List ℕ × ℕ)) (others more : Held)
    → on ≡ goes_on d user client clean → new ≡ not on && not clean → others ≡ others_of d user client on → more ≡ more_of new will
    → lets_by d user others more ≡ lets_in d user conn client clean will
tested d user conn client clean on new will others more is_on is_new are_others is_more =
    let on_new : (b : Bool) → Bool = λ b. not b && not clean in
    ap (λ o. lets_by d user o more) (are_others ∙ ap (others_of d user client) is_on)
    ∙ ap (λ m. lets_by d user (others_of d user client (goes_on d user client clean)) m) (is_more ∙ ap (λ b. more_of b will) (is_new ∙ ap on_new is_on))
    ∙ lets-in d user conn client clean will

pub returns-then-not-lets-clause-lets : goal.returns-then-not-lets-clause-lets
returns-then-not-lets-clause-lets c =
    sym c.if-not-lets.true ∙ c.lets.ensures.lets
    ∙ tested (quotas_view c.args.self.now) c.args.user c.args.conn c.args.client.now c.args.clean c.goes_on-goes_on.result c.is_new.result _ c.others-others.result c.more_of-more.result
    c.goes_on-goes_on.ensures c.is_new.ensures c.others-others.ensures c.more_of-more.ensures

pub returns-in_ok-go_on-clause-lets : goal.returns-in_ok-go_on-clause-lets
returns-in_ok-go_on-clause-lets c =
    sym c.if-not-lets.false ∙ c.lets.ensures.lets
    ∙ tested (quotas_view c.args.self.now) c.args.user c.args.conn c.args.client.now c.args.clean c.goes_on-goes_on.result c.is_new.result _ c.others-others.result c.more_of-more.result
    c.goes_on-goes_on.ensures c.is_new.ensures c.others-others.ensures c.more_of-more.ensures

pub returns-in_ok-make-clause-lets : goal.returns-in_ok-make-clause-lets
returns-in_ok-make-clause-lets c =
    sym c.if-not-lets.false ∙ c.lets.ensures.lets
    ∙ tested (quotas_view c.args.self.now) c.args.user c.args.conn c.args.client.now c.args.clean c.goes_on-goes_on.result c.is_new.result _ c.others-others.result c.more_of-more.result
    c.goes_on-goes_on.ensures c.is_new.ensures c.others-others.ensures c.more_of-more.ensures
