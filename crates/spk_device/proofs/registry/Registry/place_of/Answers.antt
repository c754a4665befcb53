use Rattle.std.proofs.Common.{◌∙◌, sym, ap, subst}
use Rattle.std.specs.Prelude.{IfSome, ◌<◌}
use Rattle.spk_names.specs.Names.{number_in}
use Rattle.spk_device.proofs.BookLemmas.{number_in-owned}
use Rattle.spk_device.proofs.IndexLemmas.{place-within}
use Rattle.spk_device.proofs.registry.Registry.place_of.Goals as goal

pub returns-in_err-table-clause-place : goal.returns-in_err-table-clause-place
returns-in_err-table-clause-place c =
    c.from_residual.ensures
    ∙ sym (ap (λ l. number_in l c.args.name.now) c.in_err-table.ensures.none)
    ∙ number_in-owned 0 c.args.owner c.args.self.now.gauges c.args.name.now

pub returns-clause-place : goal.returns-clause-place
returns-clause-place c =
    c.find.ensures
    ∙ ap (λ l. number_in l c.args.name.now) c.in_ok-table.ensures.names
    ∙ number_in-owned 0 c.args.owner c.args.self.now.gauges c.args.name.now

pub returns-clause-within : goal.returns-clause-within
returns-clause-within c =
    subst (λ r. IfSome r (λ p. p < 10000)) (sym (returns-clause-place c))
    (place-within c.args.self.now c.args.owner c.args.name.now c.in_ok-table.ensures.few)
