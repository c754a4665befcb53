use Rattle.std.proofs.Common.{◌∙◌, sym, ap, refl}
use Rattle.spk_host_app.specs.Data.{GaveUp}
use Rattle.spk_host_app.proofs.Taking.{with_err}
use Rattle.spk_host_app.proofs.app.HostApp.hear.Goals as goal

pub returns-in-Err-clause-failed : goal.returns-in-Err-clause-failed
returns-in-Err-clause-failed c = (GaveUp c.in-Err.fault, refl, c.in-Err.ensures.reason, c.give_up.ensures.new)

pub returns-in_err-take-in-Some-clause-failed : goal.returns-in_err-take-in-Some-clause-failed
returns-in_err-take-in-Some-clause-failed c =
    let found = rw c.in-Some.is at c.in-Ok.ensures.front in
    with_err c.from_residual.result
    (c.in_err-take-in-Some.ensures.failed found.0 found.1 found.2 (sym (ap (λ a. a.closing) c.self.view_is) ∙ c.if-self.false) (sym c.is_full.ensures ∙ c.if-is_full.false))

pub returns-in_ok-take-in-Some-clause-one : goal.returns-in_ok-take-in-Some-clause-one
returns-in_ok-take-in-Some-clause-one c = λ _.
    let found = rw c.in-Some.is at c.in-Ok.ensures.front in
    c.in_ok-take-in-Some.ensures.takes found.0 found.1 found.2 (sym (ap (λ a. a.closing) c.self.view_is) ∙ c.if-self.false) (sym c.is_full.ensures ∙ c.if-is_full.false)
