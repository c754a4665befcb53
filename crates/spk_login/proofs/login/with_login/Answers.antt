use Rattle.std.proofs.Common.{◌∙◌, sym, subst}
use Rattle.std.specs.Option.{option_map}
use Rattle.spk_login.specs.Login.{LogsIn}
use Rattle.spk_login.proofs.Same.{logs_in}
use Rattle.spk_login.proofs.login.with_login.Goals as goal

pub returns-in_ok-joined-in-None-clause-same : goal.returns-in_ok-joined-in-None-clause-same
returns-in_ok-joined-in-None-clause-same c = λ client clean keep will spells.
    subst (λ bytes. LogsIn bytes client clean keep will c.args.user.now (option_map (λ p. p.items) c.args.password.now)) (sym c.in_ok-joined-in-None.ensures)
    (logs_in c.args.connect.now c.args.user.now (option_map (λ p. p.items) c.args.password.now) client clean keep will c.utf8.user (sym c.refusal_of.ensures ∙ c.in-None.is) spells)
