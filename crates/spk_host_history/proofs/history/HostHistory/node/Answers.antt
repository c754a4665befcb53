use Rattle.std.proofs.Common.{sym, subst}
use Rattle.spk_host_history.specs.Telling.{Befalls}
use Rattle.spk_host_history.proofs.Added.{both}
use Rattle.spk_host_history.proofs.history.HostHistory.node.Goals as goal

pub returns-in_err-befall-2 : goal.returns-in_err-befall-2
returns-in_err-befall-2 c =
    both c.args.self.now c.befall.new.self c.befall-2.new.self
    (subst (λ h. Befalls h c.befall.new.self) c.self.view_is c.befall.ensures)
    (subst (λ h. Befalls h c.befall-2.new.self) c.self-2.view_is c.befall-2.ensures)

pub returns : goal.returns
returns c =
    subst (λ h. Befalls c.args.self.now h) (sym c.self-3.view_is)
    (both c.args.self.now c.befall.new.self c.befall-2.new.self
    (subst (λ h. Befalls h c.befall.new.self) c.self.view_is c.befall.ensures)
    (subst (λ h. Befalls h c.befall-2.new.self) c.self-2.view_is c.befall-2.ensures))
