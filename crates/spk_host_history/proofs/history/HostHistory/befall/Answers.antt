use Rattle.std.proofs.Common.{subst, ◌≡◌, IfSome, None}
use Rattle.spk_historian.specs.Event.{event_view}
use Rattle.spk_historian.specs.Told.{consumed}
use Rattle.spk_host_history.proofs.Added.{one}
use Rattle.spk_host_history.proofs.history.HostHistory.befall.Goals as goal

pub returns-in-Some : goal.returns-in-Some
returns-in-Some c =
    one c.tell.result c.args.self.now c.tell.new.self (event_view c.in-Some.event)
    (subst (λ o. IfSome o (λ e. consumed (event_view e) ≡ None)) c.in-Some.is c.requires) c.tell.ensures.tells c.tell.ensures.err
