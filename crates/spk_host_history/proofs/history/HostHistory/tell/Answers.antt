use Rattle.std.proofs.Common.{subst, OnOk, OnErr, [], ◌∷◌}
use Rattle.spk_historian.specs.Event.{event_view}
use Rattle.spk_host_history.specs.Telling.{Adds}
use Rattle.spk_host_history.proofs.Added.{told, untold}
use Rattle.spk_host_history.proofs.history.HostHistory.tell.Goals as goal

pub returns-clause-tells : goal.returns-clause-tells
returns-clause-tells c =
    let e = event_view c.args.event.now in
    subst (λ h. OnOk c.tell.result (Adds (e ∷ []) h c.tell.new.self)) c.self.view_is (told c.tell.result c.self.inside.historian c.tell.new.self e c.tell.ensures.tells)

pub returns-clause-err : goal.returns-clause-err
returns-clause-err c =
    subst (λ h. OnErr c.tell.result (Adds [] h c.tell.new.self)) c.self.view_is
    (untold c.tell.result c.self.inside.historian c.tell.new.self (event_view c.args.event.now) c.tell.ensures.err)
